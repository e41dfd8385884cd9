use Rattle.std.proofs.Common.{◌≡◌, ◌≤◌, ◌++◌, ℕ, sym, ◌∙◌, subst, arith}
use Rattle.rc_model.specs.Model.{numbers_to, Master, replaces_lost_of}
use Rattle.rc_headroll.proofs.LogTables.{has-parts}
use Rattle.rc_master.specs.View.{state_view}
use Rattle.rc_master.proofs.Repeating.{lost-step-to, lost-skips, passed-over}
use Rattle.rc_master.proofs.state.State.replace_all_lost.Goals as goal

pub loop-seg-preserved : goal.loop-seg-preserved
loop-seg-preserved c =
    let seg : ℕ = c.in-Some.seg in
    let now : Master = state_view c.loop-seg.self in
    let within : seg ≤ now.log.head = (has-parts now.log seg c.in-Some.ensures.known).1 in
    let step = lost-step-to (state_view c.args.self.now) now (state_view c.replace_lost.new.self) c.loop-seg.done seg
    c.args.sent.now.items c.loop-seg.sent.items c.replace_lost.new.sent.items c.in-Some.ensures.later
    (λ o above below. passed-over now o c.loop-seg.self.log.watch
    (c.loop-seg.invariant.roused o (omega (arith, above)) (omega (arith, below, within)))
    (c.in-Some.ensures.asleep o above (omega (arith, below, within)) below))
    c.loop-seg.invariant.state c.loop-seg.invariant.sends c.in_ok-replace_lost.ensures.state c.in_ok-replace_lost.ensures.sends in
    record {
      known = subst (λ (n : ℕ). seg ≤ n) (sym c.in_ok-replace_lost.ensures.head) within;
      roused = c.in_ok-replace_lost.ensures.roused c.loop-seg.invariant.roused;
      noted = c.in_ok-replace_lost.ensures.noted;
      back = c.in_ok-replace_lost.ensures.before ∙ c.loop-seg.invariant.back;
      head = c.in_ok-replace_lost.ensures.head ∙ c.loop-seg.invariant.head;
      state = step.0;
      sends = step.1;
    }

pub returns-clause-state : goal.returns-clause-state
returns-clause-state c =
    let now : Master = state_view c.loop-seg.self in
    let all = lost-skips (state_view c.args.self.now) now c.loop-seg.done now.log.head c.args.sent.now.items c.loop-seg.sent.items
    c.loop-seg.invariant.known
    (λ o above within. passed-over now o c.loop-seg.self.log.watch (c.loop-seg.invariant.roused o (omega (arith, above)) within)
    (c.in_default.ensures.asleep o above within tt))
    c.loop-seg.invariant.state c.loop-seg.invariant.sends in
    subst (λ (n : ℕ). now ≡ (replaces_lost_of (numbers_to n) (state_view c.args.self.now)).0) c.loop-seg.invariant.head all.0

pub returns-clause-sends : goal.returns-clause-sends
returns-clause-sends c =
    let now : Master = state_view c.loop-seg.self in
    let all = lost-skips (state_view c.args.self.now) now c.loop-seg.done now.log.head c.args.sent.now.items c.loop-seg.sent.items
    c.loop-seg.invariant.known
    (λ o above within. passed-over now o c.loop-seg.self.log.watch (c.loop-seg.invariant.roused o (omega (arith, above)) within)
    (c.in_default.ensures.asleep o above within tt))
    c.loop-seg.invariant.state c.loop-seg.invariant.sends in
    subst (λ (n : ℕ). c.loop-seg.sent.items
    ≡ c.args.sent.now.items ++ (replaces_lost_of (numbers_to n) (state_view c.args.self.now)).1)
    c.loop-seg.invariant.head all.1
