use Rattle.std.proofs.Common.{refl, sym, ◌∙◌}
use Rattle.rc_master.specs.View.{state_view}
use Rattle.rc_master.proofs.Settling.{IsFirst, first-of-all, rule-applies, rule-fails}
use Rattle.rc_master.proofs.state.State.follow_first.Goals as goal

first : (c : goal.Then-branch) →
    IsFirst (state_view c.args.self.now) (state_view c.follow.new.self) c.args.sent.now.items c.follow.new.sent.items
first c =
    rule-applies c.loop-rule.rule-index _ _ _ _ _ _ c.loop-rule-test.true c.loop-rule.invariant.same c.loop-rule.invariant.sends
    c.loop-rule.invariant.left (sym c.if-branch.true ∙ c.in_ok-follow.ensures.applied)
    c.in_ok-follow.ensures.state c.in_ok-follow.ensures.sends

pub loop-rule-init : goal.loop-rule-init
loop-rule-init c = record {
  noted = c.requires.noted;
  before = refl;
  same = refl;
  sends = refl;
  left = first-of-all (state_view c.args.self.now);
}

pub returns-then-branch-clause-applied : goal.returns-then-branch-clause-applied
returns-then-branch-clause-applied c = (first c).applied

pub returns-then-branch-clause-state : goal.returns-then-branch-clause-state
returns-then-branch-clause-state c = (first c).state

pub returns-then-branch-clause-sends : goal.returns-then-branch-clause-sends
returns-then-branch-clause-sends c = (first c).sends

pub loop-rule-preserved : goal.loop-rule-preserved
loop-rule-preserved c =
    let still = rule-fails c.loop-rule.rule-index _ _ _ _ _ _ c.loop-rule-test.true c.loop-rule.invariant.same
    c.loop-rule.invariant.sends c.loop-rule.invariant.left (sym c.if-branch.false ∙ c.in_ok-follow.ensures.applied)
    c.in_ok-follow.ensures.state c.in_ok-follow.ensures.sends in
    record {
      noted = c.in_ok-follow.ensures.noted;
      before = c.in_ok-follow.ensures.before ∙ c.loop-rule.invariant.before;
      same = still.same;
      sends = still.sends;
      left = still.left;
    }
