use Rattle.std.proofs.Common.{◌≡◌, ◌-◌, ◌<◌, None, length, refl, ap, ◌∙◌, ℕ, arith}
use Rattle.rc_model.specs.Segment.{Segment}
use Rattle.rc_model.specs.Heads.{append_fault}
use Rattle.rc_headroll.specs.LogData.{log_of}
use Rattle.rc_headroll.specs.contracts.log.LogHead.{the_view}
use Rattle.rc_headroll.proofs.LogChanges.{append-possible, appended}
use Rattle.rc_headroll.proofs.StillBefore.{pushed-sound, pushed-before}
use Rattle.rc_headroll.proofs.WatchLemmas.{watched-still, wants-same}
use Rattle.rc_headroll.proofs.AliveLemmas.{found-pushed}
use Rattle.rc_headroll.proofs.OthersLemmas.{room-set}
use Rattle.rc_headroll.proofs.WholeLemmas.{whole-set}
use Rattle.rc_headroll.proofs.log.LogHead.push_entry.Goals as goal

pub invariant_of-self-2 : goal.invariant_of-self-2
invariant_of-self-2 c =
    let possible : append_fault (log_of c.args.self.now) ≡ None = c.requires.possible in
    let last : c.len-last.result - 1 ≡ length c.self.inside.segments.items - 1 =
    ap (λ (n : ℕ). n - 1) (c.len-last.ensures ∙ c.self.inside.segments.ok.0) in
    let some : 0 < length c.self.inside.segments.items =
    (append-possible (log_of (the_view c.self.inside)) c.self.inside.passed c.self.inside.passed_entries
    c.self.invariant.0.now (rw (← c.self.view_is) at possible)).0 in (
      pushed-sound (the_view c.self.inside) (c.len-last.result - 1) c.self.inside.passed c.self.inside.passed_entries
          c.args.entry c.args.client c.push.new.self c.index_mut.result.now
          c.self.invariant.0 (rw (← c.self.view_is) at possible) last c.index_mut.ensures.value c.in_ok-push.ensures.ok,
      watched-still (the_view c.self.inside) (c.len-last.result - 1) (length c.self.inside.segments.items) c.push.new.self
          c.index_mut.result.now c.self.invariant.1 (omega (arith, some, last)) (omega (arith, some, last))
          c.index_mut.ensures.value
          (pushed-before (the_view c.self.inside) (c.len-last.result - 1) c.self.inside.passed c.self.inside.passed_entries
          c.args.entry c.args.client c.push.new.self c.index_mut.result.now
          c.self.invariant.0 (rw (← c.self.view_is) at possible) last c.index_mut.ensures.value c.in_ok-push.ensures.ok)
          (wants-same c.index_mut.result.now c.push.new.self _ c.in_ok-push.ensures.ok refl refl refl),
      room-set c.self.inside.segments.items _ _ _ c.self.invariant.2,
      found-pushed (the_view c.self.inside) (c.len-last.result - 1) c.self.inside.passed c.self.inside.passed_entries
          c.args.entry c.args.client c.push.new.self c.index_mut.result.now c.self.inside.alive.items
          c.self.invariant.0.now (rw (← c.self.view_is) at possible) last c.index_mut.ensures.value c.in_ok-push.ensures.ok
          c.self.invariant.3,
      whole-set c.self.inside.segments.items (c.len-last.result - 1) (length c.self.inside.segments.items) c.push.new.self
          c.index_mut.result.now c.self.inside.whole (omega (arith, some, last)) (omega (arith, some, last))
          c.index_mut.ensures.value (ap (λ (s : Segment). s.digest) c.in_ok-push.ensures.ok) c.self.invariant.4,
    )

pub returns-clause-state : goal.returns-clause-state
returns-clause-state c =
    let possible : append_fault (log_of c.args.self.now) ≡ None = c.requires.possible in
    let last : c.len-last.result - 1 ≡ length c.self.inside.segments.items - 1 =
    ap (λ (n : ℕ). n - 1) (c.len-last.ensures ∙ c.self.inside.segments.ok.0) in
    rw (← c.self.view_is)
    (appended (the_view c.self.inside) (c.len-last.result - 1) c.self.inside.passed c.self.inside.passed_entries
    c.args.entry c.args.client c.push.new.self c.index_mut.result.now
    c.self.invariant.0.now (rw (← c.self.view_is) at possible) last c.index_mut.ensures.value c.in_ok-push.ensures.ok)

pub returns-clause-before : goal.returns-clause-before
returns-clause-before c =
    let possible : append_fault (log_of c.args.self.now) ≡ None = c.requires.possible in
    let last : c.len-last.result - 1 ≡ length c.self.inside.segments.items - 1 =
    ap (λ (n : ℕ). n - 1) (c.len-last.ensures ∙ c.self.inside.segments.ok.0) in
    rw (← c.self.view_is)
    (pushed-before (the_view c.self.inside) (c.len-last.result - 1) c.self.inside.passed c.self.inside.passed_entries
    c.args.entry c.args.client c.push.new.self c.index_mut.result.now
    c.self.invariant.0 (rw (← c.self.view_is) at possible) last c.index_mut.ensures.value c.in_ok-push.ensures.ok)
