use Rattle.std.proofs.Common.{◌≡◌, ◌-◌, ◌<◌, ℕ, true, length, refl, ap, ◌∙◌, arith}
use Rattle.rc_model.specs.FollowUps.{close_is_due}
use Rattle.rc_headroll.specs.LogData.{log_of}
use Rattle.rc_headroll.specs.contracts.log.LogHead.{the_view}
use Rattle.rc_headroll.proofs.LogChanges.{sound-set, keeps_from}
use Rattle.rc_headroll.proofs.LogSteps.{close-marked, close_is_due-parts}
use Rattle.rc_headroll.proofs.StillBefore.{old_head-sound, old_head-before}
use Rattle.rc_headroll.proofs.WatchLemmas.{watched-still, wants-same}
use Rattle.rc_headroll.proofs.AliveLemmas.{found-set}
use Rattle.rc_headroll.proofs.OthersLemmas.{room-set}
use Rattle.rc_headroll.proofs.WholeLemmas.{whole-set}
use Rattle.rc_headroll.proofs.log.LogHead.mark_close_sent.Goals as goal

pub invariant_of-self : goal.invariant_of-self
invariant_of-self c =
    let due : close_is_due (log_of c.args.self.now) ≡ true = c.requires in
    let more : 1 < length c.self.inside.segments.items =
    close_is_due-parts (log_of (the_view c.self.inside)) (rw (← c.self.view_is) at due) in
    let is : c.len-old.result - 2 ≡ length c.self.inside.segments.items - 2 =
    ap (λ (n : ℕ). n - 2) (c.len-old.ensures ∙ c.self.inside.segments.ok.0) in
    let was = c.index_mut.result.now in
    let keeps = keeps_from c.mark_close_sent.new.self was _ c.mark_close_sent.ensures refl refl refl in (
      old_head-sound (the_view c.self.inside) (c.len-old.result - 2) c.self.inside.passed c.self.inside.passed_entries
          c.mark_close_sent.new.self was c.self.invariant.0 more is
          c.index_mut.ensures.value keeps.entries keeps.digest
          (sound-set (the_view c.self.inside) (c.len-old.result - 2) (length c.self.inside.segments.items - 1)
          c.self.inside.passed c.self.inside.passed_entries c.mark_close_sent.new.self was c.self.invariant.0.now
          (omega (arith, more, is)) (omega (arith, more, is)) c.index_mut.ensures.value keeps),
      watched-still (the_view c.self.inside) (c.len-old.result - 2) (length c.self.inside.segments.items - 1)
          c.mark_close_sent.new.self was c.self.invariant.1 (omega (arith, more, is)) (omega (arith, more, is))
          c.index_mut.ensures.value
          (old_head-before (the_view c.self.inside) (c.len-old.result - 2) c.self.inside.passed c.self.inside.passed_entries
          c.mark_close_sent.new.self was c.self.invariant.0 more is c.index_mut.ensures.value keeps.entries keeps.digest)
          (wants-same was c.mark_close_sent.new.self _ c.mark_close_sent.ensures refl refl refl),
      room-set c.self.inside.segments.items _ _ _ c.self.invariant.2,
      found-set (the_view c.self.inside) (c.len-old.result - 2) (length c.self.inside.segments.items - 1)
          c.mark_close_sent.new.self was c.self.inside.alive.items (omega (arith, more, is)) (omega (arith, more, is))
          c.index_mut.ensures.value keeps.entries c.self.invariant.3,
      whole-set c.self.inside.segments.items (c.len-old.result - 2) (length c.self.inside.segments.items - 1)
          c.mark_close_sent.new.self was c.self.inside.whole (omega (arith, more, is)) (omega (arith, more, is))
          c.index_mut.ensures.value keeps.digest c.self.invariant.4,
    )

pub returns-clause-state : goal.returns-clause-state
returns-clause-state c =
    let due : close_is_due (log_of c.args.self.now) ≡ true = c.requires in
    let more : 1 < length c.self.inside.segments.items =
    close_is_due-parts (log_of (the_view c.self.inside)) (rw (← c.self.view_is) at due) in
    let is : c.len-old.result - 2 ≡ length c.self.inside.segments.items - 2 =
    ap (λ (n : ℕ). n - 2) (c.len-old.ensures ∙ c.self.inside.segments.ok.0) in
    rw (← c.self.view_is)
    (close-marked (the_view c.self.inside) (c.len-old.result - 2) c.mark_close_sent.new.self c.index_mut.result.now more
    is c.index_mut.ensures.value c.mark_close_sent.ensures)

pub returns-clause-before : goal.returns-clause-before
returns-clause-before c =
    let due : close_is_due (log_of c.args.self.now) ≡ true = c.requires in
    let more : 1 < length c.self.inside.segments.items =
    close_is_due-parts (log_of (the_view c.self.inside)) (rw (← c.self.view_is) at due) in
    let is : c.len-old.result - 2 ≡ length c.self.inside.segments.items - 2 =
    ap (λ (n : ℕ). n - 2) (c.len-old.ensures ∙ c.self.inside.segments.ok.0) in
    let was = c.index_mut.result.now in
    let keeps = keeps_from c.mark_close_sent.new.self was _ c.mark_close_sent.ensures refl refl refl in
    rw (← c.self.view_is)
    (old_head-before (the_view c.self.inside) (c.len-old.result - 2) c.self.inside.passed c.self.inside.passed_entries
    c.mark_close_sent.new.self was c.self.invariant.0 more is
    c.index_mut.ensures.value keeps.entries keeps.digest)
