use Rattle.std.proofs.Common.{◌≡◌, ◌-◌, ◌<◌, ℕ, true, length, sym, ap, ◌∙◌, arith}
use Rattle.rc_model.specs.Model.{Segment, shuts}
use Rattle.rc_headroll.specs.LogData.{log_of}
use Rattle.rc_headroll.specs.contracts.log.LogHead.{the_view}
use Rattle.rc_headroll.proofs.LogSteps.{sound-shut_marked, shut-marked, shuts-parts}
use Rattle.rc_headroll.proofs.StillBefore.{old_head-sound, old_head-before}
use Rattle.rc_headroll.proofs.WatchLemmas.{watched-still, wants-shut}
use Rattle.rc_headroll.proofs.AliveLemmas.{found-set}
use Rattle.rc_headroll.proofs.OthersLemmas.{room-set}
use Rattle.rc_headroll.proofs.WholeLemmas.{whole-set}
use Rattle.rc_headroll.proofs.log.LogHead.mark_shut.Goals as goal

pub invariant_of-self : goal.invariant_of-self
invariant_of-self c =
    let may : true ≡ shuts (log_of c.args.self.now) = c.if-shuts.ensures in
    let may' = rw (← c.self.view_is) at may in
    let is : c.len-old.result - 2 ≡ length c.self.inside.segments.items - 2 =
    ap (λ (n : ℕ). n - 2) (c.len-old.ensures ∙ c.self.inside.segments.ok.0) in
    let more : 1 < length c.self.inside.segments.items = shuts-parts (log_of (the_view c.self.inside)) (sym may') in (
      old_head-sound (the_view c.self.inside) (c.len-old.result - 2) c.self.inside.passed c.self.inside.passed_entries
          c.mark_shut.new.self c.index_mut.result.now c.self.invariant.0
          (shuts-parts (log_of (the_view c.self.inside)) (sym may')) is c.index_mut.ensures.value
          (ap (λ (s : Segment). s.entries) c.mark_shut.ensures) (ap (λ (s : Segment). s.digest) c.mark_shut.ensures)
          (sound-shut_marked (the_view c.self.inside) (c.len-old.result - 2) c.self.inside.passed c.self.inside.passed_entries
          c.mark_shut.new.self c.index_mut.result.now c.self.invariant.0.now
          may' is c.index_mut.ensures.value c.mark_shut.ensures),
      watched-still (the_view c.self.inside) (c.len-old.result - 2) (length c.self.inside.segments.items - 1) c.mark_shut.new.self
          c.index_mut.result.now c.self.invariant.1 (omega (arith, more, is)) (omega (arith, more, is)) c.index_mut.ensures.value
          (old_head-before (the_view c.self.inside) (c.len-old.result - 2) c.self.inside.passed c.self.inside.passed_entries
          c.mark_shut.new.self c.index_mut.result.now c.self.invariant.0 more is c.index_mut.ensures.value
          (ap (λ (s : Segment). s.entries) c.mark_shut.ensures) (ap (λ (s : Segment). s.digest) c.mark_shut.ensures))
          (wants-shut c.index_mut.result.now c.mark_shut.new.self c.mark_shut.ensures),
      room-set c.self.inside.segments.items _ _ _ c.self.invariant.2,
      found-set (the_view c.self.inside) (c.len-old.result - 2) (length c.self.inside.segments.items - 1) c.mark_shut.new.self
          c.index_mut.result.now c.self.inside.alive.items (omega (arith, more, is)) (omega (arith, more, is))
          c.index_mut.ensures.value (ap (λ (s : Segment). s.entries) c.mark_shut.ensures) c.self.invariant.3,
      whole-set c.self.inside.segments.items (c.len-old.result - 2) (length c.self.inside.segments.items - 1) c.mark_shut.new.self
          c.index_mut.result.now c.self.inside.whole (omega (arith, more, is)) (omega (arith, more, is))
          c.index_mut.ensures.value (ap (λ (s : Segment). s.digest) c.mark_shut.ensures) c.self.invariant.4,
    )

pub returns-then-shuts-clause-state : goal.returns-then-shuts-clause-state
returns-then-shuts-clause-state c =
    let may : true ≡ shuts (log_of c.args.self.now) = c.if-shuts.ensures in
    let is : c.len-old.result - 2 ≡ length c.self.inside.segments.items - 2 =
    ap (λ (n : ℕ). n - 2) (c.len-old.ensures ∙ c.self.inside.segments.ok.0) in
    rw (← c.self.view_is)
    (shut-marked (the_view c.self.inside) (c.len-old.result - 2) c.mark_shut.new.self c.index_mut.result.now
    (rw (← c.self.view_is) at may) is c.index_mut.ensures.value c.mark_shut.ensures)

pub returns-then-shuts-clause-before : goal.returns-then-shuts-clause-before
returns-then-shuts-clause-before c =
    let may : true ≡ shuts (log_of c.args.self.now) = c.if-shuts.ensures in
    let may' = rw (← c.self.view_is) at may in
    let is : c.len-old.result - 2 ≡ length c.self.inside.segments.items - 2 =
    ap (λ (n : ℕ). n - 2) (c.len-old.ensures ∙ c.self.inside.segments.ok.0) in
    rw (← c.self.view_is)
    (old_head-before (the_view c.self.inside) (c.len-old.result - 2) c.self.inside.passed c.self.inside.passed_entries
    c.mark_shut.new.self c.index_mut.result.now c.self.invariant.0
    (shuts-parts (log_of (the_view c.self.inside)) (sym may')) is c.index_mut.ensures.value
    (ap (λ (s : Segment). s.entries) c.mark_shut.ensures) (ap (λ (s : Segment). s.digest) c.mark_shut.ensures))
