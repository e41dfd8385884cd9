use Rattle.std.proofs.Common.{◌≡◌, true, refl, sym}
use Rattle.rc_model.specs.Log.{has_segment}
use Rattle.rc_headroll.specs.Before.{IsKept}
use Rattle.rc_headroll.specs.LogData.{log_of}
use Rattle.rc_headroll.specs.contracts.log.LogHead.{the_view}
use Rattle.rc_headroll.proofs.LogChanges.{keeps_from}
use Rattle.rc_headroll.proofs.LogSteps.{freed-marked}
use Rattle.rc_headroll.proofs.StillBefore.{written-sound, written-before}
use Rattle.rc_headroll.proofs.WatchLemmas.{watched-written, wants-freed}
use Rattle.rc_headroll.proofs.AliveLemmas.{found-written}
use Rattle.rc_headroll.proofs.OthersLemmas.{room-set}
use Rattle.rc_headroll.proofs.WholeLemmas.{whole-written}
use Rattle.rc_headroll.proofs.log.LogHead.mark_freed.Goals as goal

pub invariant_of-self : goal.invariant_of-self
invariant_of-self c =
    let has : true ≡ has_segment (log_of c.args.self.now) c.args.seg = sym c.requires.has in
    let kept : IsKept c.args.self.now.mark c.args.seg = c.requires.kept in
    let was = c.index_mut.result.now in (
      written-sound (the_view c.self.inside) c.args.seg c.from.result c.self.inside.passed c.self.inside.passed_entries
          c.mark_freed.new.self was c.self.invariant.0
          (rw (← c.self.view_is) at has) c.from.ensures c.index_mut.ensures.value
          (keeps_from c.mark_freed.new.self was _ c.mark_freed.ensures refl refl refl)
          (rw (← c.self.view_is) at kept),
      watched-written (the_view c.self.inside) c.args.seg c.from.result c.mark_freed.new.self was c.self.invariant.1
          (rw (← c.self.view_is) at has) c.from.ensures c.index_mut.ensures.value
          (written-before (the_view c.self.inside) c.args.seg c.from.result c.self.inside.passed c.self.inside.passed_entries
          c.mark_freed.new.self was c.self.invariant.0
          (rw (← c.self.view_is) at has) c.from.ensures c.index_mut.ensures.value
          (keeps_from c.mark_freed.new.self was _ c.mark_freed.ensures refl refl refl)
          (rw (← c.self.view_is) at kept))
          (wants-freed was c.mark_freed.new.self c.mark_freed.ensures),
      room-set c.self.inside.segments.items _ _ _ c.self.invariant.2,
      found-written (the_view c.self.inside) c.args.seg c.from.result c.mark_freed.new.self was c.self.inside.alive.items
          (rw (← c.self.view_is) at has) c.from.ensures c.index_mut.ensures.value
          (keeps_from c.mark_freed.new.self was _ c.mark_freed.ensures refl refl refl).entries c.self.invariant.3,
      whole-written (the_view c.self.inside) c.args.seg c.from.result c.mark_freed.new.self was c.self.inside.whole
          (rw (← c.self.view_is) at has) c.from.ensures c.index_mut.ensures.value
          (keeps_from c.mark_freed.new.self was _ c.mark_freed.ensures refl refl refl).digest c.self.invariant.4,
    )

pub returns-clause-before : goal.returns-clause-before
returns-clause-before c =
    let has : true ≡ has_segment (log_of c.args.self.now) c.args.seg = sym c.requires.has in
    let kept : IsKept c.args.self.now.mark c.args.seg = c.requires.kept in
    let was = c.index_mut.result.now in
    rw (← c.self.view_is)
    (written-before (the_view c.self.inside) c.args.seg c.from.result c.self.inside.passed c.self.inside.passed_entries
    c.mark_freed.new.self was c.self.invariant.0
    (rw (← c.self.view_is) at has) c.from.ensures c.index_mut.ensures.value
    (keeps_from c.mark_freed.new.self was _ c.mark_freed.ensures refl refl refl)
    (rw (← c.self.view_is) at kept))

pub returns-clause-freed : goal.returns-clause-freed
returns-clause-freed c =
    let has : true ≡ has_segment (log_of c.args.self.now) c.args.seg = sym c.requires.has in
    rw (← c.self.view_is)
    (freed-marked (the_view c.self.inside) c.args.seg c.from.result c.mark_freed.new.self c.index_mut.result.now
    (rw (← c.self.view_is) at has) c.from.ensures c.index_mut.ensures.value c.mark_freed.ensures)
