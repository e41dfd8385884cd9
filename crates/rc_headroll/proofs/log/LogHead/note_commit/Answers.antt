use Rattle.std.proofs.Common.{◌≡◌, true, refl, sym}
use Rattle.rc_model.specs.Log.{has_segment}
use Rattle.rc_headroll.specs.Before.{IsKept}
use Rattle.rc_headroll.specs.LogData.{log_of}
use Rattle.rc_headroll.specs.contracts.log.LogHead.{the_view}
use Rattle.rc_headroll.proofs.LogChanges.{commit_noted-written, keeps_from}
use Rattle.rc_headroll.proofs.StillBefore.{written-sound, written-before}
use Rattle.rc_headroll.proofs.WatchLemmas.{watched-written, wants-committed}
use Rattle.rc_headroll.proofs.AliveLemmas.{found-written}
use Rattle.rc_headroll.proofs.OthersLemmas.{room-set}
use Rattle.rc_headroll.proofs.WholeLemmas.{whole-written}
use Rattle.rc_headroll.proofs.log.LogHead.note_commit.Goals as goal

pub invariant_of-self : goal.invariant_of-self
invariant_of-self c =
    let has : true ≡ has_segment (log_of c.args.self.now) c.args.seg = sym c.requires.has in
    let kept : IsKept c.args.self.now.mark c.args.seg = c.requires.kept in
    let was = c.index_mut.result.now in (
      written-sound (the_view c.self.inside) c.args.seg c.from.result c.self.inside.passed c.self.inside.passed_entries
          c.committed_at.new.self was c.self.invariant.0
          (rw (← c.self.view_is) at has) c.from.ensures c.index_mut.ensures.value
          (keeps_from c.committed_at.new.self was _ c.committed_at.ensures refl refl refl)
          (rw (← c.self.view_is) at kept),
      watched-written (the_view c.self.inside) c.args.seg c.from.result c.committed_at.new.self was c.self.invariant.1
          (rw (← c.self.view_is) at has) c.from.ensures c.index_mut.ensures.value
          (written-before (the_view c.self.inside) c.args.seg c.from.result c.self.inside.passed c.self.inside.passed_entries
          c.committed_at.new.self was c.self.invariant.0
          (rw (← c.self.view_is) at has) c.from.ensures c.index_mut.ensures.value
          (keeps_from c.committed_at.new.self was _ c.committed_at.ensures refl refl refl)
          (rw (← c.self.view_is) at kept))
          (wants-committed c.args.epoch was c.committed_at.new.self c.committed_at.ensures),
      room-set c.self.inside.segments.items _ _ _ c.self.invariant.2,
      found-written (the_view c.self.inside) c.args.seg c.from.result c.committed_at.new.self was c.self.inside.alive.items
          (rw (← c.self.view_is) at has) c.from.ensures c.index_mut.ensures.value
          (keeps_from c.committed_at.new.self was _ c.committed_at.ensures refl refl refl).entries c.self.invariant.3,
      whole-written (the_view c.self.inside) c.args.seg c.from.result c.committed_at.new.self was c.self.inside.whole
          (rw (← c.self.view_is) at has) c.from.ensures c.index_mut.ensures.value
          (keeps_from c.committed_at.new.self was _ c.committed_at.ensures refl refl refl).digest c.self.invariant.4,
    )

pub returns-clause-noted : goal.returns-clause-noted
returns-clause-noted c =
    let has : true ≡ has_segment (log_of c.args.self.now) c.args.seg = sym c.requires.has in
    rw (← c.self.view_is)
    (commit_noted-written (the_view c.self.inside) c.args.seg c.from.result c.args.epoch c.committed_at.new.self c.index_mut.result.now
    (rw (← c.self.view_is) at has) c.from.ensures c.index_mut.ensures.value c.committed_at.ensures)

pub returns-clause-before : goal.returns-clause-before
returns-clause-before c =
    let has : true ≡ has_segment (log_of c.args.self.now) c.args.seg = sym c.requires.has in
    let kept : IsKept c.args.self.now.mark c.args.seg = c.requires.kept in
    let was = c.index_mut.result.now in
    rw (← c.self.view_is)
    (written-before (the_view c.self.inside) c.args.seg c.from.result c.self.inside.passed c.self.inside.passed_entries
    c.committed_at.new.self was c.self.invariant.0
    (rw (← c.self.view_is) at has) c.from.ensures c.index_mut.ensures.value
    (keeps_from c.committed_at.new.self was _ c.committed_at.ensures refl refl refl)
    (rw (← c.self.view_is) at kept))
