use Rattle.std.proofs.Common.{◌≡◌, true, sym}
use Rattle.rc_model.specs.Log.{has_segment}
use Rattle.rc_headroll.specs.Before.{IsKept}
use Rattle.rc_headroll.specs.LogData.{log_of}
use Rattle.rc_headroll.specs.Soundness.{IsRoused}
use Rattle.rc_headroll.specs.Watching.{is_awake}
use Rattle.rc_headroll.specs.contracts.log.LogHead.{the_view}
use Rattle.rc_headroll.proofs.LogChanges.{lose_keeps, lose_ok, lose_err}
use Rattle.rc_headroll.proofs.StillBefore.{written-sound, written-before}
use Rattle.rc_headroll.proofs.WatchLemmas.{watched-awake, roused-set}
use Rattle.rc_headroll.proofs.AliveLemmas.{found-written}
use Rattle.rc_headroll.proofs.OthersLemmas.{room-set}
use Rattle.rc_headroll.proofs.WholeLemmas.{whole-written}
use Rattle.rc_headroll.proofs.log.LogHead.lose_members.Goals as goal

pub invariant_of-self : goal.invariant_of-self
invariant_of-self c =
    let has : true ≡ has_segment (log_of c.args.self.now) c.args.seg = sym c.requires.has in
    let kept : IsKept c.args.self.now.mark c.args.seg = c.requires.kept in
    let awake : is_awake c.args.self.now.watch c.args.seg ≡ true = c.requires.awake in
    let was = c.index_mut.result.now in (
      written-sound (the_view c.self.inside) c.args.seg c.from.result c.self.inside.passed c.self.inside.passed_entries
          c.lose.new.self was c.self.invariant.0
          (rw (← c.self.view_is) at has) c.from.ensures c.index_mut.ensures.value
          (lose_keeps c.self.inside.own c.args.servers.now c.lose.new.self was c.lose.result c.lose.ensures.ok c.lose.ensures.err)
          (rw (← c.self.view_is) at kept),
      watched-awake (the_view c.self.inside) c.args.seg c.from.result c.lose.new.self was c.self.invariant.1
          (rw (← c.self.view_is) at has) c.from.ensures c.index_mut.ensures.value
          (written-before (the_view c.self.inside) c.args.seg c.from.result c.self.inside.passed c.self.inside.passed_entries
          c.lose.new.self was c.self.invariant.0
          (rw (← c.self.view_is) at has) c.from.ensures c.index_mut.ensures.value
          (lose_keeps c.self.inside.own c.args.servers.now c.lose.new.self was c.lose.result c.lose.ensures.ok c.lose.ensures.err)
          (rw (← c.self.view_is) at kept))
          (rw (← c.self.view_is) at awake),
      room-set c.self.inside.segments.items _ _ _ c.self.invariant.2,
      found-written (the_view c.self.inside) c.args.seg c.from.result c.lose.new.self was c.self.inside.alive.items
          (rw (← c.self.view_is) at has) c.from.ensures c.index_mut.ensures.value
          (lose_keeps c.self.inside.own c.args.servers.now c.lose.new.self was c.lose.result c.lose.ensures.ok c.lose.ensures.err).entries
          c.self.invariant.3,
      whole-written (the_view c.self.inside) c.args.seg c.from.result c.lose.new.self was c.self.inside.whole
          (rw (← c.self.view_is) at has) c.from.ensures c.index_mut.ensures.value
          (lose_keeps c.self.inside.own c.args.servers.now c.lose.new.self was c.lose.result c.lose.ensures.ok c.lose.ensures.err).digest
          c.self.invariant.4,
    )

pub returns-clause-before : goal.returns-clause-before
returns-clause-before c =
    let has : true ≡ has_segment (log_of c.args.self.now) c.args.seg = sym c.requires.has in
    let kept : IsKept c.args.self.now.mark c.args.seg = c.requires.kept in
    let was = c.index_mut.result.now in
    rw (← c.self.view_is)
    (written-before (the_view c.self.inside) c.args.seg c.from.result c.self.inside.passed c.self.inside.passed_entries
    c.lose.new.self was c.self.invariant.0
    (rw (← c.self.view_is) at has) c.from.ensures c.index_mut.ensures.value
    (lose_keeps c.self.inside.own c.args.servers.now c.lose.new.self was c.lose.result c.lose.ensures.ok c.lose.ensures.err)
    (rw (← c.self.view_is) at kept))

pub returns-clause-ok : goal.returns-clause-ok
returns-clause-ok c =
    let has : true ≡ has_segment (log_of c.args.self.now) c.args.seg = sym c.requires.has in
    rw (← c.self.view_is)
    (lose_ok (the_view c.self.inside) c.args.seg c.from.result c.args.servers.now c.lose.new.self c.index_mut.result.now
    (rw (← c.self.view_is) at has) c.from.ensures c.index_mut.ensures.value c.lose.result c.lose.ensures.ok)

pub returns-clause-err : goal.returns-clause-err
returns-clause-err c =
    let has : true ≡ has_segment (log_of c.args.self.now) c.args.seg = sym c.requires.has in
    rw (← c.self.view_is)
    (lose_err (the_view c.self.inside) c.args.seg c.from.result c.args.servers.now c.lose.new.self c.index_mut.result.now
    (rw (← c.self.view_is) at has) c.from.ensures c.index_mut.ensures.value c.lose.result c.lose.ensures.err)

pub returns-clause-roused : goal.returns-clause-roused
returns-clause-roused c =
    let has : true ≡ has_segment (log_of c.args.self.now) c.args.seg = sym c.requires.has in
    let awake : is_awake c.args.self.now.watch c.args.seg ≡ true = c.requires.awake in
    λ others roused.
    let before : IsRoused others c.args.self.now = roused in
    roused-set others (the_view c.self.inside) c.args.seg c.from.result c.lose.new.self
    (rw (← c.self.view_is) at has) c.from.ensures (rw (← c.self.view_is) at awake) (rw (← c.self.view_is) at before)
