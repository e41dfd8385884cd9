use Rattle.std.proofs.Common.{arith, ap, length, ◌∙◌}
use Rattle.rc_serverlist.proofs.RowLemmas.{length-crashed_below, crashed_below-marked, crashed_below-kept}
use Rattle.rc_serverlist.proofs.marks.mark_index_crashed.Goals as goal
use Rattle.rc_serverlist.proofs.marks.mark_index_crashed.Goals.{then-id-index, else-id-index}

pub pair_mut-up-requires : goal.pair_mut-up-requires
pair_mut-up-requires c =
    omega (arith, ap length c.loop-place.invariant, length-crashed_below c.args.index c.loop-place.place c.args.rows.now.entries)

pub loop-place-preserved : goal.loop-place-preserved
loop-place-preserved c =
    elim c.if-id-index.branch [
      | then-id-index w ↦ ap (λ rows. rows.entries) w.rows-is ∙ crashed_below-marked c.args.index c.loop-place.place
          c.args.rows.now.entries c.loop-place.rows.entries _ _ c.loop-place.invariant c.pair_mut-up.ensures.value
          w.if-id-index.true
      | else-id-index w ↦ ap (λ rows. rows.entries) w.rows-is ∙ crashed_below-kept c.args.index c.loop-place.place
          c.args.rows.now.entries c.loop-place.rows.entries _ _ c.loop-place.invariant c.pair_mut-up.ensures.value
          w.if-id-index.false
    ]
