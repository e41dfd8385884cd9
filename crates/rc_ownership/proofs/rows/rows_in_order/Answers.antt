use Rattle.std.proofs.Common.{map, sym, subst}
use Rattle.rc_model.specs.Ownership.{awaited_row}
use Rattle.rc_ownership.specs.Rows.{AreInOrder}
use Rattle.rc_ownership.proofs.RowOrder.{ordered}
use Rattle.rc_ownership.proofs.rows.rows_in_order.Goals as goal

pub insert_row-requires : goal.insert_row-requires
insert_row-requires c =
    subst AreInOrder (sym c.loop-seg.invariant.2) (ordered (map awaited_row c.loop-seg.invariant.0))
