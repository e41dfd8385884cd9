use Rattle.std.proofs.Common.{◌<◌, length, get_or, arith}
use Rattle.std.proofs.lemmas.List.{get_or_default}
use Rattle.std.proofs.lemmas.List.Edits.{map_over_more}
use Rattle.rc_process.specs.Order.{Turned, move_turned}
use Rattle.rc_process.proofs.held.move_held.Goals as goal

pub loop-one-preserved : goal.loop-one-preserved
loop-one-preserved c =
    let h : c.loop-one.one-index < length c.args.held.now = omega arith in
    let within : c.loop-one.one-index < length c.loop-one.held = omega arith in
    let one : Turned = get_or c.loop-one.held c.loop-one.one-index c.one-item.result in
    rw (c.move_by.ensures) (map_over_more (move_turned c.args.saving) c.args.held.now c.loop-one.held c.loop-one.one-index one
    h c.loop-one.invariant (get_or_default c.loop-one.held c.loop-one.one-index c.one-item.result one within))
