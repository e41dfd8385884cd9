use Rattle.std.proofs.Common.{List, get_or, sym, ap, ◌∙◌}
use Rattle.std.specs.List.{list_any}
use Rattle.rc_model.specs.Model.{ServerId, same_id}
use Rattle.rc_coordinator.proofs.ListLemmas.{stands-twice, stands-at}
use Rattle.rc_coordinator.proofs.making.ready_of.Goals as goal

pub returns-then-has-clause-refused : goal.returns-then-has-clause-refused
returns-then-has-clause-refused c = λ _.
    let id : ServerId = get_or c.args.ids.now c.loop-id.id-index (record { index = 0; generation = 0 }) in
    stands-twice c.args.ids.now c.loop-id.id-index id
    (stands-at c.args.ids.now c.loop-id.id-index (record { index = 0; generation = 0 }) c.loop-id-test.true)
    (ap (λ (ids : List ServerId). list_any (same_id id) ids) (sym c.loop-id.invariant) ∙ sym c.if-has.ensures)
