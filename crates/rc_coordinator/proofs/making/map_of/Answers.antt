use Rattle.std.proofs.Common.{◌≡◌, Some, is_some, slice_get, sym, ap, ◌∙◌}
use Rattle.std.specs.Map.{lookup}
use Rattle.rc_model.specs.Ids.{same_id}
use Rattle.rc_coordinator.proofs.ListLemmas.{keys-twice, stands-at, entry-put}
use Rattle.rc_coordinator.proofs.making.map_of.Goals as goal

pub returns-then-contains_key-clause-refused : goal.returns-then-contains_key-clause-refused
returns-then-contains_key-clause-refused g c = λ _.
    let e = c.loop-id-item.result in
    let at : slice_get c.args.entries.now c.loop-id.id-index ≡ Some e =
    stands-at c.args.entries.now c.loop-id.id-index e c.loop-id-test.true ∙ ap Some (sym c.loop-id-item.is) in
    keys-twice c.args.entries.now c.loop-id.id-index e at
    (ap (λ es. is_some (lookup (same_id e.0) es)) (sym c.loop-id.invariant) ∙ sym c.if-contains_key.ensures)

pub loop-id-preserved : goal.loop-id-preserved
loop-id-preserved g c =
    let e = c.loop-id-item.result in
    let at : slice_get c.args.entries.now c.loop-id.id-index ≡ Some e =
    stands-at c.args.entries.now c.loop-id.id-index e c.loop-id-test.true ∙ ap Some (sym c.loop-id-item.is) in
    entry-put c.args.entries.now c.loop-id.map.entries c.insert.new.self.entries c.loop-id.id-index e.0 e.1 at
    c.loop-id.invariant (sym c.if-contains_key.ensures) c.in_ok-insert.ensures.entries
