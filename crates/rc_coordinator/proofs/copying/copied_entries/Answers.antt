use Rattle.std.proofs.Common.{◌≡◌, [], ◌∷◌, ◌++◌, append_assoc, ap, sym, ◌∙◌}
use Rattle.rc_model.specs.Model.{ServerId}
use Rattle.rc_coordinator.proofs.CopyLemmas.{inserted_behind}
use Rattle.rc_coordinator.proofs.copying.copied_entries.Goals as goal

pub loop-id-preserved : goal.loop-id-preserved
loop-id-preserved g c =
    let e : ServerId × g.row.V.Denot = (c.in-Some.id.now, c.in-Some.value.now) in
    let done = c.loop-id.copy.entries in
    let rest = c.next.new.self in
    let so_far : done ++ e ∷ rest ≡ c.args.map.now.entries =
    ap (λ es. done ++ es) (sym c.in-Some.ensures.steps) ∙ c.loop-id.invariant in
    let put : c.insert.new.self.entries ≡ done ++ e ∷ [] =
    c.in_ok-insert.ensures.entries ∙ inserted_behind done e rest c.args.map.now.entries so_far c.iter-id-items.ensures.unique in
    ap (λ es. es ++ rest) put ∙ append_assoc done (e ∷ []) rest ∙ so_far
