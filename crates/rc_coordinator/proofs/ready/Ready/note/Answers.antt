use Rattle.std.proofs.Common.{ap, List, ◌∙◌}
use Rattle.std.specs.Map.{keys_of}
use Rattle.indexmap.specs.IndexSet.{insert_key}
use Rattle.rc_model.specs.Model.{ServerId, same_id}
use Rattle.rc_coordinator.proofs.ReadyLemmas.{keys_of-insert_entry}
use Rattle.rc_coordinator.proofs.ready.Ready.note.Goals as goal

pub returns-clause-ok : goal.returns-clause-ok
returns-clause-ok c =
    ap keys_of c.in_ok-insert.ensures.entries ∙ keys_of-insert_entry same_id c.self.inside.ids.entries c.args.id _
    ∙ ap (λ (ids : List ServerId). insert_key same_id ids c.args.id) c.self.view_is
