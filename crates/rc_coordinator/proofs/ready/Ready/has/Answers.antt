use Rattle.std.proofs.Common.{ap, ◌∙◌}
use Rattle.std.specs.List.{list_any}
use Rattle.std.proofs.lemmas.Map.Made.{is_some-lookup}
use Rattle.rc_model.specs.Ids.{same_id}
use Rattle.rc_coordinator.proofs.ready.Ready.has.Goals as goal

pub returns : goal.returns
returns c =
    c.contains_key.ensures ∙ is_some-lookup (same_id c.args.id) c.self.inside.ids.entries
    ∙ ap (list_any (same_id c.args.id)) c.self.view_is
