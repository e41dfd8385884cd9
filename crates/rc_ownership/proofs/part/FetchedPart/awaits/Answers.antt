use Rattle.std.proofs.Common.{is_some, ap, ◌∙◌}
use Rattle.std.specs.List.{list_any}
use Rattle.rc_model.specs.Ownership.{is_awaited}
use Rattle.rc_ownership.proofs.PartRows.{found-any}
use Rattle.rc_ownership.proofs.part.FetchedPart.awaits.Goals as goal

pub returns : goal.returns
returns c =
    c.is_some.ensures ∙ ap is_some c.awaited_place.ensures ∙ found-any (is_awaited c.args.seg c.args.from) c.self.inside.rows.items
    ∙ ap (λ part. list_any (is_awaited c.args.seg c.args.from) part.rows) c.self.view_is
