use Rattle.std.proofs.Common.{false, ap, sym, ◌∙◌}
use Rattle.std.specs.List.{list_any}
use Rattle.std.specs.Option.{option_map_or}
use Rattle.rc_model.specs.Ownership.{is_awaited, awaits_data}
use Rattle.rc_ownership.specs.Parts.{who_fetched}
use Rattle.rc_ownership.proofs.PartTables.{awaits-lookup}
use Rattle.rc_ownership.proofs.parts.Parts.awaits_data.Goals as goal

pub returns-in-Some : goal.returns-in-Some
returns-in-Some c =
    c.awaits.ensures
    ∙ ap (λ found. option_map_or (λ part. list_any (is_awaited c.args.seg c.args.from) part.rows) found false) c.in-Some.ensures.value
    ∙ sym (awaits-lookup c.self.inside.begun.entries c.args.term c.args.seg c.args.from c.self.invariant.table.under_terms)
    ∙ ap (λ fetched. awaits_data c.args.term c.args.seg c.args.from (who_fetched fetched)) c.self.view_is

pub returns-in-None : goal.returns-in-None
returns-in-None c =
    ap (λ found. option_map_or (λ part. list_any (is_awaited c.args.seg c.args.from) part.rows) found false) c.in-None.ensures.value
    ∙ sym (awaits-lookup c.self.inside.begun.entries c.args.term c.args.seg c.args.from c.self.invariant.table.under_terms)
    ∙ ap (λ fetched. awaits_data c.args.term c.args.seg c.args.from (who_fetched fetched)) c.self.view_is
