use Rattle.std.proofs.Common.{◌++◌, [], sym, ap, ◌∙◌}
use Rattle.std.proofs.lemmas.List.{append-nil}
use Rattle.std.proofs.lemmas.Option.{slice_get_past}
use Rattle.std.specs.Option.{option_map_or}
use Rattle.rc_master.specs.Tasks.{fetches_of}
use Rattle.rc_master.proofs.again.add_fetches_at.Goals as goal

pub returns-in-None-clause-ok : goal.returns-in-None-clause-ok
returns-in-None-clause-ok c =
    sym (append-nil c.args.sent.now.items)
    ∙ ap (λ found. c.args.sent.now.items ++ option_map_or (fetches_of c.args.own c.args.ownership.now.own) found [])
    (sym (slice_get_past c.args.tasks.now c.args.place c.in-None.ensures.lookup.3))
