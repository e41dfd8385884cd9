use Rattle.std.proofs.Common.{rules, ◌∙◌}
use Rattle.rc_serverlist.proofs.IdLemmas.{insert-found}
use Rattle.rc_serverlist.proofs.marks.insert_in_order.Goals as goal

pub returns : goal.returns
returns c =
    c.in_ok-insert.ensures.items ∙ insert-found c.args.id c.args.ids.now.items c.place_before.result c.len.result _
    (search rules) (search rules) c.unwrap_or-place.ensures
