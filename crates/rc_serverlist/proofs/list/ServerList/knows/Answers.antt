use Rattle.std.proofs.Common.{sym, ap, ◌∙◌}
use Rattle.rc_model.specs.ServerList.{knows}
use Rattle.rc_serverlist.proofs.RowLemmas.{knows-lookup}
use Rattle.rc_serverlist.proofs.list.ServerList.knows.Goals as goal

pub returns : goal.returns
returns c =
    c.contains_key.ensures ∙ sym (knows-lookup c.self.inside.rows.entries c.args.id) ∙ ap (λ list. knows list.rows c.args.id) c.self.view_is
