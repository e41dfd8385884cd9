use Rattle.std.proofs.Common.{◌≡◌, [], rules, ap, ◌∙◌}
use Rattle.rc_model.specs.Model.{same_id, ServerList}
use Rattle.indexmap.specs.IndexMap.{insert_all}
use Rattle.rc_serverlist.proofs.RowLemmas.{Rows, insert_all-rows}
use Rattle.rc_serverlist.proofs.list.ServerList.try_clone.Goals as goal

pub returns : goal.returns
returns c =
    let all : c.in_ok-copy.copy.entries ≡ insert_all same_id [] c.self.inside.rows.entries = search rules in
    let same : c.in_ok-copy.copy.entries ≡ c.self.inside.rows.entries =
    all ∙ insert_all-rows c.self.inside.rows.entries c.iter.ensures.unique in
    let list : Rows → ServerList = λ rows. record { version = c.self.inside.version; rows = rows } in
    ap list same ∙ c.self.view_is
