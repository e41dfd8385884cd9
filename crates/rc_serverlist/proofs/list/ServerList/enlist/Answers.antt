use Rattle.std.proofs.Common.{◌≡◌, ◌+◌, true, arith, ap, ◌∙◌}
use Rattle.rc_model.specs.ServerList.{ServerList, is_newest, enlisted}
use Rattle.rc_serverlist.proofs.RowLemmas.{Rows, enlisted-rows}
use Rattle.rc_serverlist.proofs.list.ServerList.enlist.Goals as goal

pub returns-clause-ok : goal.returns-clause-ok
returns-clause-ok c =
    let old : Rows = c.self.inside.rows.entries in
    let newest : is_newest c.args.id old ≡ true = grind arith in
    let list : Rows → ServerList = λ rows. record { version = c.self.inside.version + 1; rows = rows } in
    ap list (enlisted-rows c.args.id old c.insert.new.self.entries c.mark_index_crashed.new.rows.entries
    c.len-count.result newest c.in_ok-insert.ensures.entries c.len-count.ensures.len c.mark_index_crashed.ensures)
    ∙ ap (λ list. enlisted c.args.id list) c.self.view_is
