use Rattle.std.proofs.Common.{sym, ◌∙◌}
use Rattle.rc_serverlist.proofs.RowLemmas.{is_newest-list_all}
use Rattle.rc_serverlist.proofs.marks.is_newest.Goals as goal

pub returns : goal.returns
returns c = c.are_all_older.ensures ∙ sym (is_newest-list_all c.args.id c.args.rows.now.entries)
