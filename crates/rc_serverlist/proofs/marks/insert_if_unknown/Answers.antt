use Rattle.std.proofs.Common.{sym, ◌∙◌}
use Rattle.rc_serverlist.proofs.RowLemmas.{added-unknown, kept-known}
use Rattle.rc_serverlist.proofs.marks.insert_if_unknown.Goals as goal

pub returns-in_ok-insert : goal.returns-in_ok-insert
returns-in_ok-insert c =
    added-unknown c.args.rows.now.entries _ c.args.id c.args.up (sym c.contains_key.ensures ∙
    c.if-not-contains_key.true) c.in_ok-insert.ensures.entries

pub returns-else-not-contains_key : goal.returns-else-not-contains_key
returns-else-not-contains_key c =
    kept-known c.args.rows.now.entries c.args.id c.args.up (sym c.contains_key.ensures ∙ c.if-not-contains_key.false)
