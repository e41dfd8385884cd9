use Rattle.std.proofs.Common.{false, unwrap_or, sym, ap, ◌∙◌}
use Rattle.rc_serverlist.proofs.RowLemmas.{marked_up-lookup}
use Rattle.rc_serverlist.proofs.marks.is_marked_up.Goals as goal

pub returns-in-Some : goal.returns-in-Some
returns-in-Some c =
    ap (λ found. unwrap_or found false) c.in-Some.ensures.value ∙ sym (marked_up-lookup c.args.rows.now.entries c.args.id)

pub returns-in-None : goal.returns-in-None
returns-in-None c =
    ap (λ found. unwrap_or found false) c.in-None.ensures.value ∙ sym (marked_up-lookup c.args.rows.now.entries c.args.id)
