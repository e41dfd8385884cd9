use Rattle.std.proofs.Common.{false, unwrap_or, sym, ap, ◌∙◌}
use Rattle.std.specs.Map.{set_value}
use Rattle.rc_model.specs.Ids.{same_id}
use Rattle.rc_serverlist.proofs.RowLemmas.{marked_up-lookup, id_crashed-distinct, id_crashed-down, unchanged-down}
use Rattle.rc_serverlist.proofs.marks.mark_crashed.Goals as goal

pub returns-in-Some-clause-was_up : goal.returns-in-Some-clause-was_up
returns-in-Some-clause-was_up c =
    c.replace.ensures.value ∙ ap (λ found. unwrap_or found false) c.in-Some.ensures.value ∙
    sym (marked_up-lookup c.args.rows.now.entries c.args.id)

pub returns-in-Some-clause-crashed : goal.returns-in-Some-clause-crashed
returns-in-Some-clause-crashed c =
    (c.get_mut.follows.holds c.replace.new.dest).0
    ∙ ap (λ up. set_value (same_id c.args.id) c.args.rows.now.entries up) c.replace.ensures.after
    ∙ sym (id_crashed-distinct c.args.id c.args.rows.now.entries c.get_mut.ensures.unique)

pub returns-in-Some-clause-unchanged : goal.returns-in-Some-clause-unchanged
returns-in-Some-clause-unchanged c =
    unchanged-down c.args.id c.args.rows.now.entries _ c.replace.result c.get_mut.ensures.unique
    (returns-in-Some-clause-was_up c) (returns-in-Some-clause-crashed c)

pub returns-in-None-clause-was_up : goal.returns-in-None-clause-was_up
returns-in-None-clause-was_up c =
    ap (λ found. unwrap_or found false) c.in-None.ensures.value ∙ sym (marked_up-lookup c.args.rows.now.entries c.args.id)

pub returns-in-None-clause-crashed : goal.returns-in-None-clause-crashed
returns-in-None-clause-crashed c =
    ap (λ rows. rows.entries) c.get_mut.follows.holds-at-none
    ∙ sym (id_crashed-down c.args.id c.args.rows.now.entries c.get_mut.ensures.unique (sym (returns-in-None-clause-was_up c)))
