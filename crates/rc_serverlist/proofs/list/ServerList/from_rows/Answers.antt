use Rattle.std.proofs.Common.{ℕ, ◌+◌, Bool, false, drop, get_or, sym, ap, ◌∙◌}
use Rattle.std.proofs.lemmas.List.{at_drop_more}
use Rattle.rc_model.specs.Model.{ServerId, first_rows}
use Rattle.rc_serverlist.proofs.RowLemmas.{Rows, first_rows-row}
use Rattle.rc_serverlist.proofs.list.ServerList.from_rows.Goals as goal

pub loop-id-preserved : goal.loop-id-preserved
loop-id-preserved c =
    let before : Rows = c.loop-id.first.entries in
    let rows : Rows = c.args.rows.now in
    let place : ℕ = c.loop-id.id-index in
    let no_row : ServerId × Bool = (record { index = 0; generation = 0 }, false) in
    ap (λ l. first_rows l (drop (place + 1) rows)) c.in_ok-insert_if_unknown.ensures
    ∙ sym (first_rows-row before (drop (place + 1) rows) (get_or rows place no_row))
    ∙ sym (at_drop_more (λ l. first_rows before l) rows place no_row c.loop-id-test.true)
    ∙ c.loop-id.invariant
