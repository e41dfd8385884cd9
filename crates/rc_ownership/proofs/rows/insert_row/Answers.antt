use Rattle.std.proofs.Common.{◌≤◌, length, subst, sym, ap, ◌∙◌, arith}
use Rattle.std.proofs.lemmas.Grind.{common_steps}
use Rattle.std.specs.List.{insert}
use Rattle.rc_model.specs.Ownership.{awaited_row}
use Rattle.rc_ownership.proofs.RowOrder.{insert-row, first_within}
use Rattle.rc_ownership.proofs.rows.insert_row.Goals as goal

pub insert-requires : goal.insert-requires
insert-requires c =
    let within : c.count_before-place.result ≤ length c.args.rows.now.items =
    subst (λ place. place ≤ length c.args.rows.now.items) (sym c.count_before-place.ensures)
    (first_within c.args.seg c.args.rows.now.items) in
    grind (arith, common_steps)

pub returns : goal.returns
returns c =
    let rows = c.args.rows.now.items in
    c.in_ok-insert.ensures.items
    ∙ ap (λ row. insert rows c.count_before-place.result row) c.new.ensures
    ∙ ap (λ place. insert rows place (awaited_row (c.args.seg, c.args.holder))) c.count_before-place.ensures
    ∙ insert-row (awaited_row (c.args.seg, c.args.holder)) rows
