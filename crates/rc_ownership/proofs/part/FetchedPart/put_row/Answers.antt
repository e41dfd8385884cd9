use Rattle.std.proofs.Common.{◌-◌, true≢false, sym, ap, subst, ◌∙◌, arith}
use Rattle.std.specs.List.{list_any}
use Rattle.rc_model.specs.Ownership.{is_awaited}
use Rattle.rc_ownership.specs.Rows.{AreCounted}
use Rattle.rc_ownership.proofs.PartRows.{any-none, any-place, place-first, counted-with_row, missing-with_row, put_at, part_put}
use Rattle.rc_ownership.proofs.RowsAgain.{part_unput}
use Rattle.rc_ownership.proofs.part.FetchedPart.put_row.Goals as goal

pub unreachable-requires : goal.unreachable-requires
unreachable-requires c =
    true≢false (sym c.requires
    ∙ ap (λ part. list_any (is_awaited c.args.seg c.args.from) part.rows) (sym c.self.view_is)
    ∙ any-none (is_awaited c.args.seg c.args.from) c.self.inside.rows.items c.awaited_place.result c.awaited_place.ensures c.in_default.is)

pub overflow_sub-self : goal.overflow_sub-self
overflow_sub-self c =
    let some = any-place (is_awaited c.args.seg c.args.from) c.self.inside.rows.items c.awaited_place.result
    c.in-Some.place c.awaited_place.ensures c.in-Some.is in
    omega (arith, c.self.invariant.missing_are, missing-with_row c.args.seg c.args.from c.args.entries.now c.self.inside.rows.items some)

pub invariant_of-self : goal.invariant_of-self
invariant_of-self c =
    let rows = c.self.inside.rows.items in
    let some = any-place (is_awaited c.args.seg c.args.from) rows c.awaited_place.result c.in-Some.place
    c.awaited_place.ensures c.in-Some.is in
    let put = put_at c.args.seg c.args.from c.args.entries.now c.in_ok-came.came rows c.awaited_place.result
    c.in-Some.place c.index_mut.result.now c.fill.new.self
    c.awaited_place.ensures c.in-Some.is c.index_mut.ensures.value c.fill.ensures c.in_ok-came.ensures in
    subst (λ after. AreCounted after (c.self.inside.missing - 1) c.in-Some-checked_add.count) (sym put)
    (subst (AreCounted _ (c.self.inside.missing - 1)) (sym c.in-Some-checked_add.ensures.1)
    (counted-with_row c.args.seg c.args.from c.args.entries.now rows c.self.inside.missing c.self.inside.count some c.self.invariant))

pub returns-clause-ok : goal.returns-clause-ok
returns-clause-ok c =
    let rows = c.self.inside.rows.items in
    let some = any-place (is_awaited c.args.seg c.args.from) rows c.awaited_place.result c.in-Some.place
    c.awaited_place.ensures c.in-Some.is in
    let put = put_at c.args.seg c.args.from c.args.entries.now c.in_ok-came.came rows c.awaited_place.result
    c.in-Some.place c.index_mut.result.now c.fill.new.self
    c.awaited_place.ensures c.in-Some.is c.index_mut.ensures.value c.fill.ensures c.in_ok-came.ensures in
    part_put c.args.seg c.args.from c.args.entries.now c.self.inside.part rows _ c.self.inside.count
    c.in-Some-checked_add.count c.self.inside.answered c.args.self.now
    c.self.view_is put some

pub returns-clause-before : goal.returns-clause-before
returns-clause-before c =
    let rows = c.self.inside.rows.items in
    let some = any-place (is_awaited c.args.seg c.args.from) rows c.awaited_place.result c.in-Some.place
    c.awaited_place.ensures c.in-Some.is in
    let put = put_at c.args.seg c.args.from c.args.entries.now c.in_ok-came.came rows c.awaited_place.result
    c.in-Some.place c.index_mut.result.now c.fill.new.self
    c.awaited_place.ensures c.in-Some.is c.index_mut.ensures.value c.fill.ensures c.in_ok-came.ensures in
    part_unput c.args.seg c.args.from c.args.entries.now c.self.inside.part rows _ c.self.inside.count
    c.in-Some-checked_add.count c.in-Some.place c.self.inside.answered c.args.self.now
    c.self.view_is put some
    (place-first (is_awaited c.args.seg c.args.from) rows c.awaited_place.result c.in-Some.place c.awaited_place.ensures c.in-Some.is)
