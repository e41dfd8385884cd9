use Rattle.std.proofs.Common.{◌≡◌, ◌+◌, ◌-◌, ◌<◌, ◌≤◌, length, sym, ap, subst, ◌∙◌, arith}
use Rattle.std.proofs.lemmas.Grind.{common_steps}
use Rattle.std.specs.Prelude.{slice_set}
use Rattle.rc_ownership.specs.Rows.{AreCounted, awaited_again}
use Rattle.rc_ownership.proofs.RowsAgain.{again-set, again-beyond, missing-fits, entries-again, counted-again, part_again, part_still}
use Rattle.rc_ownership.proofs.part.FetchedPart.await_again.Goals as goal

pub returns-then-place-len : goal.returns-then-place-len
returns-then-place-len c =
    let past : length c.self.inside.rows.items ≤ c.args.place = grind (arith, common_steps) in
    part_still c.args.place c.args.self.now
    (subst (λ part. awaited_again c.args.place part.rows ≡ part.rows) c.self.view_is
    (again-beyond c.self.inside.rows.items c.args.place past))

pub overflow_add-self : goal.overflow_add-self
overflow_add-self c =
    let rows = c.self.inside.rows.items in
    let there : c.args.place < length rows = grind (arith, common_steps) in
    let more : c.self.inside.missing + 1 ≤ length rows = subst (λ missing. missing + 1 ≤ length rows)
    (sym c.self.invariant.missing_are)
    (missing-fits rows c.args.place c.index_mut.result.now c.in-Some.came there c.index_mut.ensures.value
    (sym c.empty.ensures.came ∙ c.in-Some.is)) in
    grind (arith, common_steps)

pub overflow_sub-self : goal.overflow_sub-self
overflow_sub-self c =
    let rows = c.self.inside.rows.items in
    let there : c.args.place < length rows = grind (arith, common_steps) in
    let less = entries-again rows c.args.place c.index_mut.result.now c.in-Some.came there c.index_mut.ensures.value
    (sym c.empty.ensures.came ∙ c.in-Some.is) in
    omega (arith, less, c.len-in-Some.ensures, c.self.invariant.entries_are (omega (arith, there)))

pub invariant_of-self : goal.invariant_of-self
invariant_of-self c =
    let rows = c.self.inside.rows.items in
    let place = c.args.place in
    let row = c.index_mut.result.now in
    let there : place < length rows = grind (arith, common_steps) in
    let again : slice_set rows place c.empty.new.self ≡ awaited_again place rows =
    ap (slice_set rows place) c.empty.ensures.row ∙ again-set rows place row there c.index_mut.ensures.value in
    subst (λ after. AreCounted after (c.self.inside.missing + 1) (c.self.inside.count - c.len-in-Some.result)) (sym again)
    (subst (λ n. AreCounted (awaited_again place rows) (c.self.inside.missing + 1) (c.self.inside.count - n))
    (sym c.len-in-Some.ensures)
    (counted-again rows place row c.in-Some.came c.self.inside.missing c.self.inside.count there c.index_mut.ensures.value
    (sym c.empty.ensures.came ∙ c.in-Some.is) c.self.invariant))

pub returns-in-Some : goal.returns-in-Some
returns-in-Some c =
    let rows = c.self.inside.rows.items in
    let there : c.args.place < length rows = grind (arith, common_steps) in
    part_again c.self.inside.part rows _ c.self.inside.count _ c.args.place c.self.inside.answered c.args.self.now there
    c.self.view_is
    (ap (slice_set rows c.args.place) c.empty.ensures.row
    ∙ again-set rows c.args.place c.index_mut.result.now there c.index_mut.ensures.value)

pub returns-in_default : goal.returns-in_default
returns-in_default c =
    let rows = c.self.inside.rows.items in
    let there : c.args.place < length rows = grind (arith, common_steps) in
    part_again c.self.inside.part rows _ c.self.inside.count _ c.args.place c.self.inside.answered c.args.self.now there
    c.self.view_is
    (ap (slice_set rows c.args.place) c.empty.ensures.row
    ∙ again-set rows c.args.place c.index_mut.result.now there c.index_mut.ensures.value)
