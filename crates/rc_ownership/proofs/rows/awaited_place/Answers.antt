use Rattle.std.proofs.Common.{◌≡◌, ◌<◌, ◌≤◌, nat_eq, true, false, length, sym, ◌∙◌, arith}
use Rattle.std.proofs.lemmas.Grind.{common_steps}
use Rattle.rc_ownership.proofs.RowOrder.{search-start, search-found, search-past, search-end}
use Rattle.rc_ownership.proofs.rows.awaited_place.Goals as goal

pub loop-row-init : goal.loop-row-init
loop-row-init c =
    search-start c.args.seg c.args.from c.args.rows.now.items c.count_before-place.result c.requires c.count_before-place.ensures

pub returns-then-row-seg : goal.returns-then-row-seg
returns-then-row-seg c =
    let there : c.loop-row.place < length c.args.rows.now.items = grind (arith, common_steps) in
    let apart : nat_eq c.in-Some.row.now.seg c.args.seg ≡ false = grind (arith, common_steps) in
    search-past c.args.seg c.args.from c.args.rows.now.items c.loop-row.place c.in-Some.row.now c.requires
    c.loop-row.invariant there c.in-Some.ensures.lookup apart

pub returns-then-is_awaited : goal.returns-then-is_awaited
returns-then-is_awaited c =
    let there : c.loop-row.place < length c.args.rows.now.items = grind (arith, common_steps) in
    let it : c.is_awaited.result ≡ true = grind (arith, common_steps) in
    search-found c.args.seg c.args.from c.args.rows.now.items c.loop-row.place c.in-Some.row.now
    c.loop-row.invariant there c.in-Some.ensures.lookup (sym c.is_awaited.ensures ∙ it)

pub returns : goal.returns
returns c =
    let past : length c.args.rows.now.items ≤ c.loop-row.place = grind (arith, common_steps) in
    search-end c.args.seg c.args.from c.args.rows.now.items c.loop-row.place c.loop-row.invariant past
