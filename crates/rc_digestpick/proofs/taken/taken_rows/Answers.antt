use Rattle.std.proofs.Common.{◌≡◌, ◌<◌, length, get_or, Some, None, inr, [], ◌∷◌, ◌++◌, refl, ap, ◌∙◌, arith}
use Rattle.std.specs.Option.{option_map}
use Rattle.rc_model.specs.Pick.{taken_row, plan_row}
use Rattle.rc_model.specs.Ascending.{ascending}
use Rattle.rc_digestpick.specs.Held.{held_row}
use Rattle.rc_model.proofs.PickRows.{taken_row_from, taken_rows_more, taken_rows_missing}
use Rattle.rc_digestpick.proofs.taken.taken_rows.Goals as goal

pub returns-in_default-clause-err : goal.returns-in_default-clause-err
returns-in_default-clause-err c =
    let seg = get_or c.deref-seg-items.result.now c.loop-seg.seg-index 0 in
    let head = held_row c.args.head in
    let inside : c.loop-seg.seg-index < length c.deref-seg-items.result.now = omega arith in
    let taken : taken_row c.args.min c.args.replies.now head seg ≡ option_map held_row c.taken_row.result =
    taken_row_from c.args.min c.args.replies.now head c.taken_row.ensures.own c.taken_row.ensures.other
    (c.in_ok-best.ensures.ok seg) in
    let none : taken_row c.args.min c.args.replies.now head seg ≡ None = taken ∙ ap (option_map held_row) c.in_default.is in
    let segs : c.deref-seg-items.result.now ≡ ascending head.row.digest =
    c.deref-seg-items.ensures.value ∙ c.in_ok-segs.ensures.ok ∙ ap ascending c.as_slice.ensures in
    inr (rw (← segs) (taken_rows_missing c.args.min c.args.replies.now head c.deref-seg-items.result.now
    c.loop-seg.seg-index seg c.loop-seg.rows.items inside refl c.loop-seg.invariant none))

pub loop-seg-preserved : goal.loop-seg-preserved
loop-seg-preserved c =
    let seg = get_or c.deref-seg-items.result.now c.loop-seg.seg-index 0 in
    let head = held_row c.args.head in
    let inside : c.loop-seg.seg-index < length c.deref-seg-items.result.now = omega arith in
    let taken : taken_row c.args.min c.args.replies.now head seg ≡ option_map held_row c.taken_row.result =
    taken_row_from c.args.min c.args.replies.now head c.taken_row.ensures.own c.taken_row.ensures.other
    (c.in_ok-best.ensures.ok seg) in
    let some : taken_row c.args.min c.args.replies.now head seg ≡ Some (held_row c.in-Some.held) =
    taken ∙ ap (option_map held_row) c.in-Some.is in
    let pushed : c.push.new.self.items ≡ c.loop-seg.rows.items ++ plan_row (held_row c.in-Some.held) ∷ [] =
    rw (← c.plan_row.ensures) c.in_ok-push.ensures.items in
    taken_rows_more c.args.min c.args.replies.now head c.deref-seg-items.result.now c.loop-seg.seg-index seg
    (held_row c.in-Some.held) c.loop-seg.rows.items c.push.new.self.items inside refl c.loop-seg.invariant some
    pushed
