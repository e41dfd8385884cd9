use Rattle.std.proofs.Common.{◌≡◌, ◌<◌, [], ◌∷◌, length, Some, None, ap, ◌∙◌, arith}
use Rattle.json.specs.Json.{after_end_array, read_key, value}
use Rattle.json.specs.Reads.{token_of}
use Rattle.json.proofs.Grammar.{read_key-shorter, left_none, value_is}
use Rattle.std.proofs.lemmas.Result.{on_ok_weaker, on_err_weaker}
use Rattle.serde_json.specs.Read.{of_json, converted}
use Rattle.serde_json.specs.Data.{no_members}
use Rattle.rc_reading.specs.Ahead.{data_at, items_at, members_at, rest}
use Rattle.rc_reading.proofs.Turns.{items_over, item_refused, members_over, member_refused, key_refused}
use Rattle.rc_reading.proofs.Passing.{item_passed, member_passed, at_string, at_bool, at_null, at_number, at_nothing}
use Rattle.rc_reading.proofs.Passing.{too_deep_list, too_deep_object, list_rest, object_rest, number_rest, number_none}
use Rattle.rc_reading.proofs.tokens.+pass.Goals as goal

pub pass_items-items-preserved : goal.pass_items-items-preserved
pass_items-items-preserved t c =
    let l = c.items in
    let going : (after_end_array l.reader ≡ None) × (c.take_end_array.new.self ≡ l.reader) = grind arith in
    let passed : rest (data_at c.args.depth l.reader) ≡ Some c.pass.new.reader = rw (← going.1) c.in_ok-pass.ensures.ok in
    let less : length c.pass.new.reader < length l.reader = rw (← going.1) c.in_ok-pass.ensures.shorter in
    (l.invariant.0 ∙ item_passed c.args.depth l.reader _ going.0 passed, omega (arith, l.invariant.1, less))

pub pass_items-returns-in_err-pass-clause-err : goal.pass_items-returns-in_err-pass-clause-err
pass_items-returns-in_err-pass-clause-err t c =
    let l = c.items in
    let going : (after_end_array l.reader ≡ None) × (c.take_end_array.new.self ≡ l.reader) = grind arith in
    let none = item_refused c.args.depth l.reader going.0 (rw (← going.1) c.in_err-pass.ensures.err) in
    let all : items_at c.args.depth c.args.reader.now ≡ None = left_none _ (l.invariant.0 ∙ ap rest none) in
    grind (arith, all)

pub pass_items-returns-clause-ok : goal.pass_items-returns-clause-ok
pass_items-returns-clause-ok t c =
    let l = c.items in
    l.invariant.0 ∙ ap rest (items_over c.args.depth l.reader c.take_end_array.new.self (grind arith))

pub pass_members-returns-in_err-next_key-clause-err : goal.pass_members-returns-in_err-next_key-clause-err
pass_members-returns-in_err-next_key-clause-err t c =
    let l = c.members in
    let all : members_at no_members c.args.depth c.args.reader.now ≡ None =
    left_none _ (l.invariant.0 ∙
    ap rest (key_refused no_members c.args.depth l.reader c.in_err-next_key.ensures.value)) in
    grind (arith, all)

pub pass_members-members-preserved : goal.pass_members-members-preserved
pass_members-members-preserved t c =
    let l = c.members in
    let k = c.in-Some.field-0.now in
    let s = c.next_key.new.self in
    let key : read_key l.reader ≡ Some (Some k, s) = grind arith in
    let less = read_key-shorter l.reader (Some k) s key in
    let lesser = c.in_ok-pass.ensures.shorter in
    (l.invariant.0 ∙ member_passed c.args.depth k l.reader s _ key c.in_ok-pass.ensures.ok, omega (arith, l.invariant.1, less, lesser))

pub pass_members-returns-in_err-pass-clause-err : goal.pass_members-returns-in_err-pass-clause-err
pass_members-returns-in_err-pass-clause-err t c =
    let l = c.members in
    let k = c.in-Some.field-0.now in
    let s = c.next_key.new.self in
    let key : read_key l.reader ≡ Some (Some k, s) = grind arith in
    let all : members_at no_members c.args.depth c.args.reader.now ≡ None =
    left_none _ (l.invariant.0 ∙
    ap rest (member_refused no_members c.args.depth k l.reader s key c.in_err-pass.ensures.err)) in
    grind (arith, all)

pub pass_members-returns-clause-ok : goal.pass_members-returns-clause-ok
pass_members-returns-clause-ok t c =
    let l = c.members in
    l.invariant.0 ∙ ap rest (members_over no_members c.args.depth l.reader c.next_key.new.self (grind arith))

pub pass-returns-in_default-clause-err : goal.pass-returns-in_default-clause-err
pass-returns-in_default-clause-err t c =
    let empty : c.args.reader.now ≡ [] = grind arith in
    ap (data_at c.args.depth) empty ∙ at_nothing c.args.depth

pub pass_rest-returns-in-String-clause-ok : goal.pass_rest-returns-in-String-clause-ok
pass_rest-returns-in-String-clause-ok t c = rw c.in-String.is (ap rest (at_string c.args.depth _ _))

pub pass_rest-returns-in-Bool-clause-ok : goal.pass_rest-returns-in-Bool-clause-ok
pass_rest-returns-in-Bool-clause-ok t c = rw c.in-Bool.is (ap rest (at_bool c.args.depth _ _))

pub pass_rest-returns-in-Null-clause-ok : goal.pass_rest-returns-in-Null-clause-ok
pass_rest-returns-in-Null-clause-ok t c = rw c.in-Null.is (ap rest (at_null c.args.depth _))

pub pass_rest-returns-in-Some-clause-ok : goal.pass_rest-returns-in-Some-clause-ok
pass_rest-returns-in-Some-clause-ok t c =
    rw c.in-Number.is (ap rest (at_number c.args.depth c.in-Number.text.now c.args.reader.now) ∙
    number_rest _ _ _ c.args.reader.now (c.number_of.ensures) c.in-Some.is)

pub pass_rest-returns-in-None-clause-err : goal.pass_rest-returns-in-None-clause-err
pass_rest-returns-in-None-clause-err t c =
    rw c.in-Number.is (at_number c.args.depth c.in-Number.text.now c.args.reader.now ∙ number_none _ _ c.args.reader.now
    c.number_of.ensures c.in-None.is)

pub pass_rest-returns-in-EndObject-clause-err : goal.pass_rest-returns-in-EndObject-clause-err
unfolding data_at
pass_rest-returns-in-EndObject-clause-err t c =
    let none : value c.args.depth (token_of c.args.token ∷ c.args.reader.now) ≡ None =
    rw (value_is c.args.depth (token_of c.args.token ∷ c.args.reader.now)) (grind arith) in
    ap (converted of_json) none

pub pass_rest-returns-then-depth-eq0-clause-err : goal.pass_rest-returns-then-depth-eq0-clause-err
pass_rest-returns-then-depth-eq0-clause-err t c =
    let none : c.args.depth ≡ 0 = omega arith in
    rw (c.in-BeginArray.is, none) (too_deep_list _)

pub pass_rest-returns-then-depth-eq0-2-clause-err : goal.pass_rest-returns-then-depth-eq0-2-clause-err
pass_rest-returns-then-depth-eq0-2-clause-err t c =
    let none : c.args.depth ≡ 0 = omega arith in
    rw (c.in-BeginObject.is, none) (too_deep_object _)

pub pass_rest-returns-else-depth-eq0-clause-ok : goal.pass_rest-returns-else-depth-eq0-clause-ok
pass_rest-returns-else-depth-eq0-clause-ok t c =
    rw c.in-BeginArray.is (on_ok_weaker c.pass_items.result (λ e. list_rest c.args.depth _ (omega arith) ∙ e) c.pass_items.ensures.ok)

pub pass_rest-returns-else-depth-eq0-clause-err : goal.pass_rest-returns-else-depth-eq0-clause-err
pass_rest-returns-else-depth-eq0-clause-err t c =
    rw c.in-BeginArray.is (on_err_weaker c.pass_items.result
    (λ e. left_none _ (list_rest c.args.depth _ (omega arith) ∙ ap rest e)) c.pass_items.ensures.err)

pub pass_rest-returns-else-depth-eq0-2-clause-ok : goal.pass_rest-returns-else-depth-eq0-2-clause-ok
pass_rest-returns-else-depth-eq0-2-clause-ok t c =
    rw c.in-BeginObject.is (on_ok_weaker c.pass_members.result (λ e. object_rest c.args.depth _ (omega arith) ∙ e)
    c.pass_members.ensures.ok)

pub pass_rest-returns-else-depth-eq0-2-clause-err : goal.pass_rest-returns-else-depth-eq0-2-clause-err
pass_rest-returns-else-depth-eq0-2-clause-err t c =
    rw c.in-BeginObject.is (on_err_weaker c.pass_members.result
    (λ e. left_none _ (object_rest c.args.depth _ (omega arith) ∙ ap rest e)) c.pass_members.ensures.err)
