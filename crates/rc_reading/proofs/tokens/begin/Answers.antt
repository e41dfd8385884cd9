use Rattle.std.proofs.Common.{◌≡◌, [], ◌∷◌, None, ap, ◌∙◌, arith}
use Rattle.json.specs.Json.{value}
use Rattle.json.specs.Reads.{token_of}
use Rattle.json.proofs.Grammar.{value_is}
use Rattle.serde_json.specs.Read.{of_json, converted}
use Rattle.rc_reading.specs.Ahead.{data_at}
use Rattle.rc_reading.proofs.Passing.{at_nothing, at_number, too_deep_list, number_none}
use Rattle.rc_reading.proofs.Firsts.{text_said, flag_said, null_said, number_said, object_said}
use Rattle.rc_reading.proofs.tokens.begin.Goals as goal

pub returns-in_default-clause-err : goal.returns-in_default-clause-err
returns-in_default-clause-err c =
    let empty : c.args.reader.now ≡ [] = c.in_default.ensures.value.0 in
    ap (data_at c.args.depth) empty ∙ at_nothing c.args.depth

pub returns-then-depth-eq0-clause-err : goal.returns-then-depth-eq0-clause-err
returns-then-depth-eq0-clause-err c =
    let none : c.args.depth ≡ 0 = omega arith in
    rw (c.in-Some.ensures.value, c.in-BeginArray.is, none) (too_deep_list _)

pub returns-in-String-clause-ok : goal.returns-in-String-clause-ok
returns-in-String-clause-ok c = rw (c.in-Some.ensures.value, c.in-String.is) (text_said c.args.depth c.in-String.text.now _)

pub returns-in-Bool-clause-ok : goal.returns-in-Bool-clause-ok
returns-in-Bool-clause-ok c = rw (c.in-Some.ensures.value, c.in-Bool.is) (flag_said c.args.depth _ _)

pub returns-in-Null-clause-ok : goal.returns-in-Null-clause-ok
returns-in-Null-clause-ok c = rw (c.in-Some.ensures.value, c.in-Null.is) (null_said c.args.depth _)

pub returns-in-Some-number_of-clause-ok : goal.returns-in-Some-number_of-clause-ok
returns-in-Some-number_of-clause-ok c =
    rw (c.in-Some.ensures.value, c.in-Number.is)
    (number_said c.args.depth c.in-Number.text.now _ _ _ c.number_of.ensures c.in-Some-number_of.is)

pub returns-in-None-clause-err : goal.returns-in-None-clause-err
returns-in-None-clause-err c =
    rw (c.in-Some.ensures.value, c.in-Number.is) (at_number c.args.depth c.in-Number.text.now _ ∙
    number_none _ _ _ c.number_of.ensures c.in-None.is)

pub returns-in-EndObject-clause-err : goal.returns-in-EndObject-clause-err
unfolding data_at
returns-in-EndObject-clause-err c =
    let none : value c.args.depth (token_of c.in-Some.token ∷ c.next.new.self) ≡ None =
    rw (value_is c.args.depth (token_of c.in-Some.token ∷ c.next.new.self)) (grind arith) in
    rw c.in-Some.ensures.value (ap (converted of_json) none)

pub returns-in_ok-pass_rest-in-BeginObject-clause-ok : goal.returns-in_ok-pass_rest-in-BeginObject-clause-ok
returns-in_ok-pass_rest-in-BeginObject-clause-ok c =
    rw (c.in-Some.ensures.value, c.in-BeginObject.is)
    (object_said c.args.depth _ _ (rw c.in-BeginObject.is at c.in_ok-pass_rest-in-BeginObject.ensures.ok))
