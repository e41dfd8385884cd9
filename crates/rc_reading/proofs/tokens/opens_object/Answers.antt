use Rattle.std.proofs.Common.{◌≡◌, [], sym, ap, ◌∙◌, arith}
use Rattle.json.specs.Reads.{token_of}
use Rattle.rc_reading.specs.Ahead.{data_at}
use Rattle.rc_reading.proofs.Passing.{at_nothing}
use Rattle.rc_reading.proofs.Firsts.{no_object, no_depth}
use Rattle.rc_reading.proofs.tokens.opens_object.Goals as goal

pub returns-in_default-clause-err : goal.returns-in_default-clause-err
returns-in_default-clause-err c =
    let empty : c.args.reader.now ≡ [] = c.in_default.ensures.value.0 in
    ap (data_at c.args.depth) empty ∙ at_nothing c.args.depth

pub returns-then-not-begins_object-clause-ok : goal.returns-then-not-begins_object-clause-ok
returns-then-not-begins_object-clause-ok c =
    rw c.in-Some.ensures.value
    (no_object c.args.depth (token_of c.in-Some.token) _ _ (sym c.if-not-begins_object.ensures)
    c.in_ok-pass_rest.ensures.ok)

pub returns-then-depth-eq0-clause-err : goal.returns-then-depth-eq0-clause-err
returns-then-depth-eq0-clause-err c =
    let none : c.args.depth ≡ 0 = omega arith in
    rw (c.in-Some.ensures.value, none) (no_depth (token_of c.in-Some.token) _ (sym c.if-not-begins_object.ensures))
