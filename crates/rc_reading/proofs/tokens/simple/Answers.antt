use Rattle.std.proofs.Common.{◌≡◌, ◌<◌, ◌∷◌, None, arith}
use Rattle.json.specs.Token.{Token}
use Rattle.rc_reading.specs.Ahead.{data_at}
use Rattle.rc_reading.proofs.Firsts.{list_said, list_refused}
use Rattle.rc_reading.proofs.tokens.simple.Goals as goal

pub returns-in_ok-pass_items-in-None-clause-ok : goal.returns-in_ok-pass_items-in-None-clause-ok
returns-in_ok-pass_items-in-None-clause-ok c =
    let begun : (c.args.reader.now ≡ Token.begin_array ∷ c.begin.new.reader) × (0 < c.args.depth) = grind arith in
    rw begun.0 (list_said c.args.depth c.begin.new.reader _ begun.1 c.in_ok-pass_items-in-None.ensures.ok)

pub returns-in_err-pass_items-in-None-clause-err : goal.returns-in_err-pass_items-in-None-clause-err
returns-in_err-pass_items-in-None-clause-err c =
    let begun : (c.args.reader.now ≡ Token.begin_array ∷ c.begin.new.reader) × (0 < c.args.depth) = grind arith in
    let none : data_at c.args.depth c.args.reader.now ≡ None =
    rw begun.0 (list_refused c.args.depth c.begin.new.reader begun.1 c.in_err-pass_items-in-None.ensures.err) in
    grind (arith, none)
