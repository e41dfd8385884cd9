use Rattle.std.proofs.Common.{◌≡◌, ◌<◌, ◌∷◌, Some, None, option_map, ap, ◌∙◌, arith}
use Rattle.json.specs.Token.{Token}
use Rattle.rc_types.specs.declared.ids.Addr.TheVariants.{Server}
use Rattle.rc_reading.specs.Ahead.{data_at}
use Rattle.rc_reading.proofs.Firsts.{list_refused, addr_says}
use Rattle.rc_reading.proofs.wanted.addr.Goals as goal

pub returns-in_err-id-in-None-clause-err : goal.returns-in_err-id-in-None-clause-err
returns-in_err-id-in-None-clause-err c =
    let begun : (c.args.reader.now ≡ Token.begin_array ∷ c.begin.new.reader) × (0 < c.args.depth) = grind arith in
    let none : data_at c.args.depth c.args.reader.now ≡ None =
    rw begun.0 (list_refused c.args.depth c.begin.new.reader begun.1 c.in_err-id-in-None.ensures.err) in
    grind (arith, none)

pub returns-in-Some-2-clause-ok : goal.returns-in-Some-2-clause-ok
returns-in-Some-2-clause-ok c =
    let begun : (c.args.reader.now ≡ Token.begin_array ∷ c.begin.new.reader) × (0 < c.args.depth) = grind arith in
    rw begun.0 (addr_says c.args.depth c.begin.new.reader _ _ begun.1 c.in_ok-id-in-None.ensures.ok ∙
    ap (λ id. Some (option_map Server id, c.id_items.new.reader)) c.in-Some-2.is)

pub returns-in-None-2-clause-ok : goal.returns-in-None-2-clause-ok
returns-in-None-2-clause-ok c =
    let begun : (c.args.reader.now ≡ Token.begin_array ∷ c.begin.new.reader) × (0 < c.args.depth) = grind arith in
    rw begun.0 (addr_says c.args.depth c.begin.new.reader _ _ begun.1 c.in_ok-id-in-None.ensures.ok ∙
    ap (λ id. Some (option_map Server id, c.id_items.new.reader)) c.in-None-2.is)
