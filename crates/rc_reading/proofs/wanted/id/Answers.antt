use Rattle.std.proofs.Common.{arith}
use Rattle.std.proofs.lemmas.Result.{on_err_weaker}
use Rattle.rc_reading.specs.Values.{id_in}
use Rattle.rc_reading.proofs.Loops.{list_fails, list_says}
use Rattle.rc_reading.proofs.wanted.id.Goals as goal

pub returns-in-None-clause-ok : goal.returns-in-None-clause-ok
returns-in-None-clause-ok c =
    list_says c.args.depth c.args.reader.now c.begin.new.reader (grind arith) id_in _ c.id_items.result c.id_items.ensures.ok

pub returns-in-None-clause-err : goal.returns-in-None-clause-err
returns-in-None-clause-err c =
    on_err_weaker c.id_items.result (list_fails c.args.depth c.args.reader.now c.begin.new.reader (grind arith)) c.id_items.ensures.err
