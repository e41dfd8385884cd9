use Rattle.std.proofs.Common.{arith}
use Rattle.rc_reading.specs.Values.{each}
use Rattle.rc_reading.proofs.Loops.{list_fails, list_says}
use Rattle.rc_reading.proofs.lists.read_list.Goals as goal

pub returns-in-None-clause-ok : goal.returns-in-None-clause-ok
returns-in-None-clause-ok g c =
    list_says c.args.depth c.args.reader.now c.begin.new.reader (grind arith) (each g.S.Items.takes c.args.start) _ c.read_items.result
    c.read_items.ensures.ok

pub returns-in-None-clause-bad : goal.returns-in-None-clause-bad
returns-in-None-clause-bad g c place is =
    let none = c.read_items.ensures.bad place is in
    (none.0, list_fails c.args.depth c.args.reader.now c.begin.new.reader (grind arith) none.1)
