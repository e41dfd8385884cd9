use Rattle.std.proofs.Common.{sym, ◌∙◌}
use Rattle.rc_coordinator.proofs.ListLemmas.{servers-are, no-servers}
use Rattle.rc_coordinator.proofs.making.servers_of.Goals as goal

pub returns-then-len-rows-clause-refused : goal.returns-then-len-rows-clause-refused
returns-then-len-rows-clause-refused c = λ _.
    no-servers c.args.version c.args.rows.now c.in-Ok.servers c.in-Ok.ensures (λ long. c.if-len-rows.true (c.len.ensures ∙ long))

pub returns-clause-ok : goal.returns-clause-ok
returns-clause-ok c =
    servers-are c.args.version c.args.rows.now c.in-Ok.servers c.in-Ok.ensures (sym c.len.ensures ∙ c.if-len-rows.false)
