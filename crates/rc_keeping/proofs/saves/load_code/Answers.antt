use Rattle.std.proofs.Common.{arith}
use Rattle.rc_keeping.proofs.SaveLaws.{node-of-code, codes-unsound, codes-refused}
use Rattle.rc_keeping.proofs.saves.load_code.Goals as goal

pub returns-in-Ok-node_from-clause-loaded : goal.returns-in-Ok-node_from-clause-loaded
returns-in-Ok-node_from-clause-loaded g c = node-of-code c.args.code.now c.in-Ok.read c.in-Ok-node_from.node
    (λ i. omega (arith, c.type_inv.code i)) c.in-Ok.ensures c.in-Ok-node_from.ensures.made c.in-Ok-node_from.ensures.its

pub returns-in-Err-node_from-clause-refused : goal.returns-in-Err-node_from-clause-refused
returns-in-Err-node_from-clause-refused g c = λ malformed.
    codes-unsound c.args.code.now c.in-Ok.read c.in-Ok.ensures (c.in-Err-node_from.ensures.refused malformed)

pub returns-in-Err-clause-refused : goal.returns-in-Err-clause-refused
returns-in-Err-clause-refused g c = codes-refused c.args.code.now c.in-Err.fault c.in-Err.ensures
