use Rattle.std.proofs.Common.{arith}
use Rattle.rc_codec.proofs.Promises.{refuses_so}
use Rattle.rc_keeping.proofs.SealLaws.{sealed_law}
use Rattle.rc_keeping.proofs.seals.unseal.Goals as goal

pub returns-in-Ok-clause-opened : goal.returns-in-Ok-clause-opened
returns-in-Ok-clause-opened c = sealed_law.takes c.args.bytes.now c.in-Ok.found.0.now c.in-Ok.found.1.now
    (λ i. omega (arith, c.type_inv.bytes i)) c.in-Ok.ensures

pub returns-in-Err-clause-refused : goal.returns-in-Err-clause-refused
returns-in-Err-clause-refused c = refuses_so sealed_law c.args.bytes.now c.in-Err.fault c.in-Err.ensures
