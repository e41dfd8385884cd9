use Rattle.std.proofs.Common.{arith}
use Rattle.rc_keeping.proofs.WorkLaws.{coded_work_law}
use Rattle.rc_codec.proofs.Promises.{is_shorter, front_is, decodes_front, fails_so, refuses_so}
use Rattle.rc_keeping.proofs.works.decode_work.Goals as goal

pub overflow_sub-result : goal.overflow_sub-result
overflow_sub-result c = is_shorter coded_work_law c.args.bytes.now c.in-Ok.work c.in-Ok.rest.now
    (λ i. omega (arith, c.type_inv.bytes i)) c.in-Ok.ensures

pub returns-in-Ok-clause-decoded : goal.returns-in-Ok-clause-decoded
returns-in-Ok-clause-decoded c = front_is coded_work_law c.args.bytes.now c.in-Ok.work c.in-Ok.rest.now
    (λ i. omega (arith, c.type_inv.bytes i)) c.in-Ok.ensures

pub returns-in-Ok-clause-again : goal.returns-in-Ok-clause-again
returns-in-Ok-clause-again c = decodes_front coded_work_law c.args.bytes.now c.in-Ok.work c.in-Ok.rest.now
    (λ i. omega (arith, c.type_inv.bytes i)) c.in-Ok.ensures

pub returns-in-Err-clause-again : goal.returns-in-Err-clause-again
returns-in-Err-clause-again c = fails_so coded_work_law c.args.bytes.now c.in-Err.fault c.in-Err.ensures

pub returns-in-Err-clause-refused : goal.returns-in-Err-clause-refused
returns-in-Err-clause-refused c = refuses_so coded_work_law c.args.bytes.now c.in-Err.fault c.in-Err.ensures
