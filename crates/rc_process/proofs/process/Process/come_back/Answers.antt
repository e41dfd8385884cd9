use Rattle.std.proofs.Common.{◌≡◌, ap, Err}
use Rattle.rc_process.specs.declared.faults.BackFault.{BackFault}
use Rattle.rc_process.specs.declared.faults.BackFault.TheVariants.{NoSave}
use Rattle.rc_process.specs.View.{process_seen}
use Rattle.rc_process.proofs.Again.{stopped_out}
use Rattle.rc_process.proofs.process.Process.come_back.Goals as goal

pub returns-in-Err-clause-none : goal.returns-in-Err-clause-none
returns-in-Err-clause-none g c = λ h.
    let e : c.in-Err.fault ≡ NoSave = cc in c.in-Err.ensures.none (ap (λ (f : BackFault). Err f) e)

pub returns-in-Err-NoRoom-clause-full : goal.returns-in-Err-NoRoom-clause-full
returns-in-Err-NoRoom-clause-full g c = λ _.
    stopped_out c.args.file.now (process_seen c.in-Ok.process) c.in-Ok.ensures.back
    (c.in-Err-NoRoom.ensures.full (ap Err c.in-Err-NoRoom.field-0-is))
