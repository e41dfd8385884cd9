use Rattle.std.proofs.Common.{◌≡◌, ◌∙◌, Err, refl, ap}
use Rattle.rc_sim.specs.declared.verdicts.SimFault.TheVariants.{Write}
use Rattle.rc_sim.specs.declared.verdicts.Verdict.TheVariants.{Clean}
use Rattle.rc_sim.proofs.Written.{told_fault}
use Rattle.rc_sim.proofs.commanding.tell.Goals as goal

pub returns-in-Err-clause-cut_short : goal.returns-in-Err-clause-cut_short
returns-in-Err-clause-cut_short g c count same =
    let is : c.in-Err.fault ≡ Write count = ap told_fault same in
    let begun = c.write_all.ensures.err count (c.in-Err.is ∙ ap Err is) in
    (Clean, c.as_bytes.result.now, refl, begun.0, begun.1)
