use Rattle.std.proofs.Common.{◌≡◌, ◌∙◌, ◌<◌, ℕ, List, length, take, Err, ap, subst}
use Rattle.std.specs.Io.KnownBytes.{Appends}
use Rattle.rc_sim.specs.declared.verdicts.SimFault.TheVariants.{Write}
use Rattle.rc_sim.proofs.Written.{told_fault}
use Rattle.rc_sim.proofs.simulating.write_answer.Goals as goal

pub returns-in-Err-clause-cut_short : goal.returns-in-Err-clause-cut_short
returns-in-Err-clause-cut_short g c count same =
    let is : c.in-Err.fault ≡ Write count = ap told_fault same in
    subst (λ (t : List ℕ). (count < length t) × Appends (g.W.Write.contents c.args.writer.now.inner)
    (g.W.Write.contents c.write_all.new.writer.inner) (take count t))
    c.as_bytes.ensures.value (c.write_all.ensures.err count (c.in-Err.is ∙ ap Err is))
