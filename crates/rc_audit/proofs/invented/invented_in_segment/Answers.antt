use Rattle.std.proofs.Common.{sym, subst, arith}
use Rattle.rc_audit.specs.Recoveries.{accepted_of}
use Rattle.rc_audit.specs.Runs.{IsRun}
use Rattle.rc_audit.proofs.RunLemmas.{invented-none, invented-next}
use Rattle.rc_audit.proofs.invented.invented_in_segment.Goals as goal

pub returns-then-reach-run : goal.returns-then-reach-run
returns-then-reach-run c = λ sent known.
    let plan = accepted_of c.args.recovery.now in
    let run = subst (λ n. IsRun sent plan.master c.args.seg n) (sym c.run_of-run.ensures) (known plan.master c.args.seg) in
    sym (invented-none sent plan c.args.seg c.run_of-run.result c.args.reach run (omega arith))

pub returns : goal.returns
returns c = λ sent known.
    let plan = accepted_of c.args.recovery.now in
    let run = subst (λ n. IsRun sent plan.master c.args.seg n) (sym c.run_of-run.ensures) (known plan.master c.args.seg) in
    sym (invented-next sent plan c.args.seg c.run_of-run.result c.args.reach run (omega arith) (omega arith))
