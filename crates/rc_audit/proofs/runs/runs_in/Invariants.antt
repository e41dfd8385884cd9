use Rattle.rc_audit.proofs.RunLemmas.{RunsSoFar}
use Rattle.rc_audit.proofs.runs.runs_in.Given as goal

abbrev pub invariant-loop-place : goal.invariant-loop-place
invariant-loop-place l = RunsSoFar l.runs l.evidence.messages.now l.place-iterator
