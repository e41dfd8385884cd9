use Rattle.std.proofs.Common.{subst, sym}
use Rattle.rc_audit.proofs.RunLemmas.{RunsSoFar, runs_begin, runs_more}
use Rattle.rc_audit.proofs.runs.runs_in.Goals as goal

pub loop-place-init : goal.loop-place-init
loop-place-init c =
    subst (RunsSoFar c.new-runs.result c.args.evidence.now.messages.now) (sym c.into_iter-place-iterator.ensures.into_iter_gives)
    (runs_begin c.new-runs.result c.args.evidence.now.made c.args.evidence.now.messages.now c.keys-place-items.result
    c.new-runs.ensures.empty c.args.evidence.now.indexed c.keys-place-items.ensures.has)

pub loop-place-preserved-in_ok-insert : goal.loop-place-preserved-in_ok-insert
loop-place-preserved-in_ok-insert c =
    runs_more c.loop-place.runs c.insert.new.self c.args.evidence.now.messages.now c.in-Some.place.now c.next.new.self
    c.count_run-run.result
    (subst (RunsSoFar c.loop-place.runs c.args.evidence.now.messages.now) c.in-Some.ensures.steps
    c.loop-place.invariant) c.count_run-run.ensures c.in_ok-insert.ensures.updates.0
