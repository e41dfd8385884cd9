use Rattle.std.proofs.Common.{arith}
use Rattle.rc_world.specs.NodeView.{node_seen}
use Rattle.std.proofs.Common.{ap, ◌∙◌}
use Rattle.std.specs.Prelude.{Err}
use Rattle.std.proofs.lemmas.Result.{err_from_is_err_and}
use Rattle.rc_process.proofs.Again.{one_more, runs_out}
use Rattle.rc_process.proofs.coming_back.replay.Goals as goal

pub loop-work-preserved : goal.loop-work-preserved
loop-work-preserved g c =
    one_more (node_seen c.args.node) (node_seen c.loop-work.node) (node_seen c.take_again.new.node) c.args.works.now c.loop-work.work-index
    c.work-item.result (omega arith) c.work-item.is c.loop-work.invariant c.in_ok-take_again.ensures.next

pub returns-in_err-take_again-clause-full : goal.returns-in_err-take_again-clause-full
returns-in_err-take_again-clause-full g c =
    let p = err_from_is_err_and c.from_residual.result c.from_residual.ensures.1 in
    runs_out c.from_residual.result c.in_err-take_again.field-0.0 (node_seen c.args.node) (node_seen c.loop-work.node) c.args.works.now
    c.loop-work.work-index (p.1 ∙ ap Err p.2) c.in_err-take_again.ensures.full c.loop-work.invariant (omega arith)
