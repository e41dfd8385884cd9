use Rattle.rc_runs.specs.Stops.{decision_of}
use Rattle.rc_runs.proofs.Gathering.{begins, goes_on}
use Rattle.rc_runs.proofs.cutting.add_decisions_of.Goals as goal

pub loop-before-init : goal.loop-before-init
loop-before-init c = begins (decision_of c.args.host) c.args.scene.now.items

pub loop-before-preserved : goal.loop-before-preserved
loop-before-preserved c =
    goes_on (decision_of c.args.host) c.loop-before.before c.args.scene.now.items c.loop-before.scene.items c.push.new.self.items
    c.loop-before.invariant c.in_ok-push.ensures.items
