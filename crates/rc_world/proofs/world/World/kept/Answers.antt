use Rattle.rc_world.proofs.Keeping.{keeps-logs, keeps-owners, keeps-writes}
use Rattle.rc_world.specs.Happened.{Happened}
use Rattle.rc_world.specs.Kept.{KeepsWrites}
use Rattle.rc_world.proofs.world.World.kept.Goals as goal

pub returns-clause-logs : goal.returns-clause-logs
returns-clause-logs g c = keeps-logs _

pub returns-clause-owners : goal.returns-clause-owners
returns-clause-owners g c = keeps-owners _

pub returns-clause-writes : goal.returns-clause-writes
returns-clause-writes g c =
    let opened : Happened = record { setup = c.self.inside.nodes.setup; events = c.self.inside.events.items } in
    let inside : KeepsWrites opened = keeps-writes opened c.self.invariant.limits in
    rw c.self.view_is at inside
