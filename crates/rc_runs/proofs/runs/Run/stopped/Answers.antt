use Rattle.std.proofs.Common.{◌≡◌, rules}
use Rattle.rc_world.specs.Happened.{replayed, with_events, AllHappen}
use Rattle.rc_world.specs.Stops.{stops_below}
use Rattle.rc_runs.proofs.Stopped.{holds_stopped}
use Rattle.rc_runs.proofs.runs.Run.stopped.Goals as goal

pub invariant_of-result : goal.invariant_of-result
invariant_of-result g c =
    let world = c.self.inside.world in
    let hosts = (replayed world).hosts in
    let gone_on : c.in-Some.world ≡ with_events world (stops_below hosts c.args.hosts) = search rules in
    let happen : AllHappen world (stops_below hosts c.args.hosts) = search rules in
    holds_stopped hosts c.args.hosts world c.in-Some.world c.self.inside.mail c.in_ok-mail-in-Some.mail c.self.invariant
    c.in_ok-mail-in-Some.ensures gone_on happen
