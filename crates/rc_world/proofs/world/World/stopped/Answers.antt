use Rattle.std.proofs.Common.{◌≡◌, ◌≤◌, ◌++◌, length, ap, subst, ◌∙◌, arith}
use Rattle.rc_types.specs.declared.limits.TheConstants.{MAX_EVENTS}
use Rattle.rc_world.specs.Happened.{replayed, AllHappen}
use Rattle.rc_world.specs.Stops.{stops_below}
use Rattle.rc_world.specs.WorldView.{hosts_in}
use Rattle.rc_world.proofs.StoppedHosts.{stopped-holds, stops-happen}
use Rattle.rc_world.proofs.world.World.stopped.Goals as goal

pub invariant_of-result : goal.invariant_of-result
invariant_of-result g c =
    let old = c.self.inside.nodes in
    let stops = stops_below (hosts_in old) c.args.hosts in
    let more : c.add_stops.new.events.items ≡ c.self.inside.events.items ++ stops =
    c.in_ok-add_stops.ensures ∙ ap (λ es. es ++ stops) (c.in_ok-events.ensures ∙ c.as_slice.ensures.value) in
    let few : length c.add_stops.new.events.items ≤ MAX_EVENTS = omega arith in
    stopped-holds old c.in_ok-nodes.nodes c.self.inside.sent.items c.in_ok-sent.sent.items c.self.inside.events.items
    c.add_stops.new.events.items c.args.hosts c.self.invariant c.in_ok-nodes.ensures.setup c.in_ok-nodes.ensures.hosts
    c.in_ok-nodes.ensures.coordinator (c.in_ok-sent.ensures ∙ c.as_slice-2.ensures.value) more
    (c.run_below.ensures c.if-not-run_below.false) few

pub returns-clause-possible : goal.returns-clause-possible
returns-clause-possible g c =
    let old = c.self.inside.nodes in
    let stops = stops_below (hosts_in old) c.args.hosts in
    let more : c.add_stops.new.events.items ≡ c.self.inside.events.items ++ stops =
    c.in_ok-add_stops.ensures ∙ ap (λ es. es ++ stops) (c.in_ok-events.ensures ∙ c.as_slice.ensures.value) in
    let few : length c.add_stops.new.events.items ≤ MAX_EVENTS = omega arith in
    subst (λ world. AllHappen world (stops_below (replayed world).hosts c.args.hosts)) c.self.view_is
    (stops-happen old c.self.inside.sent.items c.self.inside.events.items c.add_stops.new.events.items c.args.hosts
    c.self.invariant more few)
