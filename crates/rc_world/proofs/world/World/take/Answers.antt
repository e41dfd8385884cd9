use Rattle.std.proofs.Common.{◌≡◌, ◌<◌, ◌++◌, ◌∷◌, [], length, refl, sym, ◌∙◌, arith}
use Rattle.rc_types.specs.declared.limits.TheConstants.{MAX_EVENTS}
use Rattle.rc_world.specs.WorldView.{world_of}
use Rattle.rc_world.proofs.Rooms.{has_room}
use Rattle.rc_world.proofs.Holding.{holds_on}
use Rattle.rc_world.proofs.world.World.take.Goals as goal

pub take-requires-clause-room : goal.take-requires-clause-room
take-requires-clause-room g c =
    has_room c.self.inside.nodes.setup c.self.inside.events.items (world_of c.self.inside.nodes c.self.inside.sent.items)
    c.self.invariant.same c.self.invariant.few

pub invariant_of-self-2 : goal.invariant_of-self-2
invariant_of-self-2 g c =
    let few : length c.self.inside.events.items < MAX_EVENTS = omega arith in
    let pushed : c.push.new.self.items ≡ c.self.inside.events.items ++ c.args.event.now ∷ [] =
    rw (c.push.ensures.items, c.unwrap.ensures, c.in_ok-reserve.ensures.items, c.in_ok-copy.ensures) refl in
    rw pushed
    (holds_on c.self.inside.nodes c.take.new.self c.self.inside.sent.items c.as_slice.result.now c.take.new.sent.items
    c.self.inside.events.items c.args.event.now
    c.self.invariant few c.as_slice.ensures.value (sym c.is_possible.ensures ∙ c.if-not-is_possible.false)
    c.in_ok-take.ensures.setup c.in_ok-take.ensures.hosts c.in_ok-take.ensures.coordinator c.in_ok-take.ensures.sends)
