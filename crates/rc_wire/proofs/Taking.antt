-- Whether a node can be given a work is whether the work's event is possible, and its own.
use Rattle.std.proofs.Common.{◌≡◌, ℕ, Bool, true, false, ◌&&◌, nat_eq, refl, sym, ap, ◌∙◌, subst}
use Rattle.std.proofs.lemmas.Bool.{eq-eqb}
use Rattle.rc_types.specs.declared.events.Event.TheVariants as event
use Rattle.rc_model.specs.Ids.{same_id}
use Rattle.rc_model.specs.Model.{HostNode, host_can, runs, server_of, World, NodeName, TheOutside, TheCoordinator, TheHost, is_possible}
use Rattle.rc_model.proofs.Ids.{same_id-refl}
use Rattle.rc_history.specs.Nodes.{name_of, node_in, event_of, node_can}
use Rattle.rc_history.specs.Nodes as apart
use Rattle.rc_history.specs.Events.{takes}
use Rattle.rc_types.specs.declared.events.NodeWork.{NodeWork}
use Rattle.rc_types.specs.declared.events.NodeWork.TheVariants as work
use Rattle.rc_wire.specs.Given.{is_delivery}

and-true : (b : Bool) → (b && true) ≡ b
and-true true = refl
and-true false = refl

and-false : (b : Bool) → (b && false) ≡ false
and-false true = refl
and-false false = refl

twice : (b : Bool) → ((b && true) && b) ≡ b
twice true = refl
twice false = refl

-- the server that an event names is the host's own
host-named : (world : World) (index i : ℕ) → i ≡ index →
    (((runs (world.hosts i) && same_id (server_of (world.hosts i)) (server_of (world.hosts index))) && runs (world.hosts i))
    && nat_eq i index) ≡ runs (world.hosts index)
host-named world index i is =
    let host : HostNode = world.hosts index in
    subst (λ (j : ℕ). (((runs (world.hosts j) && same_id (server_of (world.hosts j)) (server_of host)) && runs (world.hosts j))
    && nat_eq j index) ≡ runs host) (sym is)
    (ap (λ b. ((runs host && same_id (server_of host) (server_of host)) && runs host) && b) (eq-eqb index index refl)
    ∙ (and-true ((runs host && same_id (server_of host) (server_of host)) && runs host)
    ∙ (ap (λ b. (runs host && b) && runs host) (same_id-refl (server_of host)) ∙ twice (runs host))))

-- what is for the host of this index is for this host
host-own : (world : World) (index i : ℕ) (given : NodeWork) → i ≡ index →
    (host_can (world.hosts i) given && nat_eq i index) ≡ host_can (world.hosts index) given
host-own world index i given is =
    subst (λ (j : ℕ). (host_can (world.hosts j) given && nat_eq j index) ≡ host_can (world.hosts index) given) (sym is)
    (ap (λ b. host_can (world.hosts index) given && b) (eq-eqb index index refl) ∙ and-true (host_can (world.hosts index) given))

pub own-index : (world : World) (index : ℕ) → name_of (node_in world (TheHost index)) ≡ TheHost index → (world.hosts index).index ≡ index
own-index world index named = cc

-- a work that is no delivery
pub takes-given : (world : World) (name : NodeName) (number : ℕ) (given : NodeWork) → name_of (node_in world name) ≡ name →
    is_delivery given ≡ false → takes name world (event_of (node_in world name) number given) ≡ node_can (node_in world name) given
takes-given world name number (work.Deliver message) named is = cc
takes-given world TheOutside number (work.Ask to body) named is = and-true (node_can apart.TheOutside (work.Ask to body))
takes-given world TheOutside number work.Stop named is = and-false (is_possible world (event_of apart.TheOutside number work.Stop))
takes-given world TheOutside number (work.Start kept) named is = and-false
    (is_possible world (event_of apart.TheOutside number (work.Start kept)))
takes-given world TheOutside number _ named is = refl
takes-given world TheCoordinator number (work.Ask to body) named is = and-false (is_possible world (event.Ask to body))
takes-given world TheCoordinator number work.Stop named is =
    and-false (is_possible world (event_of (node_in world TheCoordinator) number work.Stop))
takes-given world TheCoordinator number (work.Start kept) named is =
    and-false (is_possible world (event_of (node_in world TheCoordinator) number (work.Start kept)))
takes-given world TheCoordinator number _ named is = refl
takes-given world (TheHost index) number (work.Ask to body) named is = and-false (is_possible world (event.Ask to body))
takes-given world (TheHost index) number work.Tick named is =
    host-named world index (world.hosts index).index (own-index world index named)
takes-given world (TheHost index) number work.Stop named is =
    host-named world index (world.hosts index).index (own-index world index named)
takes-given world (TheHost index) number (work.Start kept) named is =
    host-own world index (world.hosts index).index (work.Start kept) (own-index world index named)
takes-given world (TheHost index) number _ named is = refl
