use Rattle.std.proofs.Common.{◌≡◌, List, None, sym, subst, ◌∙◌}
use Rattle.rc_model.specs.Model.{Message, replay, breach, NothingIsDropped}
use Rattle.rc_step_laws.proofs.KeptWorlds.{nothing-is-dropped}
use Rattle.rc_owner_laws.proofs.VersionReplays.{there-is-no-breach}
use Rattle.rc_world.specs.Happened.{Happened}
use Rattle.rc_world.specs.Served.{IsServed}
use Rattle.rc_promises.specs.Linearizable.{IsLinearizable}
use Rattle.rc_promises.proofs.Linear.{linearized}
use Rattle.rc_world.proofs.Serving.{has-replicas, is-served}
use Rattle.rc_world.proofs.world.World.sent.Goals as goal

pub returns-clause-served : goal.returns-clause-served
returns-clause-served g c =
    let same : c.as_slice.result.now ≡ (replay c.self.inside.nodes.setup c.self.inside.events.items).sent =
    c.as_slice.ensures.value ∙ c.self.invariant.same.sent in
    let opened : Happened = record { setup = c.self.inside.nodes.setup; events = c.self.inside.events.items } in
    let inside : IsServed opened c.as_slice.result.now =
    subst (λ (sent : List Message). IsServed opened sent) (sym same)
    (is-served c.self.inside.nodes.setup c.self.inside.events.items c.self.invariant.limits) in
    rw c.self.view_is at inside

pub returns-clause-linearizable : goal.returns-clause-linearizable
returns-clause-linearizable g c =
    let same : c.as_slice.result.now ≡ (replay c.self.inside.nodes.setup c.self.inside.events.items).sent =
    c.as_slice.ensures.value ∙ c.self.invariant.same.sent in
    subst (λ (sent : List Message). IsLinearizable sent) (sym same)
    (linearized c.self.inside.nodes.setup c.self.inside.events.items (has-replicas c.self.inside.nodes.setup c.self.invariant.limits))

pub returns-clause-headline : goal.returns-clause-headline
returns-clause-headline g c =
    let same : c.as_slice.result.now ≡ (replay c.self.inside.nodes.setup c.self.inside.events.items).sent =
    c.as_slice.ensures.value ∙ c.self.invariant.same.sent in
    subst (λ (sent : List Message). breach sent ≡ None) (sym same) (there-is-no-breach c.self.inside.nodes.setup c.self.inside.events.items)

pub returns-clause-strong : goal.returns-clause-strong
returns-clause-strong g c =
    let same : c.as_slice.result.now ≡ (replay c.self.inside.nodes.setup c.self.inside.events.items).sent =
    c.as_slice.ensures.value ∙ c.self.invariant.same.sent in
    λ free. subst (λ (sent : List Message). NothingIsDropped sent) (sym same)
    (nothing-is-dropped c.self.inside.nodes.setup c.self.inside.events.items (rw (← c.self.view_is) at free))
