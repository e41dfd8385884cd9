-- The job of a delivery.
use Rattle.std.proofs.Common.{◌≡◌, ℕ, ◌<◌, true, false, true≢false, None, is_some, inl, inr, refl, List, length}
use Rattle.std.proofs.Common.{Option, Some, slice_get, Result, Ok, Err, OnOk, sym, ap, subst, ◌∙◌}
use Rattle.std.proofs.lemmas.List.{append-nil}
use Rattle.std.proofs.lemmas.Option.{slice_get-get_or, slice_get_cases}
use Rattle.rc_types.specs.declared.events.Event.TheVariants as event
use Rattle.rc_model.specs.Model.{ServerId, Addr, Server, Outside, Message, coordinator_takes, HostNode, Deliver, host_step, World}
use Rattle.rc_model.specs.Model.{Job, is_possible, is_possible_job, delivery, job_of, node_of, job_done, coordinator_done, host_done}
use Rattle.rc_types.specs.declared.ids.Addr.TheVariants.{Coordinator}
use Rattle.rc_model.specs.Coordinator.{Coordinator as CoordinatorModel}
use Rattle.rc_world.specs.Lending.{nothing, message_at}

-- the node that the message is for takes it
pub job_at : (sent seen : List Message) (number : ℕ) (to : Addr) → number < length sent → seen ≡ sent → (message_at seen number).to ≡ to →
    job_of sent (event.Deliver number) ≡ Some (record { node = node_of to; work = Deliver (message_at sent number) })
job_at sent seen number to there same is =
    let addr : (message_at sent number).to ≡ to = subst (λ (xs : List Message). (message_at xs number).to ≡ to) same is in
    ap delivery (slice_get-get_or sent number nothing there)
    ∙ ap (λ (a : Addr). Some (record { node = node_of a; work = Deliver (message_at sent number) })) addr

-- what the coordinator does with it is the event's job
pub to_coordinator : (world : World) (seen : List Message) (number : ℕ) → number < length world.sent →
    seen ≡ world.sent → (message_at seen number).to ≡ Coordinator →
    job_done world (event.Deliver number) (job_of world.sent (event.Deliver number)) ≡
    coordinator_done world (event.Deliver number) (coordinator_takes world.coordinator (message_at world.sent number).from
    (message_at world.sent number).body)
to_coordinator world seen number there same is =
    ap (job_done world (event.Deliver number)) (job_at world.sent seen number Coordinator there same is)

-- what a host does with it is
pub to_server : (world : World) (seen : List Message) (number : ℕ) (id : ServerId) → number < length world.sent → seen ≡ world.sent →
    (message_at seen number).to ≡ Server id →
    job_done world (event.Deliver number) (job_of world.sent (event.Deliver number)) ≡
    host_done world (event.Deliver number) id.index (host_step (world.hosts id.index) (Deliver (message_at world.sent number)))
to_server world seen number id there same is =
    ap (job_done world (event.Deliver number)) (job_at world.sent seen number (Server id) there same is)

-- the outside does nothing
pub to_outside : (world : World) (seen : List Message) (number : ℕ) → number < length world.sent → seen ≡ world.sent →
    (message_at seen number).to ≡ Outside →
    world.sent ≡ (job_done world (event.Deliver number) (job_of world.sent (event.Deliver number))).sent
to_outside world seen number there same is =
    sym (ap (λ (job : Option Job). (job_done world (event.Deliver number) job).sent)
    (job_at world.sent seen number Outside there same is) ∙ append-nil world.sent)

-- a world's parts after an Ok, by one equation of worlds
pub hosts_then : {T E : Type 0} (r : Result T E) (hosts : ℕ → HostNode) (one other : World) → one ≡ other →
    OnOk r (hosts ≡ other.hosts) → OnOk r (hosts ≡ one.hosts)
hosts_then (Ok x) hosts one other same h = h ∙ sym (ap (λ (w : World). w.hosts) same)
hosts_then (Err e) hosts one other same h = h

pub coordinator_then : {T E : Type 0} (r : Result T E) (c : CoordinatorModel) (one other : World) → one ≡ other →
    OnOk r (c ≡ other.coordinator) → OnOk r (c ≡ one.coordinator)
coordinator_then (Ok x) c one other same h = h ∙ sym (ap (λ (w : World). w.coordinator) same)
coordinator_then (Err e) c one other same h = h

pub sent_then : {T E : Type 0} (r : Result T E) (sent : List Message) (one other : World) → one ≡ other →
    OnOk r (sent ≡ other.sent) → OnOk r (sent ≡ one.sent)
sent_then (Ok x) sent one other same h = h ∙ sym (ap (λ (w : World). w.sent) same)
sent_then (Err e) sent one other same h = h

by_sent : (world : World) (found : Option Message) → is_possible_job world (delivery found) ≡ true → is_some found ≡ true
by_sent world None possible = possible
by_sent world (Some message) possible = refl

none_not_some : (found : Option Message) → found ≡ None → is_some found ≡ true → ⊥
none_not_some found none some =
    let no : false ≡ true = subst (λ (o : Option Message). is_some o ≡ true) none some in absurd (true≢false (sym no))

-- only what was sent can be delivered
pub deliverable : (world : World) (number : ℕ) → is_possible world (event.Deliver number) ≡ true → number < length world.sent
deliverable world number possible =
    elim (slice_get_cases world.sent number).1 [
      | inl found ↦ found.1
      | inr past ↦ absurd (none_not_some (slice_get world.sent number) past.1 (by_sent world (slice_get world.sent number) possible))
    ]
