-- What a server keeps of a master that it has fenced stays as it is.
use Rattle.std.proofs.Common.{◌≡◌, ℕ, ◌≤◌, true, List, [], ◌∷◌, Option, Some, None, refl, sym, subst, arith}
use Rattle.rc_model.specs.Model.{Event, Message, is_server, Backup, backup_takes, Master, master_takes, master_ticks, NodeWork}
use Rattle.rc_model.specs.Model.{Deliver, HostNode, server_of, host_step, is_for_backup, with_backup, with_master, server_takes}
use Rattle.rc_model.specs.Model.{takes_if_running, ticks_if_running, World, opening, NodeName, TheOutside, TheCoordinator, TheHost, Job}
use Rattle.rc_model.specs.Model.{node_done, job_done, step, replay_from, replay}
use Rattle.rc_model.specs.Nodes.{Tick, Stop, Start}
use Rattle.rc_model.proofs.Storing.{AllFencedStay, fenced-stay}
use Rattle.rc_step_laws.proofs.Replays.{good-world}
use Rattle.rc_step_laws.specs.LogClaims.{AnsweredReplicasStay}
use Rattle.rc_step_laws.proofs.Since.{replay_from-append}
use Rattle.rc_step_laws.proofs.Fencing.{answer-about}
use Rattle.rc_model.proofs.Tests.{either}
use Rattle.rc_model.proofs.Tables.{put_each}

-- a host later: as long as its generation stays, what it has fenced stays
pub record StaysFenced (old new : HostNode) : Type 0 where
  pub generation : old.generation ≤ new.generation
  pub kept : new.generation ≡ old.generation → AllFencedStay old.backup new.backup

stays-same : {old new : HostNode} → new.generation ≡ old.generation → new.backup ≡ old.backup → StaysFenced old new
stays-same {old} generation backup = search arith

stays-still : {host : HostNode} → StaysFenced host host
stays-still = stays-same refl refl

stays-then : {old middle new : HostNode} → StaysFenced old middle → StaysFenced middle new → StaysFenced old new
stays-then {old} {middle} {new} p q = search arith

-- A host's step

stays-backup : {host : HostNode} (after : Backup × List Message) → AllFencedStay host.backup after.0 →
    StaysFenced host (with_backup host after).0
stays-backup (backup, messages) p = record { generation = omega arith; kept = λ _. p }

stays-master : {host : HostNode} (after : Master × List Message) → StaysFenced host (with_master host after).0
stays-master (master, messages) = stays-same refl refl

stays-takes : {host : HostNode} (found : Option Master) (message : Message) → StaysFenced host (takes_if_running host found message).0
stays-takes None message = stays-still
stays-takes {host} (Some master) message =
    either (λ (after : HostNode × List Message). StaysFenced host after.0) (is_server (server_of host) message.to)
    (server_takes host master message) (host, [])
    (λ _. either (λ (after : HostNode × List Message). StaysFenced host after.0) (is_for_backup message.body)
    (with_backup host (backup_takes host.backup message.from message.body))
    (with_master host (master_takes master message.from message.body))
    (λ _. stays-backup (backup_takes host.backup message.from message.body) (fenced-stay host.backup message.from message.body))
    (λ _. stays-master (master_takes master message.from message.body))) (λ _. stays-still)

stays-ticks : {host : HostNode} (found : Option Master) → StaysFenced host (ticks_if_running host found).0
stays-ticks None = stays-still
stays-ticks (Some master) = stays-master (master_ticks master)

stays-host : {host : HostNode} (work : NodeWork) → StaysFenced host (host_step host work).0
stays-host {host} (Deliver message) = stays-takes host.master message
stays-host {host} Tick = stays-ticks host.master
stays-host Stop = stays-same refl refl
stays-host (Start kept) = record { generation = omega arith; kept = λ same. absurd (omega (arith, same)) }
stays-host _ = stays-still

-- A world

stays-node : (world : World) (one : Event) (node : NodeName) (work : NodeWork) {i : ℕ} →
    StaysFenced (world.hosts i) ((node_done world one node work).hosts i)
stays-node world one TheOutside work = stays-still
stays-node world one TheCoordinator work = stays-still
stays-node world one (TheHost index) work {i} =
    put_each (λ k (host : HostNode). StaysFenced (world.hosts k) host) world.hosts index
    (host_step (world.hosts index) work).0 (stays-host work) (λ k. stays-still)
    i

stays-job : (world : World) (one : Event) (found : Option Job) {i : ℕ} → StaysFenced (world.hosts i) ((job_done world one found).hosts i)
stays-job world one None = stays-still
stays-job world one (Some job) = stays-node world one job.node job.work

pub stays-step : (world : World) (one : Event) {i : ℕ} → StaysFenced (world.hosts i) ((step world one).hosts i)
stays-step world one {i} = search (arith, stays-job, stays-still)

stays-from : (world : World) (events : List Event) {i : ℕ} → StaysFenced (world.hosts i) ((replay_from world events).hosts i)
stays-from world [] = stays-still
stays-from world (one ∷ events) = stays-then (stays-step world one) (stays-from (step world one) events)

-- what it keeps of a master stays once it has answered
pub fenced-replicas-stay : AnsweredReplicasStay
fenced-replicas-stay setup events more y m number rows asked at same = subst (λ (world : World).
    ((world.hosts y.index).backup.held m).replicas ≡ (((replay setup events).hosts y.index).backup.held m).replicas)
    (sym (replay_from-append (opening setup) events more))
    (later.kept (omega (arith, now, known.0, later.generation)) m (known.1 (omega (arith, now, known.0, later.generation)))).1
  where
    known : (y.generation ≤ ((replay setup events).hosts y.index).generation)
        × (y.generation ≡ ((replay setup events).hosts y.index).generation →
        (((replay setup events).hosts y.index).backup.held m).fenced ≡ true)
    known = answer-about (replay setup events) y m number rows (good-world setup events) asked at

    later : StaysFenced ((replay setup events).hosts y.index) ((replay_from (replay setup events) more).hosts y.index)
    later = stays-from (replay setup events) more

    now : y.generation ≡ ((replay_from (replay setup events) more).hosts y.index).generation
    now = subst (λ (world : World). y.generation ≡ (world.hosts y.index).generation) (replay_from-append (opening setup) events more) same
