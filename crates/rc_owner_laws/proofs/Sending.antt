-- What a backup has told, its master has sent it: each place below the length of a Stored is made.
use Rattle.std.proofs.Common.{◌≡◌, ◌⊎◌, ℕ, ◌<◌, Bool, List, [], ◌∷◌, ◌++◌, Option, Some, None, refl, ap, inl, inr, arith}
use Rattle.rc_model.specs.Model.{ServerId, Addr, Server, Outside, Entry, Setup, Event, Message, Stored, Enlist, put, between}
use Rattle.rc_model.specs.Model.{to_coordinator, Backup, Master, NodeWork, HostNode, outside_sends, coordinator_step, server_of}
use Rattle.rc_model.specs.Model.{host_step, World, opening, NodeName, TheOutside, TheCoordinator, TheHost, Job, is_possible, job_of}
use Rattle.rc_model.specs.Model.{node_done, job_done, step, replay_from, replay, In, HasMade}
use Rattle.rc_types.specs.declared.ids.Addr.TheVariants.{Coordinator as AtCoordinator}
use Rattle.rc_model.specs.Nodes.{Ask}
use Rattle.rc_model.proofs.Members.{In-append, In-left}
use Rattle.rc_step_laws.specs.All.{StillStands, MasterMoved, BackupMoved, stored_said}
use Rattle.rc_step_laws.proofs.NodeWalk.{said-host}
use Rattle.rc_step_laws.proofs.Replays.{GoodWorld, IsGiven, coordinator-moved}
use Rattle.rc_step_laws.proofs.Replays.{job_of-given, good-step, good-opening}
use Rattle.rc_model.proofs.Tests.{either}

-- the master has sent an entry for the place
abbrev pub IsSent : List Message → ServerId → ℕ → ℕ → Type 0
IsSent sent m s o = (entry : Entry) × HasMade sent m s o entry

-- of these messages each Stored tells only places that were sent
abbrev pub TellsSent : List Message → List Message → Type 0
TellsSent messages sent =
    (x m : ServerId) (s e len : ℕ) (closed : Bool) → In (between x m (Stored s e len closed)) messages → (o : ℕ) →
    o < len → IsSent sent m s o

-- Lists

made-more : {sent : List Message} (messages : List Message) {m : ServerId} {s o : ℕ} {entry : Entry} → HasMade sent m s o entry →
    HasMade (sent ++ messages) m s o entry
made-more {sent} messages p =
    record { message = p.message; among = In-left p.message sent messages p.among; from = p.from; holds = p.holds }

joined : (sent messages : List Message) → TellsSent sent sent → TellsSent messages (sent ++ messages) →
    TellsSent (sent ++ messages) (sent ++ messages)
joined sent messages old new x m s e len closed at o less = by (In-append (between x m (Stored s e len closed)) sent messages at)
  where
    more : IsSent sent m s o → IsSent (sent ++ messages) m s o
    more p = (p.0, made-more messages p.1)

    by : In (between x m (Stored s e len closed)) sent ⊎ In (between x m (Stored s e len closed)) messages → IsSent (sent ++ messages) m s o
    by (inl before) = more (old x m s e len closed before o less)
    by (inr now) = new x m s e len closed now o less

-- Who tells nothing

abbrev AllFrom : Addr → List Message → Type 0
AllFrom from messages = (message : Message) → In message messages → message.from ≡ from

by-coordinator : (messages sent : List Message) → AllFrom AtCoordinator messages → TellsSent messages sent
by-coordinator messages sent from x m s e len closed at o less = search arith

by-outside : (messages sent : List Message) → AllFrom Outside messages → TellsSent messages sent
by-outside messages sent from x m s e len closed at o less = search arith

of-outside : (work : NodeWork) → AllFrom Outside (outside_sends work)
of-outside (Ask to asked) message (inl same) = ap (λ (one : Message). one.from) same
of-outside (Ask to asked) message (inr never) = absurd never
of-outside _ message at = absurd at

-- A node's step

abbrev NodeTells : World → List Message → Type 0
NodeTells world messages = TellsSent messages (world.sent ++ messages)

none-tells : (world : World) → NodeTells world []
none-tells world x m s e len closed at o less = absurd at

by-backup : (world : World) (hosts : ℕ → HostNode) (host : HostNode) (after : Backup × List Message) →
    BackupMoved world.sent world.masters hosts world.coordinator host after → NodeTells world after.1
by-backup world hosts host after moved x m s e len closed at o less =
    let said : stored_said (world.sent ++ after.1) world.masters host after.0 (Server m) s e len closed =
    moved.says (between x m (Stored s e len closed)) at in
    let stands : StillStands (after.0.held m) s e len closed = said.1.0 in
    let enough = stands.enough in
    let found = ((moved.held m).each s stands.replica stands.kept).copy.made o (omega (arith, less, enough)) in
    (found.0, found.2)

by-master : (world : World) (m : ServerId) (old : Master) (after : Master × List Message) →
    MasterMoved world.sent m old after → NodeTells world after.1
by-master world own old after moved x m s e len closed at o less = absurd (moved.says (between x m (Stored s e len closed)) at).says

starts-tells : (world : World) {own : ServerId} → NodeTells world (to_coordinator own Enlist ∷ [])
starts-tells world x m s e len closed (inl same) o less =
    let bodies : Stored s e len closed ≡ Enlist = ap (λ (message : Message). message.body) same in cc
starts-tells world x m s e len closed (inr never) o less = absurd never

host-tells : (world : World) (one : Event) (i : ℕ) → GoodWorld world → (work : NodeWork) → IsGiven world.sent (TheHost i) work →
    NodeTells world (host_step (world.hosts i) work).1
host-tells world one i good work given = said-host world one i good (NodeTells world) (record {
  none = none-tells world;
  backs = λ after moved. by-backup world (put world.hosts i (record (world.hosts i) { backup = after.0 })) (world.hosts i) after moved;
  moves = λ master after moved. by-master world (server_of (world.hosts i)) master after moved;
  starts = starts-tells world;
}) work given

coordinator-tells : (world : World) (work : NodeWork) → GoodWorld world → IsGiven world.sent TheCoordinator work →
    NodeTells world (coordinator_step world.coordinator work).1
coordinator-tells world work good given = by-coordinator (coordinator_step world.coordinator work).1
    (world.sent ++ (coordinator_step world.coordinator work).1) (coordinator-moved world work good given).from

-- Every world

abbrev AllTold : World → Type 0
AllTold world = TellsSent world.sent world.sent

node-told : (world : World) (one : Event) (node : NodeName) (work : NodeWork) → GoodWorld world →
    IsGiven world.sent node work → AllTold world → AllTold (node_done world one node work)
node-told world one TheOutside work good given told = joined world.sent (outside_sends work) told
    (by-outside (outside_sends work) (world.sent ++ outside_sends work) (of-outside work))
node-told world one TheCoordinator work good given told =
    joined world.sent (coordinator_step world.coordinator work).1 told (coordinator-tells world work good given)
node-told world one (TheHost i) work good given told =
    joined world.sent (host_step (world.hosts i) work).1 told (host-tells world one i good work given)

job-told : (world : World) (one : Event) (found : Option Job) → job_of world.sent one ≡ found → GoodWorld world →
    AllTold world → AllTold (job_done world one found)
job-told world one None is good told = told
job-told world one (Some job) is good told = node-told world one job.node job.work good (job_of-given world.sent one is) told

step-told : (world : World) (one : Event) → GoodWorld world → AllTold world → AllTold (step world one)
step-told world one good told =
    either AllTold (is_possible world one) (job_done world one (job_of world.sent one)) world
    (λ _. job-told world one (job_of world.sent one) refl good told) (λ _. told)

replay-told : (world : World) (events : List Event) → GoodWorld world → AllTold world → AllTold (replay_from world events)
replay-told world [] good told = told
replay-told world (one ∷ events) good told = replay-told (step world one) events (good-step world one good) (step-told world one good told)

-- after every list of events
pub told-is-sent : (setup : Setup) (events : List Event) → TellsSent (replay setup events).sent (replay setup events).sent
told-is-sent setup events = replay-told (opening setup) events (good-opening setup) (λ x m s e len closed at o less. absurd at)
