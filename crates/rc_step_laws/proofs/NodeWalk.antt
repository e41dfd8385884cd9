-- One walk over the steps of a world's nodes: what the coordinator takes moves it, and what each kind of a host's steps
-- keeps is kept by its whole steps.
use Rattle.std.proofs.Common.{arith}
use Rattle.std.proofs.Common.{◌≡◌, ℕ, true, List, [], ◌∷◌, Option, Some, None, refl, sym, ap, ◌∙◌, subst}
use Rattle.rc_model.specs.Model.{ServerId, Addr, Server, Outside, Event, Message, Body, put, is_server, to_coordinator, Backup}
use Rattle.rc_model.specs.Model.{backup_takes, Master, master_takes, master_ticks, NodeWork, Deliver, HostNode, coordinator_step, host_step}
use Rattle.rc_model.specs.Model.{server_of, is_for_backup, with_backup, with_master, server_takes, takes_if_running}
use Rattle.rc_model.specs.Model.{ticks_if_running, next_server, starts_host, World, NodeName, TheCoordinator, TheHost}
use Rattle.rc_model.specs.Model.{node_of, In}
use Rattle.rc_types.specs.declared.ids.Addr.TheVariants.{Coordinator as AtCoordinator}
use Rattle.rc_types.specs.declared.messages.Body.TheVariants as body
use Rattle.rc_model.specs.Coordinator.{Coordinator}
use Rattle.rc_model.specs.Nodes.{Tick, Stop, Start}
use Rattle.rc_step_laws.specs.Facts.{GoodMaster, Good}
use Rattle.rc_step_laws.specs.Moves.{OwnFine, MasterMoved, MayHear, CoordinatorMayHear, BackupMoved, CoordinatorMoved}
use Rattle.rc_step_laws.proofs.MasterSteps.{master_takes_keeps, master_ticks_keeps}
use Rattle.rc_step_laws.proofs.CoordinatorSteps.{moved-step}
use Rattle.rc_step_laws.proofs.Backups.{own-fine, moved-backup}
use Rattle.rc_model.proofs.Tables.{put-same}
use Rattle.rc_model.proofs.Ids.{same_id-true}
use Rattle.rc_model.proofs.Tests.{true_false, either}

-- all facts, of a world
abbrev pub GoodWorld : World → Type 0
GoodWorld world = Good world.sent world.masters world.hosts world.coordinator

-- The coordinator

-- what reaches the coordinator was sent to it
pub may-hear : (sent : List Message) (masters : ServerId → Master) (hosts : ℕ → HostNode) (c : Coordinator) →
    Good sent masters hosts c → (from : Addr) (says : Body) →
    In (record { from = from; to = AtCoordinator; body = says }) sent → CoordinatorMayHear sent from says
may-hear sent masters hosts c good (Server y) (body.Replicas number rows) at = at
may-hear sent masters hosts c good from _ at = tt

-- what a node is given was sent to it
abbrev pub IsGiven : List Message → NodeName → NodeWork → Type 0
IsGiven sent node (Deliver message) = In message sent × (node_of message.to ≡ node)
IsGiven sent node _ = Unit {0}

-- an address of the coordinator, and one of a host's server
pub to-coordinator-is : (to : Addr) → node_of to ≡ TheCoordinator → to ≡ AtCoordinator
to-coordinator-is (Server id) e = cc
to-coordinator-is AtCoordinator e = refl
to-coordinator-is Outside e = cc

-- what the coordinator takes was sent to it
pub taken-at : (sent : List Message) {work : NodeWork} → IsGiven sent TheCoordinator work → (message : Message) → work ≡ Deliver message →
    In (record { from = message.from; to = AtCoordinator; body = message.body }) sent
taken-at sent given message is =
    let taken : IsGiven sent TheCoordinator (Deliver message) = subst (IsGiven sent TheCoordinator) is given in
    subst (λ (to : Addr). In (record { from = message.from; to = to; body = message.body }) sent)
    (to-coordinator-is message.to taken.1) taken.0

-- so it moves
pub coordinator-moved : (world : World) (work : NodeWork) → GoodWorld world → IsGiven world.sent TheCoordinator work →
    CoordinatorMoved world.sent world.coordinator (coordinator_step world.coordinator work)
coordinator-moved world work good given = search (arith, moved-step, may-hear, taken-at)

-- Steps of a host

-- what has to hold of what each kind of step leaves, with what it sends
pub record HostWalked (world : World) (i : ℕ) (D : HostNode × List Message → Type 0) : Type 0 where
  pub still : D (world.hosts i, [])
  pub backs : (master : Master) → (world.hosts i).master ≡ Some master → (from : Addr) (says : Body) →
      In (record { from = from; to = Server (server_of (world.hosts i)); body = says }) world.sent →
      BackupMoved world.sent world.masters
      (put world.hosts i (record (world.hosts i) { backup = (backup_takes (world.hosts i).backup from says).0 }))
      world.coordinator (world.hosts i) (backup_takes (world.hosts i).backup from says) →
      D (with_backup (world.hosts i) (backup_takes (world.hosts i).backup from says))
  pub takes : (master : Master) → (world.hosts i).master ≡ Some master → (from : Addr) (says : Body) →
      In (record { from = from; to = Server (server_of (world.hosts i)); body = says }) world.sent →
      MasterMoved world.sent (server_of (world.hosts i)) master (master_takes master from says) →
      D (with_master (world.hosts i) (master_takes master from says))
  pub ticks : (master : Master) → (world.hosts i).master ≡ Some master →
      MasterMoved world.sent (server_of (world.hosts i)) master (master_ticks master) →
      D (with_master (world.hosts i) (master_ticks master))
  pub stops : D (record (world.hosts i) { master = None }, [])
  pub starts : (kept : List (ServerId × ℕ)) → D (starts_host (world.hosts i) (next_server (world.hosts i)) kept)

-- the same of what is sent alone
pub record HostSays (world : World) (i : ℕ) (P : List Message → Type 0) : Type 0 where
  pub none : P []
  pub backs : (after : Backup × List Message) →
      BackupMoved world.sent world.masters (put world.hosts i (record (world.hosts i) { backup = after.0 }))
      world.coordinator (world.hosts i) after → P after.1
  pub moves : (master : Master) (after : Master × List Message) →
      MasterMoved world.sent (server_of (world.hosts i)) master after → P after.1
  pub starts : P (to_coordinator (next_server (world.hosts i)) body.Enlist ∷ [])

host-says : {world : World} {i : ℕ} (P : List Message → Type 0) → HostSays world i P → HostWalked world i (λ after. P after.1)
host-says {world} {i} P says = record {
  still = says.none;
  backs = λ master e from heard at moved. says.backs (backup_takes (world.hosts i).backup from heard) moved;
  takes = λ master e from heard at moved. says.moves master (master_takes master from heard) moved;
  ticks = λ master e moved. says.moves master (master_ticks master) moved;
  stops = says.none;
  starts = λ kept. says.starts;
}

module _ (world : World) (one : Event) (i : ℕ) (good : GoodWorld world) where
  -- the master of a host, with what is known of it
  pub is-good : {master : Master} → (world.hosts i).master ≡ Some master → GoodMaster world.sent (server_of (world.hosts i)) master
  is-good {master} e = subst (GoodMaster world.sent (server_of (world.hosts i))) ((good.hosts_are i).runs master e)
      (good.masters_are (server_of (world.hosts i)))

  pub is-fine : {master : Master} → (world.hosts i).master ≡ Some master → OwnFine world.sent (server_of (world.hosts i)) master.log
  is-fine {master} e = subst (λ (one : Master). OwnFine world.sent (server_of (world.hosts i)) one.log)
      ((good.hosts_are i).runs master e) (own-fine good)

  -- what a master hears was sent to it
  pub hears : (from : Addr) (says : Body) →
      In (record { from = from; to = Server (server_of (world.hosts i)); body = says }) world.sent →
      MayHear world.sent (server_of (world.hosts i)) from says
  hears (Server x) (body.Stored s e len closed) at = at
  hears AtCoordinator (body.CommitOk s e) at = at
  hears (Server x) (body.CommitOk s e) at =
      absurd (good.messages (record {
        from = Server x;
        to = Server (server_of (world.hosts i));
        body = body.CommitOk s e;
      }) at)
  hears Outside (body.CommitOk s e) at =
      absurd (good.messages (record {
        from = Outside;
        to = Server (server_of (world.hosts i));
        body = body.CommitOk s e;
      }) at)
  hears from (body.List version rows) at =
      good.messages (record { from = from; to = Server (server_of (world.hosts i)); body = body.List version rows }) at
  hears from _ at = tt

  -- the test of an address
  pub is_server-true : {id : ServerId} (to : Addr) → is_server id to ≡ true → to ≡ Server id
  is_server-true {id} (Server other) e = ap Server (sym (same_id-true e))
  is_server-true AtCoordinator e = true_false (sym e)
  is_server-true Outside e = true_false (sym e)

  module _ (D : HostNode × List Message → Type 0) (w : HostWalked world i D) where
    walked-server : (master : Master) → (world.hosts i).master ≡ Some master → (message : Message) →
        In (record { from = message.from; to = Server (server_of (world.hosts i)); body = message.body }) world.sent →
        D (server_takes (world.hosts i) master message)
    walked-server master e message at =
        let now : ℕ → HostNode = put world.hosts i (record (world.hosts i)
        { backup = (backup_takes (world.hosts i).backup message.from message.body).0 }) in
        either D (is_for_backup message.body)
        (with_backup (world.hosts i) (backup_takes (world.hosts i).backup message.from message.body))
        (with_master (world.hosts i) (master_takes master message.from message.body))
        (λ _. w.backs master e message.from message.body at
        (moved-backup world.sent world.masters world.hosts now world.coordinator i message.from message.body good at
        (ap now (good.hosts_are i).index ∙ put-same world.hosts i)))
        (λ _. w.takes master e message.from message.body at
        (master_takes_keeps world.sent (server_of (world.hosts i)) master message.from message.body (is-good e)
        (is-fine e) (hears message.from message.body at)))

    walked-delivery : (found : Option Master) → (world.hosts i).master ≡ found → (message : Message) → In message world.sent →
        D (takes_if_running (world.hosts i) found message)
    walked-delivery None e message at = w.still
    walked-delivery (Some master) e message at =
        either D (is_server (server_of (world.hosts i)) message.to) (server_takes (world.hosts i) master message)
        (world.hosts i, []) (λ is. walked-server master e message
        (subst (λ (to : Addr). In (record { from = message.from; to = to; body = message.body }) world.sent)
        (is_server-true message.to is) at)) (λ _. w.still)

    walked-timer : (found : Option Master) → (world.hosts i).master ≡ found → D (ticks_if_running (world.hosts i) found)
    walked-timer None e = w.still
    walked-timer (Some master) e = w.ticks master e
        (master_ticks_keeps world.sent (server_of (world.hosts i)) master (is-good e) (is-fine e))

    pub walked-host : (work : NodeWork) → IsGiven world.sent (TheHost i) work → D (host_step (world.hosts i) work)
    walked-host (Deliver message) given = walked-delivery (world.hosts i).master refl message given.0
    walked-host Tick given = walked-timer (world.hosts i).master refl
    walked-host Stop given = w.stops
    walked-host (Start kept) given = w.starts kept
    walked-host _ given = w.still

  pub said-host : (P : List Message → Type 0) → HostSays world i P → (work : NodeWork) → IsGiven world.sent (TheHost i) work →
      P (host_step (world.hosts i) work).1
  said-host P says work given = walked-host (λ after. P after.1) (host-says P says) work given
