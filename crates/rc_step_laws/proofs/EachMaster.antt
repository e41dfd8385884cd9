-- A walk over the events of a world: what the own steps of masters keep of each of them holds in every world.
use Rattle.std.proofs.Common.{◌≡◌, ℕ, Bool, true, false, List, [], ◌∷◌, ◌++◌, Option, Some}
use Rattle.std.proofs.Common.{None, refl, sym, ap, ◌∙◌, subst, inl, inr, arith}
use Rattle.rc_model.specs.Model.{ServerId, Addr, Server, Outside, Setup, Event, Message, Body}
use Rattle.rc_model.specs.Model.{Data, Stored, Replicas, Enlist, same_id, to_coordinator}
use Rattle.rc_model.specs.Model.{Backup, backup_takes}
use Rattle.rc_model.specs.Model.{Master, new_master, master_takes, master_ticks, NodeWork}
use Rattle.rc_model.specs.Model.{HostNode, master_setup, outside_sends, coordinator_step, server_of, host_step}
use Rattle.rc_model.specs.Model.{with_backup, with_master, starts_host, next_server}
use Rattle.rc_model.specs.Model.{World, opening, NodeName, TheOutside, TheCoordinator, TheHost, Job, job_of, with_last_view}
use Rattle.rc_model.specs.Model.{node_done, job_done, step, replay_from, replay, In}
use Rattle.rc_types.specs.declared.ids.Addr.TheVariants.{Coordinator as AtCoordinator}
use Rattle.rc_model.specs.Nodes.{Ask}
use Rattle.rc_step_laws.specs.All.{GoodMaster, GoodHost, MasterMoved}
use Rattle.rc_step_laws.proofs.NodeWalk.{walked-host}
use Rattle.rc_step_laws.proofs.Replays.{GoodWorld, IsGiven, is-good, job_of-given}
use Rattle.rc_step_laws.proofs.Replays.{coordinator-moved, good-step, good-opening}
use Rattle.rc_model.proofs.Sending.{Each, each-none, each-one}
use Rattle.rc_model.proofs.Telling.{each-told}
use Rattle.rc_model.proofs.Ids.{same_id-true, same_id-refl, server-same}
use Rattle.rc_model.proofs.Tests.{either}

-- a backup says this, or a host that starts, in the name of its server
abbrev pub is_others : Body → Bool
is_others (Stored seg epoch len closed) = true
is_others (Replicas attempt rows) = true
is_others (Data attempt seg term entries) = true
is_others Enlist = true
is_others _ = false

-- others than this master say nothing else in its name
abbrev pub OthersSay : ServerId → List Message → Type 0
OthersSay m messages = (message : Message) → In message messages → message.from ≡ Server m → is_others message.body ≡ true

abbrev BySelf : Message → Type 0
BySelf message = is_others message.body ≡ true

-- what leads from what holds of each master before an event to what holds of it afterwards: what others say, and its own steps
pub record IsLed (P Q : List Message → ServerId → Master → Type 0) : Type 0 where
  pub same : (sent : List Message) (m : ServerId) (master : Master) → P sent m master → Q sent m master
  pub others : (sent messages : List Message) (m : ServerId) (master : Master) → P sent m master →
      OthersSay m messages → Q (sent ++ messages) m master
  pub takes : (sent : List Message) (m : ServerId) (master : Master) (from : Addr) (body : Body) →
      GoodMaster sent m master → P sent m master →
      In (record { from = from; to = Server m; body = body }) sent →
      Q (sent ++ (master_takes master from body).1) m (master_takes master from body).0
  pub ticks : (sent : List Message) (m : ServerId) (master : Master) → GoodMaster sent m master → P sent m master →
      Q (sent ++ (master_ticks master).1) m (master_ticks master).0

-- what holds of a new master, and is kept so
pub record IsKeptByAll (setup : Setup) (P : List Message → ServerId → Master → Type 0) : Type 0 where
  pub opened : (m : ServerId) → P [] m (new_master m (master_setup setup m.index))
  pub led : IsLed P P

-- Backups

others-backup : (backup : Backup) (from : Addr) (body : Body) → Each BySelf (backup_takes backup from body).1
others-backup backup from body = each-told BySelf backup (λ x s e len closed. refl) (λ attempt rows. refl)
    (λ x attempt seg term entries. refl) from body

-- A world

pub coordinator-from : (world : World) (work : NodeWork) → GoodWorld world → IsGiven world.sent TheCoordinator work →
    (message : Message) → In message (coordinator_step world.coordinator work).1 → message.from ≡ AtCoordinator
coordinator-from world work good given = (coordinator-moved world work good given).from

abbrev pub OfAll : (List Message → ServerId → Master → Type 0) → List Message → (ServerId → Master) → Type 0
OfAll P sent masters = (m : ServerId) → P sent m (masters m)

module _ (P Q : List Message → ServerId → Master → Type 0) (led : IsLed P Q) where
  quiet-all : {sent : List Message} (messages : List Message) {masters : ServerId → Master} → OfAll P sent masters →
      ((m : ServerId) → OthersSay m messages) → OfAll Q (sent ++ messages) masters
  quiet-all {sent} messages {masters} p others m = led.others sent messages m (masters m) (p m) (others m)

  -- the view of a host's master is put in again as it is
  same-view : {sent : List Message} {masters now : ServerId → Master} → ((m : ServerId) → now m ≡ masters m) →
      OfAll Q sent masters → OfAll Q sent now
  same-view {sent} same p m = subst (Q sent m) (sym (same m)) (p m)

  not-server : {Q : Type 0} {m : ServerId} → AtCoordinator ≡ Server m → Q
  not-server e = cc

  not-server_too : {Q : Type 0} {m : ServerId} → Outside ≡ Server m → Q
  not-server_too e = cc

  outside-others : (work : NodeWork) (m : ServerId) → OthersSay m (outside_sends work)
  outside-others (Ask to body) m message (inl same) from = not-server_too (sym (ap (λ (one : Message). one.from) same) ∙ from)
  outside-others (Ask to body) m message (inr never) from = absurd never
  outside-others _ m message at from = absurd at

  module _ (world : World) (one : Event) (i : ℕ) (good : GoodWorld world) (p : OfAll P world.sent world.masters) where
    abbrev Done : HostNode × List Message → Type 0
    Done after = OfAll Q (world.sent ++ after.1) (with_last_view world.masters after.0.master)

    own-is : {master : Master} → (world.hosts i).master ≡ Some master → master.log.own ≡ server_of (world.hosts i)
    own-is e = (is-good world one i good e).own

    view-same : (found : Option Master) → (world.hosts i).master ≡ found → {m : ServerId} →
        with_last_view world.masters found m ≡ world.masters m
    view-same None e = refl
    view-same (Some master) e {m} =
        either (λ (now : Master). now ≡ world.masters m) (same_id master.log.own m) master (world.masters m)
        (λ is. sym ((good.hosts_are i).runs master e) ∙ ap world.masters (sym (own-is e) ∙ same_id-true is))
        (λ _. refl)

    -- the master stays, and nothing loud is said
    done-quiet : (host : HostNode) (messages : List Message) → host.master ≡ (world.hosts i).master → Each BySelf messages →
        Done (host, messages)
    done-quiet host messages same soft = search (arith, view-same)

    -- the master moves
    done-moved : {master : Master} → (world.hosts i).master ≡ Some master → (after : Master × List Message) →
        MasterMoved world.sent (server_of (world.hosts i)) master after →
        Q (world.sent ++ after.1) (server_of (world.hosts i)) after.0 → Done (with_master (world.hosts i) after)
    done-moved e (now, messages) moved new m =
        either (Q (world.sent ++ messages) m) (same_id now.log.own m) now (world.masters m)
        (λ is. subst (λ (k : ServerId). Q (world.sent ++ messages) k now) (sym moved.good.own ∙ same_id-true is) new)
        (λ isn't. led.others world.sent messages m (world.masters m) (p m)
        (λ message at from. absurd (never (sym (moved.says message at).from ∙ from) isn't)))
      where
        never : Server (server_of (world.hosts i)) ≡ Server m → same_id now.log.own m ≡ false → ⊥
        never same isn't = search (arith, server-same, same_id-refl)

    -- what holds of the master that runs
    mine : {master : Master} → (world.hosts i).master ≡ Some master → P world.sent (server_of (world.hosts i)) master
    mine {master} e = subst (P world.sent (server_of (world.hosts i))) ((good.hosts_are i).runs master e) (p (server_of (world.hosts i)))

    done-backup : (after : Backup × List Message) → Each BySelf after.1 → Done (with_backup (world.hosts i) after)
    done-backup (backup, messages) soft = done-quiet (record (world.hosts i) { backup = backup }) messages refl soft

    done-starts : (list : List (ServerId × ℕ)) → Done (starts_host (world.hosts i) (next_server (world.hosts i)) list)
    done-starts list = same-view
        (λ m. either (λ (now : Master). now ≡ world.masters m) (same_id (next_server (world.hosts i)) m)
        (new_master (next_server (world.hosts i)) (world.hosts i).setup) (world.masters m)
        (λ is. sym started ∙ ap world.masters (same_id-true is)) (λ _. refl))
        (quiet-all (to_coordinator (next_server (world.hosts i)) Enlist ∷ []) p
        (λ m message at from. each-one BySelf refl message at))
      where
        was : GoodHost world.sent world.masters i (world.hosts i)
        was = good.hosts_are i

        started : world.masters (next_server (world.hosts i)) ≡ new_master (next_server (world.hosts i)) (world.hosts i).setup
        started = search (arith, was)

    done-host : (work : NodeWork) → IsGiven world.sent (TheHost i) work → Done (host_step (world.hosts i) work)
    done-host work given = walked-host world one i good Done (record {
      still = done-quiet (world.hosts i) [] refl (each-none BySelf);
      backs = λ master e from says at moved. done-backup (backup_takes (world.hosts i).backup from says)
          (others-backup (world.hosts i).backup from says);
      takes = λ master e from says at moved. done-moved e (master_takes master from says) moved
          (led.takes world.sent (server_of (world.hosts i)) master from says (is-good world one i good e) (mine e) at);
      ticks = λ master e moved. done-moved e (master_ticks master) moved
          (led.ticks world.sent (server_of (world.hosts i)) master (is-good world one i good e) (mine e));
      stops = quiet-all [] p (λ m message at. absurd at);
      starts = done-starts;
    }) work given

  abbrev Before : World → Type 0
  Before world = OfAll P world.sent world.masters

  abbrev After : World → Type 0
  After world = OfAll Q world.sent world.masters

  led-node : (world : World) (one : Event) (node : NodeName) (work : NodeWork) → GoodWorld world → Before world →
      IsGiven world.sent node work → After (node_done world one node work)
  led-node world one TheOutside work good p given = quiet-all (outside_sends work) p (outside-others work)
  led-node world one TheCoordinator work good p given = quiet-all (coordinator_step world.coordinator work).1 p
      (λ m message at from. not-server (sym (coordinator-from world work good given message at) ∙ from))
  led-node world one (TheHost i) work good p given = done-host world one i good p work given

  led-job : (world : World) (one : Event) (found : Option Job) → job_of world.sent one ≡ found → GoodWorld world →
      Before world → After (job_done world one found)
  led-job world one None is good p = λ m. led.same world.sent m (world.masters m) (p m)
  led-job world one (Some job) is good p = led-node world one job.node job.work good p (job_of-given world.sent one is)

  -- an event
  pub led-by : (world : World) (one : Event) → GoodWorld world → Before world → After (step world one)
  led-by world one good p = search (arith, led-job)

module _ (setup : Setup) (P : List Message → ServerId → Master → Type 0) (kept : IsKeptByAll setup P) where
  kept-from : (world : World) (events : List Event) → GoodWorld world → OfAll P world.sent world.masters →
      OfAll P (replay_from world events).sent (replay_from world events).masters
  kept-from world [] good p = p
  kept-from world (one ∷ events) good p =
      kept-from (step world one) events (good-step world one good) (led-by P P kept.led world one good p)

  -- it holds of every world
  pub kept-replay : (events : List Event) (m : ServerId) → P (replay setup events).sent m ((replay setup events).masters m)
  kept-replay events = kept-from (opening setup) events (good-opening setup) kept.opened
