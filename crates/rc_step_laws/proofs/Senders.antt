-- Who sends a message in an event: the outside, the coordinator, or a host's backup, its master, or as it starts.
use Rattle.std.proofs.Common.{arith}
use Rattle.std.proofs.Common.{◌≡◌, ℕ, true, List, [], ◌∷◌, ◌++◌, length, drop, Option, Some, None, refl, sym, ap, ◌∙◌}
use Rattle.std.proofs.Common.{subst, inl, inr}
use Rattle.std.proofs.Math.Seq.{drop-append_seam, drop-length}
use Rattle.rc_model.specs.Model.{ServerId, Server, Outside, Event, Message, Body, Enlist, put_id}
use Rattle.rc_model.specs.Model.{to_coordinator, Backup, backup_takes, Master, master_takes, master_ticks, NodeWork}
use Rattle.rc_model.specs.Model.{HostNode, coordinator_step, server_of, host_step, with_backup}
use Rattle.rc_model.specs.Model.{with_master, next_server, starts_host, World, NodeName}
use Rattle.rc_model.specs.Model.{TheOutside, TheCoordinator, TheHost, Job, job_of, is_possible, host_done, node_done}
use Rattle.rc_model.specs.Model.{job_done, step, In, is_for_clients, outside_can, node_can, is_possible_job}
use Rattle.std.proofs.lemmas.Bool.{and_parts}
use Rattle.rc_model.specs.Nodes.{Ask}
use Rattle.rc_model.proofs.Replays.{possible-job}
use Rattle.rc_model.proofs.Tests.{either}
use Rattle.rc_model.proofs.Tables.{put-same, put_id-same}
use Rattle.rc_step_laws.specs.Moves.{MasterMoved}
use Rattle.rc_step_laws.proofs.NodeWalk.{walked-host}
use Rattle.rc_step_laws.proofs.Replays.{GoodWorld, IsGiven, job_of-given}

-- what holds of each message by who sends it, in the world after the event
pub record EachSender (world : World) (P : World → Message → Type 0) : Type 0 where
  pub outside : (after : World) (to : ServerId) (asked : Body) → is_for_clients asked ≡ true →
      P after (record { from = Outside; to = Server to; body = asked })
  pub coordinator : (after : World) (work : NodeWork) (message : Message) → IsGiven world.sent TheCoordinator work →
      In message (coordinator_step world.coordinator work).1 → P after message
  pub backup : (after : World) (i : ℕ) (given message : Message) → In given world.sent →
      given.to ≡ Server (server_of (world.hosts i)) →
      (after.hosts i).backup ≡ (backup_takes (world.hosts i).backup given.from given.body).0 →
      In message (backup_takes (world.hosts i).backup given.from given.body).1 → P after message
  pub starts : (after : World) (i : ℕ) → P after (to_coordinator (next_server (world.hosts i)) Enlist)
  pub takes : (after : World) (i : ℕ) (master : Master) (given message : Message) → (world.hosts i).master ≡ Some master →
      In given world.sent → given.to ≡ Server (server_of (world.hosts i)) →
      after.masters (server_of (world.hosts i)) ≡ (master_takes master given.from given.body).0 →
      In message (master_takes master given.from given.body).1 → P after message
  pub ticks : (after : World) (i : ℕ) (master : Master) (message : Message) → (world.hosts i).master ≡ Some master →
      after.masters (server_of (world.hosts i)) ≡ (master_ticks master).0 →
      In message (master_ticks master).1 → P after message

module _ (world : World) (one : Event) (good : GoodWorld world) (P : World → Message → Type 0) (each : EachSender world P) where
  -- of all that was sent since
  abbrev Since : World → Type 0
  Since after = (message : Message) → In message (drop (length world.sent) after.sent) → P after message

  new : (xs messages : List Message) (message : Message) → In message (drop (length xs) (xs ++ messages)) → In message messages
  new xs messages message at = subst (In message) (drop-append_seam xs messages) at

  none : (after : World) → after.sent ≡ world.sent → Since after
  none after same message at =
      absurd (subst (In message) (ap (drop (length world.sent)) same ∙ drop-length world.sent) at)

  nothing : (after : World) → after.sent ≡ world.sent ++ [] → Since after
  nothing after same message at =
      absurd (new world.sent [] message (subst (λ (sent : List Message). In message (drop (length world.sent) sent)) same at))

  of_asked : (to : ServerId) (asked : Body) → is_for_clients asked ≡ true → Since (node_done world one TheOutside (Ask to asked))
  of_asked to asked clients message at = search (arith, new)

  of_outside : (work : NodeWork) → outside_can work ≡ true → Since (node_done world one TheOutside work)
  of_outside (Ask to asked) can = of_asked to asked (and_parts (is_for_clients asked) _ can).0
  of_outside given can = nothing (node_done world one TheOutside given) refl

  of_coordinator : (work : NodeWork) → IsGiven world.sent TheCoordinator work → Since (node_done world one TheCoordinator work)
  of_coordinator work given message at = each.coordinator (node_done world one TheCoordinator work) work message given
      (new world.sent (coordinator_step world.coordinator work).1 message at)

  module _ (i : ℕ) where
    host : HostNode
    host = world.hosts i

    abbrev Done : HostNode × List Message → Type 0
    Done after = Since (host_done world one i after)

    quiet : (after : HostNode) → Done (after, [])
    quiet after = nothing (host_done world one i (after, [])) refl

    of_backup : (given : Message) → In given world.sent → given.to ≡ Server (server_of (world.hosts i)) →
        Done (with_backup (world.hosts i) (backup_takes (world.hosts i).backup given.from given.body))
    of_backup given at to = by (backup_takes (world.hosts i).backup given.from given.body) refl
      where
        by : (after : Backup × List Message) → backup_takes (world.hosts i).backup given.from given.body ≡ after →
            Done (with_backup (world.hosts i) after)
        by (backup, messages) e message is =
            each.backup (host_done world one i (record (world.hosts i) { backup = backup }, messages)) i given message at to
            (ap (λ (now : HostNode). now.backup) (put-same world.hosts i) ∙
            ap (λ (after : Backup × List Message). after.0) (sym e))
            (subst (λ (after : Backup × List Message). In message after.1) (sym e) (new world.sent messages message is))

    -- the view of the master that moved
    moved-view : {after : Master} → after.log.own ≡ server_of (world.hosts i) →
        put_id world.masters after.log.own after (server_of (world.hosts i)) ≡ after
    moved-view {after} own = ap (λ (key : ServerId). put_id world.masters key after (server_of (world.hosts i))) own ∙
        put_id-same world.masters (server_of (world.hosts i))

    of_takes : (master : Master) → (world.hosts i).master ≡ Some master → (given : Message) → In given world.sent →
        given.to ≡ Server (server_of (world.hosts i)) →
        MasterMoved world.sent (server_of (world.hosts i)) master (master_takes master given.from given.body) →
        Done (with_master (world.hosts i) (master_takes master given.from given.body))
    of_takes master e given at to moved = by (master_takes master given.from given.body) refl moved.good.own
      where
        by : (after : Master × List Message) → master_takes master given.from given.body ≡ after →
            (master_takes master given.from given.body).0.log.own ≡ server_of (world.hosts i) → Done (with_master (world.hosts i) after)
        by (now, messages) is own message there =
            each.takes (host_done world one i (with_master (world.hosts i) (now, messages))) i master given message e at to
            (moved-view (sym (ap (λ (after : Master × List Message). after.0.log.own) is) ∙ own) ∙
            ap (λ (after : Master × List Message). after.0) (sym is))
            (subst (λ (after : Master × List Message). In message after.1) (sym is) (new world.sent messages message there))

    of_ticks : (master : Master) → (world.hosts i).master ≡ Some master →
        MasterMoved world.sent (server_of (world.hosts i)) master (master_ticks master) →
        Done (with_master (world.hosts i) (master_ticks master))
    of_ticks master e moved = by (master_ticks master) refl moved.good.own
      where
        by : (after : Master × List Message) → master_ticks master ≡ after →
            (master_ticks master).0.log.own ≡ server_of (world.hosts i) → Done (with_master (world.hosts i) after)
        by (now, messages) is own message there =
            each.ticks (host_done world one i (with_master (world.hosts i) (now, messages))) i master message e
            (moved-view (sym (ap (λ (after : Master × List Message). after.0.log.own) is) ∙ own) ∙
            ap (λ (after : Master × List Message). after.0) (sym is))
            (subst (λ (after : Master × List Message). In message after.1) (sym is) (new world.sent messages message there))

    of_starts : (kept : List (ServerId × ℕ)) → Done (starts_host (world.hosts i) (next_server (world.hosts i)) kept)
    of_starts kept message at = by (new world.sent (to_coordinator (next_server (world.hosts i)) Enlist ∷ []) message at)
      where
        by : In message (to_coordinator (next_server (world.hosts i)) Enlist ∷ []) →
            P (host_done world one i (starts_host (world.hosts i) (next_server (world.hosts i)) kept)) message
        by (inl same) = search arith
        by (inr never) = absurd never

    of_host : (work : NodeWork) → IsGiven world.sent (TheHost i) work → Done (host_step (world.hosts i) work)
    of_host work given = walked-host world one i good Done (record {
      still = quiet (world.hosts i);
      backs = λ master e from says at moved.
          of_backup (record { from = from; to = Server (server_of (world.hosts i)); body = says }) at refl;
      takes = λ master e from says at moved.
          of_takes master e (record { from = from; to = Server (server_of (world.hosts i)); body = says }) at refl moved;
      ticks = of_ticks;
      stops = quiet (record (world.hosts i) { master = None });
      starts = of_starts;
    }) work given

  of_node : (node : NodeName) (work : NodeWork) → IsGiven world.sent node work → node_can world node work ≡ true →
      Since (node_done world one node work)
  of_node TheOutside work given can = of_outside work can
  of_node TheCoordinator work given can = of_coordinator work given
  of_node (TheHost i) work given can = of_host i work given

  of_job : (found : Option Job) → job_of world.sent one ≡ found → is_possible_job world found ≡ true →
      Since (job_done world one found)
  of_job None is can = none world refl
  of_job (Some job) is can = of_node job.node job.work (job_of-given world.sent one is) can

  -- each message of an event
  pub each-sent : (message : Message) → In message (drop (length world.sent) (step world one).sent) → P (step world one) message
  each-sent = either Since (is_possible world one) (job_done world one (job_of world.sent one)) world
      (λ can. of_job (job_of world.sent one) refl (possible-job world one can)) (λ _. none world refl)
