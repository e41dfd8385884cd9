-- A Fetch of a row that was planned is answered while its holder runs: what its server has answered it still has.
use Rattle.std.proofs.Common.{◌≡◌, ℕ, true, nat_le, List, [], ◌∷◌, filter, take, length, Option, Some, None}
use Rattle.std.proofs.Common.{refl, sym, ap, ◌∙◌, subst, arith}
use Rattle.std.proofs.lemmas.Bool.{and_parts, le-leb}
use Rattle.std.specs.Prelude.{is_some}
use Rattle.rc_model.specs.Model.{ServerId, Server, Row, PlanRow, Part, Setup, Event, Fetch, Data, Replicas}
use Rattle.rc_model.specs.Model.{to_coordinator, between, Replica, Master, replica_of, rows_of_replicas, is_in_part}
use Rattle.rc_model.specs.Model.{row_of_replica, HostNode, Deliver, host_step, runs, server_of, is_running_at}
use Rattle.rc_model.specs.Model.{replay, In}
use Rattle.rc_types.specs.declared.messages.Body.TheVariants.{Plan as PlanBody}
use Rattle.rc_types.specs.declared.ids.Addr.TheVariants.{Coordinator as AtCoordinator}
use Rattle.rc_types.specs.declared.rows.Plan.{Plan}
use Rattle.rc_model.specs.Ids.{is_server}
use Rattle.rc_model.proofs.Ids.{same_id-true}
use Rattle.rc_model.proofs.Tests.{true_false}
use Rattle.rc_step_laws.specs.All.{IsAnswer, IsOf, IsPlan}
use Rattle.rc_step_laws.proofs.Attempting.{numbered-same}
use Rattle.rc_step_laws.proofs.ReplicaLists.{replica_of-row}
use Rattle.rc_step_laws.proofs.Picked.{IsPicked, IsTaken, picked-is}
use Rattle.rc_step_laws.proofs.Replays.{GoodWorld, good-world}
use Rattle.rc_owner_laws.proofs.Asked.{answers-are-now}
use Rattle.rc_owner_laws.specs.FetchClaims.{IsPlannedRow, HasItsData, FetchesAreAnswered}

-- a host that runs has a master
master-of : (found : Option Master) → is_some found ≡ true → (master : Master) × (found ≡ Some master)
master-of None e = true_false (sym e)
master-of (Some master) e = (master, refl)

-- as long as it holds
long-enough : {len n : ℕ} → len ≡ n → nat_le len n ≡ true
long-enough {len} {n} same = le-leb len n (omega (arith, same))

-- who runs, has fenced the master, and has a replica that is long enough, answers
answers : (host : HostNode) {asker m holder : ServerId} {number seg : ℕ} (len : ℕ) (part : Part) {replica : Replica} {master : Master} →
    host.master ≡ Some master → is_server (server_of host) (Server holder) ≡ true → host.backup.own ≡ holder →
    (host.backup.held m).fenced ≡ true → replica_of seg (host.backup.held m).replicas ≡ Some replica →
    nat_le len (length replica.entries) ≡ true →
    (host_step host (Deliver (between asker holder (Fetch number m seg len part)))).1 ≡
    between holder asker (Data number seg part.term (filter (is_in_part part) (take len replica.entries))) ∷ []
answers host {asker} {m} {holder} {number} {seg} len part {replica} {master} running here own fenced kept enough =
    search arith

-- All of it

module _ (setup : Setup) (events : List Event) (number : ℕ) (m : ServerId) (row : PlanRow)
    (p : IsPlannedRow (replay setup events).sent number m row)
    (running : is_running_at ((replay setup events).hosts row.holder.index) (Server row.holder) ≡ true) where
  good : GoodWorld (replay setup events)
  good = good-world setup events

  plan : IsPlan (replay setup events).coordinator number m p.head p.rows
  plan = good.messages (record { from = AtCoordinator; to = p.to; body = PlanBody p.head number m p.rows p.parts }) p.planned

  of_m : IsOf (replay setup events).coordinator.attempts number m
  of_m = record { attempt = plan.attempt; numbered = plan.numbered; master_is = plan.master_is }

  -- its row is one of an answer
  picked : IsPicked ((replay setup events).coordinator.least plan.attempt.master) plan.attempt.replies plan.decision.plan
  picked = picked-is ((good.coordinator.attempts number plan.attempt plan.numbered).picked plan.decision plan.decided)

  taken : IsTaken ((replay setup events).coordinator.least plan.attempt.master) plan.attempt.replies row
  taken = picked.each row (subst (λ (one : Plan). In row one.rows) (sym plan.plan_is) p.among)

  holder : row.holder ≡ taken.held.holder
  holder = ap (λ (one : PlanRow). one.holder) taken.row_is

  sent : In (to_coordinator taken.held.holder (Replicas number taken.answered.rows)) (replay setup events).sent
  sent = (good.coordinator.attempts number plan.attempt plan.numbered).answered taken.held.holder taken.answered.rows taken.answered.reply

  -- its holder is the last server of its host
  abbrev host : HostNode
  host = (replay setup events).hosts row.holder.index

  parts : (runs host ≡ true) × (is_server (server_of host) (Server row.holder) ≡ true)
  parts = and_parts (runs host) (is_server (server_of host) (Server row.holder)) running

  last : server_of host ≡ row.holder
  last = same_id-true parts.1

  same : {id : ServerId} → row.holder ≡ id → id.generation ≡ ((replay setup events).hosts id.index).generation
  same is = subst (λ (one : ServerId). one.generation ≡ ((replay setup events).hosts one.index).generation) is
      (sym (ap (λ (one : ServerId). one.generation) last))

  -- what it has answered it still has
  answer : IsAnswer (replay setup events).sent (replay setup events).masters (replay setup events).hosts
      (replay setup events).coordinator taken.held.holder number taken.answered.rows
  answer = good.messages (to_coordinator taken.held.holder (Replicas number taken.answered.rows)) sent

  its_master : answer.master ≡ m
  its_master = search (arith, answer, of_m, numbered-same)

  fenced : (host.backup.held m).fenced ≡ true
  fenced = search (arith, its_master, answer, holder, same)

  now : taken.answered.rows ≡ rows_of_replicas (host.backup.held m).replicas
  now = search (arith, taken, holder, answers-are-now, of_m, sent, same)

  found : (replica : Replica) × (replica_of taken.held.row.seg (host.backup.held m).replicas ≡ Some replica) ×
      (taken.held.row ≡ row_of_replica (taken.held.row.seg, replica))
  found = replica_of-row (host.backup.held m).replicas taken.held.row ((good.hosts_are row.holder.index).held m).ascending
      (subst (λ (all : List Row). In taken.held.row all) now taken.answered.row)

  kept : replica_of row.seg (host.backup.held m).replicas ≡ Some found.0
  kept = ap (λ s. replica_of s (host.backup.held m).replicas) (ap (λ (one : PlanRow). one.seg) taken.row_is) ∙ found.1

  len : row.len ≡ length found.0.entries
  len = ap (λ (one : PlanRow). one.len) taken.row_is ∙ ap (λ (one : Row). one.len) found.2

  its-data : {asker : ServerId} {part : Part} → HasItsData host asker number m row part
  its-data {part} =
      search (arith, master-of, parts, found, kept, len, answer, answers, good, last, fenced, long-enough)

pub fetches-are-answered : FetchesAreAnswered
fetches-are-answered setup events number m row p running asker part = its-data setup events number m row p running
