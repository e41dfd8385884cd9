-- A Decide that is refused, where all hosts have answered, means that a segment is gone.
use Rattle.std.proofs.Common.{arith}
use Rattle.std.proofs.Common.{◌≡◌, ◌⊎◌, ℕ, Bool, true, nat_eq, List, [], ◌∷◌, Option, Some, Result, Ok, Err}
use Rattle.std.proofs.Common.{◌||◌, false, refl, sym}
use Rattle.std.proofs.Common.{ap, ◌∙◌, subst, inl, inr}
use Rattle.std.proofs.lemmas.Bool.{eqb-true}
use Rattle.rc_model.specs.Model.{ServerId, Addr, Server, Outside, Row, Part, Setup, Event, Fault, NotReady, StaleAttempt, Message}
use Rattle.rc_model.specs.Model.{Replicas, to_coordinator, coordinator_refuses, same_id, Replica, replica_of, row_of_replica}
use Rattle.rc_model.specs.Model.{rows_of_replicas, HeldRow, rows_of, held_rows, pick, Attempt, Decision, has_answered, is_gathering}
use Rattle.rc_model.specs.Model.{parts_of, plan_message, plan_messages, attempt_at, decides_with, decides, decides_on}
use Rattle.rc_model.specs.Model.{decision_of, ready_ids, server_of, replay, In}
use Rattle.rc_types.specs.declared.faults.Fault.TheVariants.{HeadMissing, SegmentMissing}
use Rattle.rc_types.specs.declared.rows.Plan.{Plan}
use Rattle.rc_types.specs.Codes.{code_of}
use Rattle.rc_model.specs.Coordinator.{Coordinator}
use Rattle.rc_model.proofs.Ids.{same_id-true}
use Rattle.rc_model.proofs.Members.{In-left, In-right, In-append}
use Rattle.rc_model.proofs.Tests.{true_false, either}
use Rattle.rc_step_laws.specs.All.{IsOf, IsNumbered}
use Rattle.rc_step_laws.proofs.Attempting.{numbered-at}
use Rattle.rc_step_laws.specs.LogClaims.{held_after}
use Rattle.rc_step_laws.specs.WordClaims.{sent_after}
use Rattle.rc_step_laws.proofs.Replays.{good-world}
use Rattle.rc_owner_laws.specs.Loss.{WasReady, AllHaveAnswered, AreAnswers, HasRow, IsGone}
use Rattle.rc_owner_laws.specs.LossClaims.{IsPlanned, IsNobodyReady, RefusedDecidesMeanLoss, DecidesPlanOrLoss}
use Rattle.rc_owner_laws.proofs.Answers.{IsMissing}
use Rattle.rc_owner_laws.proofs.Asked.{answers-are-now}
use Rattle.rc_owner_laws.proofs.Refusals.{refusals-mean-loss}

-- Rows

-- a replica that is found has its row
row-in : (replicas : List (ℕ × Replica)) (s : ℕ) {replica : Replica} → replica_of s replicas ≡ Some replica →
    In (row_of_replica (s, replica)) (rows_of_replicas replicas)
row-in [] s e = cc
row-in (one ∷ others) s {replica} e =
    either (λ (found : Option Replica). found ≡ Some replica → In (row_of_replica (s, replica)) (rows_of_replicas (one ∷ others)))
    (nat_eq s one.0) (Some one.1) (replica_of s others)
    (λ same here. inl (ap row_of_replica (pair s replica one (eqb-true s one.0 same) (inner one.1 here))))
    (λ _ there. inr (row-in others s there)) e
  where
    inner : (other : Replica) → Some other ≡ Some replica → other ≡ replica
    inner other same = cc

    pair : (t : ℕ) (r : Replica) (other : ℕ × Replica) → t ≡ other.0 → other.1 ≡ r → (t, r) ≡ other
    pair t r other p q j = (p j, sym q j)

rows_of-has : (holder : ServerId) (rows : List Row) (row : Row) → In row rows → In (record { holder = holder; row = row })
    (rows_of holder rows)
rows_of-has holder [] row at = absurd at
rows_of-has holder (one ∷ rows) row (inl same) = inl (ap (λ (r : Row). record { holder = holder; row = r }) same)
rows_of-has holder (one ∷ rows) row (inr rest) = inr (rows_of-has holder rows row rest)

held_rows-has : (replies : List (ServerId × List Row)) (y : ServerId) (rows : List Row) (row : Row) → In (y, rows) replies → In row rows →
    (held : HeldRow) × (In held (held_rows replies)) × (held.row ≡ row)
held_rows-has [] y rows row at among = absurd at
held_rows-has (reply ∷ replies) y rows row (inl same) among = (
  record { holder = reply.0; row = row },
  In-left _ (rows_of reply.0 reply.1) (held_rows replies)
      (rows_of-has reply.0 reply.1 row (subst (λ (all : List Row). In row all) (ap (λ (one : ServerId × List Row). one.1) same) among)),
  refl,
)
held_rows-has (reply ∷ replies) y rows row (inr rest) among =
    let found = held_rows-has replies y rows row rest among in
    (found.0, In-right found.0 (rows_of reply.0 reply.1) (held_rows replies) found.1, found.2)

-- who has answered has an answer there
answer-of : (y : ServerId) (replies : List (ServerId × List Row)) → has_answered y replies ≡ true → (rows : List Row) × In (y, rows) replies
answer-of y [] e = true_false (sym e)
answer-of y (reply ∷ replies) e = by (same_id y reply.0) refl (λ rest. answer-of y replies rest) e
  where
    by : (b : Bool) → same_id y reply.0 ≡ b → (has_answered y replies ≡ true → (rows : List Row) × In (y, rows) replies) →
        (b || has_answered y replies) ≡ true → (rows : List Row) × In (y, rows) (reply ∷ replies)
    by true same _ _ = (reply.1, inl (ap (λ (id : ServerId). (id, reply.1)) (same_id-true same)))
    by false _ others rest = let found = others rest in (found.0, inr found.1)

-- The refusal

-- a plan is no refusal
plans-not : (fault : Fault) (number : ℕ) (master : ServerId) (decision : Decision) (ids : List ServerId) →
    In (coordinator_refuses fault) (plan_messages number master decision ids) → ⊥
plans-not fault number master decision [] at = at
plans-not fault number master decision (id ∷ ids) at =
    by (parts_of id decision.parts) (In-append (coordinator_refuses fault)
    (plan_message number master decision.plan id (parts_of id decision.parts)) (plan_messages number master decision ids) at)
    (plans-not fault number master decision ids)
  where
    by : (parts : List Part) → In (coordinator_refuses fault) (plan_message number master decision.plan id parts) ⊎
        In (coordinator_refuses fault) (plan_messages number master decision ids) →
        (In (coordinator_refuses fault) (plan_messages number master decision ids) → ⊥) → ⊥
    by [] (inl never) rec = never
    by (part ∷ parts) (inl (inl same)) rec =
        (let never : ◌≡◌ {A = Addr} Outside (Server id) = ap (λ (message : Message). message.to) same in cc)
    by (part ∷ parts) (inl (inr never)) rec = never
    by parts (inr rest) rec = rec rest

-- where a row is missing, no other refusal is meant
other-fault : {fault : Fault} (other : Fault) → IsMissing fault → (code_of HeadMissing ≡ code_of other → ⊥) →
    ((t : ℕ) → code_of (SegmentMissing t) ≡ code_of other → ⊥) → In (coordinator_refuses fault) (coordinator_refuses other ∷ []) → ⊥
other-fault other (inl is) head segment (inr never) = never
other-fault other (inr is) head segment (inr never) = never
other-fault {fault} other (inl is) head segment (inl same) = search arith
other-fault {fault} other (inr (t, is)) head segment (inl same) =
    segment t (ap code_of (sym is) ∙ refused (ap (λ (message : Message). message.body) same))
  where
    refused : Rattle.rc_types.specs.declared.messages.Body.TheVariants.Refused (code_of fault) ≡
        Rattle.rc_types.specs.declared.messages.Body.TheVariants.Refused (code_of other) → code_of fault ≡ code_of other
    refused e = cc

not-ready : {fault : Fault} → IsMissing fault → In (coordinator_refuses fault) (coordinator_refuses NotReady ∷ []) → ⊥
not-ready is = search (arith, other-fault)

stale : {fault : Fault} → IsMissing fault → In (coordinator_refuses fault) (coordinator_refuses StaleAttempt ∷ []) → ⊥
stale is = search (arith, other-fault)

-- so the choice was refused
with-refused : (c : Coordinator) (number : ℕ) (attempt : Attempt) (found : Result Plan Fault) (ids : List ServerId) (fault : Fault) →
    IsMissing fault → In (coordinator_refuses fault) (decides_with c number attempt found ids).1 → (other : Fault) × (found ≡ Err other)
with-refused c number attempt (Err other) ids fault is at = (other, refl)
with-refused c number attempt (Ok plan) [] fault is at = absurd (not-ready is at)
with-refused c number attempt (Ok plan) (id ∷ ids) fault is at = absurd (plans-not fault number attempt.master _ (id ∷ ids) at)

pick-refused : (c : Coordinator) (m : ServerId) (attempt : Attempt) (fault : Fault) → IsMissing fault →
    attempt_at c (c.current m) ≡ Some attempt → In (coordinator_refuses fault) (decides c m).1 →
    (other : Fault) × (pick (c.least m) attempt.replies ≡ Err other)
pick-refused c m attempt fault is current at = search (arith, with-refused, stale)

-- All of it

module _ (setup : Setup) (events : List Event) (m : ServerId) (all : AllHaveAnswered setup events m) where
  numbered : IsNumbered (replay setup events).coordinator.attempts ((replay setup events).coordinator.current m) all.attempt
  numbered = numbered-at (replay setup events).coordinator all.attempt all.current

  of_m : IsOf (replay setup events).coordinator.attempts ((replay setup events).coordinator.current m) m
  of_m = record {
    attempt = all.attempt;
    numbered = numbered;
    master_is = (good-world setup events).coordinator.current_master m all.attempt numbered;
  }

  sent : (y : ServerId) (rows : List Row) → In (y, rows) all.attempt.replies →
      In (to_coordinator y (Replicas ((replay setup events).coordinator.current m) rows)) (replay setup events).sent
  sent = ((good-world setup events).coordinator.attempts ((replay setup events).coordinator.current m) all.attempt numbered).answered

  answers : AreAnswers setup events m all.attempt.replies
  answers y rows at = search (arith, of_m, sent)

  rows : (i s : ℕ) → HasRow setup events m all.attempt.replies i s
  rows i s replica kept =
      let found : (rows : List Row) × In (server_of ((replay setup events).hosts i), rows) all.attempt.replies =
      answer-of (server_of ((replay setup events).hosts i)) all.attempt.replies (all.each i s replica kept) in
      of_answer found.0 found.1
    where
      index : ((replay setup events).hosts i).index ≡ i
      index = ((good-world setup events).hosts_are i).index

      of_answer : (rows : List Row) → In (server_of ((replay setup events).hosts i), rows) all.attempt.replies →
          (held : HeldRow) × (In held (held_rows all.attempt.replies)) × (held.row ≡ row_of_replica (s, replica))
      of_answer rows at =
          let now : rows ≡ rows_of_replicas (held_after setup events ((replay setup events).hosts i).index m).replicas =
          answers-are-now setup events (server_of ((replay setup events).hosts i)) m
          ((replay setup events).coordinator.current m) rows of_m
          (sent (server_of ((replay setup events).hosts i)) rows at)
          (ap (λ k. ((replay setup events).hosts k).generation) (sym index)) in
          held_rows-has all.attempt.replies (server_of ((replay setup events).hosts i)) rows (row_of_replica (s, replica)) at
          (subst (λ (list : List Row). In (row_of_replica (s, replica)) list)
          (sym (now ∙ ap (λ k. rows_of_replicas (held_after setup events k m).replicas) index))
          (row-in (held_after setup events i m).replicas s kept))

  -- where the choice is refused
  refused-gone : {fault : Fault} → WasReady (sent_after setup events) m →
      pick ((replay setup events).coordinator.least m) all.attempt.replies ≡ Err fault → (s : ℕ) × IsGone setup events m s
  refused-gone {fault} ready refused = refusals-mean-loss setup events m all.attempt.replies fault ready answers rows refused

  -- and where it isn't
  planned : WasReady (sent_after setup events) m → is_gathering all.attempt ≡ true →
      IsPlanned (replay setup events).coordinator m all.attempt ⊎
      (IsNobodyReady (replay setup events).coordinator m ⊎ ((s : ℕ) × IsGone setup events m s))
  planned ready gathering = by (pick ((replay setup events).coordinator.least m) all.attempt.replies) refl
      (ready_ids (replay setup events).coordinator) refl
    where
      decided : (found : Result Plan Fault) (ids : List ServerId) →
          pick ((replay setup events).coordinator.least m) all.attempt.replies ≡ found → ready_ids (replay setup events).coordinator ≡ ids →
          decides (replay setup events).coordinator m ≡
          decides_with (replay setup events).coordinator ((replay setup events).coordinator.current m) all.attempt found ids
      decided found ids picked up = search arith

      by : (found : Result Plan Fault) → pick ((replay setup events).coordinator.least m) all.attempt.replies ≡ found →
          (ids : List ServerId) → ready_ids (replay setup events).coordinator ≡ ids →
          IsPlanned (replay setup events).coordinator m all.attempt ⊎
          (IsNobodyReady (replay setup events).coordinator m ⊎ ((s : ℕ) × IsGone setup events m s))
      by (Err fault) picked ids up = inr (inr (refused-gone ready picked))
      by (Ok plan) picked [] up = inr (inl (record { nobody = up; refused = decided (Ok plan) [] picked up }))
      by (Ok plan) picked (id ∷ ids) up = inl (record {
        plan = plan;
        picked = picked;
        done = decided (Ok plan) (id ∷ ids) picked up ∙
            (ap (λ (some : List ServerId). decides_on (replay setup events).coordinator ((replay setup events).coordinator.current m)
            all.attempt (decision_of (replay setup events).coordinator ((replay setup events).coordinator.current m) all.attempt.master plan
            some) some) (sym up) ∙
            ap (λ (k : ServerId). decides_on (replay setup events).coordinator ((replay setup events).coordinator.current m)
            all.attempt (decision_of (replay setup events).coordinator ((replay setup events).coordinator.current m) k plan
            (ready_ids (replay setup events).coordinator)) (ready_ids (replay setup events).coordinator))
            ((good-world setup events).coordinator.current_master m all.attempt numbered));
      })

pub refused-decides-mean-loss : RefusedDecidesMeanLoss
refused-decides-mean-loss setup events m ready all decided = refused-gone setup events m all ready refused.1
  where
    refused : (other : Fault) × (pick ((replay setup events).coordinator.least m) all.attempt.replies ≡ Err other)
    refused = pick-refused (replay setup events).coordinator m all.attempt decided.fault decided.missing all.current decided.refused

pub decides-plan-or-loss : DecidesPlanOrLoss
decides-plan-or-loss setup events m ready all gathering = planned setup events m all ready gathering
