-- What is known of the answers: each row is a copy of the master's segment, and the head row is one of them.
use Rattle.std.proofs.Common.{◌≡◌, ◌⊎◌, ℕ, true, false, not, List, [], ◌∷◌, filter, Option, Some, None, Result, Ok, Err}
use Rattle.std.proofs.Common.{refl, sym, ap, ◌∙◌, subst, inl, inr}
use Rattle.std.proofs.lemmas.Bool.{and_parts, not-true}
use Rattle.rc_model.specs.Model.{ServerId, Pair, Row, PlanRow, Setup, Event, Fault, Replicas, to_coordinator, Attempt, Replica, replica_of}
use Rattle.rc_model.specs.Model.{row_of_replica, rows_of_replicas, HeldRow, held_rows, is_valid, is_open_valid, head_first, head_row}
use Rattle.rc_model.specs.Model.{taken_row}
use Rattle.rc_model.specs.Model.{row_then, taken_rows, plan_of, pick_by, pick, ascending, World, replay, In}
use Rattle.rc_types.specs.declared.faults.Fault.TheVariants.{HeadMissing, SegmentMissing}
use Rattle.rc_model.specs.PickOrders.{IsFirst, IsHigher}
use Rattle.rc_model.proofs.PickFirsts.{first_by_first}
use Rattle.rc_model.proofs.PickOrders.{tells_higher, apart_higher, split_higher}
use Rattle.rc_model.proofs.Members.{In-right, In-filter}
use Rattle.rc_step_laws.specs.All.{IsCopy, IsOf, IsAnswer}
use Rattle.rc_step_laws.proofs.Attempting.{numbered-same}
use Rattle.rc_step_laws.proofs.ReplicaLists.{replica_of-row}
use Rattle.rc_step_laws.specs.WordClaims.{sent_after, log_of}
use Rattle.rc_step_laws.specs.LogClaims.{held_after}
use Rattle.rc_step_laws.proofs.Picked.{IsAnswered, held_rows-in}
use Rattle.rc_step_laws.proofs.Replays.{GoodWorld, good-world}
use Rattle.rc_owner_laws.specs.Loss.{WasAnswered, AreAnswers}

-- a row is a copy, at some server
pub record CopyAt (setup : Setup) (events : List Event) (m : ServerId) (row : Row) : Type 0 where
  pub holder : ServerId
  pub copy : IsCopy (sent_after setup events) m (log_of setup events m) holder.index holder.generation row.seg row.epoch row.closed
      row.len row.digest

answered-copy : (setup : Setup) (events : List Event) (m y : ServerId) (rows : List Row) (row : Row) →
    WasAnswered setup events m y rows → In row rows → CopyAt setup events m row
answered-copy setup events m y rows row was at = record {
  holder = y;
  copy = subst (λ (n : ServerId). IsCopy world.sent n (world.masters n).log y.index y.generation row.seg row.epoch row.closed row.len
      row.digest)
      of_m (answer.rows_are row at);
}
  where
    world : World
    world = replay setup events

    good : GoodWorld (replay setup events)
    good = good-world setup events

    answer : IsAnswer (replay setup events).sent (replay setup events).masters (replay setup events).hosts
        (replay setup events).coordinator y
        was.number rows
    answer = good.messages (to_coordinator y (Replicas was.number rows)) was.answered

    is_of : IsOf (replay setup events).coordinator.attempts was.number m
    is_of = was.attempt

    of_m : answer.master ≡ m
    of_m =
        let same : answer.attempt.attempt ≡ is_of.attempt = numbered-same answer.attempt.numbered is_of.numbered in
        sym answer.attempt.master_is ∙ (ap (λ (one : Attempt). one.master) same ∙ is_of.master_is)

-- a replica is a copy
pub replica-copy : (setup : Setup) (events : List Event) (m : ServerId) (i s : ℕ) (replica : Replica) →
    replica_of s (held_after setup events i m).replicas ≡ Some replica → CopyAt setup events m (row_of_replica (s, replica))
replica-copy setup events m i s replica at = record {
  holder = record { index = i; generation = ((replay setup events).hosts i).generation };
  copy = ((((good-world setup events).hosts_are i).held m).each s replica at).copy;
}

now-copy : (setup : Setup) (events : List Event) (m : ServerId) (i : ℕ) (row : Row) →
    In row (rows_of_replicas (held_after setup events i m).replicas) → CopyAt setup events m row
now-copy setup events m i row at =
    let found : (replica : Replica) × (replica_of row.seg (held_after setup events i m).replicas ≡ Some replica) ×
    (row ≡ row_of_replica (row.seg, replica)) =
    replica_of-row (held_after setup events i m).replicas row (((good-world setup events).hosts_are i).held m).ascending at in
    subst (CopyAt setup events m) (sym found.2) (replica-copy setup events m i row.seg found.0 found.1)

pub row-copy : (setup : Setup) (events : List Event) (m : ServerId) (replies : List (ServerId × List Row)) →
    AreAnswers setup events m replies → (held : HeldRow) → In held (held_rows replies) → CopyAt setup events m held.row
row-copy setup events m replies answers held at = by (held_rows-in replies held at)
  where
    which : (rows : List Row) → In held.row rows → WasAnswered setup events m held.holder rows ⊎
        (rows ≡ rows_of_replicas (held_after setup events held.holder.index m).replicas) → CopyAt setup events m held.row
    which rows row (inl was) = answered-copy setup events m held.holder rows held.row was row
    which rows row (inr same) = now-copy setup events m held.holder.index held.row (subst (λ (all : List Row). In held.row all) same row)

    by : IsAnswered replies held → CopyAt setup events m held.row
    by is = which is.rows is.row (answers held.holder is.rows is.reply)

-- The head row

pub record HeadIs (min : Pair) (replies : List (ServerId × List Row)) (head : HeldRow) : Type 0 where
  pub among : In head (held_rows replies)
  pub unclosed : head.row.closed ≡ false
  pub valid : is_valid min head.row ≡ true

pub head-is : (min : Pair) (replies : List (ServerId × List Row)) (head : HeldRow) → head_row min replies ≡ Some head → HeadIs min
    replies head
head-is min replies head e =
    let first : IsFirst IsHigher (filter (is_open_valid min) (held_rows replies)) head =
    first_by_first head_first IsHigher tells_higher apart_higher split_higher (filter (is_open_valid min) (held_rows replies)) e in
    let at : In head (filter (is_open_valid min) (held_rows replies)) =
    subst (λ (all : List HeldRow). In head all) (sym first.place) (In-right head first.earlier (head ∷ first.later) (inl refl)) in
    let both : In head (held_rows replies) × (is_open_valid min head ≡ true) = In-filter (is_open_valid min) head (held_rows replies) at in
    let parts : (not head.row.closed ≡ true) × (is_valid min head.row ≡ true) =
    and_parts (not head.row.closed) (is_valid min head.row) both.1 in
    record { among = both.0; unclosed = not-true head.row.closed parts.0; valid = parts.1 }

-- The refusals

-- no head, or no row of a segment
abbrev pub IsMissing : Fault → Type 0
IsMissing fault = (fault ≡ HeadMissing) ⊎ ((seg : ℕ) × (fault ≡ SegmentMissing seg))

taken-missing : (min : Pair) (replies : List (ServerId × List Row)) (head : HeldRow) (segs : List ℕ) (fault : Fault) →
    taken_rows min replies head segs ≡ Err fault → (seg : ℕ) × (fault ≡ SegmentMissing seg)
taken-missing min replies head [] fault e = cc
taken-missing min replies head (seg ∷ segs) fault e =
    by (taken_row min replies head seg) (taken_rows min replies head segs) (taken-missing min replies head segs) e
  where
    by : (found : Option HeldRow) (rest : Result (List PlanRow) Fault) →
        ((other : Fault) → rest ≡ Err other → (t : ℕ) × (other ≡ SegmentMissing t)) → row_then seg found rest ≡ Err fault →
        (t : ℕ) × (fault ≡ SegmentMissing t)
    by None rest rec it = (seg, (let same : SegmentMissing seg ≡ fault = cc in sym same))
    by (Some held) (Ok rows) rec it = cc
    by (Some held) (Err other) rec it = let same : other ≡ fault = cc in subst (λ one. (t : ℕ) × (one ≡ SegmentMissing t)) same
        (rec other refl)

pub refused-is : (min : Pair) (replies : List (ServerId × List Row)) (fault : Fault) → pick min replies ≡ Err fault → IsMissing fault
refused-is min replies fault e = by (head_row min replies) e
  where
    with_rows : (head : HeldRow) (found : Result (List PlanRow) Fault) →
        ((other : Fault) → found ≡ Err other → (t : ℕ) × (other ≡ SegmentMissing t)) → plan_of head.row.seg found ≡ Err fault →
        IsMissing fault
    with_rows head (Ok rows) rec it = cc
    with_rows head (Err other) rec it = let same : other ≡ fault = cc in inr (subst (λ one. (t : ℕ) × (one ≡ SegmentMissing t)) same
        (rec other refl))

    by : (found : Option HeldRow) → pick_by min replies found ≡ Err fault → IsMissing fault
    by None it = inl (let same : HeadMissing ≡ fault = cc in sym same)
    by (Some head) it = with_rows head (taken_rows min replies head (ascending head.row.digest))
        (taken-missing min replies head (ascending head.row.digest)) it
