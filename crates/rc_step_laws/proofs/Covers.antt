-- An accepted plan covers each durable place of its master's log, or a greater version of what stands there.
use Rattle.std.proofs.Common.{◌≡◌, ◌⊎◌, ℕ, zero, suc, ◌+◌, ◌<◌, ◌≤◌, max, true, false, List, [], ◌∷◌}
use Rattle.std.proofs.Common.{Some, slice_get, sym, ap, ◌∙◌, subst, inl, inr, arith}
use Rattle.std.proofs.lemmas.Bool.{cases_order}
use Rattle.std.proofs.lemmas.Bool.Decides.{nat_tests}
use Rattle.rc_model.specs.Model.{ServerId, Pair, Entry, Row, PlanRow, Message, Place, CommitOk, Replicas, between, to_coordinator}
use Rattle.rc_model.specs.Model.{from_coordinator, HeldRow, is_below, is_valid, Log, Master, Attempt, HostNode, In, IsHeld}
use Rattle.rc_types.specs.declared.rows.Plan.{Plan}
use Rattle.rc_model.specs.Coordinator.{Coordinator}
use Rattle.rc_step_laws.specs.Words.{log_in, IsOpenedAt, IsCommitted, IsNumbered}
use Rattle.rc_step_laws.specs.Facts.{IsSafe, IsOutdated, IsDead, IsDigest, GoodMaster, IsPlace, IsCopy, IsAnswer, IsPlan, GoodAttempt, Good}
use Rattle.rc_step_laws.proofs.Copies.{split}
use Rattle.rc_step_laws.proofs.Picked.{IsAnswered, IsTaken, IsPicked, picked-is}
use Rattle.rc_step_laws.proofs.Attempting.{numbered-same}

-- Pairs

-- what is granted is not above the least pair, so what is below it in its segment is below the least pair
below-least : (least : Pair) (s : ℕ) {low high : ℕ} → is_below least (record { seg = s; epoch = high }) ≡ false → low < high →
    is_below (record { seg = s; epoch = low }) least ≡ false → ⊥
below-least least s granted less valid = grind (arith, nat_tests)

-- an open row that is valid is not below the least pair
open-valid : (least : Pair) (row : Row) → row.closed ≡ false → is_valid least row ≡ true →
    is_below (record { seg = row.seg; epoch = row.epoch }) least ≡ false
open-valid least row unclosed valid = search arith

-- One copy

-- the epoch was granted, so a lower one of the segment is not valid
granted-below : {sent : List Message} {masters : ServerId → Master} {hosts : ℕ → HostNode} {c : Coordinator} → Good sent masters hosts c →
    (m : ServerId) (s : ℕ) {low high : ℕ} → IsCommitted sent m s high → low < high →
    is_below (record { seg = s; epoch = low }) (c.least m) ≡ false → ⊥
granted-below good m s (inl none) less valid = absurd (omega arith)
granted-below {c} good m s {high} (inr told) less valid =
    below-least (c.least m) s (good.messages (from_coordinator m (CommitOk s high)) told) less valid

-- a valid row of a segment has each durable place of it
pub row-covers : {sent : List Message} {masters : ServerId → Master} {hosts : ℕ → HostNode} {c : Coordinator} → Good sent masters hosts c →
    {m : ServerId} (y : ServerId) {row : Row} → IsCopy sent m (masters m).log y.index y.generation row.seg row.epoch
    row.closed row.len row.digest →
    is_valid (c.least m) row ≡ true → {o : ℕ} → IsSafe sent m (masters m).log row.seg o → o < row.len
row-covers {sent} {masters} {c} good {m} y {row} copy valid {o} safe = split row.closed if_closed if_open
  where
    if_closed : row.closed ≡ true → o < row.len
    if_closed shut_so = search arith

    if_open : row.closed ≡ false → o < row.len
    if_open open_so =
        let at : IsOpenedAt sent m row.seg row.epoch y.index y.generation row.len = copy.opened_at open_so in
        by at (cases_order row.epoch safe.epoch)
      where
        by : IsOpenedAt sent m row.seg row.epoch y.index y.generation row.len →
            (row.epoch ≡ safe.epoch) ⊎ ((row.epoch < safe.epoch) ⊎ (safe.epoch < row.epoch)) → o < row.len
        by at (inr (inl less)) = absurd (granted-below good m row.seg
            safe.granted less (open-valid (c.least m) row open_so valid))
        by at (inl same) = search arith
        by at (inr (inr more)) = search arith

-- the head row is of no segment below a durable place: that one is shut
pub head-not-below : {sent : List Message} {masters : ServerId → Master} {hosts : ℕ → HostNode} {c : Coordinator} →
    Good sent masters hosts c →
    {m : ServerId} (y : ServerId) {row : Row} → IsCopy sent m (masters m).log y.index y.generation row.seg row.epoch
    row.closed row.len row.digest →
    row.closed ≡ false → is_valid (c.least m) row ≡ true → ((masters m).log.segments row.seg).shut ≡ true → ⊥
head-not-below {sent} {masters} {c} good {m} y {row} copy open_so valid shut_so =
    by (cases_order row.epoch ((masters m).log.segments row.seg).config.epoch)
  where
    at : IsOpenedAt sent m row.seg row.epoch y.index y.generation row.len
    at = copy.opened_at open_so

    place : IsPlace sent m (masters m).log at.to row.seg row.epoch at.digest at.entries false
    place = good.messages (between m at.to (Place row.seg row.epoch at.digest at.entries false)) at.placed

    mine : GoodMaster sent m (masters m)
    mine = good.masters_are m

    by : (row.epoch ≡ ((masters m).log.segments row.seg).config.epoch)
        ⊎ ((row.epoch < ((masters m).log.segments row.seg).config.epoch) ⊎
        (((masters m).log.segments row.seg).config.epoch < row.epoch)) → ⊥
    by (inl same) = search (arith, at, place)
    by (inr (inl less)) = granted-below good m row.seg
        (mine.committed row.seg (mine.shut_committed row.seg shut_so)) less (open-valid (c.least m) row open_so valid)
    by (inr (inr more)) = let upto : row.epoch ≤ ((masters m).log.segments row.seg).config.epoch = place.epoch in omega arith

-- Versions have an end

top : List Entry → ℕ
top [] = 0
top (entry ∷ entries) = max entry.version (top entries)

top-in : (entries : List Entry) (k : ℕ) {entry : Entry} → slice_get entries k ≡ Some entry → entry.version ≤ top entries
unfolding top
top-in [] k e = cc
top-in (other ∷ entries) zero {entry} e = let same : other ≡ entry =
    cc in let v : other.version ≡ entry.version = ap (λ (one : Entry). one.version) same in omega arith
top-in (other ∷ entries) (suc k) {entry} e = let rest : entry.version ≤ top entries = top-in entries k e in omega arith

top_to : Log → ℕ → ℕ
top_to log zero = 0
top_to log (suc s) = max (top_to log s) (top (log_in log (suc s)))

top_to-in : (log : Log) (n s o : ℕ) (entry : Entry) → 0 < s → s ≤ n → slice_get (log_in log s) o ≡ Some entry → entry.version ≤ top_to log n
unfolding top_to
top_to-in log zero s o entry above below at = absurd (omega arith)
top_to-in log (suc n) s o entry above below at = by (cases_order s (suc n)) (λ (upto : s ≤ n). top_to-in log n s o entry above upto at)
  where
    here : s ≡ suc n → entry.version ≤ top (log_in log (suc n))
    here same = top-in (log_in log (suc n)) o (subst (λ t. slice_get (log_in log t) o ≡ Some entry) same at)

    by : (s ≡ suc n) ⊎ ((s < suc n) ⊎ (suc n < s)) → (s ≤ n → entry.version ≤ top_to log n) →
        entry.version ≤ max (top_to log n) (top (log_in log (suc n)))
    by (inl same) rec = let one : entry.version ≤ top (log_in log (suc n)) = here same in omega arith
    by (inr (inl less)) rec = let one : entry.version ≤ top_to log n = rec (omega arith) in omega arith
    by (inr (inr more)) rec = absurd (omega arith)

-- What a plan covers

-- the place is held by a row, or a row holds a greater version of the entry's key under its term
pub record IsCovered (m : ServerId) (log : Log) (rows : List PlanRow) (s o : ℕ) (entry : Entry) : Type 0 where
  pub seg : ℕ
  pub offset : ℕ
  pub other : Entry
  pub held : IsHeld rows seg offset
  pub holds : slice_get (log_in log seg) offset ≡ Some other
  pub term : other.term ≡ entry.term
  pub table : other.table ≡ entry.table
  pub key : other.key ≡ entry.key
  pub is_it : ((seg ≡ s) × (offset ≡ o)) ⊎ (entry.version < other.version)

-- a plan of an attempt of this master, in a good world
pub record PlanIs (sent : List Message) (masters : ServerId → Master) (c : Coordinator) (m : ServerId) (rows : List PlanRow) : Type 0 where
  pub head : ServerId
  pub row : Row
  pub head_copy : IsCopy sent m (masters m).log head.index head.generation row.seg row.epoch row.closed row.len row.digest
  pub unclosed : row.closed ≡ false
  pub valid : is_valid (c.least m) row ≡ true
  -- each row of the plan is a valid copy
  pub each : (one : PlanRow) → In one rows → (y : ServerId) × (copy : Row) × (one ≡ record { seg = copy.seg; holder = y; len = copy.len })
      × (is_valid (c.least m) copy ≡ true) × IsCopy sent m (masters m).log y.index y.generation copy.seg copy.epoch
      copy.closed copy.len copy.digest
  -- of a segment of the head's digest, and each of those has one
  pub within : (one : PlanRow) → In one rows → In one.seg row.digest
  pub all : (s : ℕ) → In s row.digest → (one : PlanRow) × (In one rows) × (one.seg ≡ s)

-- a row of an answer of an attempt is a copy of its master's
answered-copy : {sent : List Message} {masters : ServerId → Master} {hosts : ℕ → HostNode} {c : Coordinator} → Good sent masters hosts c →
    {m : ServerId} {number : ℕ} {attempt : Attempt} → IsNumbered c.attempts number attempt → attempt.master ≡ m →
    (held : HeldRow) → IsAnswered attempt.replies held →
    IsCopy sent m (masters m).log held.holder.index held.holder.generation held.row.seg held.row.epoch held.row.closed
    held.row.len held.row.digest
answered-copy {sent} {masters} {hosts} {c} good {m} {number} {attempt} numbered of_m held answered =
    let mine : GoodAttempt sent c number attempt = good.coordinator.attempts number attempt numbered in
    let answer : IsAnswer sent masters hosts c held.holder number answered.rows =
    good.messages (to_coordinator held.holder (Replicas number answered.rows))
    (mine.answered held.holder answered.rows answered.reply) in
    let same : answer.attempt.attempt ≡ attempt =
    numbered-same answer.attempt.numbered numbered in
    let master : answer.master ≡ m = sym answer.attempt.master_is ∙ (ap (λ (one : Attempt). one.master) same ∙ of_m) in
    subst (λ n. IsCopy sent n (masters n).log held.holder.index held.holder.generation held.row.seg held.row.epoch
    held.row.closed held.row.len held.row.digest) master (answer.rows_are held.row answered.row)

-- the plan of a message was picked from the answers of its attempt
pub plan-picked : {sent : List Message} {masters : ServerId → Master} {hosts : ℕ → HostNode} {c : Coordinator} → Good sent masters hosts c →
    {number : ℕ} {m : ServerId} {head : ℕ} {rows : List PlanRow} → (plan : IsPlan c number m head rows) →
    IsPicked (c.least m) plan.attempt.replies plan.decision.plan
plan-picked {c} good {number} plan =
    subst (λ least. IsPicked least plan.attempt.replies plan.decision.plan) (ap c.least plan.master_is) (picked-is
    ((good.coordinator.attempts number plan.attempt plan.numbered).picked plan.decision plan.decided))

pub plan-is : {sent : List Message} {masters : ServerId → Master} {hosts : ℕ → HostNode} {c : Coordinator} → Good sent masters hosts c →
    {number : ℕ} {m : ServerId} {head : ℕ} {rows : List PlanRow} → IsPlan c number m head rows → PlanIs sent masters c m rows
plan-is {sent} {masters} {c} good {m} {head} {rows} plan = record {
  head = picked.head.holder;
  row = picked.head.row;
  head_copy = copy picked.head picked.is_head.answered;
  unclosed = picked.is_head.unclosed;
  valid = picked.is_head.valid;
  each = λ one at. each one (picked.each one (subst (λ (rs : List PlanRow). In one rs) (sym rows_are) at));
  within = λ one at. picked.within one (subst (λ (rs : List PlanRow). In one rs) (sym rows_are) at);
  all = λ s at. all s (picked.all s at);
}
  where
    rows_are : plan.decision.plan.rows ≡ rows
    rows_are = ap (λ (one : Plan). one.rows) plan.plan_is

    picked : IsPicked (c.least m) plan.attempt.replies plan.decision.plan
    picked = plan-picked good plan

    copy : (held : HeldRow) → IsAnswered plan.attempt.replies held →
        IsCopy sent m (masters m).log held.holder.index held.holder.generation held.row.seg held.row.epoch
        held.row.closed held.row.len held.row.digest
    copy = answered-copy good plan.numbered plan.master_is

    each : (one : PlanRow) → IsTaken (c.least m) plan.attempt.replies one →
        (y : ServerId) × (row : Row) × (one ≡ record { seg = row.seg; holder = y; len = row.len })
        × (is_valid (c.least m) row ≡ true) × IsCopy sent m (masters m).log y.index y.generation row.seg row.epoch
        row.closed row.len row.digest
    each one taken = (taken.held.holder, taken.held.row, taken.row_is, taken.valid, copy taken.held taken.answered)

    all : (s : ℕ) → ((one : PlanRow) × (In one plan.decision.plan.rows) × (one.seg ≡ s)) → (one : PlanRow) × (In one rows) × (one.seg ≡ s)
    all s found = (found.0, subst (λ (rs : List PlanRow). In found.0 rs) rows_are found.1, found.2)

-- and the plan's head is the segment of its head row
pub plan-head : {sent : List Message} {masters : ServerId → Master} {hosts : ℕ → HostNode} {c : Coordinator} →
    (good : Good sent masters hosts c) →
    {number : ℕ} {m : ServerId} {head : ℕ} {rows : List PlanRow} → (plan : IsPlan c number m head rows) →
    (plan-is good plan).row.seg ≡ head
unfolding plan-is
plan-head good {head} plan = sym (plan-picked good plan).head_is ∙ ap (λ (one : Plan). one.head) plan.plan_is

-- a durable place of a segment of the head's digest is held
pub held-in : (sent : List Message) (masters : ServerId → Master) (hosts : ℕ → HostNode) (c : Coordinator) → Good sent masters hosts c →
    (m : ServerId) (rows : List PlanRow) → (plan : PlanIs sent masters c m rows) → (s o : ℕ) →
    IsSafe sent m (masters m).log s o → In s plan.row.digest → IsHeld rows s o
held-in sent masters hosts c good m rows plan s o safe at =
    let found : (one : PlanRow) × (In one rows) × (one.seg ≡ s) = plan.all s at in
    by found.0 found.1 found.2 (plan.each found.0 found.1)
  where
    by : (one : PlanRow) → In one rows → one.seg ≡ s →
        ((y : ServerId) × (copy : Row) × (one ≡ record { seg = copy.seg; holder = y; len = copy.len })
        × (is_valid (c.least m) copy ≡ true) × IsCopy sent m (masters m).log y.index y.generation copy.seg copy.epoch
        copy.closed copy.len copy.digest) → IsHeld rows s o
    by one there seg (y, copy, is, valid, of_log) =
        let of_seg : s ≡ copy.seg = sym seg ∙ ap (λ (row : PlanRow). row.seg) is in
        let below : o < copy.len = row-covers good y of_log valid
        (subst (λ t. IsSafe sent m (masters m).log t o) of_seg safe) in
        let len : one.len ≡ copy.len = ap (λ (row : PlanRow). row.len) is in
        record { row = one; among = there; seg = seg; below = subst (λ n. o < n) (sym len) below }

-- what covers a greater version of the entry covers the entry
covered-greater : (m : ServerId) (log : Log) (rows : List PlanRow) (s o seg offset : ℕ) (entry other : Entry) →
    other.term ≡ entry.term → other.table ≡ entry.table → other.key ≡ entry.key → entry.version < other.version →
    slice_get (log_in log seg) offset ≡ Some other → IsCovered m log rows seg offset other → IsCovered m log rows s o entry
covered-greater m log rows s o seg offset entry other term table key greater at p = search arith

-- a durable place is covered, given that each greater version of its key at a durable place is
covered-step : (sent : List Message) (masters : ServerId → Master) (hosts : ℕ → HostNode) (c : Coordinator) → Good sent masters hosts c →
    (m : ServerId) (rows : List PlanRow) → PlanIs sent masters c m rows → (s o : ℕ) (entry : Entry) → IsSafe sent m (masters m).log s o →
    slice_get (log_in (masters m).log s) o ≡ Some entry →
    ((seg offset : ℕ) (other : Entry) → IsSafe sent m (masters m).log seg offset →
    slice_get (log_in (masters m).log seg) offset ≡ Some other →
    entry.version < other.version → IsCovered m (masters m).log rows seg offset other) → IsCovered m (masters m).log rows s o entry
covered-step sent masters hosts c good m rows plan s o entry safe at rec = by_place (cases_order plan.row.seg s)
  where
    log : Log
    log = (masters m).log

    here : IsHeld rows s o → IsCovered m log rows s o entry
    here held = search arith

    digest : IsDigest sent m log plan.row.seg (log.segments plan.row.seg).digest
    digest = (good.masters_are m).digests plan.row.seg plan.head_copy.opened

    if_in : In s (log.segments plan.row.seg).digest → IsCovered m log rows s o entry
    if_in there = here (held-in sent masters hosts c good m rows plan s o safe
        (subst (λ (ns : List ℕ). In s ns) (sym plan.head_copy.digest_is) there))

    if_dead : IsDead sent m log s → IsCovered m log rows s o entry
    if_dead dead =
        let old : IsOutdated sent m log entry = dead.outdated o entry at in
        covered-greater m log rows s o old.seg old.offset entry old.other old.term old.table old.key old.greater old.holds
        (rec old.seg old.offset old.other old.safe old.holds old.greater)

    by_digest : In s (log.segments plan.row.seg).digest ⊎ IsDead sent m log s → IsCovered m log rows s o entry
    by_digest (inl there) = if_in there
    by_digest (inr dead) = if_dead dead

    by_place : (plan.row.seg ≡ s) ⊎ ((plan.row.seg < s) ⊎ (s < plan.row.seg)) → IsCovered m log rows s o entry
    by_place (inl same) = if_in (subst (λ t. In t (log.segments plan.row.seg).digest) same digest.own)
    by_place (inr (inl below)) = absurd (head-not-below good plan.head plan.head_copy plan.unclosed plan.valid
        (safe.below plan.row.seg plan.head_copy.opened.above below))
    by_place (inr (inr above)) = by_digest (digest.lacks s safe.opened.above above)

-- by induction on how far its version is from the greatest of the log
covered-by : (sent : List Message) (masters : ServerId → Master) (hosts : ℕ → HostNode) (c : Coordinator) → Good sent masters hosts c →
    (m : ServerId) (rows : List PlanRow) → PlanIs sent masters c m rows → (n s o : ℕ) (entry : Entry) → IsSafe sent m (masters m).log s o →
    slice_get (log_in (masters m).log s) o ≡ Some entry →
    top_to (masters m).log (masters m).log.head ≤ entry.version + n → IsCovered m (masters m).log rows s o entry
covered-by sent masters hosts c good m rows plan zero s o entry safe at bound =
    covered-step sent masters hosts c good m rows plan s o entry safe at (λ seg offset other there holds greater.
    absurd (too_great seg offset other there holds greater))
  where
    too_great : (seg offset : ℕ) (other : Entry) → IsSafe sent m (masters m).log seg offset →
        slice_get (log_in (masters m).log seg) offset ≡ Some other → entry.version < other.version → ⊥
    too_great seg offset other there holds greater = search (arith, top_to, top_to-in)
covered-by sent masters hosts c good m rows plan (suc n) s o entry safe at bound =
    covered-step sent masters hosts c good m rows plan s o entry safe at
    (λ seg offset other there holds greater. covered-by sent masters hosts c good m rows plan n seg offset other there
    holds (omega (arith, bound, greater)))

pub covered : (sent : List Message) (masters : ServerId → Master) (hosts : ℕ → HostNode) (c : Coordinator) → Good sent masters hosts c →
    (m : ServerId) (rows : List PlanRow) → PlanIs sent masters c m rows → (s o : ℕ) (entry : Entry) → IsSafe sent m (masters m).log s o →
    slice_get (log_in (masters m).log s) o ≡ Some entry → IsCovered m (masters m).log rows s o entry
covered sent masters hosts c good m rows plan s o entry safe at =
    covered-by sent masters hosts c good m rows plan (top_to (masters m).log (masters m).log.head) s o entry safe at (omega arith)
