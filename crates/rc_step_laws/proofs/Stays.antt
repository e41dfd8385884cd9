-- What a log's changes keep of its freed segments: all of it, but for a roll that begins before the head writes.
use Rattle.std.proofs.Common.{◌≡◌, ◌⊎◌, ℕ, ◌+◌, ◌-◌, ◌<◌, ◌≤◌, Bool, true, false, not, ◌||◌, nat_eq, List, [], ◌∷◌, ◌++◌, filter}
use Rattle.std.proofs.Common.{Option, Some, None, Result, Ok, Err, refl, sym, ap, subst, inl, inr, arith}
use Rattle.std.specs.List.{list_any}
use Rattle.std.proofs.lemmas.Bool.{and_parts, eqb-true, eq-eqb, ltb-true}
use Rattle.rc_model.specs.Heads.{opened_on}
use Rattle.rc_model.specs.Model.{ServerId, Opening, Writing, Fault, ServerList, Config, lose, refill, noted, committed_at}
use Rattle.rc_model.specs.Model.{Segment, new_segment, under_new_epoch, Log, head_of, old_head_of, with_segment}
use Rattle.rc_model.specs.Model.{has_segment, opens_head, next_digest, with_config, stored}
use Rattle.rc_model.specs.Model.{commit_noted, opens_change, refills, loses, may_start, may_write, left_out, with_freed, starts}
use Rattle.rc_model.specs.Model.{closes_old, writes_on, In}
use Rattle.rc_model.proofs.Members.{In-append, In-filter}
use Rattle.rc_step_laws.proofs.MasterWorlds.{put-cases}
use Rattle.rc_step_laws.specs.Freed.{IsLeftOut, GoodFrees}
use Rattle.rc_model.proofs.Tests.{true_false, either}
use Rattle.rc_model.proofs.Tables.{put_each}

-- fewer segments were freed
pub fewer : {more freed : List ℕ} {log : Log} → ((s : ℕ) → In s freed → In s more) → GoodFrees more log → GoodFrees freed log
fewer within good = search arith

-- the change keeps what holds, whatever was freed
abbrev pub Stays : Log → Log → Type 0
Stays old new = (freed : List ℕ) → GoodFrees freed old → GoodFrees freed new

pub stays-refl : {log : Log} → Stays log log
stays-refl freed good = good

pub stays-trans : {a b c : Log} → Stays a b → Stays b c → Stays a c
stays-trans p q freed good = q freed (p freed good)

-- Segments

-- the digests stay, what is shut stays shut, and the head writes only if it did, or is the first
record IsAlike (old new : Log) : Type 0 where
  head : new.head ≡ old.head
  digest : (k : ℕ) → (new.segments k).digest ≡ (old.segments k).digest
  shut : (k : ℕ) → (old.segments k).shut ≡ true → (new.segments k).shut ≡ true
  writing : new.phase ≡ Writing → (old.phase ≡ Writing) ⊎ (old.head ≡ 1)

stays-alike : {old new : Log} → IsAlike old new → Stays old new
stays-alike {old} {new} same freed good = record {
  left_out = λ s at. left s (good.left_out s at);
  old_shut = λ s above below. same.shut s (good.old_shut s above (subst (λ n. s + 1 < n) same.head below));
  writing_shut = λ writing s above below. writes s above (subst (λ n. s < n) same.head below) (same.writing writing);
  digests = λ k t upto at. good.digests k t (subst (λ n. k ≤ n) same.head upto) (subst (In t) (same.digest k) at);
}
  where
    left : (s : ℕ) → IsLeftOut old s → IsLeftOut new s
    left s out = search arith

    writes : (s : ℕ) → 0 < s → s < old.head → (old.phase ≡ Writing) ⊎ (old.head ≡ 1) → (new.segments s).shut ≡ true
    writes s above below (inl writing) = same.shut s (good.writing_shut writing s above below)
    writes s above below (inr first) = absurd (omega (arith, above, below, first))

pub stays-put : {log : Log} (seg : ℕ) (segment : Segment) → segment.digest ≡ (log.segments seg).digest →
    ((log.segments seg).shut ≡ true → segment.shut ≡ true) → Stays log (with_segment seg segment log)
stays-put {log} seg segment digest shut = search (arith, stays-alike, put_each)

stays-config : {log : Log} (seg : ℕ) (config : Config) → Stays log (with_config seg config log)
stays-config {log} seg config = stays-put seg (record (log.segments seg) { config = config }) refl (λ e. e)

pub stays-stored : (seg : ℕ) (from : ServerId) (epoch len : ℕ) (closed : Bool) {log : Log} →
    Stays log (stored seg from epoch len closed log)
stays-stored seg from epoch len closed {log} =
    either (Stays log) (has_segment log seg) (with_config seg (noted from epoch len closed (log.segments seg).config) log) log
    (λ _. stays-config seg (noted from epoch len closed (log.segments seg).config)) (λ _. stays-refl)

pub stays-commit_noted : (seg epoch : ℕ) {log : Log} → Stays log (commit_noted seg epoch log)
stays-commit_noted seg epoch {log} =
    either (Stays log) (has_segment log seg) (with_config seg (committed_at epoch (log.segments seg).config) log) log
    (λ _. stays-config seg (committed_at epoch (log.segments seg).config)) (λ _. stays-refl)

stays-change : (seg : ℕ) {log : Log} (answer : Config × Result Bool Fault) → Stays log (opens_change seg log answer).0
stays-change seg {log} (config, Ok true) = stays-put seg (under_new_epoch config (log.segments seg)) refl (λ e. e)
stays-change seg (config, Ok false) = stays-config seg config
stays-change seg (config, Err fault) = stays-config seg config

pub stays-loses : (servers : ServerList) (seg : ℕ) {log : Log} → Stays log (loses servers seg log).0
stays-loses servers seg {log} =
    either (λ (after : Log × Result (List ServerId) Fault). Stays log after.0) (log.segments seg).shut
    (refills seg log (refill log.own servers (log.segments seg).config))
    (opens_change seg log (lose log.own servers (log.segments seg).config))
    (λ _. stays-config seg (refill log.own servers (log.segments seg).config).0)
    (λ _. stays-change seg (lose log.own servers (log.segments seg).config))

-- Phases

pub stays-starts : {log : Log} → may_start log ≡ true → Stays log (starts log)
stays-starts {log} may = search (arith, stays-alike, eqb-true, and_parts)

pub stays-closes : {log : Log} → Stays log (closes_old log)
stays-closes = search (arith, stays-alike)

-- New heads

-- a head is opened where all before the old one are shut, with a digest that has but those of the old one, and itself
stays-opens : {log : Log} (digest : List ℕ) (ids : List ServerId) → (log.phase ≡ Writing) ⊎ (log.head ≡ 0) →
    ((t : ℕ) → In t digest → (t ≡ log.head + 1) ⊎ In t (head_of log).digest) → Stays log (opens_head log digest ids)
stays-opens {log} digest ids may within freed good = record {
  left_out = λ s at. left s (good.left_out s at);
  old_shut = λ s above below. elsewhere s (omega (arith, below)) (shut s above (omega (arith, below)) may);
  writing_shut = λ e. not-opening e;
  digests = λ k t upto at. digests k t upto at;
}
  where
    not-opening : {P : Type 0} → Opening ≡ Writing → P
    not-opening e = cc

    shut : (s : ℕ) → 0 < s → s < log.head → (log.phase ≡ Writing) ⊎ (log.head ≡ 0) → (log.segments s).shut ≡ true
    shut s above below (inl writing) = good.writing_shut writing s above below
    shut s above below (inr none) = absurd (omega (arith, below, none))

    -- a segment that was there stays as it is
    elsewhere : (s : ℕ) → s ≤ log.head → (log.segments s).shut ≡ true → ((opens_head log digest ids).segments s).shut ≡ true
    elsewhere s upto e = search (arith, put-cases)

    -- a number up to the new head is that of the new head or is up to the old one
    which : (k : ℕ) → (log.head + 1 ≡ k → ⊥) → k ≤ log.head + 1 → k ≤ log.head
    which k differs upto = search arith

    digests : (k t : ℕ) → k ≤ log.head + 1 → In t ((opens_head log digest ids).segments k).digest → t ≤ k
    digests k t upto = put-cases (λ j (one : Segment). j ≤ log.head + 1 → In t one.digest → t ≤ j) log.segments
        (log.head + 1) (new_segment (log.head + 1) digest ids)
        (λ _ at. new (within t at)) (λ j differs below at. good.digests j t (which j differs below) at) k upto
      where
        new : (t ≡ log.head + 1) ⊎ In t (head_of log).digest → t ≤ log.head + 1
        new (inl same) = omega (arith, same)
        new (inr old) = let upto : t ≤ log.head = good.digests log.head t (omega arith) old in omega (arith, upto)

    left : (s : ℕ) → IsLeftOut log s → IsLeftOut (opens_head log digest ids) s
    left s out = record {
      head = out.head;
      upto = (let upto : out.head ≤ log.head = out.upto in omega (arith, upto));
      below = out.below;
      shut = λ t above below. elsewhere t (let upto : out.head ≤ log.head = out.upto in omega (arith, upto, below))
          (out.shut t above below);
      lacks = λ k from upto. lacks k from upto;
    }
      where
        lacks : (k : ℕ) → out.head ≤ k → k ≤ log.head + 1 → In s ((opens_head log digest ids).segments k).digest → ⊥
        lacks k = put-cases (λ j (one : Segment). out.head ≤ j → j ≤ log.head + 1 → In s one.digest → ⊥) log.segments
            (log.head + 1) (new_segment (log.head + 1) digest ids)
            (λ _ _ at. new (within s at)) (λ j differs from below at. out.lacks j from (which j differs below) at) k
          where
            new : (s ≡ log.head + 1) ⊎ In s (head_of log).digest → ⊥
            new (inl same) = let upto : out.head ≤ log.head =
                out.upto in let below : s < out.head = out.below in omega (arith, upto, below, same)
            new (inr old) = out.lacks log.head out.upto (omega arith) old

pub stays-first_opened : {log : Log} (chosen : Option (List ServerId)) → log.head ≡ 0 → Stays log (opened_on log (1 ∷ []) chosen).0
stays-first_opened None none = stays-refl
stays-first_opened {log} (Some ids) none = search (arith, stays-opens)

pub stays-next_opened : {log : Log} (dead : List ℕ) (chosen : Option (List ServerId)) → log.phase ≡ Writing →
    Stays log (opened_on log (next_digest log dead) chosen).0
stays-next_opened dead None writing = stays-refl
stays-next_opened {log} dead (Some ids) writing = stays-opens (next_digest log dead) ids (inl writing) within
  where
    within : (t : ℕ) → In t (next_digest log dead) → (t ≡ log.head + 1) ⊎ In t (head_of log).digest
    within t at = by (In-append t (filter (λ seg. nat_eq seg log.head || not (list_any (nat_eq seg) dead))
        (head_of log).digest) ((log.head + 1) ∷ []) at)
      where
        by : In t (filter (λ seg. nat_eq seg log.head || not (list_any (nat_eq seg) dead)) (head_of log).digest) ⊎
            In t ((log.head + 1) ∷ []) → (t ≡ log.head + 1) ⊎ In t (head_of log).digest
        by (inl old) = inr (In-filter (λ seg. nat_eq seg log.head || not (list_any (nat_eq seg) dead)) t (head_of log).digest old).0
        by (inr (inl new)) = inl new
        by (inr (inr never)) = absurd never

-- Writing on

stays-freed : (segs : List ℕ) {log : Log} → Stays log (with_freed segs log)
stays-freed [] = stays-refl
stays-freed (seg ∷ segs) {log} = stays-trans (stays-put seg (record (log.segments seg) { freed = true }) refl (λ e. e))
    (stays-freed segs)

-- what a list has passes for it
any-in : (s : ℕ) (digest : List ℕ) → In s digest → list_any (nat_eq s) digest ≡ true
any-in s [] at = absurd at
any-in s (t ∷ digest) (inl same) = ap (λ b. b || list_any (nat_eq s) digest) (eq-eqb s t same)
any-in s (t ∷ digest) (inr rest) = or_true (nat_eq s t) (any-in s digest rest)
  where
    or_true : (b : Bool) → list_any (nat_eq s) digest ≡ true → (b || list_any (nat_eq s) digest) ≡ true
    or_true true e = refl
    or_true false e = e

-- where the new head writes, what its digest leaves out may be freed: all before it are shut
pub writes-leave_out : {freed : List ℕ} {log : Log} → may_write log ≡ true → GoodFrees freed log →
    GoodFrees (freed ++ left_out log) (writes_on log)
writes-leave_out {freed} {log} may good = stays-freed (left_out log) (freed ++ left_out log) writing
  where
    has_old : 1 < log.head
    has_old = search (arith, ltb-true, and_parts)

    old_is_shut : (log.segments (log.head - 1)).shut ≡ true
    old_is_shut = search (arith, and_parts)

    -- the old head, or one before it
    old_or : (s n : ℕ) → s < n → (s ≡ n - 1) ⊎ (s + 1 < n)
    old_or s n p = grind arith

    all_shut : (s : ℕ) → 0 < s → s < log.head → (log.segments s).shut ≡ true
    all_shut s above below = search (arith, old_or, old_is_shut)

    new : (s : ℕ) → In s (left_out log) → IsLeftOut (record log { phase = Writing }) s
    new s at =
        let was : In s (old_head_of log).digest × (not (list_any (nat_eq s) (head_of log).digest) ≡ true) =
        In-filter (λ seg. not (list_any (nat_eq seg) (head_of log).digest)) s (old_head_of log).digest at in
        let upto : s ≤ log.head - 1 = good.digests (log.head - 1) s (omega arith) was.0 in
        record {
          head = log.head;
          upto = omega arith;
          below = omega (arith, upto, has_old);
          shut = all_shut;
          lacks = λ k from k_upto there. (let same : k ≡ log.head = omega (arith, from, k_upto) in
              lacking s (list_any (nat_eq s) (head_of log).digest)
              (any-in s (head_of log).digest (subst (λ j. In s (log.segments j).digest) same there)) was.1);
        }
      where
        lacking : (t : ℕ) (b : Bool) → b ≡ true → not b ≡ true → ⊥
        lacking t true e f = true_false (sym f)
        lacking t false e f = true_false (sym e)

    old : (s : ℕ) → IsLeftOut log s → IsLeftOut (record log { phase = Writing }) s
    old s out = record { head = out.head; upto = out.upto; below = out.below; shut = out.shut; lacks = out.lacks }

    writing : GoodFrees (freed ++ left_out log) (record log { phase = Writing })
    writing = record {
      left_out = λ s at. by s (In-append s freed (left_out log) at);
      old_shut = good.old_shut;
      writing_shut = λ _. all_shut;
      digests = good.digests;
    }
      where
        by : (s : ℕ) → In s freed ⊎ In s (left_out log) → IsLeftOut (record log { phase = Writing }) s
        by s (inl was) = old s (good.left_out s was)
        by s (inr is) = new s is
