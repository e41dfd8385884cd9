-- What the digest of the next head leaves out, and when a segment is dead.
use Rattle.std.proofs.Common.{◌≡◌, ℕ, zero, suc, ◌+◌, ◌<◌, Bool, true, false}
use Rattle.std.proofs.Common.{cond, ◌&&◌, ◌||◌, nat_eq, nat_lt, List, [], ◌∷◌, ◌++◌}
use Rattle.std.proofs.Common.{map, filter, Option, Some, None, Result, Ok, Err, slice_get, refl, sym, ap, ◌∙◌, subst, arith}
use Rattle.std.specs.List.{list_any, list_all}
use Rattle.std.proofs.lemmas.Bool.{and_parts, eqb-true, ltb-true, or_left, or_right, or_parts, not-false}
use Rattle.rc_model.specs.Heads.{opened_on}
use Rattle.rc_model.specs.Model.{ServerId, Entry, Fault, LogFull, LAST_SEGMENT, ServerList, choose, Log, head_of}
use Rattle.rc_model.specs.Model.{next_digest, begin_roll, is_of, is_outdated, Master, durable_entries, is_dead_segment}
use Rattle.rc_model.specs.Model.{dead_segments}
use Rattle.rc_model.proofs.Tests.{either, true_false}
use Rattle.rc_model.proofs.Tables.{put-same}

-- Tests over lists

-- what all pass, each passes
pub all-get : {X : Type 0} (test : X → Bool) (xs : List X) (k : ℕ) {x : X} → list_all test xs ≡ true →
    slice_get xs k ≡ Some x → test x ≡ true
all-get test [] k all found = cc
all-get test (y ∷ ys) zero {x} all found =
    let same : y ≡ x = cc in ap test (sym same) ∙ (and_parts (test y) (list_all test ys) all).0
all-get test (y ∷ ys) (suc k) all found = all-get test ys k (and_parts (test y) (list_all test ys) all).1 found

-- one that passes
pub record Passes {X : Type 0} (test : X → Bool) (xs : List X) : Type 0 where
  pub place : ℕ
  pub one : X
  pub found : slice_get xs place ≡ Some one
  pub passes : test one ≡ true

-- where any passes, one does
pub any-get : {X : Type 0} {test : X → Bool} (xs : List X) → list_any test xs ≡ true → Passes test xs
any-get [] any = cc
any-get {test} (y ∷ ys) any = by (test y) refl any (any-get ys)
  where
    by : (b : Bool) → test y ≡ b → b || list_any test ys ≡ true → (list_any test ys ≡ true → Passes test ys) → Passes test (y ∷ ys)
    by true is any rec = record { place = 0; one = y; found = refl; passes = is }
    by false isn't any rec =
        let rest : Passes test ys = rec any in record { place = suc rest.place; one = rest.one; found = rest.found; passes = rest.passes }

-- a number that is there and passes is there among those that pass
kept : (test : ℕ → Bool) {n : ℕ} (ns : List ℕ) → list_any (nat_eq n) ns ≡ true → test n ≡ true →
    list_any (nat_eq n) (filter test ns) ≡ true
kept test [] there is = cc
kept test {n} (m ∷ ms) there is = by (nat_eq n m) refl (test m) refl there (λ rest. kept test ms rest is)
  where
    by : (b : Bool) → nat_eq n m ≡ b → (t : Bool) → test m ≡ t → b || list_any (nat_eq n) ms ≡ true →
        (list_any (nat_eq n) ms ≡ true → list_any (nat_eq n) (filter test ms) ≡ true) →
        list_any (nat_eq n) (cond t (m ∷ filter test ms) (filter test ms)) ≡ true
    by true same true passes there rec = or_left (nat_eq n m) (list_any (nat_eq n) (filter test ms)) same
    by true same false fails there rec = true_false (sym is ∙ (ap test (eqb-true n m same) ∙ fails))
    by false other true passes there rec = or_right (nat_eq n m) (list_any (nat_eq n) (filter test ms)) (rec there)
    by false other false fails there rec = rec there

-- a number among those that pass passes
passed : (test : ℕ → Bool) {n : ℕ} (ns : List ℕ) → list_any (nat_eq n) (filter test ns) ≡ true → test n ≡ true
passed test [] there = cc
passed test {n} (m ∷ ms) there = by (test m) refl there (passed test ms)
  where
    here : (b : Bool) → nat_eq n m ≡ b → test m ≡ true → b || list_any (nat_eq n) (filter test ms) ≡ true →
        (list_any (nat_eq n) (filter test ms) ≡ true → test n ≡ true) → test n ≡ true
    here true same passes there rec = ap test (eqb-true n m same) ∙ passes
    here false other passes there rec = rec there

    by : (t : Bool) → test m ≡ t → list_any (nat_eq n) (cond t (m ∷ filter test ms) (filter test ms)) ≡ true →
        (list_any (nat_eq n) (filter test ms) ≡ true → test n ≡ true) → test n ≡ true
    by true passes there rec = here (nat_eq n m) refl passes there rec
    by false fails there rec = rec there

-- a number of the first list is there in both joined
joined-left : (n : ℕ) (ns ms : List ℕ) → list_any (nat_eq n) ns ≡ true → list_any (nat_eq n) (ns ++ ms) ≡ true
joined-left n [] ms there = cc
joined-left n (k ∷ ks) ms there = by (nat_eq n k) refl there (joined-left n ks ms)
  where
    by : (b : Bool) → nat_eq n k ≡ b → b || list_any (nat_eq n) ks ≡ true →
        (list_any (nat_eq n) ks ≡ true → list_any (nat_eq n) (ks ++ ms) ≡ true) →
        nat_eq n k || list_any (nat_eq n) (ks ++ ms) ≡ true
    by true same there rec = or_left (nat_eq n k) (list_any (nat_eq n) (ks ++ ms)) same
    by false other there rec = or_right (nat_eq n k) (list_any (nat_eq n) (ks ++ ms)) (rec there)

-- Digests

-- what the next digest leaves out is in the list of the dead, and isn't the head
left-dead : (log : Log) (dead : List ℕ) (seg : ℕ) → list_any (nat_eq seg) (head_of log).digest ≡ true →
    list_any (nat_eq seg) (next_digest log dead) ≡ false →
    (list_any (nat_eq seg) dead ≡ true) × (nat_eq seg log.head ≡ false)
left-dead log dead seg there gone = search (arith, nat_eq, kept, true_false, joined-left, or_parts, not-false)

abbrev LeavesDead : Log → List ℕ → ℕ → Log × Result Bool Fault → Type 0
LeavesDead old dead seg answer = (began : Bool) → answer.1 ≡ Ok began → list_any (nat_eq seg) (head_of old).digest ≡ true →
    list_any (nat_eq seg) (head_of answer.0).digest ≡ false → (list_any (nat_eq seg) dead ≡ true) × (nat_eq seg old.head ≡ false)

leaves-opened_on : (old : Log) (dead : List ℕ) (seg : ℕ) (chosen : Option (List ServerId)) →
    LeavesDead old dead seg (opened_on old (next_digest old dead) chosen)
leaves-opened_on old dead seg None began e there gone = cc
leaves-opened_on old dead seg (Some ids) began e there gone = search (arith, put-same, left-dead, nat_eq)

leaves-begun : (old : Log) (servers : ServerList) (dead : List ℕ) (seg : ℕ) → LeavesDead old dead seg (begin_roll servers dead old)
leaves-begun old servers dead seg = either (LeavesDead old dead seg) (nat_lt old.head LAST_SEGMENT)
    (opened_on old (next_digest old dead) (choose (old.head + 1) old.own old.factor servers)) (old, Err LogFull)
    (λ _. leaves-opened_on old dead seg (choose (old.head + 1) old.own old.factor servers)) (λ _ began e there gone. cc)

-- a number in the list of the dead segments is that of a dead one
listed-dead : (master : Master) (seg : ℕ) → list_any (nat_eq seg) (dead_segments master) ≡ true → is_dead_segment master seg ≡ true
listed-dead master seg there = search (arith, nat_eq, passed)

-- a roll leaves out dead segments alone
pub rolls-leave : (master : Master) (log : Log) (began : Bool) (seg : ℕ) →
    begin_roll master.known (dead_segments master) master.log ≡ (log, Ok began) →
    list_any (nat_eq seg) (head_of master.log).digest ≡ true → list_any (nat_eq seg) (head_of log).digest ≡ false →
    (is_dead_segment master seg ≡ true) × (nat_eq seg master.log.head ≡ false)
rolls-leave master log began seg e there gone =
    let dead : (list_any (nat_eq seg) (dead_segments master) ≡ true) × (nat_eq seg master.log.head ≡ false) =
    subst (LeavesDead master.log (dead_segments master) seg) e
    (leaves-begun master.log master.known (dead_segments master) seg) began refl there gone in
    (listed-dead master seg dead.0, dead.1)

-- Dead segments

-- an outdated entry has a durable one above it
above : (durable : List Entry) (entry : Entry) → is_outdated durable entry ≡ true →
    (j : ℕ) × (other : Entry) × (slice_get durable j ≡ Some other) ×
    (is_of entry.term entry.table entry.key other ≡ true) × (entry.version < other.version)
above durable entry is =
    let one : Passes (λ (other : Entry). is_of entry.term entry.table entry.key other && nat_lt entry.version other.version) durable =
    any-get durable is in
    let parts : (is_of entry.term entry.table entry.key one.one ≡ true) × (nat_lt entry.version one.one.version ≡ true) =
    and_parts (is_of entry.term entry.table entry.key one.one) (nat_lt entry.version one.one.version) one.passes in
    (one.place, one.one, one.found, parts.0, ltb-true entry.version one.one.version parts.1)

-- each entry of a dead segment is outdated by a durable one
pub dead-outdated : (master : Master) (seg k : ℕ) (entry : Entry) → is_dead_segment master seg ≡ true →
    slice_get (map (λ one. one.0) (master.log.segments seg).entries) k ≡ Some entry →
    ((master.log.segments seg).shut ≡ true) × ((j : ℕ) × (other : Entry) × (slice_get (durable_entries master) j ≡ Some other)
    × (is_of entry.term entry.table entry.key other ≡ true) × (entry.version < other.version))
dead-outdated master seg k entry dead found = search (arith, and_parts, above, all-get)
