-- How much of a log is durable, counted from its shut segments on.
use Rattle.std.proofs.Common.{◌≡◌, ⊎_elim, ℕ, ◌+◌, ◌-◌, ◌*◌, ◌<◌, ◌≤◌, zero, suc, Bool, true, false, cond, not, List}
use Rattle.std.proofs.Common.{[], ◌∷◌, ◌++◌, length, get_or, map, find, Some, refl, ap, sym, ◌∙◌, subst, arith}
use Rattle.std.proofs.Common.{append_assoc, add_assoc, zero-add, add-zero, ltb, leb}
use Rattle.std.proofs.lemmas.Bool.{cases_eq, and_from, lt-ltb, le-leb}
use Rattle.std.proofs.lemmas.List.{map-append, append-nil}
use Rattle.rc_model.specs.Model.{MAX_SEGMENT, Segment, durable_in, Log, has_segment, numbers_to, durable_among, durable_now, first_open}
use Rattle.rc_config.specs.Lists.{segment_at}
use Rattle.rc_headroll.specs.LogData.{LogData, log_of}
use Rattle.rc_headroll.specs.Soundness.{IsSound, IsSoundSegment, entries_to}
use Rattle.rc_config.proofs.SegmentTables.{segment_at-read}

-- the numbers after this one, so many
numbers_after : ℕ → ℕ → List ℕ
numbers_after from zero = []
numbers_after from (suc n) = suc from ∷ numbers_after (suc from) n

numbers_to-split : (from n : ℕ) → numbers_to (from + n) ≡ numbers_to from ++ numbers_after from n
unfolding numbers_after
numbers_to-split from zero = rw (add-zero from) (sym (append-nil (numbers_to from)))
numbers_to-split from (suc n) =
    let further : from + suc n ≡ suc from + n = omega arith in
    rw further
    (numbers_to-split (suc from) n ∙ append_assoc (numbers_to from) (suc from ∷ []) (numbers_after (suc from) n))

-- those of the first segments are shut, and the count goes on after them
durable_after : (t : ℕ → Segment) (p : ℕ) (rest : List Segment) → ((seg : ℕ) → 0 < seg → seg ≤ p → (t seg).shut ≡ true) →
    durable_among (map t (numbers_to p) ++ rest) ≡ entries_to t p + durable_among rest
durable_after t zero rest shut = sym (zero-add (durable_among rest))
durable_after t (suc s) rest shut =
    let here : (t (suc s)).shut ≡ true = shut (suc s) (omega arith) (omega arith) in
    let cut : map t (numbers_to s ++ suc s ∷ []) ++ rest ≡ map t (numbers_to s) ++ (t (suc s) ∷ rest) =
    ap (λ (xs : List Segment). xs ++ rest) (map-append t (numbers_to s) (suc s ∷ [])) ∙
    append_assoc (map t (numbers_to s)) (t (suc s) ∷ []) rest in
    ap durable_among cut
    ∙ durable_after t s (t (suc s) ∷ rest) (λ seg above below. shut seg above (omega arith))
    ∙ ap (λ (b : Bool). entries_to t s + cond b (length (t (suc s)).entries + durable_among rest) (durable_in (t (suc s)))) here
    ∙ sym (add_assoc (entries_to t s) (length (t (suc s)).entries) (durable_among rest))

-- the first open segment
pub durable_now-open : (log : Log) (p : ℕ) → p < log.head →
    ((seg : ℕ) → 0 < seg → seg ≤ p → (log.segments seg).shut ≡ true) → (log.segments (p + 1)).shut ≡ false →
    durable_now log ≡ entries_to log.segments p + durable_in (log.segments (p + 1))
unfolding numbers_after
durable_now-open log p below shut next_open =
    let t : ℕ → Segment = log.segments in
    let n : ℕ = log.head - p - 1 in
    let head : log.head ≡ p + suc n = omega arith in
    let next : suc p ≡ p + 1 = omega arith in
    let open' : (t (suc p)).shut ≡ false = ap (λ (seg : ℕ). (t seg).shut) next ∙ next_open in
    ap (λ (h : ℕ). durable_among (map t (numbers_to h))) head
    ∙ ap (λ (ns : List ℕ). durable_among (map t ns)) (numbers_to-split p (suc n))
    ∙ ap durable_among (map-append t (numbers_to p) (suc p ∷ numbers_after (suc p) n))
    ∙ durable_after t p (t (suc p) ∷ map t (numbers_after (suc p) n)) shut
    ∙ ap (λ (b : Bool). entries_to t p + cond b
    (length (t (suc p)).entries + durable_among (map t (numbers_after (suc p) n))) (durable_in (t (suc p)))) open'
    ∙ ap (λ (seg : ℕ). entries_to t p + durable_in (t seg)) next

-- no less is durable than the shut segments have
pub durable_now-least : (log : Log) (p : ℕ) → p ≤ log.head → ((seg : ℕ) → 0 < seg → seg ≤ p → (log.segments seg).shut ≡ true) →
    entries_to log.segments p ≤ durable_now log
durable_now-least log p below shut =
    let t : ℕ → Segment = log.segments in
    let n : ℕ = log.head - p in
    let head : log.head ≡ p + n = omega arith in
    let is : durable_now log ≡ entries_to t p + durable_among (map t (numbers_after p n)) =
    ap (λ (h : ℕ). durable_among (map t (numbers_to h))) head
    ∙ ap (λ (ns : List ℕ). durable_among (map t ns)) (numbers_to-split p n)
    ∙ ap durable_among (map-append t (numbers_to p) (numbers_after p n))
    ∙ durable_after t p (map t (numbers_after p n)) shut in
    omega (arith, is)

-- The first open segment

find_after : (t : ℕ → Segment) (p : ℕ) (rest : List ℕ) → ((seg : ℕ) → 0 < seg → seg ≤ p → (t seg).shut ≡ true) →
    find (λ seg. not (t seg).shut) (numbers_to p ++ rest) ≡ find (λ seg. not (t seg).shut) rest
find_after t zero rest shut = refl
find_after t (suc s) rest shut =
    let here : (t (suc s)).shut ≡ true = shut (suc s) (omega arith) (omega arith) in
    ap (find (λ seg. not (t seg).shut)) (append_assoc (numbers_to s) (suc s ∷ []) rest)
    ∙ find_after t s (suc s ∷ rest) (λ seg above below. shut seg above (omega arith))
    ∙ ap (λ (b : Bool). cond (not b) (Some (suc s)) (find (λ seg. not (t seg).shut) rest)) here

pub first_open-some : (log : Log) (p : ℕ) → p < log.head →
    ((seg : ℕ) → 0 < seg → seg ≤ p → (log.segments seg).shut ≡ true) → (log.segments (p + 1)).shut ≡ false →
    first_open log ≡ Some (p + 1)
unfolding numbers_after
first_open-some log p below shut next_open =
    let t : ℕ → Segment = log.segments in
    let n : ℕ = log.head - p - 1 in
    let head : log.head ≡ p + suc n = omega arith in
    let next : suc p ≡ p + 1 = omega arith in
    let open' : (t (suc p)).shut ≡ false = ap (λ (seg : ℕ). (t seg).shut) next ∙ next_open in
    ap (λ (h : ℕ). find (λ seg. not (t seg).shut) (numbers_to h)) head
    ∙ ap (find (λ seg. not (t seg).shut)) (numbers_to-split p (suc n))
    ∙ find_after t p (suc p ∷ numbers_after (suc p) n) shut
    ∙ ap (λ (b : Bool). cond (not b) (Some (suc p)) (find (λ seg. not (t seg).shut) (numbers_after (suc p) n))) open'
    ∙ ap Some next

-- Numbers of entries are small

pub entries_to-small : (log : Log) (passed entries p : ℕ) → IsSound log passed entries → p ≤ log.head →
    entries_to log.segments p ≤ MAX_SEGMENT * p
entries_to-small log passed entries zero sound below = omega arith
entries_to-small log passed entries (suc s) sound below =
    let earlier : entries_to log.segments s ≤ MAX_SEGMENT * s = entries_to-small log passed entries s sound (omega arith) in
    let fits : length (log.segments (suc s)).entries ≤ log.size = (sound.each (suc s) (omega arith) below).fits in
    omega (arith, sound.size)

-- one more shut segment
pub entries_to-more : (t : ℕ → Segment) (p : ℕ) → entries_to t (p + 1) ≡ entries_to t p + length (t (p + 1)).entries
entries_to-more t p = let next : p + 1 ≡ suc p = omega arith in rw next refl

-- so far all are shut, and so is the next one
pub shut-more : (t : ℕ → Segment) (p : ℕ) → ((seg : ℕ) → 0 < seg → seg ≤ p → (t seg).shut ≡ true) → (t (p + 1)).shut ≡ true →
    (seg : ℕ) → 0 < seg → seg ≤ p + 1 → (t seg).shut ≡ true
shut-more t p earlier here seg above below = ⊎_elim {C = (t seg).shut ≡ true}
    (λ (last : seg ≡ p + 1). ap (λ (o : ℕ). (t o).shut) last ∙ here)
    (λ (apart : seg ≡ p + 1 → ⊥). earlier seg above (omega (arith, apart)))
    (cases_eq seg (p + 1))

-- a segment that is read is sound
pub sound_segment-read : (kept : LogData) (passed entries place : ℕ) (x : Segment) →
    IsSound (log_of kept) passed entries → place < length kept.segments → x ≡ get_or kept.segments place x →
    IsSoundSegment kept.size (length kept.segments) x
sound_segment-read kept passed entries place x sound inside read =
    let is : x ≡ segment_at kept.segments (place + 1) = segment_at-read kept.segments (place + 1) place x (omega arith) inside read in
    subst (IsSoundSegment kept.size (length kept.segments)) (sym is) (sound.each (place + 1) (omega arith) (omega arith))

-- the first open segment is one of the log
pub has-from_below : (log : Log) (p : ℕ) → p < log.head → has_segment log (p + 1) ≡ true
has-from_below log p below = and_from (ltb 0 (p + 1)) (leb (p + 1) log.head) (lt-ltb 0 (p + 1) (omega arith))
    (le-leb (p + 1) log.head (omega arith))
