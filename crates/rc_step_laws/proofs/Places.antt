-- The places of a log: which they are, that they only grow, and which of them are durable at a moment.
use Rattle.std.proofs.Common.{◌≡◌, ◌⊎◌, ℕ, zero, suc, ◌+◌, ◌-◌, ◌<◌, ◌≤◌, min, Bool, true, false, cond, List, [], ◌∷◌}
use Rattle.std.proofs.Common.{◌++◌, length, map, slice_get, Some, refl, sym, ap, ◌∙◌, subst, inl, inr, arith}
use Rattle.std.proofs.lemmas.List.{append_assoc, map-append, length-append}
use Rattle.rc_model.specs.Model.{ServerId, Entry, Message, durable_len, Segment, durable_in, Log, LogPlace, places_in, places_to}
use Rattle.rc_model.specs.Model.{places_of, numbers_to, durable_among, durable_now, In}
use Rattle.rc_model.proofs.Members.{In-append, map-In}
use Rattle.rc_step_laws.specs.All.{Begins, log_in, LogLater}
use Rattle.rc_step_laws.proofs.Lists.{get-append, get-within, begins-refl, begins-trans}
use Rattle.rc_step_laws.proofs.Tests.{begins-cons, map-get}
use Rattle.rc_model.proofs.LogParts.{length-places_in}
pub use Rattle.rc_model.proofs.LogParts.{In-numbers, numbers-In}

-- Which they are

pub record IsIn (seg offset k : ℕ) (entries : List (Entry × Bool)) (place : LogPlace) : Type 0 where
  pub seg_is : place.seg ≡ seg
  pub offset_is : place.offset ≡ offset + k
  pub holds : slice_get entries k ≡ Some (place.entry, place.client)

places_in-are : {seg : ℕ} (offset : ℕ) (entries : List (Entry × Bool)) (k : ℕ) {place : LogPlace} →
    slice_get (places_in seg offset entries) k ≡ Some place → IsIn seg offset k entries place
places_in-are offset [] k e = cc
places_in-are {seg} offset (one ∷ entries) zero {place} e = search arith
places_in-are offset (one ∷ entries) (suc k) e =
    let rest = places_in-are (offset + 1) entries k e in
    record { seg_is = rest.seg_is; offset_is = rest.offset_is ∙ omega arith; holds = rest.holds }

-- a place of a log: its segment is opened, and the entry stands there
pub record IsOf (segments : ℕ → Segment) (head : ℕ) (place : LogPlace) : Type 0 where
  pub above : 0 < place.seg
  pub upto : place.seg ≤ head
  pub holds : slice_get (segments place.seg).entries place.offset ≡ Some (place.entry, place.client)

place_here : {segments : ℕ → Segment} {n j : ℕ} {place : LogPlace} → IsIn (suc n) 0 j (segments (suc n)).entries place →
    IsOf segments (suc n) place
place_here {segments} {n} {j} {place} p = search arith

pub places_to-are : {segments : ℕ → Segment} (n k : ℕ) {place : LogPlace} →
    slice_get (places_to segments n) k ≡ Some place → IsOf segments n place
places_to-are zero k e = cc
places_to-are {segments} (suc n) k {place} e = by (places_to-are n k)
    (get-append (places_to segments n) (places_in (suc n) 0 (segments (suc n)).entries) k e)
  where
    by : (slice_get (places_to segments n) k ≡ Some place → IsOf segments n place)
        → (slice_get (places_to segments n) k ≡ Some place) ⊎ ((j : ℕ) × (k ≡ length (places_to segments n) + j) ×
        (slice_get (places_in (suc n) 0 (segments (suc n)).entries) j ≡ Some place)) → IsOf segments (suc n) place
    by rec (inl old) = (let p = rec old in record { above = p.above; upto = (let q = p.upto in omega arith); holds = p.holds })
    by rec (inr (j, p, q)) = place_here (places_in-are 0 (segments (suc n)).entries j q)

-- the entry of a place stands in the log
pub place-logged : (log : Log) {place : LogPlace} → IsOf log.segments log.head place →
    slice_get (log_in log place.seg) place.offset ≡ Some place.entry
place-logged log {place} p = map-get (λ (one : Entry × Bool). one.0) (log.segments place.seg).entries place.offset p.holds

-- They only grow

places_in-append : (seg offset : ℕ) (xs rest : List (Entry × Bool)) → Begins (places_in seg offset xs) (places_in seg offset (xs ++ rest))
places_in-append seg offset [] rest = (places_in seg offset rest, refl)
places_in-append seg offset (one ∷ xs) rest = begins-cons _ (places_in-append seg (offset + 1) xs rest)

places_in-begins : (seg offset : ℕ) (xs : List (Entry × Bool)) {ys : List (Entry × Bool)} → Begins xs ys →
    Begins (places_in seg offset xs) (places_in seg offset ys)
places_in-begins seg offset xs p =
    subst (λ zs. Begins (places_in seg offset xs) (places_in seg offset zs)) p.1 (places_in-append seg offset xs p.0)

pub places_to-same : (old new : ℕ → Segment) (n : ℕ) → ((s : ℕ) → s ≤ n → (new s).entries ≡ (old s).entries) →
    places_to new n ≡ places_to old n
places_to-same old new zero same = refl
places_to-same old new (suc n) same =
    ap (λ l. l ++ places_in (suc n) 0 (new (suc n)).entries) (places_to-same old new n (λ s upto. same s (omega arith)))
    ∙ ap (λ l. places_to old n ++ places_in (suc n) 0 l) (same (suc n) (omega arith))

append-begins : {X : Type 0} (xs ys : List X) {zs : List X} → Begins ys zs → Begins (xs ++ ys) (xs ++ zs)
append-begins xs ys p = (p.0, append_assoc xs ys p.0 ∙ ap (λ l. xs ++ l) p.1)

places_to-begins : (old new : ℕ → Segment) (n : ℕ) → ((s : ℕ) → s < n → (new s).entries ≡ (old s).entries) →
    Begins (old n).entries (new n).entries → Begins (places_to old n) (places_to new n)
places_to-begins old new zero same more = begins-refl
places_to-begins old new (suc n) same more =
    subst (λ l. Begins (places_to old (suc n)) (l ++ places_in (suc n) 0 (new (suc n)).entries))
    (sym (places_to-same old new n (λ s upto. same s (omega arith))))
    (append-begins (places_to old n) (places_in (suc n) 0 (old (suc n)).entries)
    (places_in-begins (suc n) 0 (old (suc n)).entries more))

places_to-more : (segments : ℕ → Segment) (n d : ℕ) → Begins (places_to segments n) (places_to segments (d + n))
places_to-more segments n zero = let e : 0 + n ≡ n = omega arith in
    subst (λ k. Begins (places_to segments n) (places_to segments k)) (sym e) begins-refl
places_to-more segments n (suc d) =
    let e : suc d + n ≡ suc (d + n) = omega arith in
    subst (λ k. Begins (places_to segments n) (places_to segments k)) (sym e) (begins-trans (places_to segments n)
    (places_to-more segments n d) (places_in (suc (d + n)) 0 (segments (suc (d + n))).entries, refl))

pub places-later : {sent : List Message} {m : ServerId} {old new : Log} → LogLater sent m old new → Begins (places_of old) (places_of new)
places-later {old} {new} later =
    let e : (new.head - old.head) + old.head ≡ new.head = omega (arith, later.head) in
    begins-trans (places_of old)
    (places_to-begins old.segments new.segments old.head (λ s below. later.final s below) (later.grows old.head))
    (subst (λ n. Begins (places_to new.segments old.head) (places_to new.segments n)) e
    (places_to-more new.segments old.head (new.head - old.head)))

-- Durable at this moment

-- the segment's entries are all durable, or the place is below what all members have; each earlier segment is shut
pub record IsCovered (segments : ℕ → Segment) (place : LogPlace) : Type 0 where
  pub reason : ((segments place.seg).shut ≡ true) ⊎ (place.offset < durable_in (segments place.seg))
  pub below : (t : ℕ) → 0 < t → t < place.seg → (segments t).shut ≡ true

abbrev counted_to : (ℕ → Segment) → ℕ → ℕ
counted_to segments n = durable_among (map segments (numbers_to n))

-- either all are shut, and what follows counts too, or what follows doesn't
record Passes (xs : List Segment) : Type 0 where
  all : (x : Segment) → In x xs → x.shut ≡ true
  adds : (ys : List Segment) → durable_among (xs ++ ys) ≡ durable_among xs + durable_among ys

abbrev Stops : List Segment → Type 0
Stops xs = (ys : List Segment) → durable_among (xs ++ ys) ≡ durable_among xs

-- what is counted up to a segment
record Counts (segments : ℕ → Segment) (n : ℕ) : Type 0 where
  covered : (k : ℕ) (place : LogPlace) → k < counted_to segments n → slice_get (places_to segments n) k ≡ Some place →
      IsCovered segments place
  within : counted_to segments n ≤ length (places_to segments n)
  state : (Passes (map segments (numbers_to n)) × (counted_to segments n ≡ length (places_to segments n))) ⊎
      Stops (map segments (numbers_to n))

-- one more segment where all before it are shut

abbrev one_counts : Segment → ℕ
one_counts x = durable_among (x ∷ [])

shut_counts : (x : Segment) → x.shut ≡ true → (ys : List Segment) → durable_among (x ∷ ys) ≡ length x.entries + durable_among ys
shut_counts x e ys = ap (λ b. cond b (length x.entries + durable_among ys) (durable_in x)) e

open_counts : (x : Segment) → x.shut ≡ false → (ys : List Segment) → durable_among (x ∷ ys) ≡ durable_in x
open_counts x e ys = ap (λ b. cond b (length x.entries + durable_among ys) (durable_in x)) e

passes-more : {xs : List Segment} (x : Segment) → Passes xs → x.shut ≡ true → Passes (xs ++ x ∷ [])
passes-more {xs} x p e = record {
  all = λ y at. by y (In-append y xs (x ∷ []) at);
  adds = λ ys. (
      let left : durable_among ((xs ++ x ∷ []) ++ ys) ≡ durable_among (xs ++ x ∷ ys) = ap durable_among (append_assoc xs (x ∷ []) ys) in
      let middle = p.adds (x ∷ ys) in
      let here = shut_counts x e ys in
      let whole = p.adds (x ∷ []) in
      let alone = shut_counts x e [] in
      left ∙ middle ∙ sum (durable_among xs) (length x.entries) (durable_among ys) (durable_among (x ∷ ys))
      (durable_among (x ∷ [])) (durable_among (xs ++ x ∷ [])) here whole alone);
}
  where
    by : (y : Segment) → In y xs ⊎ ((y ≡ x) ⊎ ⊥) → y.shut ≡ true
    by y (inl there) = p.all y there
    by y (inr (inl same)) = ap (λ (s : Segment). s.shut) same ∙ e
    by y (inr (inr none)) = absurd none

    sum : (a b c d f g : ℕ) → d ≡ b + c → g ≡ a + f → f ≡ b + 0 → a + d ≡ g + c
    sum a b c d f g p q r = omega arith

stops-open : {xs : List Segment} (x : Segment) → Passes xs → x.shut ≡ false → Stops (xs ++ x ∷ [])
stops-open {xs} x p e ys = search (arith, append_assoc, open_counts)

stops-more : (xs : List Segment) (x : Segment) → Stops xs → Stops (xs ++ x ∷ [])
stops-more xs x p ys = ap durable_among (append_assoc xs (x ∷ []) ys) ∙ p (x ∷ ys) ∙ sym (p (x ∷ []))

counts : {segments : ℕ → Segment} (n : ℕ) → Counts segments n
counts zero = search arith
counts {segments} (suc n) = by (counts n) (counts n).state (segments (suc n)).shut refl
  where
    splits : map segments (numbers_to n ++ suc n ∷ []) ≡ map segments (numbers_to n) ++ segments (suc n) ∷ []
    splits = map-append segments (numbers_to n) (suc n ∷ [])

    joined : counted_to segments (suc n) ≡ durable_among (map segments (numbers_to n) ++ segments (suc n) ∷ [])
    joined = ap durable_among splits

    grown : length (places_to segments (suc n)) ≡ length (places_to segments n) + length (segments (suc n)).entries
    grown = length-append (places_to segments n) (places_in (suc n) 0 (segments (suc n)).entries) ∙
        ap (λ k. length (places_to segments n) + k) (length-places_in (suc n) 0 (segments (suc n)).entries)

    at_end : (j : ℕ) (place : LogPlace) → Passes (map segments (numbers_to n)) → ((segments (suc n)).shut ≡ true) ⊎
        (j < durable_in (segments (suc n)))
        → slice_get (places_in (suc n) 0 (segments (suc n)).entries) j ≡ Some place → IsCovered segments place
    at_end j place all reason at =
        let here = places_in-are 0 (segments (suc n)).entries j at in
        let offset : j ≡ place.offset = omega (arith, here.offset_is) in
        record {
          reason = subst (λ s. ((segments s).shut ≡ true) ⊎ (place.offset < durable_in (segments s))) (sym here.seg_is)
              (subst (λ o. ((segments (suc n)).shut ≡ true) ⊎ (o < durable_in (segments (suc n)))) offset reason);
          below = λ t above less. all.all (segments t)
              (map-In segments t (numbers_to n) (In-numbers t n above (let e = here.seg_is in omega arith)));
        }

    cover : (k : ℕ) (place : LogPlace) →
        (k < length (places_to segments n) → slice_get (places_to segments n) k ≡ Some place → IsCovered segments place)
        → ((j : ℕ) → k ≡ length (places_to segments n) + j →
        slice_get (places_in (suc n) 0 (segments (suc n)).entries) j ≡ Some place → IsCovered segments place)
        → slice_get (places_to segments (suc n)) k ≡ Some place → IsCovered segments place
    cover k place old new at = search (arith, get-append, get-within)

    by : Counts segments n → (Passes (map segments (numbers_to n)) ×
        (counted_to segments n ≡ length (places_to segments n))) ⊎ Stops (map segments (numbers_to n))
        → (b : Bool) → (segments (suc n)).shut ≡ b → Counts segments (suc n)
    by c (inl (p, full)) true e =
        let sum : counted_to segments (suc n) ≡ length (places_to segments (suc n)) =
        joined ∙ p.adds (segments (suc n) ∷ []) ∙ ap (λ k. k + one_counts (segments (suc n))) full
        ∙ ap (λ k. length (places_to segments n) + k) (shut_counts (segments (suc n)) e []) ∙
        (let z : length (places_to segments n) + (length (segments (suc n)).entries + 0) ≡ length
        (places_to segments n) + length (segments (suc n)).entries = omega arith in z) ∙ sym grown in
        record {
          covered = λ k place less at. cover k place (λ within there. c.covered k place (omega (arith, full)) there)
              (λ j is there. at_end j place p (inl e) there) at;
          within = omega (arith, sum);
          state = inl (subst Passes (sym splits) (passes-more (segments (suc n)) p e), sum);
        }
    by c (inl (p, full)) false e =
        let sum : counted_to segments (suc n) ≡ length (places_to segments n) + durable_in (segments (suc n)) =
        joined ∙ p.adds (segments (suc n) ∷ []) ∙ ap (λ k. k + one_counts (segments (suc n))) full ∙
        ap (λ k. length (places_to segments n) + k) (open_counts (segments (suc n)) e []) in
        record {
          covered = λ k place less at. cover k place (λ within there. c.covered k place (omega (arith, full)) there)
              (λ j is there. at_end j place p (inr (past _ _ _ _ _ less sum is)) there) at;
          within = under _ _ _ _ _ sum grown (least (durable_len (segments (suc n)).config) (length (segments (suc n)).entries));
          state = inr (subst Stops (sym splits) (stops-open (segments (suc n)) p e));
        }
      where
        past : (k total l d j : ℕ) → k < total → total ≡ l + d → k ≡ l + j → j < d
        past k total l d j p q r = omega arith

        under : (total l d total_now len : ℕ) → total ≡ l + d → total_now ≡ l + len → d ≤ len → total ≤ total_now
        under total l d total_now len p q r = omega arith

        least : (a b : ℕ) → min a b ≤ b
        least a b = omega arith
    by c (inr stops) b e =
        let same : counted_to segments (suc n) ≡ counted_to segments n = joined ∙ stops (segments (suc n) ∷ []) in
        record {
          covered = λ k place less at. cover k place (λ within there. c.covered k place (omega (arith, same)) there)
              (λ j is there. absurd (omega (arith, same, c.within))) at;
          within = omega (arith, same, c.within, grown);
          state = inr (subst Stops (sym splits) (stops-more (map segments (numbers_to n)) (segments (suc n)) stops));
        }

pub durable-covered : (log : Log) (k : ℕ) (place : LogPlace) → k < durable_now log →
    slice_get (places_of log) k ≡ Some place → IsCovered log.segments place
durable-covered log k place less at = (counts log.head).covered k place less at

pub durable-within : (log : Log) → durable_now log ≤ length (places_of log)
durable-within log = (counts log.head).within
