-- What of a log counts for the follow-ups: its entries, its configs and what was sent, each of which a change may leave.
use Rattle.std.proofs.Common.{◌≡◌, ◌⊎◌, inl, inr, ℕ, zero, suc, ◌+◌, ◌<◌, ◌≤◌, Bool, true, List, [], ◌∷◌, ◌++◌, length, map, min, refl}
use Rattle.std.proofs.Common.{ap, ◌∙◌, arith}
use Rattle.std.proofs.lemmas.List.{length-append, map-append}
use Rattle.rc_model.specs.Model.{Entry, put, durable_len, Segment, durable_in, Log, places_in, places_to, numbers_to, durable_among}
use Rattle.rc_model.specs.Model.{with_segment, with_freed}
use Rattle.rc_model.specs.Model.{In}
use Rattle.rc_model.proofs.Members.{In-left, In-right, In-append}
use Rattle.rc_model.proofs.Tests.{either}
use Rattle.rc_model.proofs.Tables.{put_each}

-- the two have the same entries, the same members and the same Commit sent
pub record SameParts (old new : Segment) : Type 0 where
  pub entries : new.entries ≡ old.entries
  pub config : new.config ≡ old.config
  pub commit_sent : new.commit_sent ≡ old.commit_sent

pub same_parts-refl : {segment : Segment} → SameParts segment segment
same_parts-refl = record { entries = refl; config = refl; commit_sent = refl }

abbrev pub AllSameParts : (ℕ → Segment) → (ℕ → Segment) → Type 0
AllSameParts old new = (k : ℕ) → SameParts (old k) (new k)

-- a segment with the same parts is put into its place
pub same_parts-put : (segments : ℕ → Segment) {seg : ℕ} {segment : Segment} → SameParts (segments seg) segment →
    AllSameParts segments (put segments seg segment)
same_parts-put segments {seg} {segment} same =
    put_each (λ k one. SameParts (segments k) one) segments seg segment same (λ k. same_parts-refl)

-- Places

-- as many places as entries
pub length-places_in : (seg offset : ℕ) (entries : List (Entry × Bool)) → length (places_in seg offset entries) ≡ length entries
length-places_in seg offset [] = refl
length-places_in seg offset (one ∷ others) = ap suc (length-places_in seg (offset + 1) others)

-- the places up to a segment are by the entries up to it
pub places_to-agrees : (old new : ℕ → Segment) (n : ℕ) → ((k : ℕ) → k ≤ n → (new k).entries ≡ (old k).entries) →
    places_to new n ≡ places_to old n
places_to-agrees old new zero same = refl
places_to-agrees old new (suc n) same =
    ap (λ front. front ++ places_in (suc n) 0 (new (suc n)).entries) (places_to-agrees old new n (λ k below. same k (omega arith)))
    ∙ ap (λ entries. places_to old n ++ places_in (suc n) 0 entries) (same (suc n) (omega arith))

-- all entries of these
abbrev pub total : List Segment → ℕ
total [] = 0
total (segment ∷ segments) = length segment.entries + total segments

total-append : (xs ys : List Segment) → total (xs ++ ys) ≡ total xs + total ys
total-append [] ys = omega arith
total-append (x ∷ xs) ys = let rest : total (xs ++ ys) ≡ total xs + total ys = total-append xs ys in omega arith

pub total-places : (segments : ℕ → Segment) (n : ℕ) → total (map segments (numbers_to n)) ≡ length (places_to segments n)
total-places segments zero = refl
total-places segments (suc n) =
    let front : total (map segments (numbers_to n)) ≡ length (places_to segments n) = total-places segments n in
    let joined : total (map segments (numbers_to n ++ suc n ∷ [])) ≡ total (map segments (numbers_to n) ++ segments (suc n) ∷ []) =
    ap total (map-append segments (numbers_to n) (suc n ∷ [])) in
    let parted : total (map segments (numbers_to n) ++ segments (suc n) ∷ []) ≡ total
    (map segments (numbers_to n)) + (length (segments (suc n)).entries + 0) =
    total-append (map segments (numbers_to n)) (segments (suc n) ∷ []) in
    let last : length (places_in (suc n) 0 (segments (suc n)).entries) ≡ length (segments (suc n)).entries =
    length-places_in (suc n) 0 (segments (suc n)).entries in
    let whole : length (places_to segments n ++ places_in (suc n) 0 (segments (suc n)).entries)
    ≡ length (places_to segments n) + length (places_in (suc n) 0 (segments (suc n)).entries) =
    length-append (places_to segments n) (places_in (suc n) 0 (segments (suc n)).entries) in
    omega arith

-- no more is durable than there is
pub durable-within : (segments : List Segment) → durable_among segments ≤ total segments
durable-within [] = omega arith
durable-within (segment ∷ segments) =
    let rest : durable_among segments ≤ total segments = durable-within segments in
    let least : durable_in segment ≤ length segment.entries = min-right (durable_len segment.config) (length segment.entries) in
    either (λ n. n ≤ length segment.entries + total segments) segment.shut
    (length segment.entries + durable_among segments) (durable_in segment) (λ _. omega arith) (λ _. omega arith)
  where
    min-right : (a b : ℕ) → min a b ≤ b
    min-right a b = omega arith

-- Freed marks

-- the segments with these marked freed
abbrev pub marked : List ℕ → (ℕ → Segment) → ℕ → Segment
marked [] segments = segments
marked (seg ∷ segs) segments = marked segs (put segments seg (record (segments seg) { freed = true }))

pub with_freed-marked : (segs : List ℕ) (log : Log) → with_freed segs log ≡ record log { segments = marked segs log.segments }
with_freed-marked [] log = refl
with_freed-marked (seg ∷ segs) log = with_freed-marked segs (with_segment seg (record (log.segments seg) { freed = true }) log)

-- the mark alone has changed
pub record MarkedAlone (old new : Segment) : Type 0 where
  pub parts : SameParts old new
  pub closes_sent : new.closes_sent ≡ old.closes_sent

pub marked-alone : (segs : List ℕ) (segments : ℕ → Segment) (k : ℕ) → MarkedAlone (segments k) (marked segs segments k)
marked-alone [] segments k = record { parts = same_parts-refl; closes_sent = refl }
marked-alone (seg ∷ segs) segments k =
    let one : ℕ → Segment = put segments seg (record (segments seg) { freed = true }) in
    let first : MarkedAlone (segments k) (one k) =
    put_each (λ j s. MarkedAlone (segments j) s) segments seg (record (segments seg) { freed = true })
    (record { parts = record { entries = refl; config = refl; commit_sent = refl }; closes_sent = refl })
    (λ j. record { parts = same_parts-refl; closes_sent = refl }) k in
    let rest : MarkedAlone (one k) (marked segs one k) = marked-alone segs one k in
    record {
      parts = record {
        entries = rest.parts.entries ∙ first.parts.entries;
        config = rest.parts.config ∙ first.parts.config;
        commit_sent = rest.parts.commit_sent ∙ first.parts.commit_sent;
      };
      closes_sent = rest.closes_sent ∙ first.closes_sent;
    }

-- the segments up to a number
pub In-numbers : (t n : ℕ) → 0 < t → t ≤ n → In t (numbers_to n)
In-numbers t zero above upto = absurd (omega arith)
In-numbers t (suc n) above upto = by (upto_or t n) (λ less. In-numbers t n above less)
  where
    upto_or : (t n : ℕ) → (t ≤ n) ⊎ (n < t)
    upto_or t n = grind arith

    by : (t ≤ n) ⊎ (n < t) → (t ≤ n → In t (numbers_to n)) → In t (numbers_to n ++ suc n ∷ [])
    by (inl less) rec = In-left t (numbers_to n) (suc n ∷ []) (rec less)
    by (inr over) rec = In-right t (numbers_to n) (suc n ∷ []) (inl (omega arith))

pub numbers-In : (t n : ℕ) → In t (numbers_to n) → (0 < t) × (t ≤ n)
numbers-In t zero at = absurd at
numbers-In t (suc n) at = by (numbers-In t n) (In-append t (numbers_to n) (suc n ∷ []) at)
  where
    by : (In t (numbers_to n) → (0 < t) × (t ≤ n)) → In t (numbers_to n) ⊎ ((t ≡ suc n) ⊎ ⊥) → (0 < t) × (t ≤ suc n)
    by rec (inl there) = (let p = rec there in (p.0, omega (arith, p.1)))
    by rec (inr (inl e)) = (omega arith, omega arith)
    by rec (inr (inr none)) = absurd none
