-- A place is acknowledged once.
use Rattle.std.proofs.Common.{◌≡◌, ℕ, zero, suc, ◌+◌, ◌<◌, ◌≤◌, Bool, true, false, cond, nat_eq, ◌&&◌, List, [], ◌∷◌}
use Rattle.std.proofs.Common.{◌++◌, length, drop, filter, refl, sym, ap, ◌∙◌, subst, arith}
use Rattle.std.proofs.lemmas.Bool.{and_parts, eqb-true}
use Rattle.std.proofs.lemmas.List.{take-append-drop, length-append}
use Rattle.std.proofs.lemmas.List.Elements.{filter-append}
use Rattle.rc_model.specs.Model.{ServerId, Entry, Message, Body, WriteOk, Segment, Log, LogPlace, places_in, places_to}
use Rattle.rc_model.specs.Model.{places_of, write_oks, replay}
use Rattle.rc_owner_laws.specs.AckClaims.{is_write_ok, is_ack_of, counted_places, names_place, acks_place, AcknowledgedOnce}
use Rattle.rc_owner_laws.proofs.Counting.{and-false, oks-append, server-own, counted-is-acknowledged}
use Rattle.rc_owner_laws.proofs.Settling.{ok_of, place_at}
use Rattle.rc_model.proofs.Tests.{true_false}

-- of what passes a weaker test, the same passes
filter-within : {X : Type 0} {weak strong : X → Bool} → ((x : X) → strong x ≡ true → weak x ≡ true) → (xs : List X) →
    filter strong (filter weak xs) ≡ filter strong xs
filter-within implies [] = refl
filter-within {weak} {strong} implies (x ∷ xs) = by (weak x) (strong x) refl refl (filter-within implies xs)
  where
    by : (a b : Bool) → weak x ≡ a → strong x ≡ b → filter strong (filter weak xs) ≡ filter strong xs →
        filter strong (cond a (x ∷ filter weak xs) (filter weak xs)) ≡ cond b (x ∷ filter strong xs) (filter strong xs)
    by true b e f rec = ap (λ c. cond c (x ∷ filter strong (filter weak xs)) (filter strong (filter weak xs))) f ∙
        ap (λ rest. cond b (x ∷ rest) rest) rec
    by false true e f rec = true_false (sym (implies x f) ∙ e)
    by false false e f rec = rec

named-write_ok : (s o : ℕ) (body : Body) → names_place s o body ≡ true → is_write_ok body ≡ true
named-write_ok s o (WriteOk seg offset term table key version) e = refl
named-write_ok s o _ e = true_false (sym e)

placed-ack : (m : ServerId) (s o : ℕ) (message : Message) → acks_place m s o message ≡ true → is_ack_of m message ≡ true
placed-ack m s o message e = search (arith, and_parts, named-write_ok)

module _ (m : ServerId) (s o : ℕ) where
  -- how many of these places' acknowledgements name this place
  abbrev count : List LogPlace → ℕ
  count places = length (filter (acks_place m s o) (write_oks m places))

  count-append : (first second : List LogPlace) → count (first ++ second) ≡ count first + count second
  count-append first second = search (arith, oks-append, filter-append, length-append)

  count-cons : (place : LogPlace) (places : List LogPlace) → count (place ∷ places) ≤ count places + 1
  count-cons place places = search (arith, ok_of)

  count-other : (place : LogPlace) (places : List LogPlace) → (nat_eq place.seg s && nat_eq place.offset o) ≡ false →
      count (place ∷ places) ≡ count places
  count-other place places isn't = search (arith, ok_of, server-own)

  -- in the segment: no place twice, and none below the first
  count-in : (seg offset : ℕ) (entries : List (Entry × Bool)) → (count (places_in seg offset entries) ≤ 1) ×
      (o < offset → count (places_in seg offset entries) ≡ 0)
  count-in seg offset [] = (omega arith, λ _. refl)
  count-in seg offset (one ∷ entries) = by (nat_eq offset o) refl (count-in seg (offset + 1) entries)
    where
      named : nat_eq offset o ≡ false → (nat_eq seg s && nat_eq offset o) ≡ false
      named e = and-false (nat_eq seg s) e

      by : (b : Bool) → nat_eq offset o ≡ b → (count (places_in seg (offset + 1) entries) ≤ 1) ×
          (o < offset + 1 → count (places_in seg (offset + 1) entries) ≡ 0) →
          (count (places_in seg offset (one ∷ entries)) ≤ 1) × (o < offset → count (places_in seg offset (one ∷ entries)) ≡ 0)
      by true e rec = search (arith, eqb-true, count-cons, place_at)
      by false e rec = search (arith, count-other, place_at, named)

  count-beside : (seg offset : ℕ) (entries : List (Entry × Bool)) → nat_eq seg s ≡ false → count (places_in seg offset entries) ≡ 0
  count-beside seg offset [] e = refl
  count-beside seg offset (one ∷ entries) e =
      count-other (place_at seg offset one) (places_in seg (offset + 1) entries) (ap (λ b. b && nat_eq offset o) e) ∙
      count-beside seg (offset + 1) entries e

  count-to : (segments : ℕ → Segment) (n : ℕ) → (count (places_to segments n) ≤ 1) × (n < s → count (places_to segments n) ≡ 0)
  count-to segments zero = (omega arith, λ _. refl)
  count-to segments (suc n) = by (nat_eq (suc n) s) refl (count-to segments n)
    where
      more : count (places_to segments (suc n)) ≡ count (places_to segments n) + count (places_in (suc n) 0 (segments (suc n)).entries)
      more = count-append (places_to segments n) (places_in (suc n) 0 (segments (suc n)).entries)

      by : (b : Bool) → nat_eq (suc n) s ≡ b → (count (places_to segments n) ≤ 1) × (n < s → count (places_to segments n) ≡ 0) →
          (count (places_to segments (suc n)) ≤ 1) × (suc n < s → count (places_to segments (suc n)) ≡ 0)
      by true e rec = search (arith, eqb-true, count-in, more)
      by false e rec = search (arith, count-beside, more)

  count-counted : (log : Log) → count (counted_places log) ≤ 1
  count-counted log =
      let whole : count (places_of log) ≡ count (counted_places log) + count (drop log.durable (places_of log)) =
      ap count (sym (take-append-drop log.durable (places_of log))) ∙ count-append (counted_places log)
      (drop log.durable (places_of log)) in
      let once = (count-to log.segments log.head).0 in
      omega (arith, whole, once)

pub acknowledged-once : AcknowledgedOnce
acknowledged-once setup events m s o =
    subst (λ l. length l ≤ 1) (filter-within (placed-ack m s o) (replay setup events).sent)
    (subst (λ l. length (filter (acks_place m s o) l) ≤ 1) (sym (counted-is-acknowledged setup events m))
    (count-counted m s o ((replay setup events).masters m).log))
