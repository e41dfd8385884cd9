-- The table of record highs after one more.
use Rattle.std.proofs.Common.{◌≡◌, ℕ, Bool, true, false, cond, List, [], ◌∷◌, Option, Some, None, Vec, sym, ap, subst, ◌∙◌, refl, arith}
use Rattle.std.proofs.lemmas.Bool.Decides.{nat_tests}
use Rattle.std.specs.Option.{option_map_or, IsSome}
use Rattle.indexmap.specs.IndexMap.{get, Updates, UpdatesBy}
use Rattle.rc_ownership.specs.declared.highs.Slot.{Slot}
use Rattle.rc_ownership.specs.Highs.{with_high}
use Rattle.rc_ownership.specs.Slots.{same_slot, HighTable, highs_in}

same_parts : (one other : Slot) → one.term ≡ other.term → one.table ≡ other.table → one.key ≡ other.key → one ≡ other
same_parts one other p q r j = record { term = p j; table = q j; key = r j }

pub same_slot-true : (one other : Slot) → same_slot one other ≡ true → one ≡ other
same_slot-true one other h = same_parts one other (grind (arith, nat_tests)) (grind (arith, nat_tests)) (grind (arith, nat_tests))

first_high : (place version : ℕ) → (place, version) ∷ [] ≡ with_high place version []
first_high place version = grind (arith, nat_tests)

-- a first high makes a list of its own
pub added-new : {A : Type 0} (old same new : HighTable A) (slot : Slot) (list : Vec (ℕ × ℕ) A) (place version : ℕ) →
    same ≡ old → get same_slot old slot ≡ None → Updates same_slot same new slot (Some list) →
    list.items ≡ (place, version) ∷ [] →
    (other : Slot) → highs_in new other ≡ cond (same_slot slot other) (with_high place version (highs_in old other)) (highs_in old other)
added-new {A} old same new slot list place version e none updates is other =
    let items_or : Option (Vec (ℕ × ℕ) A) → List (ℕ × ℕ) = λ found. option_map_or (λ l. l.items) found [] in
    ap items_or (updates.0 other)
    ∙ ap (λ m. items_or (cond (same_slot slot other) (Some list) (get same_slot m other))) e
    ∙ by (same_slot slot other) refl
  where
    at_slot : list.items ≡ with_high place version (highs_in old slot)
    at_slot = is ∙ first_high place version ∙ ap (λ found. with_high place version (option_map_or (λ l. l.items) found [])) (sym none)

    by : (same : Bool) → same_slot slot other ≡ same →
        option_map_or (λ l. l.items) (cond same (Some list) (get same_slot old other)) [] ≡ cond same
        (with_high place version (highs_in old other)) (highs_in old other)
    by true same = subst (λ o. list.items ≡ with_high place version (highs_in old o)) (same_slot-true slot other same) at_slot
    by false same = refl

-- a list written back with the same elements changes nothing
pub written-same : {A : Type 0} (old new : HighTable A) (slot : Slot) (before after : Vec (ℕ × ℕ) A) →
    get same_slot old slot ≡ Some before →
    (IsSome (get same_slot old slot) → UpdatesBy same_slot (same_slot slot) old new (Some after)) →
    after.items ≡ before.items →
    (other : Slot) → highs_in new other ≡ highs_in old other
written-same {A} old new slot before after found updates is other =
    let items_or : Option (Vec (ℕ × ℕ) A) → List (ℕ × ℕ) = λ found. option_map_or (λ l. l.items) found [] in
    ap items_or ((updates (subst IsSome (sym found) refl)).0 other) ∙ by (same_slot slot other) refl
  where
    at_slot : after.items ≡ highs_in old slot
    at_slot = is ∙ ap (λ o. option_map_or (λ l. l.items) o []) (sym found)

    by : (same : Bool) → same_slot slot other ≡ same →
        option_map_or (λ l. l.items) (cond same (Some after) (get same_slot old other)) [] ≡ highs_in old other
    by true same = subst (λ o. after.items ≡ highs_in old o) (same_slot-true slot other same) at_slot
    by false same = refl
