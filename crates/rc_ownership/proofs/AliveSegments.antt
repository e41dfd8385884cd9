-- A segment's entries, of which one isn't outdated.
use Rattle.std.proofs.Common.{◌≡◌, ℕ, zero, suc, ◌+◌, ◌<◌, ◌≤◌, Bool, true, false, ◌&&◌, List, [], ◌∷◌, length, map, take, drop}
use Rattle.std.proofs.Common.{◌-◌, Option, None, IfSome, take_all, slice_get, Some, refl, ap, ◌∙◌, arith}
use Rattle.std.proofs.lemmas.List.{length-take-le, length-drop}
use Rattle.rc_types.specs.declared.entries.Entry.{Entry}
use Rattle.rc_model.specs.Versions.{is_outdated, is_dead}
use Rattle.rc_ownership.specs.Groups.{IsAliveAt}

abbrev pub bare : List (Entry × Bool) → List Entry
bare entries = map (λ one. one.0) entries

pub and-swap : (a b c d : Bool) → (b && c) ≡ d → (b && (a && c)) ≡ (a && d)
and-swap true b c d e = e
and-swap false true c d e = refl
and-swap false false c d e = refl

-- a segment is dead where its entries from one on are, and those before it
pub dead-parts : (durable : List Entry) (entries : List (Entry × Bool)) (start : ℕ) →
    (is_dead durable (bare (drop start entries)) && is_dead durable (bare (take start entries))) ≡ is_dead durable (bare entries)
dead-parts durable [] zero = refl
dead-parts durable [] (suc start) = refl
dead-parts durable (first ∷ entries) zero = and-true (is_dead durable (bare (first ∷ entries)))
  where
    and-true : (a : Bool) → (a && true) ≡ a
    and-true true = refl
    and-true false = refl
dead-parts durable (first ∷ entries) (suc start) =
    and-swap (is_outdated durable first.0) (is_dead durable (bare (drop start entries)))
    (is_dead durable (bare (take start entries))) (is_dead durable (bare entries)) (dead-parts durable entries start)

-- what stands after the first so many
pub at-drop : {X : Type 0} (xs : List X) (start place : ℕ) → slice_get (drop start xs) place ≡ slice_get xs (start + place)
at-drop [] zero place = refl
at-drop [] (suc start) place = refl
at-drop (first ∷ xs) zero place = (let sum : place ≡ 0 + place = omega arith in ap (slice_get (first ∷ xs)) sum)
at-drop (first ∷ xs) (suc start) place =
    at-drop xs start place
    ∙ (let sum : suc (start + place) ≡ suc start + place = omega arith in ap (slice_get (first ∷ xs)) sum)

-- what stands among the first so many
pub at-take : {X : Type 0} (xs : List X) (count place : ℕ) (x : X) → place < count → slice_get xs place ≡ Some x →
    slice_get (take count xs) place ≡ Some x
at-take xs zero place x below at = absurd (omega (arith, below))
at-take [] (suc count) place x below at = cc
at-take (first ∷ xs) (suc count) zero x below at = at
at-take (first ∷ xs) (suc count) (suc place) x below at = at-take xs count place x (omega (arith, below)) at

-- an entry that isn't outdated, among those from one on
pub alive-after : (durable : List Entry) (entries : List (Entry × Bool)) (start place : ℕ) → start ≤ length entries →
    IsAliveAt durable (drop start entries) place → IsAliveAt durable entries (start + place)
alive-after durable entries start place within alive =
    (omega (arith, alive.0, length-drop start entries, within), λ one at. alive.1 one (at-drop entries start place ∙ at))

-- and among those before it
pub alive-before : (durable : List Entry) (entries : List (Entry × Bool)) (start place : ℕ) → start ≤ length entries →
    IsAliveAt durable (take start entries) place → IsAliveAt durable entries place
alive-before durable entries start place within alive =
    let below : place < start = omega (arith, alive.0, length-take-le start entries within) in
    (omega (arith, below, within), λ one at. alive.1 one (at-take entries start place one below at))

pub maybe-before : (durable : List Entry) (entries : List (Entry × Bool)) (start : ℕ) → start ≤ length entries →
    (place : Option ℕ) → IfSome place (λ p. IsAliveAt durable (take start entries) p) → IfSome place (λ p. IsAliveAt durable entries p)
maybe-before durable entries start within None alive = alive
maybe-before durable entries start within (Some place) alive = alive-before durable entries start place within alive

-- the entries from one on, as a slice has them
pub rest_of : {X : Type 0} (xs : List X) (start : ℕ) → take (length xs - start) (drop start xs) ≡ drop start xs
rest_of xs start = take_all (length xs - start) (drop start xs) (omega (arith, length-drop start xs))
