-- What a bool says of a list and of an option.
use Rattle.std.proofs.Common.{◌≡◌, ◌↔◌, Bool, true, false, List, [], ◌∷◌, Option, Some, None, refl}
use Rattle.rc_process.specs.View.{Held}
use Rattle.rc_process.specs.declared.saving.Saving.{Saving}
use Rattle.rc_session.specs.Looks.{is_held, is_begun}

pub held_is : (b : Bool) (held : List Held) → ((b ≡ false) ↔ (held ≡ [])) → b ≡ is_held held
held_is true [] h = let e : true ≡ false = h.1 refl in absurd cc
held_is false [] h = refl
held_is true (x ∷ xs) h = refl
held_is false (x ∷ xs) h = let e : x ∷ xs ≡ [] = h.0 refl in absurd cc

pub begun_is : (b : Bool) (saving : Option Saving) → ((b ≡ false) ↔ (saving ≡ None)) → b ≡ is_begun saving
begun_is true None h = let e : true ≡ false = h.1 refl in absurd cc
begun_is false None h = refl
begun_is true (Some saving) h = refl
begun_is false (Some saving) h = let e : Some saving ≡ None = h.0 refl in absurd cc
