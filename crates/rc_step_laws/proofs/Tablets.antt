-- How long the lists of tablets and of parts get.
use Rattle.std.proofs.Common.{◌≡◌, ℕ, ◌+◌, ◌≤◌, ◌%◌, false, List, [], ◌∷◌, length, Option, Some, None, slice_get, refl, arith}
use Rattle.rc_model.specs.Model.{lower_half, upper_half, ServerId, Tablet, KeyRange, same_id, holds, insert_tablet, tablets_of}
use Rattle.rc_model.specs.Model.{marked_crashed, split_at}
use Rattle.rc_model.specs.Model.{is_range, assigned, GivenPart, part_of, given_to, gives_parts}
use Rattle.rc_model.proofs.Tests.{either}

-- marks change no length
pub length-marked : (owner : ServerId) (tablets : List Tablet) → length (marked_crashed owner tablets) ≡ length tablets
length-marked owner [] = refl
length-marked owner (tablet ∷ tablets) = omega (arith, length-marked owner tablets)

-- nor does a new owner
pub length-assigned : (range : KeyRange) (owner : ServerId) (term : ℕ) (tablets : List Tablet) →
    length (assigned range owner term tablets) ≡ length tablets
length-assigned range owner term [] = refl
length-assigned range owner term (tablet ∷ tablets) =
    either (λ (after : List Tablet). length after ≡ length (tablet ∷ tablets)) (is_range range tablet)
    (record tablet { owner = owner; term = term; crashed = false } ∷ tablets) (tablet ∷ assigned range owner term tablets)
    (λ e. omega arith) (λ e. omega (arith, length-assigned range owner term tablets))

-- one more tablet
pub length-inserted : (new : Tablet) (tablets : List Tablet) → length (insert_tablet new tablets) ≡ length tablets + 1
length-inserted new [] = refl
length-inserted new (tablet ∷ tablets) =
    either (λ (after : List Tablet). length after ≡ length (tablet ∷ tablets) + 1) _ (new ∷ tablet ∷ tablets)
    (tablet ∷ insert_tablet new tablets) (λ e. omega arith) (λ e. omega (arith, length-inserted new tablets))

-- at most one more
pub length-split : (table at : ℕ) (tablets : List Tablet) → length (split_at table at tablets) ≤ length tablets + 1
length-split table at [] = omega arith
length-split table at (tablet ∷ tablets) =
    either (λ (after : List Tablet). length after ≤ length (tablet ∷ tablets) + 1) (holds tablet table at)
    (lower_half at tablet ∷ upper_half at tablet ∷ tablets) (tablet ∷ split_at table at tablets) (λ e. omega arith)
    (λ e. omega (arith, length-split table at tablets))

-- an owner has at most all tablets
pub length-owned : (owner : ServerId) (tablets : List Tablet) → length (tablets_of owner tablets) ≤ length tablets
length-owned owner [] = omega arith
length-owned owner (tablet ∷ tablets) =
    either (λ (owned : List Tablet). length owned ≤ length (tablet ∷ tablets)) (same_id owner tablet.owner)
    (tablet ∷ tablets_of owner tablets) (tablets_of owner tablets) (λ e. omega (arith, length-owned owner tablets))
    (λ e. omega (arith, length-owned owner tablets))

length-given : (tablet : Tablet) (term : ℕ) (found : Option ServerId) (others : List GivenPart) {n : ℕ} →
    length others ≤ n → length (given_to found (part_of tablet term) others) ≤ n + 1
length-given tablet term None others h = omega arith
length-given tablet term (Some id) others h = omega arith

-- at most one part of each tablet is given
pub length-parts : (ids : List ServerId) (place term : ℕ) (tablets : List Tablet) →
    length (gives_parts ids place term tablets) ≤ length tablets
length-parts ids place term [] = omega arith
length-parts ids place term (tablet ∷ tablets) =
    let rest : length (gives_parts ids (place + 1) (term + 1) tablets) ≤ length tablets = length-parts ids (place + 1) (term + 1) tablets in
    omega (
      arith,
      length-given tablet term (slice_get ids (place % length ids))
          (gives_parts ids (place + 1) (term + 1) tablets) rest,
    )
