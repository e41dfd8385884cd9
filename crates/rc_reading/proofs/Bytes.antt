-- Bytes as JSON texts.
use Rattle.std.proofs.Common.{◌≡◌, ℕ, ◌<◌, ◌≤◌, Bool, true, false, nat_le, if◌then◌else◌, List, [], ◌∷◌, length, Option, None, refl, arith}
use Rattle.std.specs.Str.{IsUtf8, chars, is_utf8}
use Rattle.std.proofs.lemmas.Str.{IsUtf8-from_is_utf8, is_utf8-from_IsUtf8}
use Rattle.serde_json.specs.Data.{Data}
use Rattle.serde_json.specs.Read.{read}
use Rattle.serde_json.proofs.OnLiterals.{serde_json_on_literals}
use Rattle.rc_reading.specs.declared.limits.TheConstants.{MOST_BYTES}
use Rattle.rc_reading.specs.Scenario.{value_in}

short : (n : ℕ) → n ≤ MOST_BYTES → nat_le n MOST_BYTES ≡ true
short n few = grind arith

long : (n : ℕ) → MOST_BYTES < n → nat_le n MOST_BYTES ≡ false
long n many = grind arith

-- a text that is not too long
pub text_in : (bytes : List ℕ) → length bytes ≤ MOST_BYTES → IsUtf8 bytes → value_in bytes ≡ read bytes
text_in bytes few text = rw (short (length bytes) few, is_utf8-from_IsUtf8 bytes text) refl

unless_text : (b : Bool) (o : Option Data) → (b ≡ true → o ≡ None) → (if b then o else None) ≡ None
unless_text true o h = h refl
unless_text false o h = refl

-- bytes that are no text
pub no_text : (bytes : List ℕ) → length bytes ≤ MOST_BYTES → (IsUtf8 bytes → ⊥) → value_in bytes ≡ None
no_text bytes few none = rw (short (length bytes) few)
    (unless_text (is_utf8 bytes) (read bytes) (λ text. absurd (none (IsUtf8-from_is_utf8 bytes text))))

pub too_long : (bytes : List ℕ) → MOST_BYTES < length bytes → value_in bytes ≡ None
too_long bytes many = rw (long (length bytes) many) refl

no_bytes : value_in [] ≡ None
unfolding chars is_utf8 serde_json_on_literals
no_bytes = refl

pub nothing_read : (bytes : List ℕ) → length bytes ≡ 0 → value_in bytes ≡ None
nothing_read [] none = no_bytes
nothing_read (b ∷ bytes) none = absurd (omega arith)
