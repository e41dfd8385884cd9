-- Linearized, whatever a moment is: the words of `specs/Linearizable.antt`, where it is left open which
-- the operations are, and when a client had asked for a write.
use Rattle.std.specs.Prelude.{◌≡◌, ◌≢◌, ◌⊎◌, ◌↔◌, ℕ, List, None}
use Rattle.rc_types.specs.declared.messages.Message.{Message}
use Rattle.rc_promises.specs.Linearizable.{Operation, ARead, Precedes, StandsBefore, IsOn, WasAskedFor, IsLinearized}

-- these operations, which are on one key, are linearized
pub record AreLinearized (IsOne WasAsked : Operation → Type 0) : Type 0 where
  -- the order keeps the order of time,
  pub in_time : (a b : Operation) → IsOne a → IsOne b → Precedes a b → StandsBefore a b
  -- and is one: what stands neither before the other nor behind it has the same response
  pub total : (a b : Operation) → IsOne a → IsOne b → StandsBefore a b ⊎ (StandsBefore b a ⊎ (a.response ≡ b.response))
  -- before the first write a read shows nothing;
  pub begins : (a : Operation) → IsOne a → a.version ≡ 0 → (a.kind ≡ ARead) × (a.value ≡ None)
  -- behind one it shows the value of the last: that of the write of its version, which has one value
  pub written : (a : Operation) → IsOne a → a.version ≢ 0 → WasAsked a
  pub one_value : (a b : Operation) → IsOne a → IsOne b → a.version ≡ b.version → a.value ≡ b.value

-- of the operations on a key in a list of messages it says what IsLinearized says
abbrev pub SaysTheSame : Type 0
SaysTheSame = (sent : List Message) (table key : ℕ) →
    IsLinearized sent table key ↔ AreLinearized (IsOn sent table key) (WasAskedFor sent)
