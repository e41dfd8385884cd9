-- The greatest version of a key that was acknowledged under the terms before a term.
use Rattle.std.specs.Prelude.{◌≡◌, ℕ, true, List, Option, Some}
use Rattle.std.specs.BTreeMap.{BTreeMap, get}
use Rattle.rc_types.specs.declared.messages.Message.{Message}
use Rattle.rc_model.specs.Recovered.{Ack, all_acknowledged}
use Rattle.rc_model.specs.Owners.{is_earlier}
use Rattle.rc_model.specs.Headline.{In}
use Rattle.rc_audit.specs.declared.highs.TermKey.{TermKey}
use Rattle.rc_audit.specs.Highs.{key_order, ack_key, high_at, is_level}

-- the new table knows of these writes too
pub record NotesAcks (old new : BTreeMap TermKey ℕ) (acks : List Ack) : Type 0 where
  pub kept : (q : TermKey) (v : ℕ) → is_level (high_at old q) v ≡ true → is_level (high_at new q) v ≡ true
  pub noted : (ack : Ack) → In ack acks → is_level (high_at new (ack_key ack)) ack.version ≡ true

-- the table has a version as great as each that was acknowledged
pub record HasLevels (highs : BTreeMap TermKey ℕ) (sent : List Message) : Type 0 where
  pub each : (ack : Ack) → In ack (all_acknowledged sent) → is_level (high_at highs (ack_key ack)) ack.version ≡ true

-- no greater version of this key was acknowledged under a term before its own
pub record IsBar (bar : Option ℕ) (sent : List Message) (key : TermKey) : Type 0 where
  pub each : (ack : Ack) → In ack (all_acknowledged sent) → ack.table ≡ key.table → ack.key ≡ key.key →
      is_earlier sent key.table key.key ack.term key.term ≡ true → is_level bar ack.version ≡ true

-- each that the table has is one
pub record AreBars (bars : BTreeMap TermKey (Option ℕ)) (sent : List Message) : Type 0 where
  pub each : (key : TermKey) (bar : Option ℕ) → get key_order bars key ≡ Some bar → IsBar bar sent key
