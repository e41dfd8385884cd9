-- What the greatest recovered versions say of acknowledged writes.
use Rattle.std.specs.Prelude.{◌≡◌, ℕ, ◌+◌, Bool, false, nat_lt, ◌&&◌, ◌||◌, List, [], ◌∷◌}
use Rattle.std.specs.BTreeMap.{BTreeMap}
use Rattle.rc_types.specs.declared.entries.Entry.{Entry}
use Rattle.rc_types.specs.declared.rows.PlanRow.{PlanRow}
use Rattle.rc_types.specs.declared.messages.Message.{Message}
use Rattle.rc_model.specs.Recovered.{Ack, Accepted}
use Rattle.rc_model.specs.Breach.{is_greater, holds_greater, is_superseded}
use Rattle.rc_audit.specs.declared.highs.TermKey.{TermKey}
use Rattle.rc_audit.specs.Highs.{ack_key, high_at, is_above}

-- among these entries, the first of which stands at the offset, one below the limit is a greater version
abbrev pub greater_below : ℕ → Ack → ℕ → List Entry → Bool
greater_below limit ack o [] = false
greater_below limit ack o (entry ∷ entries) =
    (nat_lt o limit && is_greater ack entry) || greater_below limit ack (o + 1) entries

-- a message among these sends a greater version for a place that a row holds
abbrev pub superseded_in : List PlanRow → List Message → Ack → Bool
superseded_in rows [] ack = false
superseded_in rows (message ∷ sent) ack = holds_greater rows ack message.body || superseded_in rows sent ack

-- the table says of an acknowledged write that a greater version was noted
abbrev pub says_above : BTreeMap TermKey ℕ → Ack → Bool
says_above highs ack = is_above (high_at highs (ack_key ack)) ack.version

-- the new table says so of those of which the old one does, and of those of which the test is true
pub record Supersedes (old new : BTreeMap TermKey ℕ) (test : Ack → Bool) : Type 0 where
  pub each : (ack : Ack) → says_above new ack ≡ (says_above old ack || test ack)

-- the table says of exactly those writes that a greater version is recovered
pub record HasSuperseded (highs : BTreeMap TermKey ℕ) (sent : List Message) (plan : Accepted) : Type 0 where
  pub each : (ack : Ack) → says_above highs ack ≡ is_superseded sent plan ack
