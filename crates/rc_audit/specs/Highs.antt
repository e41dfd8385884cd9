-- The greatest version of each key under each term, among those that were noted.
use Rattle.std.specs.Prelude.{◌≡◌, ℕ, Bool, false, nat_eq, nat_lt, nat_le, ◌&&◌, if◌then◌else◌, max, Option, Some}
use Rattle.std.specs.Prelude.{None, unwrap_or}
use Rattle.std.specs.declared.cmp.Ordering.{Ordering}
use Rattle.std.specs.Ordering.{nat_cmp, ordering_then}
use Rattle.std.specs.BTreeMap.{BTreeMap, get}
use Rattle.rc_types.specs.declared.entries.Entry.{Entry}
use Rattle.rc_model.specs.Recovered.{Ack}
use Rattle.rc_audit.specs.declared.highs.TermKey.{TermKey}

abbrev pub key_order : TermKey → TermKey → Ordering
key_order a b = ordering_then (nat_cmp a.term b.term) (ordering_then (nat_cmp a.table b.table) (nat_cmp a.key b.key))

abbrev pub same_key : TermKey → TermKey → Bool
same_key a b = nat_eq a.term b.term && (nat_eq a.table b.table && nat_eq a.key b.key)

-- the key of an entry and of an acknowledged write, under its term
abbrev pub entry_key : Entry → TermKey
entry_key entry = record { term = entry.term; table = entry.table; key = entry.key }

abbrev pub ack_key : Ack → TermKey
ack_key ack = record { term = ack.term; table = ack.table; key = ack.key }

abbrev pub high_at : BTreeMap TermKey ℕ → TermKey → Option ℕ
high_at highs key = get key_order highs key

-- the new table knows of one more version of a key, and of the others what the old one does
pub record NotesVersion (old new : BTreeMap TermKey ℕ) (key : TermKey) (version : ℕ) : Type 0 where
  pub each : (q : TermKey) →
      high_at new q ≡ (if same_key key q then Some (max (unwrap_or (high_at old key) 0) version) else high_at old q)

-- the greatest version, if there is one, is above a version
abbrev pub is_above : Option ℕ → ℕ → Bool
is_above None version = false
is_above (Some high) version = nat_lt version high

-- or not below it
abbrev pub is_level : Option ℕ → ℕ → Bool
is_level None version = false
is_level (Some high) version = nat_le version high
