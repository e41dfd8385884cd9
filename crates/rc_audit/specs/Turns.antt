-- The turns of keys under terms, in the sequence of an order's places.
use Rattle.std.specs.Prelude.{◌≡◌, ◌⊎◌, ℕ, ◌≤◌, true, false, Option, Some}
use Rattle.std.specs.declared.cmp.Ordering.{Ordering}
use Rattle.std.specs.Ordering.{nat_cmp, bool_cmp, ordering_then}
use Rattle.std.specs.BTreeMap.{BTreeMap, get}
use Rattle.std.specs.BTreeSet.{BTreeSet, contains}
use Rattle.rc_audit.specs.declared.highs.TermKey.{TermKey}
use Rattle.rc_audit.specs.declared.orders.Span.{Span}
use Rattle.rc_audit.specs.declared.turns.Turn.{Turn}
use Rattle.rc_audit.specs.Highs.{key_order, high_at, is_level}

abbrev pub turn_order : Turn → Turn → Ordering
turn_order a b =
    ordering_then (nat_cmp a.place b.place) (ordering_then (bool_cmp a.is_noted b.is_noted) (key_order a.key b.key))

-- the key of all terms at once
abbrev pub of_all_terms : TermKey → TermKey
of_all_terms key = record { term = 0; table = key.table; key = key.key }

-- the turn in which a key is noted, whose term stands there
abbrev pub noting : Span → TermKey → Turn
noting span key = record { place = span.place; is_noted = true; key = key }

-- the new set has the turn of this key, too
pub record HasTurn (order : BTreeMap ℕ Span) (old new : BTreeSet Turn) (key : TermKey) : Type 0 where
  pub kept : (t : Turn) → contains turn_order old t ≡ true → contains turn_order new t ≡ true
  pub added : (span : Span) → get nat_cmp order key.term ≡ Some span → contains turn_order new (noting span key) ≡ true

-- the set has the turn of each key
pub record HasTurns (order : BTreeMap ℕ Span) (highs : BTreeMap TermKey ℕ) (turns : BTreeSet Turn) : Type 0 where
  pub each : (key : TermKey) (v : ℕ) (span : Span) → is_level (high_at highs key) v ≡ true →
      get nat_cmp order key.term ≡ Some span → contains turn_order turns (noting span key) ≡ true

-- the bar of this turn's key is what is noted, and all that stands before its term had a turn before this one
pub record IsFound (order : BTreeMap ℕ Span) (noted : BTreeMap TermKey ℕ) (turn : Turn) (key : TermKey)
    (bar : Option ℕ) : Type 0 where
  pub finds : turn.is_noted ≡ false
  pub is_key : key ≡ turn.key
  pub is_bar : bar ≡ high_at noted (of_all_terms turn.key)
  pub span : Span
  pub stands : get nat_cmp order turn.key.term ≡ Some span
  pub passed : span.bound ≤ turn.place

-- a turn is taken
pub record TakesTurn (order : BTreeMap ℕ Span) (highs old new : BTreeMap TermKey ℕ)
    (found finds : BTreeMap TermKey (Option ℕ)) (turn : Turn) : Type 0 where
  pub kept : (q : TermKey) (v : ℕ) → is_level (high_at old q) v ≡ true → is_level (high_at new q) v ≡ true
  pub noted : (v : ℕ) → turn.is_noted ≡ true → is_level (high_at highs turn.key) v ≡ true →
      is_level (high_at new (of_all_terms turn.key)) v ≡ true
  pub bars : (key : TermKey) (bar : Option ℕ) → get key_order finds key ≡ Some bar →
      (get key_order found key ≡ Some bar) ⊎ IsFound order old turn key bar
