-- Orders of terms, in which each term stands after all that come before it.
use Rattle.std.specs.Prelude.{◌≡◌, ℕ, Bool, true, false, nat_lt, nat_le, ◌&&◌, Option, Some, None}
use Rattle.std.specs.Ordering.{nat_cmp}
use Rattle.std.specs.BTreeMap.{BTreeMap, get}
use Rattle.rc_model.specs.Headline.{In}
use Rattle.rc_audit.specs.declared.grants.Grant.{Grant}
use Rattle.rc_audit.specs.declared.grants.TermGrants.{TermGrants}
use Rattle.rc_audit.specs.declared.highs.TermKey.{TermKey}
use Rattle.rc_audit.specs.declared.orders.Span.{Span}
use Rattle.rc_audit.specs.Grants.{grants_at}
use Rattle.rc_audit.specs.Highs.{key_order, high_at, is_level}

-- the second stands after the first, and after all that the first stands after
abbrev pub stands_after : Option Span → Option Span → Bool
stands_after (Some earlier) (Some later) = nat_lt earlier.place later.bound && nat_le earlier.bound later.bound
stands_after (Some earlier) None = false
stands_after None later = false

abbrev pub is_after : BTreeMap ℕ Span → ℕ → ℕ → Bool
is_after order earlier later = stands_after (get nat_cmp order earlier) (get nat_cmp order later)

-- each term stands after the previous one of each of its grants
pub record Keeps (order : BTreeMap ℕ Span) (grants : BTreeMap ℕ TermGrants) : Type 0 where
  pub each : (term : ℕ) (grant : Grant) → In grant (grants_at grants term) → is_after order grant.previous term ≡ true

-- no version of this key is greater, of those under a term after which its own stands
pub record IsOver (order : BTreeMap ℕ Span) (highs : BTreeMap TermKey ℕ) (key : TermKey) (bar : Option ℕ) : Type 0 where
  pub each : (q : TermKey) (v : ℕ) → q.table ≡ key.table → q.key ≡ key.key →
      is_after order q.term key.term ≡ true → is_level (high_at highs q) v ≡ true → is_level bar v ≡ true

-- each that the table has is such a one
pub record AreOver (order : BTreeMap ℕ Span) (highs : BTreeMap TermKey ℕ) (bars : BTreeMap TermKey (Option ℕ)) :
    Type 0 where
  pub each : (key : TermKey) (bar : Option ℕ) → get key_order bars key ≡ Some bar → IsOver order highs key bar
