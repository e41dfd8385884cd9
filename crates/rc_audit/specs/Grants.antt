-- The grants of each term.
use Rattle.std.specs.Prelude.{◌≡◌, ℕ, nat_eq, if◌then◌else◌, List, [], ◌∷◌, ◌++◌, Option, Some}
use Rattle.std.specs.Prelude.{None, map}
use Rattle.std.specs.Ordering.{nat_cmp}
use Rattle.std.specs.BTreeMap.{BTreeMap, get}
use Rattle.rc_types.specs.declared.messages.Message.{Message}
use Rattle.rc_model.specs.Owners.{Granted, granted}
use Rattle.rc_audit.specs.declared.grants.Grant.{Grant}
use Rattle.rc_audit.specs.declared.grants.TermGrants.{TermGrants}

-- a grant, without its owner and attempt
abbrev pub grant_of : Granted → Grant
grant_of granted = record { range = granted.range; term = granted.term; previous = granted.previous }

-- those of these grants that are of a term
abbrev pub under : ℕ → List Grant → List Grant
under term [] = []
under term (grant ∷ grants) = if nat_eq grant.term term then grant ∷ under term grants else under term grants

-- the grants of a term that the table has
abbrev pub grants_in : Option TermGrants → List Grant
grants_in None = []
grants_in (Some of_term) = of_term.grants.items

abbrev pub grants_at : BTreeMap ℕ TermGrants → ℕ → List Grant
grants_at table term = grants_in (get nat_cmp table term)

-- the new table has one more grant, and of the other terms what the old one has
pub record NotesGrant (old new : BTreeMap ℕ TermGrants) (grant : Grant) : Type 0 where
  pub each : (term : ℕ) →
      grants_at new term ≡ (if nat_eq grant.term term then grants_at old grant.term ++ grant ∷ []
      else grants_at old term)

-- the new table has these grants too
pub record AddsGrants (old new : BTreeMap ℕ TermGrants) (grants : List Grant) : Type 0 where
  pub each : (term : ℕ) → grants_at new term ≡ grants_at old term ++ under term grants

-- the table has the grants of every term
pub record AreGrants (table : BTreeMap ℕ TermGrants) (sent : List Message) : Type 0 where
  pub each : (term : ℕ) → grants_at table term ≡ under term (map grant_of (granted sent))
