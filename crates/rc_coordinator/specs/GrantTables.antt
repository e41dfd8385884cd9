-- The grants that were made, and the tables beside them.
use Rattle.std.specs.Prelude.{◌≡◌, ℕ, ◌<◌, Bool, true, nat_eq, List, Vec, find, vec_len, vec_capacity}
use Rattle.std.specs.List.{list_any}
use Rattle.indexmap.specs.IndexMap.{get, spare}
use Rattle.std.specs.HashSet.{contains, spare as set_spare}
use Rattle.rc_types.specs.declared.kept.Grant.{Grant}
use Rattle.rc_model.specs.Deciding.{is_grant_to}
use Rattle.rc_coordinator.specs.declared.grants.Claim.{Claim}
use Rattle.rc_coordinator.specs.Grants.{same_claim, ClaimTable, TermTable}

-- all grants in the order of granting, and whether there is room for one more
pub record Granted : Type 0 where
  pub grants : List Grant
  pub ready : Bool

-- the first grant of each claim, the granted terms, and the room where it was made
pub record AreGrants {A : Type 0} (list : Vec Grant A) (claims : ClaimTable) (terms : TermTable) (ready : Bool) :
    Type 0 where
  pub claims_are : (claim : Claim) → get same_claim claims claim ≡ find (is_grant_to claim.owner claim.term) list.items
  pub terms_are : (term : ℕ) → contains nat_eq terms term ≡ list_any (λ grant. nat_eq grant.term term) list.items
  pub room : ready ≡ true → (vec_len list < vec_capacity list) × (0 < spare claims) × (0 < set_spare terms)
