-- The terms that come before a term, at a point, and how they are found.
use Rattle.std.specs.Prelude.{◌≡◌, ◌⊎◌, ℕ, ◌+◌, ◌≤◌, true, nat_eq, ◌||◌, if◌then◌else◌, List, [], ◌∷◌, ◌++◌, length}
use Rattle.std.specs.Ordering.{nat_cmp}
use Rattle.std.specs.BTreeSet.{BTreeSet, contains}
use Rattle.rc_types.specs.Ranges.{in_range}
use Rattle.rc_types.specs.declared.messages.Message.{Message}
use Rattle.rc_model.specs.Owners.{is_earlier}
use Rattle.rc_model.specs.Headline.{In}
use Rattle.rc_audit.specs.declared.grants.Grant.{Grant}

-- the set has exactly the terms that come before this one at the point
pub record AreEarlier (before : BTreeSet ℕ) (sent : List Message) (table key term : ℕ) : Type 0 where
  pub each : (t : ℕ) → contains nat_cmp before t ≡ is_earlier sent table key t term

-- one more term is noted, and it waits where it is a new one
pub record NotesTerm (old new : BTreeSet ℕ) (waited waiting : List ℕ) (term : ℕ) : Type 0 where
  pub each : (t : ℕ) → contains nat_cmp new t ≡ (nat_eq term t || contains nat_cmp old t)
  pub waits : waiting ≡ (if contains nat_cmp old term then waited else waited ++ term ∷ [])

-- how many of these grants have a previous term that is not noted yet
abbrev pub unseen : BTreeSet ℕ → List Grant → ℕ
unseen before [] = 0
unseen before (grant ∷ grants) =
    if contains nat_cmp before grant.previous then unseen before grants else unseen before grants + 1

-- a grant among these that holds the point, with this previous term
pub record IsStep (table key : ℕ) (grants : List Grant) (term : ℕ) : Type 0 where
  pub grant : Grant
  pub among : In grant grants
  pub holds : in_range grant.range table key ≡ true
  pub is : grant.previous ≡ term

-- the previous terms of those of these grants that hold the point are noted, and each that is new waits
pub record Follows (table key : ℕ) (grants : List Grant) (old new : BTreeSet ℕ) (waited waiting : List ℕ) : Type 0 where
  pub kept : (t : ℕ) → contains nat_cmp old t ≡ true → contains nat_cmp new t ≡ true
  pub noted : (grant : Grant) → In grant grants → in_range grant.range table key ≡ true →
      contains nat_cmp new grant.previous ≡ true
  pub from : (t : ℕ) → contains nat_cmp new t ≡ true → (contains nat_cmp old t ≡ true) ⊎ IsStep table key grants t
  pub waits : (t : ℕ) → In t waited → In t waiting
  pub waits_new : (t : ℕ) → contains nat_cmp new t ≡ true → (contains nat_cmp old t ≡ true) ⊎ In t waiting
  pub waits_from : (t : ℕ) → In t waiting → In t waited ⊎ (contains nat_cmp new t ≡ true)
  pub fewer : (all : List Grant) → ((grant : Grant) → In grant grants → In grant all) →
      unseen new all + length waiting ≤ unseen old all + length waited
