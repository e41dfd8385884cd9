-- What holds of the terms that the coordinator issues: each was issued once, and a grant of a recovery comes after
-- its base.
use Rattle.std.specs.Prelude.{◌≡◌, ◌⊎◌, ℕ, ◌<◌, ◌≤◌, true, List, Some}
use Rattle.rc_types.specs.Ranges.{in_range}
use Rattle.rc_types.specs.declared.ids.ServerId.{ServerId}
use Rattle.rc_types.specs.declared.rows.Part.{Part}
use Rattle.rc_types.specs.declared.kept.Grant.{Grant}
use Rattle.rc_types.specs.declared.messages.Message.{Message}
use Rattle.rc_types.specs.declared.messages.Body.TheVariants.{Recovered}
use Rattle.rc_model.specs.Messages.{to_coordinator}
use Rattle.rc_model.specs.Attempts.{Decision, GivenPart}
use Rattle.rc_model.specs.Coordinator.{Coordinator}
use Rattle.rc_model.specs.Headline.{In}
use Rattle.rc_owner_laws.specs.Grants.{owner_at, IsDecided}

-- the point was granted to this id under this term
pub record IsGrantedTo (grants : List Grant) (owner : ServerId) (term table key : ℕ) : Type 0 where
  pub grant : Grant
  pub among : In grant grants
  pub owner_is : grant.owner ≡ owner
  pub term_is : grant.term ≡ term
  pub holds : in_range grant.range table key ≡ true

-- a grant of a recovery: its attempt was decided so, its owner has told the end of that part, and the master of the
-- attempt was granted each of its points under the term before
pub record IsGivenBy (sent : List Message) (c : Coordinator) (grant : Grant) : Type 0 where
  pub master : ServerId
  pub decision : Decision
  pub decided : IsDecided c.attempts grant.attempt master decision
  pub part : Part
  pub among : In (record { to = grant.owner; part = part }) decision.parts
  pub range_is : grant.range ≡ part.range
  pub term_is : grant.term ≡ part.term
  pub previous_is : grant.previous ≡ part.previous
  pub asked : In (to_coordinator grant.owner (Recovered grant.attempt grant.term)) sent
  pub after : (table key : ℕ) → in_range grant.range table key ≡ true →
      IsGrantedTo c.grants master grant.previous table key

pub record GoodTerms (sent : List Message) (c : Coordinator) : Type 0 where
  -- a tablet's term was granted to its owner, at each point that it holds
  pub owned : (table key : ℕ) (owner : ServerId) (term : ℕ) → owner_at c.tablets table key ≡ Some (owner, term) →
      IsGrantedTo c.grants owner term table key
  -- a term is above 0 and at most the last one
  pub issued : (grant : Grant) → In grant c.grants → (0 < grant.term) × (grant.term ≤ c.last_term)
  pub part_issued : (number : ℕ) (master : ServerId) (decision : Decision) →
      IsDecided c.attempts number master decision →
      (given : GivenPart) → In given decision.parts → 0 < given.part.term
  -- a term is that of one part of one attempt, and of one grant; the term of a new table is no part's
  pub part_once : (number other : ℕ) (master crashed : ServerId) (one two : Decision) (given again : GivenPart) →
      IsDecided c.attempts number master one → In given one.parts → IsDecided c.attempts other crashed two →
      In again two.parts →
      given.part.term ≡ again.part.term → (number ≡ other) × (given ≡ again)
  pub grant_once : (one other : Grant) → In one c.grants → In other c.grants → one.term ≡ other.term → one ≡ other
  pub created_apart : (grant : Grant) → In grant c.grants → grant.attempt ≡ 0 →
      (number : ℕ) (master : ServerId) (decision : Decision) →
      IsDecided c.attempts number master decision → (given : GivenPart) → In given decision.parts →
      given.part.term ≡ grant.term → ⊥
  -- a grant is of a new table, or of a recovery
  pub origin : (grant : Grant) → In grant c.grants → ((grant.attempt ≡ 0) × (grant.previous ≡ 0)) ⊎
      IsGivenBy sent c grant
