-- What holds of the coordinator's tablets and grants: who owns each point, under which term, and after whom.
use Rattle.std.specs.Prelude.{◌≡◌, ◌⊎◌, ℕ, ◌<◌, ◌≤◌, true, List, [], ◌∷◌, filter, Option, Some, None, option_map}
use Rattle.rc_types.specs.Ranges.{in_range}
use Rattle.rc_types.specs.declared.ids.ServerId.{ServerId}
use Rattle.rc_types.specs.declared.ids.Addr.{Addr}
use Rattle.rc_types.specs.declared.ids.Addr.TheVariants.{Server}
use Rattle.rc_types.specs.declared.rows.Tablet.{Tablet}
use Rattle.rc_types.specs.declared.rows.Part.{Part}
use Rattle.rc_types.specs.declared.rows.PlanRow.{PlanRow}
use Rattle.rc_types.specs.declared.kept.Grant.{Grant}
use Rattle.rc_types.specs.declared.messages.Message.{Message}
use Rattle.rc_types.specs.declared.messages.Body.{Body}
use Rattle.rc_types.specs.declared.messages.Body.TheVariants.{Own, Plan as PlanBody}
use Rattle.rc_model.specs.Messages.{from_coordinator}
use Rattle.rc_model.specs.ServerList.{has_crashed}
use Rattle.rc_model.specs.Tablets.{holds, tablet_of}
use Rattle.rc_model.specs.Attempts.{Attempt, Decision, GivenPart}
use Rattle.rc_model.specs.Coordinator.{Coordinator}
use Rattle.rc_model.specs.Deciding.{own_body}
use Rattle.rc_model.specs.Headline.{In}
use Rattle.rc_step_laws.specs.Words.{IsNumbered}

-- Tablets

-- no two of these hold one point
abbrev pub TabletsApart : List Tablet → Type 0
TabletsApart [] = Unit {0}
TabletsApart (tablet ∷ tablets) =
    ((table key : ℕ) → holds tablet table key ≡ true → tablet_of tablets table key ≡ None) × TabletsApart tablets

-- who owns a tablet, and under which term
abbrev pub owner_of : Tablet → ServerId × ℕ
owner_of tablet = (tablet.owner, tablet.term)

-- who owns a point, and under which term
abbrev pub owner_at : List Tablet → ℕ → ℕ → Option (ServerId × ℕ)
owner_at tablets table key = option_map owner_of (tablet_of tablets table key)

abbrev pub term_in : Option (ServerId × ℕ) → ℕ
term_in None = 0
term_in (Some owned) = owned.1

-- the term of a point, 0 where nobody owns it
abbrev pub term_at : List Tablet → ℕ → ℕ → ℕ
term_at tablets table key = term_in (owner_at tablets table key)

-- Grants

-- the grants of a point, in order
abbrev pub grants_at : List Grant → ℕ → ℕ → List Grant
grants_at grants table key = filter (λ grant. in_range grant.range table key) grants

-- each grant's previous term is the term of the one before, and terms rise: from this term on up to that one
abbrev pub IsChain : ℕ → List Grant → ℕ → Type 0
IsChain start [] last = start ≡ last
IsChain start (grant ∷ grants) last = (grant.previous ≡ start) × (start < grant.term) × IsChain grant.term grants last

-- none of these grants is to this owner
abbrev pub NoneTo : ServerId → List Grant → Type 0
NoneTo owner [] = Unit {0}
NoneTo owner (grant ∷ grants) = (grant.owner ≡ owner → ⊥) × NoneTo owner grants

-- no two of these grants are to one owner
abbrev pub OwnersDiffer : List Grant → Type 0
OwnersDiffer [] = Unit {0}
OwnersDiffer (grant ∷ grants) = NoneTo grant.owner grants × OwnersDiffer grants

-- the part was granted to whom it was given
pub record IsGiven (grants : List Grant) (given : GivenPart) : Type 0 where
  pub grant : Grant
  pub among : In grant grants
  pub term : grant.term ≡ given.part.term
  pub owner : grant.owner ≡ given.to

-- no two of these parts hold one point
abbrev pub PartsApart : List GivenPart → Type 0
PartsApart [] = Unit {0}
PartsApart (given ∷ parts) =
    ((other : GivenPart) (table key : ℕ) → In other parts → in_range given.part.range table key ≡ true →
    in_range other.part.range table key ≡ true → ⊥) × PartsApart parts

-- the attempt of this number was decided so
pub record IsDecided (attempts : List Attempt) (number : ℕ) (master : ServerId) (decision : Decision) : Type 0 where
  pub attempt : Attempt
  pub numbered : IsNumbered attempts number attempt
  pub master_is : attempt.master ≡ master
  pub decided : attempt.decided ≡ Some decision

pub record GoodGrants (c : Coordinator) : Type 0 where
  pub apart : TabletsApart c.tablets
  pub issued : (table key : ℕ) → term_at c.tablets table key ≤ c.last_term
  -- the grants of a point are a chain from 0 to its term
  pub chains : (table key : ℕ) → IsChain 0 (grants_at c.grants table key) (term_at c.tablets table key)
  -- to whom a point was granted owns it under that term, or has crashed
  pub owners : (table key : ℕ) (grant : Grant) → In grant (grants_at c.grants table key) →
      (has_crashed c.servers grant.owner ≡ true) ⊎ (owner_at c.tablets table key ≡ Some (grant.owner, grant.term))
  -- a point is granted to an id at most once
  pub once : (table key : ℕ) → OwnersDiffer (grants_at c.grants table key)
  -- what was decided: fresh terms, for parts that do not overlap
  pub fresh : (number : ℕ) (master : ServerId) (decision : Decision) → IsDecided c.attempts number master decision →
      (given : GivenPart) → In given decision.parts →
      (given.part.term ≤ c.last_term) × ((table key : ℕ) → in_range given.part.range table key ≡ true →
      given.part.previous < given.part.term)
  pub parted : (number : ℕ) (master : ServerId) (decision : Decision) → IsDecided c.attempts number master decision →
      PartsApart decision.parts
  -- a part of a current attempt that wasn't granted still is its crashed master's
  pub waiting : (number : ℕ) (master : ServerId) (decision : Decision) → IsDecided c.attempts number master decision →
      c.current master ≡ number → (given : GivenPart) → In given decision.parts → (IsGiven c.grants given → ⊥) →
      (table key : ℕ) → in_range given.part.range table key ≡ true →
      owner_at c.tablets table key ≡ Some (master, given.part.previous)

-- What the coordinator says of it

-- an Own is of a grant that is remembered, and goes to its owner
pub record IsOwn (c : Coordinator) (to : Addr) (body : Body) : Type 0 where
  pub grant : Grant
  pub among : In grant c.grants
  pub to_is : to ≡ Server grant.owner
  pub body_is : body ≡ own_body grant

-- a Plan has rows and parts of its attempt's decision, those given to its addressee
pub record IsPlanOf (c : Coordinator) (to : Addr) (number : ℕ) (master : ServerId) (rows : List PlanRow)
    (parts : List Part) : Type 0 where
  pub id : ServerId
  pub to_is : to ≡ Server id
  pub decision : Decision
  pub decided : IsDecided c.attempts number master decision
  pub rows_are : rows ≡ decision.plan.rows
  pub given : (part : Part) → In part parts → In (record { to = id; part = part }) decision.parts

abbrev pub own_said : Coordinator → Addr → Body → Type 0
own_said c to (Own range term previous attempt) = IsOwn c to (Own range term previous attempt)
own_said c to (PlanBody head number master rows parts) = IsPlanOf c to number master rows parts
own_said c to _ = Unit {0}

-- a step of the coordinator: grants are remembered for good, and a new one is sent in the step that makes it
pub record GrantsMoved (old : Coordinator) (after : Coordinator × List Message) : Type 0 where
  pub good : GoodGrants after.0
  pub remembers : (grant : Grant) → In grant old.grants → In grant after.0.grants
  pub told : (grant : Grant) → In grant after.0.grants →
      In grant old.grants ⊎ In (from_coordinator grant.owner (own_body grant)) after.1
  pub says : (message : Message) → In message after.1 → own_said after.0 message.to message.body

-- What was sent of the grants: each that is remembered, and no other; and each Plan is of a decision
pub record GrantsKept (sent : List Message) (c : Coordinator) : Type 0 where
  pub told : (grant : Grant) → In grant c.grants → In (from_coordinator grant.owner (own_body grant)) sent
  pub known : (message : Message) → In message sent → own_said c message.to message.body
