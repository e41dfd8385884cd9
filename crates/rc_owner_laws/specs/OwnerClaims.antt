-- What each step of the coordinator keeps of tablets and grants.
use Rattle.std.specs.Prelude.{◌≡◌, ◌⊎◌, ℕ, ◌<◌, true, List, [], ◌++◌}
use Rattle.rc_types.specs.declared.messages.Message.{Message}
use Rattle.rc_model.specs.Coordinator.{Coordinator, new_coordinator}
use Rattle.rc_model.specs.Headline.{In}
use Rattle.rc_model.specs.Nodes.{NodeWork, coordinator_step}
use Rattle.rc_step_laws.specs.Facts.{GoodCoordinator}
use Rattle.rc_step_laws.specs.Moves.{CoordinatorLater}
use Rattle.rc_model.specs.Owners.{Granted, IsGranted, covers, IsEarlier}
use Rattle.rc_owner_laws.specs.Grants.{own_said, GoodGrants, GrantsMoved, GrantsKept}

-- each step keeps them
abbrev pub StepsKeepGrants : Type 0
StepsKeepGrants = (sent : List Message) (c : Coordinator) → GoodCoordinator sent c → GoodGrants c → (work : NodeWork) →
    GrantsMoved c (coordinator_step c work)

-- and before the first step they hold
abbrev pub NewHasGoodGrants : Type 0
NewHasGoodGrants = GoodGrants new_coordinator

-- What was sent of the grants

-- it stays so in each step of the coordinator
abbrev pub StepsKeepWhatWasSent : Type 0
StepsKeepWhatWasSent = (sent : List Message) (c : Coordinator) → GrantsKept sent c →
    (after : Coordinator × List Message) →
    CoordinatorLater c after.0 → GrantsMoved c after → GrantsKept (sent ++ after.1) after.0

-- in each step of another node, which sends no Own and no Plan
abbrev pub OthersKeepWhatWasSent : Type 0
OthersKeepWhatWasSent = (sent : List Message) (c : Coordinator) → GrantsKept sent c → (messages : List Message) →
    ((message : Message) → In message messages → own_said c message.to message.body) → GrantsKept (sent ++ messages) c

-- and before the first step
abbrev pub NothingWasSent : Type 0
NothingWasSent = GrantsKept [] new_coordinator

-- The owners of a point

-- of two terms granted for a point one is the earlier one
abbrev pub OwnersFormOneChain : Type 0
OwnersFormOneChain = (sent : List Message) (c : Coordinator) → GoodGrants c → GrantsKept sent c →
    (table key : ℕ) (one other : Granted) →
    IsGranted sent one → covers table key one ≡ true → IsGranted sent other → covers table key other ≡ true →
    (one.term ≡ other.term) ⊎
    (IsEarlier sent table key one.term other.term ⊎ IsEarlier sent table key other.term one.term)

-- an earlier term is less
abbrev pub EarlierTermsAreLess : Type 0
EarlierTermsAreLess = (sent : List Message) (c : Coordinator) → GoodGrants c → GrantsKept sent c →
    (table key earlier later : ℕ) →
    IsEarlier sent table key earlier later → earlier < later

-- a point is granted to an id at most once
abbrev pub GrantedOnce : Type 0
GrantedOnce = (sent : List Message) (c : Coordinator) → GoodGrants c → GrantsKept sent c →
    (table key : ℕ) (one other : Granted) →
    IsGranted sent one → covers table key one ≡ true → IsGranted sent other → covers table key other ≡ true →
    one.owner ≡ other.owner → one ≡ other
