-- What is claimed of the order of commits, after every list of events.
use Rattle.std.specs.Prelude.{◌≡◌, ℕ, ◌<◌, Bool, true, List, [], ◌∷◌, ◌++◌}
use Rattle.rc_types.specs.declared.ids.ServerId.{ServerId}
use Rattle.rc_types.specs.declared.events.Setup.{Setup}
use Rattle.rc_types.specs.declared.events.Event.{Event}
use Rattle.rc_types.specs.declared.messages.Message.{Message}
use Rattle.rc_types.specs.declared.messages.Body.TheVariants.{Commit, CommitOk, Stored}
use Rattle.rc_model.specs.Messages.{between, to_coordinator, from_coordinator}
use Rattle.rc_model.specs.World.{replay}
use Rattle.rc_model.specs.Headline.{In}
use Rattle.rc_model.specs.SendClaims.{IsPlacedOnAll, EarlierAreShut}
use Rattle.rc_step_laws.specs.WordClaims.{sent_after, log_of}
use Rattle.rc_step_laws.specs.SendClaims.{newly_sent}
use Rattle.rc_step_laws.specs.Words.{IsMember}

-- a master asks for a commit of a segment only where each earlier one is shut
abbrev pub CommitsAreAskedInOrder : Type 0
CommitsAreAskedInOrder = (setup : Setup) (events : List Event) (m : ServerId) (s e t : ℕ) →
    In (to_coordinator m (Commit s e)) (sent_after setup events) → 0 < t → t < s →
    ((log_of setup events m).segments t).shut ≡ true

-- and only where that segment is placed on all members of its current epoch just then
abbrev pub CommitsAreOfPlaced : Type 0
CommitsAreOfPlaced = (setup : Setup) (events : List Event) (one : Event) (m : ServerId) (s e : ℕ) →
    In (to_coordinator m (Commit s e)) (newly_sent setup events one) →
    IsPlacedOnAll (log_of setup (events ++ one ∷ []) m) s e × EarlierAreShut (log_of setup (events ++ one ∷ []) m) s

-- that is: each id to which it has sent a proper Place of the segment under that epoch has told something under it
pub record HasToldOf (sent : List Message) (x m : ServerId) (s e : ℕ) : Type 0 where
  pub len : ℕ
  pub closed : Bool
  pub told : In (between x m (Stored s e len closed)) sent

abbrev pub CommitsAreOfTheTold : Type 0
CommitsAreOfTheTold = (setup : Setup) (events : List Event) (one : Event) (m : ServerId) (s e : ℕ) →
    In (to_coordinator m (Commit s e)) (newly_sent setup events one) → (x : ServerId) →
    IsMember (sent_after setup (events ++ one ∷ [])) m s e x →
    HasToldOf (sent_after setup (events ++ one ∷ [])) x m s e

-- so each segment below a granted one is shut
abbrev pub CommitsAreInOrder : Type 0
CommitsAreInOrder = (setup : Setup) (events : List Event) (m : ServerId) (s e t : ℕ) →
    In (from_coordinator m (CommitOk s e)) (sent_after setup events) → 0 < t → t < s →
    ((log_of setup events m).segments t).shut ≡ true

-- and each below the master's least pair
abbrev pub LeastPairsAreInOrder : Type 0
LeastPairsAreInOrder = (setup : Setup) (events : List Event) (m : ServerId) (t : ℕ) →
    0 < t → t < ((replay setup events).coordinator.least m).seg → ((log_of setup events m).segments t).shut ≡ true
