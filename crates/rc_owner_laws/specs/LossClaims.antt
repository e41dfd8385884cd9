-- What is claimed of a choice of the log that is refused, after every list of events of every setup.
use Rattle.std.specs.Prelude.{◌≡◌, ◌⊎◌, ℕ, ◌<◌, true, List, [], ◌∷◌, length, Ok, Err}
use Rattle.rc_types.specs.declared.ids.ServerId.{ServerId}
use Rattle.rc_types.specs.declared.rows.Row.{Row}
use Rattle.rc_types.specs.declared.rows.Plan.{Plan}
use Rattle.rc_types.specs.declared.faults.Fault.{Fault}
use Rattle.rc_types.specs.declared.faults.Fault.TheVariants.{HeadMissing, SegmentMissing, NotReady}
use Rattle.rc_types.specs.declared.events.Setup.{Setup}
use Rattle.rc_types.specs.declared.events.Event.{Event}
use Rattle.rc_model.specs.Messages.{coordinator_refuses}
use Rattle.rc_model.specs.Pick.{pick}
use Rattle.rc_model.specs.Attempts.{Attempt, is_gathering}
use Rattle.rc_model.specs.Coordinator.{Coordinator}
use Rattle.rc_model.specs.Deciding.{decides, decides_on, decision_of, ready_ids}
use Rattle.rc_model.specs.Nodes.{factor_of}
use Rattle.rc_model.specs.World.{replay}
use Rattle.rc_model.specs.Headline.{In}
use Rattle.rc_step_laws.specs.WordClaims.{sent_after}
use Rattle.rc_owner_laws.specs.Loss.{WasDropped, IsGone, AreAnswers, HasRow, WasReady, AllHaveAnswered}

-- the log of the master can't be chosen from these answers
abbrev pub IsRefused : Setup → List Event → ServerId → List (ServerId × List Row) → Fault → Type 0
IsRefused setup events m replies fault = pick ((replay setup events).coordinator.least m) replies ≡ Err fault

-- where all that any backup has of a master is among the answers, a refusal means that a segment is gone
abbrev pub RefusalsMeanLoss : Type 0
RefusalsMeanLoss = (setup : Setup) (events : List Event) (m : ServerId) (replies : List (ServerId × List Row))
    (fault : Fault) → WasReady (sent_after setup events) m → AreAnswers setup events m replies →
    ((i s : ℕ) → HasRow setup events m replies i s) → IsRefused setup events m replies fault →
    (s : ℕ) × IsGone setup events m s

-- so where of each segment fewer hosts than it has replicas have ever dropped one, no choice is refused
abbrev pub FewDropsAreNoLoss : Type 0
FewDropsAreNoLoss = (setup : Setup) (events : List Event) (m : ServerId) (replies : List (ServerId × List Row))
    (fault : Fault) → WasReady (sent_after setup events) m → AreAnswers setup events m replies →
    ((i s : ℕ) → HasRow setup events m replies i s) →
    (hosts : ℕ → List ℕ) → ((s : ℕ) → length (hosts s) < factor_of setup m.index) →
    ((x : ServerId) (s e : ℕ) → WasDropped setup events x m s e → In x.index (hosts s)) →
    IsRefused setup events m replies fault → ⊥

-- and where of each segment fewer hosts than it has replicas have dropped one or are missing from the answers, no
-- choice is refused either
abbrev pub FewMissingAreNoLoss : Type 0
FewMissingAreNoLoss = (setup : Setup) (events : List Event) (m : ServerId) (replies : List (ServerId × List Row))
    (fault : Fault) → WasReady (sent_after setup events) m → AreAnswers setup events m replies →
    (hosts : ℕ → List ℕ) → ((s : ℕ) → length (hosts s) < factor_of setup m.index) →
    ((i s : ℕ) → In i (hosts s) ⊎ HasRow setup events m replies i s) →
    ((x : ServerId) (s e : ℕ) → WasDropped setup events x m s e → In x.index (hosts s)) →
    IsRefused setup events m replies fault → ⊥

-- a Decide of the master is refused, since there is no head, or no row of a segment
pub record IsDecidedMissing (setup : Setup) (events : List Event) (m : ServerId) : Type 0 where
  pub fault : Fault
  pub missing : (fault ≡ HeadMissing) ⊎ ((seg : ℕ) × (fault ≡ SegmentMissing seg))
  pub refused : In (coordinator_refuses fault) (decides (replay setup events).coordinator m).1

-- where all hosts have answered, that means that a segment is gone
abbrev pub RefusedDecidesMeanLoss : Type 0
RefusedDecidesMeanLoss = (setup : Setup) (events : List Event) (m : ServerId) → WasReady (sent_after setup events) m →
    AllHaveAnswered setup events m → IsDecidedMissing setup events m → (s : ℕ) × IsGone setup events m s

-- what a Decide of the attempt does: the plan is kept and goes out
pub record IsPlanned (c : Coordinator) (m : ServerId) (attempt : Attempt) : Type 0 where
  pub plan : Plan
  pub picked : pick (c.least m) attempt.replies ≡ Ok plan
  pub done : decides c m ≡
      decides_on c (c.current m) attempt (decision_of c (c.current m) m plan (ready_ids c)) (ready_ids c)

-- or it is refused, since nobody is up and ready
pub record IsNobodyReady (c : Coordinator) (m : ServerId) : Type 0 where
  pub nobody : ready_ids c ≡ []
  pub refused : decides c m ≡ (c, coordinator_refuses NotReady ∷ [])

-- a Decide of an attempt that is gathering, where all hosts have answered, plans, unless nobody is ready or a segment
-- is gone
abbrev pub DecidesPlanOrLoss : Type 0
DecidesPlanOrLoss = (setup : Setup) (events : List Event) (m : ServerId) → WasReady (sent_after setup events) m →
    (all : AllHaveAnswered setup events m) → is_gathering all.attempt ≡ true →
    IsPlanned (replay setup events).coordinator m all.attempt ⊎
    (IsNobodyReady (replay setup events).coordinator m ⊎ ((s : ℕ) × IsGone setup events m s))
