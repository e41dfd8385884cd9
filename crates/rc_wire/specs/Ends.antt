-- What is promised of seats that were run on threads.
use Rattle.std.specs.Prelude.{◌≡◌, ◌⊎◌, ℕ, nat_eq, Bool, true, false, if◌then◌else◌, List, [], ◌∷◌, take, length}
use Rattle.std.specs.Prelude.{Some, None, slice_get}
use Rattle.std.specs.Prelude.{Result, Ok, Err}
use Rattle.std.specs.List.{list_all, list_any}
use Rattle.rc_types.specs.declared.events.Setup.{Setup}
use Rattle.rc_types.specs.declared.faults.Fault.{Fault}
use Rattle.rc_types.specs.declared.faults.Fault.TheVariants.{OutOfMemory, BadEvent}
use Rattle.rc_types.specs.declared.limits.TheConstants.{MAX_EVENTS}
use Rattle.rc_types.specs.Names.{number_of}
use Rattle.rc_wire.specs.declared.work.Work.{Work}
use Rattle.rc_wire.specs.SeatView.{SeatData}
use Rattle.rc_wire.specs.Works.{can_do}
use Rattle.rc_wire.specs.declared.steps.Step.{Step}
use Rattle.rc_wire.specs.declared.steps.Step.TheVariants.{Do, Settle}
use Rattle.rc_wire.specs.Runs.{Does, Runs, Grows, own_work, works_for}

-- no step of the seat is pending
abbrev pub IsIdle : SeatData → Type 0
IsIdle seat = seat.pending ≡ None

-- each seat, in order, has done its works, and delivered every message to its node that it has seen
abbrev pub RunAll : Setup → List SeatData → List Step → List SeatData → Type 0
RunAll setup [] steps [] = Unit {0}
RunAll setup (old ∷ olds) steps (new ∷ news) =
    Runs setup old (works_for old.name steps) new × RunAll setup olds steps news
RunAll setup _ steps _ = ⊥

-- each seat, in order, has seen and committed at least what it had
abbrev pub GrowAll : List SeatData → List SeatData → Type 0
GrowAll [] [] = Unit {0}
GrowAll (old ∷ olds) (new ∷ news) = Grows old new × GrowAll olds news
GrowAll _ _ = ⊥

-- whether the step is no work, or that of one of these seats
abbrev pub is_seated : List SeatData → Step → Bool
is_seated seats (Do who given) = list_any (λ seat. nat_eq (number_of seat.name) (number_of who)) seats
is_seated seats Settle = true

-- whether each work is that of one of these seats
abbrev pub all_seated : List SeatData → List Step → Bool
all_seated seats steps = list_all (is_seated seats) steps

-- the seat has done its works up to one that its node can't do where it is
pub record IsStuck (setup : Setup) (old : SeatData) (steps : List Step) (now : SeatData) : Type 0 where
  pub at : ℕ
  pub step : Step
  pub given : Work
  pub found : slice_get steps at ≡ Some step
  pub own : own_work old.name step ≡ Some given
  pub done : Does old (works_for old.name (take at steps)) now
  pub cannot : can_do setup now given ≡ false

-- that, or the history that it has seen has no room for an event
abbrev pub CannotGoOn : Setup → SeatData → List Step → SeatData → Type 0
CannotGoOn setup old steps now = IsStuck setup old steps now ⊎ (length now.seen ≡ MAX_EVENTS)

-- one of the seats can't go on
abbrev pub SomeCannotGoOn : Setup → List SeatData → List Step → List SeatData → Type 0
SomeCannotGoOn setup (old ∷ olds) steps (new ∷ news) =
    CannotGoOn setup old steps new ⊎ SomeCannotGoOn setup olds steps news
SomeCannotGoOn setup _ steps _ = ⊥

-- What a thread says of the seat that it gives back: it has run; or it has grown, and the fault is F18 only where this
-- seat can't go on.
pub record Stops (setup : Setup) (old : SeatData) (steps : List Step) (fault : Fault) (new : SeatData) : Type 0 where
  pub grows : Grows old new
  pub fault_is : (fault ≡ OutOfMemory) ⊎ (fault ≡ BadEvent)
  pub bad : fault ≡ BadEvent → CannotGoOn setup old steps new

abbrev pub Ends : Setup → SeatData → List Step → Result (Unit {0}) Fault → SeatData → Type 0
Ends setup old steps (Ok done) new = Runs setup old (works_for old.name steps) new
Ends setup old steps (Err fault) new = Stops setup old steps fault new

abbrev pub is_bad_event : Result (Unit {0}) Fault → Bool
is_bad_event (Err BadEvent) = true
is_bad_event _ = false

-- what threads have come to, and one more: a work that can't be done counts before want of memory
abbrev pub joined : Result (Unit {0}) Fault → Result (Unit {0}) Fault → Result (Unit {0}) Fault
joined (Ok done) outcome = outcome
joined (Err fault) outcome = if is_bad_event outcome then outcome else Err fault
