-- A work that is no delivery of a message, at the end of a list of steps.
use Rattle.std.proofs.Common.{◌≡◌, ◌∙◌, true, false, not, ◌&&◌, List, [], ◌∷◌, ◌++◌, All, ap, refl, ℕ}
use Rattle.rc_types.specs.declared.ids.NodeName.{NodeName}
use Rattle.rc_wire.specs.declared.work.Work.{Work}
use Rattle.rc_wire.specs.SeatView.{SeatData}
use Rattle.rc_wire.specs.declared.steps.Step.{Step}
use Rattle.rc_wire.specs.declared.steps.Step.TheVariants.{Do, Settle}
use Rattle.rc_wire.specs.Runs.{is_fetched, none_fetched}
use Rattle.rc_wire.specs.Ends.{IsIdle}
use Rattle.rc_wire.specs.Seats.{new_seats}
use Rattle.rc_wire.proofs.Fetching.{opened-idle}

same_last : (steps : List Step) (step : Step) → none_fetched (step ∷ []) ≡ true →
    none_fetched (steps ++ step ∷ []) ≡ none_fetched steps
same_last [] step is = is
same_last (Settle ∷ steps) step is = same_last steps step is
same_last (Do who given ∷ steps) step is = ap (λ b. not (is_fetched given) && b) (same_last steps step is)

pub added : (old new : List Step) (name : NodeName) (work : Work) → new ≡ old ++ Do name work ∷ [] → is_fetched work ≡ false →
    none_fetched new ≡ none_fetched old
added old new name work are is = ap none_fetched are ∙ same_last old (Do name work) (ap (λ b. not b && true) is)

pub settled : (old new : List Step) → new ≡ old ++ Settle ∷ [] → none_fetched new ≡ none_fetched old
settled old new are = ap none_fetched are ∙ same_last old Settle refl

pub idle_opened : (nodes : ℕ) (seats : List SeatData) → seats ≡ new_seats nodes → All IsIdle seats
idle_opened nodes seats are = opened-idle nodes seats are
