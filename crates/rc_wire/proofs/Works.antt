-- Seats that have done their works, in the history that covers them.
use Rattle.std.proofs.Common.{◌≡◌, ℕ, zero, suc, List, [], ◌∷◌, ◌++◌, map, All, refl, sym, ap, ◌∙◌, subst, arith, ◌⊎◌, false}
use Rattle.std.specs.List.{range_with_len}
use Rattle.rc_model.specs.Model.{Setup, Event}
use Rattle.rc_history.specs.Events.{events_of}
use Rattle.rc_types.specs.declared.ids.NodeName.{NodeName}
use Rattle.rc_wire.specs.SeatView.{SeatData, new_seat}
use Rattle.rc_wire.specs.SeatCalls.{IsSeat, Covers}
use Rattle.rc_wire.specs.Views.{name_at}
use Rattle.rc_wire.specs.Seats.{new_seats}
use Rattle.rc_wire.specs.declared.steps.Step.{Step}
use Rattle.rc_wire.specs.Runs.{Runs, works_in, works_for}
use Rattle.rc_wire.specs.Ends.{RunAll, all_seated, SomeCannotGoOn}
use Rattle.rc_wire.specs.Worked.{HasWorked, AllHaveWorked, SomeWasStuck}

-- the seat has committed nothing
abbrev IsFresh : SeatData → Type 0
IsFresh seat = seat.mine ≡ []

worked-one : (setup : Setup) (events : List Event) (steps : List Step) (old new : SeatData) → IsFresh old →
    Runs setup old (works_for old.name steps) new → Covers setup events new → HasWorked setup events steps old
worked-one setup events steps old new fresh ran covers =
    ap (λ (n : NodeName). works_in (events_of setup n events)) (sym ran.does.name)
    ∙ (ap works_in covers.mine
    ∙ (ap works_in (ran.does.mine ∙ ap (λ (l : List Event). l ++ ran.does.added) fresh) ∙ ran.does.did))

all-worked : (setup : Setup) (events : List Event) (steps : List Step) (olds news : List SeatData) → All IsFresh olds →
    RunAll setup olds steps news → All (Covers setup events) news → All (HasWorked setup events steps) olds
all-worked setup events steps [] news fresh ran covers k d lt = absurd (omega (arith, lt))
all-worked setup events steps (o ∷ olds) [] fresh ran covers k d lt = absurd ran
all-worked setup events steps (o ∷ olds) (n ∷ news) fresh ran covers zero d lt =
    worked-one setup events steps o n (fresh zero d lt) ran.0 (covers zero n (omega arith))
all-worked setup events steps (o ∷ olds) (n ∷ news) fresh ran covers (suc k) d lt =
    all-worked setup events steps olds news (λ j e l. fresh (suc j) e (omega (arith, l))) ran.1
    (λ j e l. covers (suc j) e (omega (arith, l))) k d (omega (arith, lt))

new-fresh : (numbers : List ℕ) → All IsFresh (map (λ number. new_seat (name_at number)) numbers)
new-fresh [] k d lt = absurd (omega (arith, lt))
new-fresh (n ∷ numbers) zero d lt = refl
new-fresh (n ∷ numbers) (suc k) d lt = new-fresh numbers k d (omega (arith, lt))

-- seats that were new, of a history that covers them
pub works-done : (setup : Setup) (events : List Event) (steps : List Step) (nodes : ℕ) (olds news : List SeatData) →
    olds ≡ new_seats nodes → RunAll setup olds steps news → All (Covers setup events) news →
    AllHaveWorked setup events steps nodes
works-done setup events steps nodes olds news are ran covers =
    subst (λ (l : List SeatData). All (HasWorked setup events steps) l) are
    (all-worked setup events steps olds news
    (subst (λ (l : List SeatData). All IsFresh l) (sym are) (new-fresh (range_with_len 0 nodes))) ran covers)

-- seats that were new, of which one could not go on
pub was-stuck : (setup : Setup) (events : List Event) (steps : List Step) (nodes : ℕ) (olds news : List SeatData) →
    olds ≡ new_seats nodes → (all_seated olds steps ≡ false) ⊎ SomeCannotGoOn setup olds steps news →
    All (Covers setup events) news → All (IsSeat setup) news → SomeWasStuck setup events steps nodes
was-stuck setup events steps nodes olds news are stuck covers whole = record {
  seats = news;
  whole = whole;
  covered = covers;
  stuck = subst (λ (l : List SeatData). (all_seated l steps ≡ false) ⊎ SomeCannotGoOn setup l steps news) are stuck;
}
