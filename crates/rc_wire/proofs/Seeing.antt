-- The first message that a seat sees, which it has delivered or holds.
use Rattle.std.proofs.Common.{◌≡◌, ◌⊎◌, inl, inr, ℕ, ◌+◌, ◌≤◌, Bool, true, false, length, List}
use Rattle.std.proofs.Common.{Some, None, refl, sym, ap, ◌∙◌, subst, arith}
use Rattle.rc_model.specs.Model.{Setup, Event, replay}
use Rattle.rc_wire.specs.Numbers.{least_to}
use Rattle.rc_wire.specs.SeatView.{SeatData, world_at}
use Rattle.rc_wire.specs.SeatCalls.{Later, Finds, Misses, Fetches, SeesNext, has_delivered}
use Rattle.rc_wire.specs.Works.{was_delivered}
use Rattle.rc_wire.specs.declared.steps.Step.{Step}
use Rattle.rc_wire.specs.Runs.{Grows, Progress}
use Rattle.rc_wire.proofs.Found.{within-found}
use Rattle.rc_wire.proofs.Turning.{progress-later, progress-had, grows-later, grows-finds, grows-through, idle-later, had-idle}

-- a number that was found is that of a message there
found-is-there : (setup : Setup) (looked new : SeatData) (from number : ℕ) →
    least_to looked.name from (world_at setup looked).sent ≡ Some number → new.seen ≡ looked.seen →
    Misses setup looked number new → ⊥
found-is-there setup looked new from number first same misses =
    let within = within-found from 0 number looked.name (world_at setup looked).sent first in
    let none : length (world_at setup looked).sent ≤ number =
    subst (λ (h : List Event). length (replay setup h).sent ≤ number) same misses.none in
    omega (arith, within.1, none)

-- so it is held
pub sees-held : (setup : Setup) (old looked new : SeatData) (from number : ℕ) (found : Bool) → Later old looked →
    least_to looked.name from (world_at setup looked).sent ≡ Some number → has_delivered looked number ≡ false →
    new.seen ≡ looked.seen → Fetches setup looked number found new → SeesNext setup old from number new
sees-held setup old looked new from number true later first had same finds =
    record { looked = looked; later = later; first = first; held = inr (had, finds) }
sees-held setup old looked new from number false later first had same misses =
    absurd (found-is-there setup looked new from number first same misses)

pub mine-sees : (setup : Setup) (old : SeatData) (from number : ℕ) (new : SeatData) (sees : SeesNext setup old from number new) →
    new.mine ≡ sees.looked.mine
mine-sees setup old from number new sees = elim sees.held [
  | inl had ↦ ap (λ (s : SeatData). s.mine) had.1
  | inr finds ↦ ap (λ (s : SeatData). s.mine) finds.1.after
]

pub idle-sees : (setup : Setup) (old : SeatData) (from number : ℕ) (new : SeatData) → SeesNext setup old from number new →
    old.pending ≡ None → new.pending ≡ None
idle-sees setup old from number new sees idle =
    let before = idle-later old sees.looked sees.later idle in
    elim sees.held [
      | inl had ↦ ap (λ (s : SeatData). s.pending) had.1 ∙ before
      | inr finds ↦ ap (λ (s : SeatData). s.pending) finds.1.after ∙ before
    ]

pub grows-sees : (setup : Setup) (old : SeatData) (from number : ℕ) (new : SeatData) →
    SeesNext setup old from number new → Grows old new
grows-sees setup old from number new sees =
    let before = grows-later old sees.looked sees.later in
    elim sees.held [
      | inl had ↦ subst (λ (s : SeatData). Grows old s) (sym had.1) before
      | inr finds ↦ grows-through old sees.looked new before (grows-finds setup sees.looked number new finds.1)
    ]

-- where no step is pending, these are its node's deliveries
delivered-idle : (seat : SeatData) (number : ℕ) → seat.pending ≡ None →
    has_delivered seat number ≡ was_delivered seat.mine number
delivered-idle seat number idle =
    sym (had-idle seat.mine seat.pending number (has_delivered seat number) (has_delivered seat number) idle refl refl)

yes-no : true ≡ false → ⊥
yes-no e = cc

-- it was delivered before
pub progress-saw : (setup : Setup) (start : SeatData) (steps : List Step) (at from number : ℕ) (old new : SeatData) →
    Progress setup start steps at from old → SeesNext setup old from number new → old.pending ≡ None →
    was_delivered new.mine number ≡ true → Progress setup start steps at (number + 1) new
progress-saw setup start steps at from number old new p sees idle delivered =
    let same = delivered-idle sees.looked number (idle-later old sees.looked sees.later idle) in elim sees.held [
      | inl had ↦ subst (λ (s : SeatData). Progress setup start steps at (number + 1) s) (sym had.1)
          (progress-had setup start steps at from number sees.looked
          (progress-later setup start steps at from old sees.looked p sees.later) sees.first (sym same ∙ had.0))
      | inr finds ↦ (let mine = ap (λ l. was_delivered l number) (mine-sees setup old from number new sees) in
          absurd (yes-no (sym delivered ∙ (mine ∙ (sym same ∙ finds.0)))))
    ]

-- or it is held
pub sees-new : (setup : Setup) (old : SeatData) (from number : ℕ) (new : SeatData) (sees : SeesNext setup old from number new) →
    old.pending ≡ None → was_delivered new.mine number ≡ false →
    (was_delivered sees.looked.mine number ≡ false) × Finds setup sees.looked number new
sees-new setup old from number new sees idle fresh =
    let same = delivered-idle sees.looked number (idle-later old sees.looked sees.later idle) in elim sees.held [
      | inl had ↦ (let mine = ap (λ l. was_delivered l number) (mine-sees setup old from number new sees) in
          absurd (yes-no (sym (sym same ∙ had.0) ∙ (sym mine ∙ fresh))))
      | inr finds ↦ (sym same ∙ finds.0, finds.1)
    ]
