-- The seats of a new wire, one by one.
use Rattle.std.proofs.Common.{◌≡◌, ℕ, zero, suc, ◌+◌, ◌-◌, ◌<◌, List, [], ◌∷◌, ◌++◌, map, refl, ap, arith}
use Rattle.std.specs.List.{range_with_len}
use Rattle.rc_wire.specs.declared.view.Place.{Place}
use Rattle.rc_wire.specs.Views.{new_place}
use Rattle.rc_types.specs.Names.{number_of}
use Rattle.rc_wire.proofs.Numbered.{numbered-push}
use Rattle.rc_wire.specs.SeatView.{new_seat}
use Rattle.rc_wire.specs.Views.{name_at}
use Rattle.rc_wire.specs.Seats.{new_seats}

pub name_at-number : (number : ℕ) → number_of (name_at number) ≡ number
name_at-number zero = refl
name_at-number (suc zero) = refl
name_at-number (suc (suc index)) = refl

-- the first of the tokens that are left, and the others
abbrev pub places_from : ℕ → ℕ → List Place
places_from number nodes = map new_place (range_with_len number (nodes - number))

pub places-first : (number nodes : ℕ) → number < nodes → places_from number nodes ≡ new_place number ∷ places_from (number + 1) nodes
places-first number nodes below =
    let more : nodes - number ≡ suc (nodes - (number + 1)) = omega (arith, below) in
    ap (λ n. map new_place (range_with_len number n)) more

pub seats-push : (number : ℕ) → new_seats (number + 1) ≡ new_seats number ++ new_seat (name_at number) ∷ []
seats-push number = numbered-push (λ n. new_seat (name_at n)) number
