-- What the coordinator may add to a ledger of two seats in which nothing has happened.
use Rattle.std.proofs.Common.{◌≡◌, Some, refl, sym, ap, ◌∙◌, subst}
use Rattle.rc_types.specs.declared.events.Setup.{Setup}
use Rattle.rc_types.specs.declared.events.Event.TheVariants.{Tick}
use Rattle.rc_types.specs.declared.ids.Addr.TheVariants.{Coordinator}
use Rattle.rc_wire.specs.declared.view.Desk.{Desk}
use Rattle.rc_wire.specs.declared.view.Place.{Place}
use Rattle.rc_wire.specs.declared.view.View.{View}
use Rattle.rc_wire.specs.Views.{at_desk, at_place, new_desk, new_place, dealt}
use Rattle.rc_wire.specs.Moves.{CanAdd}
use Rattle.rc_wire.specs.Passes.{MayAdd}

-- the keeper of two seats
abbrev pub two_seats : Setup → Desk
two_seats setup = dealt (dealt (new_desk setup))

some-is : {X : Type 0} (a b : X) → Some a ≡ Some b → a ≡ b
some-is a b e = cc

pub ticks : (setup : Setup) (keeper seat : View) → keeper ≡ at_desk (two_seats setup) → seat ≡ at_place (new_place 1) →
    MayAdd keeper seat (Tick Coordinator)
ticks setup keeper seat keeps sits desk place is guest =
    let same_desk : two_seats setup ≡ desk = some-is (two_seats setup) desk (ap (λ (v : View). v.desk) (sym keeps ∙ is)) in
    let same_place : new_place 1 ≡ place = some-is (new_place 1) place (ap (λ (v : View). v.place) (sym sits ∙ guest)) in
    let can : CanAdd (two_seats setup) (new_place 1) (Tick Coordinator) = record { possible = refl; own = refl } in
    subst (λ (d : Desk). CanAdd d place (Tick Coordinator)) same_desk
    (subst (λ (p : Place). CanAdd (two_seats setup) p (Tick Coordinator)) same_place can)
