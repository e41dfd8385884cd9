-- What clauses say of the tokens of a ledger.
use Rattle.std.specs.Prelude.{◌≡◌, ◌<◌, []}
use Rattle.atomic_table.specs.declared.shared.Seat.{Seat}
use Rattle.rc_types.specs.declared.events.Event.{Event}
use Rattle.rc_wire.specs.declared.ledger.Ledger.{Ledger}
use Rattle.rc_wire.specs.declared.view.Desk.{Desk}
use Rattle.rc_wire.specs.declared.view.Place.{Place}
use Rattle.rc_wire.specs.declared.view.View.{View}
use Rattle.rc_wire.specs.Views.{at_desk, at_place, hosting, dealt, new_place, looked, with_event, with_own}
use Rattle.rc_wire.specs.Law.{Knows}
use Rattle.rc_wire.specs.Moves.{CanAdd, Looks}

abbrev pub Pass : Type 0
Pass = Seat Event View

-- what the token knows
abbrev pub view : Pass → View
view pass = pass.me.0

-- it is a token of this ledger, and holds nothing of it
abbrev pub IsPassOf : Ledger → Pass → Type 0
IsPassOf ledger pass = (pass.table_id ≡ ledger.table.shared.table_id) × (pass.me.1 ≡ [])

-- it keeps the history, and has no guest; it sits for a node, and keeps nothing
abbrev pub Keeps : View → Type 0
Keeps view = (desk : Desk) × (view ≡ at_desk desk)

abbrev pub Sits : View → Type 0
Sits view = (place : Place) × (view ≡ at_place place)

-- the keeper has given one more node a seat
abbrev pub Deals : View → View → View → Type 0
Deals old keeper new = (desk : Desk) → old ≡ at_desk desk →
    (keeper ≡ at_desk (dealt desk)) × (new ≡ at_place (new_place desk.next))

-- it keeps the history, and has a seat as its guest
abbrev pub HasGuest : View → Type 0
HasGuest view = (desk : Desk) × (place : Place) × (view ≡ hosting desk place)

-- the keeper has taken the seat in as its guest; looked for it; added an event of it; and let it go
abbrev pub Hosts : View → View → View → Type 0
Hosts keeper seat after = (desk : Desk) (place : Place) → keeper ≡ at_desk desk → seat ≡ at_place place →
    after ≡ hosting desk place

abbrev pub Looked : View → View → Type 0
Looked keeper after = (desk : Desk) (place : Place) → keeper ≡ hosting desk place → Looks desk place after

abbrev pub MayWrite : View → Event → Type 0
MayWrite keeper event = (desk : Desk) (place : Place) → keeper ≡ hosting desk place → CanAdd desk place event

abbrev pub Writes : View → Event → View → Type 0
Writes keeper event after = (desk : Desk) (place : Place) → keeper ≡ hosting desk place →
    after ≡ hosting (with_event desk event) (with_own desk place event)

abbrev pub Parts : View → View → View → Type 0
Parts keeper after seat = (desk : Desk) (place : Place) → keeper ≡ hosting desk place →
    (after ≡ at_desk desk) × (seat ≡ at_place place)

-- the seat has seen the whole history, of which it knew only what is true; the keeper is as before
pub record Seen (desk : Desk) (place : Place) (keeper seat : View) : Type 0 where
  pub kept : keeper ≡ at_desk desk
  pub sees : seat ≡ at_place (looked desk place)
  pub seated : place.node < desk.next
  pub knows : Knows desk.setup desk.history place

-- what `see` tells, of the keeper and the seat before and after
abbrev pub Sees : View → View → View → View → Type 0
Sees keeper seat keeper_after seat_after =
    (desk : Desk) (place : Place) → keeper ≡ at_desk desk → seat ≡ at_place place →
    Seen desk place keeper_after seat_after

-- an event of the seat's node has been added to the history
pub record Added (desk : Desk) (place : Place) (event : Event) (keeper seat : View) : Type 0 where
  pub kept : keeper ≡ at_desk (with_event desk event)
  pub sees : seat ≡ at_place (with_own desk place event)
  pub seated : place.node < desk.next
  pub knows : Knows desk.setup desk.history place

-- the event is possible now, and the seat's own
abbrev pub MayAdd : View → View → Event → Type 0
MayAdd keeper seat event = (desk : Desk) (place : Place) → keeper ≡ at_desk desk → seat ≡ at_place place →
    CanAdd desk place event

-- what `add` tells, of the keeper and the seat before and after
abbrev pub Adds : View → View → Event → View → View → Type 0
Adds keeper seat event keeper_after seat_after =
    (desk : Desk) (place : Place) → keeper ≡ at_desk desk → seat ≡ at_place place →
    Added desk place event keeper_after seat_after
