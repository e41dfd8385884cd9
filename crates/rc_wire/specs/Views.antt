-- Views of the tokens of a ledger, and what each kind of step makes of them.
use Rattle.std.specs.Prelude.{ℕ, zero, suc, ◌+◌, [], ◌∷◌, ◌++◌, Option, Some, None}
use Rattle.rc_types.specs.declared.events.Setup.{Setup}
use Rattle.rc_types.specs.declared.events.Event.{Event}
use Rattle.rc_model.specs.World.{NodeName, TheOutside, TheCoordinator, TheHost}
use Rattle.rc_wire.specs.declared.view.Desk.{Desk}
use Rattle.rc_wire.specs.declared.view.Place.{Place}
use Rattle.rc_wire.specs.declared.view.View.{View}

-- seats have numbers: 0 is the outside's, 1 the coordinator's, index + 2 that of a host
abbrev pub name_at : ℕ → NodeName
name_at zero = TheOutside
name_at (suc zero) = TheCoordinator
name_at (suc (suc index)) = TheHost index

-- nothing; the keeper alone, the seat of a node alone, and the keeper with a seat as its guest
abbrev pub idle : View
idle = record { desk = None; place = None }

abbrev pub at_desk : Desk → View
at_desk desk = record { desk = Some desk; place = None }

abbrev pub at_place : Place → View
at_place place = record { desk = None; place = Some place }

abbrev pub hosting : Desk → Place → View
hosting desk place = record { desk = Some desk; place = Some place }

-- before anything has happened
abbrev pub new_desk : Setup → Desk
new_desk setup = record { setup = setup; history = []; next = 0 }

-- a node that has seen and done nothing
abbrev pub new_place : ℕ → Place
new_place node = record { node = node; seen = []; mine = [] }

-- the keeper after one more node was given a seat
abbrev pub dealt : Desk → Desk
dealt desk = record desk { next = desk.next + 1 }

-- the guest has seen the whole history
abbrev pub looked : Desk → Place → Place
looked desk place = record place { seen = desk.history }

-- an event of the guest is added
abbrev pub with_event : Desk → Event → Desk
with_event desk event = record desk { history = desk.history ++ event ∷ [] }

abbrev pub with_own : Desk → Place → Event → Place
with_own desk place event = record place { seen = desk.history ++ event ∷ []; mine = place.mine ++ event ∷ [] }

-- How views are cut in two and joined

abbrev pub dealt_if : Option Desk → Option Desk
dealt_if None = None
dealt_if (Some desk) = Some (dealt desk)

abbrev pub new_place_if : Option Desk → Option Place
new_place_if None = None
new_place_if (Some desk) = Some (new_place desk.next)

abbrev pub after_dealing : View → View
after_dealing view = record view { desk = dealt_if view.desk }

abbrev pub newcomer : View → View
newcomer view = record { desk = None; place = new_place_if view.desk }

abbrev pub desk_alone : View → View
desk_alone view = record view { place = None }

abbrev pub place_alone : View → View
place_alone view = record view { desk = None }

abbrev pub with_guest : View → View → View
with_guest view guest = record view { place = guest.place }
