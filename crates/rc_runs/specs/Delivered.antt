-- Which messages events have delivered.
use Rattle.std.specs.Prelude.{ℕ, Bool, false, nat_eq, List}
use Rattle.std.specs.List.{list_any}
use Rattle.rc_types.specs.declared.events.Event.{Event}
use Rattle.rc_types.specs.declared.events.Event.TheVariants.{Deliver}

-- the event delivers the message of this number
abbrev pub delivers : ℕ → Event → Bool
delivers n (Deliver number) = nat_eq n number
delivers n _ = false

-- one of these events did
abbrev pub is_delivered : ℕ → List Event → Bool
is_delivered n events = list_any (delivers n) events
