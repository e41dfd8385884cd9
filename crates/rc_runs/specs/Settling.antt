-- A pass over the messages: once upwards over their numbers, to the end of the list, which grows meanwhile. It delivers
-- each message that no event has delivered, except those that it leaves alone.
use Rattle.std.specs.Prelude.{ℕ, ◌+◌, ◌-◌, zero, suc, Bool, not, ◌&&◌, if◌then◌else◌, List, [], ◌∷◌, length, drop}
use Rattle.std.specs.Prelude.{Option, Some, None, Result, Ok, Err}
use Rattle.rc_types.specs.declared.events.Event.{Event}
use Rattle.rc_types.specs.declared.events.Event.TheVariants.{Deliver}
use Rattle.rc_types.specs.declared.messages.Message.{Message}
use Rattle.rc_model.specs.World.{World, step}
use Rattle.rc_runs.specs.declared.passing.Passing.{Passing}
use Rattle.rc_runs.specs.Delivered.{is_delivered}
use Rattle.rc_runs.specs.Passing.{is_left_alone}

-- the pass delivers the message of this number, which no event has delivered
abbrev pub is_due : Passing → List Event → ℕ → Message → Bool
is_due passing events n message = not (is_delivered n events) && not (is_left_alone passing message)

-- the first that it delivers of these messages, whose numbers begin at n
abbrev pub next_due : Passing → List Event → ℕ → List Message → Option ℕ
next_due passing events n [] = None
next_due passing events n (message ∷ messages) =
    if is_due passing events n message then Some n else next_due passing events (n + 1) messages

-- the least number from n on of a message that it delivers
abbrev pub due_from : Passing → List Event → List Message → ℕ → Option ℕ
due_from passing events sent n = next_due passing events n (drop n sent)

-- The pass over a world. It may have room for so many events.

-- no event is left: a message that is due stops the run
abbrev pub none_left : World → Option ℕ → Result World World
none_left world None = Ok world
none_left world (Some n) = Err world

-- a message that is due is delivered, and the pass goes on above its number
abbrev pub one_left : (World → ℕ → Result World World) → World → Option ℕ → Result World World
one_left rest world None = Ok world
one_left rest world (Some n) = rest (step world (Deliver n)) (n + 1)

-- the pass from number n upwards, while so many events are left
abbrev pub pass : Passing → ℕ → World → ℕ → Result World World
pass passing zero world n = none_left world (due_from passing world.events world.sent n)
pass passing (suc left) world n = one_left (pass passing left) world (due_from passing world.events world.sent n)

-- how many events the world still takes, where it takes so many
abbrev pub events_left : ℕ → World → ℕ
events_left most world = most - length world.events

-- the whole pass; where no event is left for a message that is due, the world that stands then
abbrev pub settles : ℕ → Passing → World → Result World World
settles most passing world = pass passing (events_left most world) world 0
