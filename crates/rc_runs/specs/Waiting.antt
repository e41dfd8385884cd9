-- Which messages are still to be delivered, by marks and by numbers that wait.
use Rattle.std.specs.Prelude.{◌≡◌, ◌≤◌, ◌<◌, ℕ, ◌+◌, Bool, true, false, not, ◌&&◌, if◌then◌else◌, List, [], ◌∷◌}
use Rattle.std.specs.Prelude.{length, Option, Some, None, slice_get}
use Rattle.rc_types.specs.declared.events.Event.{Event}
use Rattle.rc_types.specs.declared.messages.Message.{Message}
use Rattle.rc_runs.specs.declared.passing.Passing.{Passing}
use Rattle.rc_runs.specs.Delivered.{is_delivered}
use Rattle.rc_runs.specs.Passing.{is_left_alone}
use Rattle.rc_runs.specs.Lanes.{Lane, InLanes, AllAscend, marked}

-- What is due

-- the pass delivers the message, by the mark of its number
abbrev pub is_due_marked : Passing → Bool → Option Message → Bool
is_due_marked passing mark None = false
is_due_marked passing mark (Some message) = not mark && not (is_left_alone passing message)

abbrev pub is_due_by : Passing → List Bool → List Message → ℕ → Bool
is_due_by passing delivered sent n = is_due_marked passing (marked delivered n) (slice_get sent n)

-- the first of these messages, whose numbers begin at n, that the pass delivers
abbrev pub first_due : Passing → List Bool → ℕ → List Message → Option ℕ
first_due passing delivered n [] = None
first_due passing delivered n (message ∷ messages) =
    if is_due_marked passing (marked delivered n) (Some message) then Some n else first_due passing delivered (n + 1)
    messages

-- The marks and numbers fit these events and messages: what is marked was delivered; and of the messages noted, each
-- that a pass may come to deliver is waiting.
pub record Fits (events : List Event) (sent : List Message) (delivered : List Bool) (waiting : List Lane) : Type 0 where
  pub marks : (n : ℕ) → marked delivered n ≡ is_delivered n events
  pub within : length delivered ≤ length sent
  pub ordered : AllAscend (length delivered) waiting
  pub covers : (passing : Passing) (n : ℕ) → n < length delivered → is_due_by passing delivered sent n ≡ true →
      InLanes passing n waiting
