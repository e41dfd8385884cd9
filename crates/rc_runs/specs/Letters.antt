-- What a mail is seen as.
use Rattle.std.specs.Prelude.{◌≤◌, Bool, List, [], length}
use Rattle.rc_types.specs.declared.events.Event.{Event}
use Rattle.rc_types.specs.declared.messages.Message.{Message}
use Rattle.rc_runs.specs.Lanes.{Lane}
use Rattle.rc_runs.specs.Waiting.{Fits}

pub record Letters : Type 0 where
  -- for each message noted, whether an event has delivered it
  pub delivered : List Bool
  -- the numbers of those that wait; some may have been delivered since
  pub waiting : List Lane

abbrev pub no_letters : Letters
no_letters = record { delivered = []; waiting = [] }

-- the mail fits what has happened, and what was sent
abbrev pub Waits : List Event → List Message → Letters → Type 0
Waits events sent letters = Fits events sent letters.delivered letters.waiting

-- the mail has noted all that was sent
abbrev pub HasNoted : List Message → Letters → Type 0
HasNoted sent letters = length sent ≤ length letters.delivered
