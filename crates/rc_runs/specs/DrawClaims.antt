-- What the drawing should obey.
use Rattle.std.specs.Prelude.{◌≡◌, ℕ, Bool, false, List, [], ◌∷◌, length, drop, Some, None}
use Rattle.rc_types.specs.declared.events.Event.{Event}
use Rattle.rc_types.specs.declared.events.Event.TheVariants.{Ask, Deliver, Tick}
use Rattle.rc_types.specs.declared.ids.Addr.TheVariants.{Server}
use Rattle.rc_types.specs.declared.limits.TheConstants.{MAX_EVENTS}
use Rattle.rc_types.specs.declared.messages.Body.TheVariants.{Write}
use Rattle.rc_model.specs.World.{opening}
use Rattle.rc_runs.specs.Runs.{run_from}
use Rattle.rc_runs.specs.Draw.{drawing_setup, beginning, drawn}

-- the beginning does not stop
abbrev pub BeginningDoesNotStop : Type 0
BeginningDoesNotStop = (free : Bool) → (run_from MAX_EVENTS 0 (opening (drawing_setup free)) beginning).stopped ≡ None

-- before the first step 52 events have happened
abbrev pub BeginningHas52Events : Type 0
BeginningHas52Events = (seed : ℕ) (free : Bool) → length (drawn seed 0 free) ≡ 52

-- the first seven steps of seed 1: a write of key 3 of value 0 to the first server of host 0, four deliveries, the
-- timer of the first server of host 4, and a delivery
abbrev pub first_steps : List Event
first_steps =
    Ask (record { index = 0; generation = 1 }) (Write 1 3 (Some (48 ∷ []))) ∷ Deliver 35 ∷ Deliver 31 ∷ Deliver
    20 ∷ Deliver 28
    ∷ Tick (Server (record { index = 4; generation = 1 })) ∷ Deliver 30 ∷ []

abbrev pub SeedOneBeginsSo : Type 0
SeedOneBeginsSo = drop 52 (drawn 1 7 false) ≡ first_steps
