-- What is claimed where masters free no segments, after every list of events.
use Rattle.std.specs.Prelude.{◌≡◌, ℕ, false, List}
use Rattle.rc_types.specs.declared.ids.ServerId.{ServerId}
use Rattle.rc_types.specs.declared.events.Setup.{Setup}
use Rattle.rc_types.specs.declared.events.Event.{Event}
use Rattle.rc_model.specs.Recovered.{Accepted}
use Rattle.rc_model.specs.Durable.{IsDurable}
use Rattle.rc_model.specs.Headline.{WasAccepted, IsHeld, NothingIsDropped}
use Rattle.rc_step_laws.specs.WordClaims.{sent_after}

-- what was acknowledged is in each accepted recovery of its master at its place
abbrev pub NothingIsDroppedWhereNothingIsFreed : Type 0
NothingIsDroppedWhereNothingIsFreed =
    (setup : Setup) (events : List Event) → setup.free ≡ false → NothingIsDropped (sent_after setup events)

-- and so is each durable place
abbrev pub DurableIsHeldWhereNothingIsFreed : Type 0
DurableIsHeldWhereNothingIsFreed =
    (setup : Setup) (events : List Event) → setup.free ≡ false → (m : ServerId) (s o : ℕ) →
    IsDurable setup events m s o → (plan : Accepted) → WasAccepted (sent_after setup events) plan → plan.master ≡ m →
    IsHeld plan.rows s o
