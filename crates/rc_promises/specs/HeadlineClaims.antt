-- The headline: of every world that a setup and a list of events lead to.
use Rattle.std.specs.Prelude.{◌≡◌, false, List, None}
use Rattle.rc_types.specs.declared.events.Setup.{Setup}
use Rattle.rc_types.specs.declared.events.Event.{Event}
use Rattle.rc_model.specs.World.{replay}
use Rattle.rc_model.specs.Breach.{breach}
use Rattle.rc_model.specs.Headline.{NothingIsDropped}
use Rattle.rc_history.specs.Apart.{Step, sent_by, TakenApart}
-- no list of events leads to a breach
pub use Rattle.rc_owner_laws.specs.VersionClaims.{NoBreach}

-- and where masters free nothing, each accepted recovery has every acknowledged write of its master at its own place
abbrev pub Strong : Type 0
Strong = (setup : Setup) (events : List Event) → setup.free ≡ false → NothingIsDropped (replay setup events).sent

-- the messages that nodes sent which run apart hold no breach
abbrev pub NoBreachApart : Type 0
NoBreachApart = (setup : Setup) (steps : List Step) → TakenApart setup steps → breach (sent_by steps) ≡ None

-- and where their masters free nothing, each acknowledged write is in each of its master's recoveries at its own place
abbrev pub StrongApart : Type 0
StrongApart = (setup : Setup) (steps : List Step) → TakenApart setup steps → setup.free ≡ false →
    NothingIsDropped (sent_by steps)
