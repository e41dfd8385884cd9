-- What is claimed of the data that backups send, of every setup and every list of events.
use Rattle.std.specs.Prelude.{List}
use Rattle.rc_types.specs.declared.events.Setup.{Setup}
use Rattle.rc_types.specs.declared.events.Event.{Event}
use Rattle.rc_model.specs.World.{replay}
use Rattle.rc_owner_laws.specs.Data.{DataAreCuts}

abbrev pub DataAreAlwaysCuts : Type 0
DataAreAlwaysCuts = (setup : Setup) (events : List Event) →
    DataAreCuts (replay setup events).sent (replay setup events).masters
