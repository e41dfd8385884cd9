-- What is true of a run's fields: the mail fits the world, and all its events were possible, and they are no more
-- than a world takes.
use Rattle.std.specs.Prelude.{◌≡◌, ◌≤◌, length}
use Rattle.rc_types.specs.declared.limits.TheConstants.{MAX_EVENTS}
use Rattle.rc_runs.specs.Letters.{Letters, Waits}
use Rattle.rc_world.specs.Happened.{Happened, replayed}

pub record RunHolds (world : Happened) (mail : Letters) : Type 0 where
  pub taken : (replayed world).events ≡ world.events
  pub few : length world.events ≤ MAX_EVENTS
  pub waits : Waits (replayed world).events (replayed world).sent mail
