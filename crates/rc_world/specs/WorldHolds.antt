-- What is true of a world's fields: they are what its events lead to, each of which could happen.
use Rattle.std.specs.Prelude.{◌≤◌, List, length}
use Rattle.rc_types.specs.declared.limits.TheConstants.{MAX_EVENTS}
use Rattle.rc_types.specs.declared.events.Event.{Event}
use Rattle.rc_types.specs.declared.messages.Message.{Message}
use Rattle.rc_model.specs.World.{replay}
use Rattle.rc_world.specs.HostView.{IsWithinLimits}
use Rattle.rc_world.specs.WorldView.{world_of, IsSame}
use Rattle.rc_world.specs.Happened.{opened, AllHappen}
use Rattle.rc_world.specs.declared.nodes.Nodes.{Nodes}

pub record WorldHolds {A : Type 0} (nodes : Nodes A) (sent : List Message) (events : List Event) : Type 0 where
  pub same : IsSame (world_of nodes sent) (replay nodes.setup events)
  pub limits : IsWithinLimits nodes.setup
  pub possible : AllHappen (opened nodes.setup) events
  pub few : length events ≤ MAX_EVENTS
