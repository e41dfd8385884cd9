-- What a client may rely on, said of one world: of its events, and of the messages that were sent in it.
use Rattle.std.specs.Prelude.{◌≡◌, List, ◌++◌}
use Rattle.rc_types.specs.declared.ids.ServerId.{ServerId}
use Rattle.rc_types.specs.declared.entries.Entry.{Entry}
use Rattle.rc_types.specs.declared.events.Event.{Event}
use Rattle.rc_types.specs.declared.messages.Message.{Message}
use Rattle.rc_model.specs.Recovered.{Ack}
use Rattle.rc_model.specs.Headline.{HasAcknowledged}
use Rattle.rc_step_laws.specs.WordClaims.{sent_after}
use Rattle.rc_promises.specs.Service.{IsWritten, HasAsked, EachIsOneWrite, FollowsTime, ReadsMissOnlyLater}
use Rattle.rc_world.specs.Happened.{Happened}

pub record IsServed (world : Happened) (sent : List Message) : Type 0 where
  -- each acknowledged version of a key is one write
  pub once : EachIsOneWrite sent sent
  -- its master has sent it for its place
  pub written : (m : ServerId) (ack : Ack) → HasAcknowledged sent m ack → (entry : Entry) × IsWritten sent m ack entry
  -- an acknowledged write that was first asked for after a write of its key was acknowledged, within the first events,
  -- has a greater version
  pub ordered : (earlier more : List Event) → world.events ≡ earlier ++ more →
      FollowsTime (sent_after world.setup earlier) (HasAsked (sent_after world.setup earlier)) sent
  -- a read misses only what was acknowledged under a later term
  pub seen : ReadsMissOnlyLater world.setup world.events sent
