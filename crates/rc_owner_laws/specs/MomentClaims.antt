-- What is claimed of the moment in which places are counted as durable.
use Rattle.std.specs.Prelude.{◌≡◌, ◌≢◌, ℕ, max, false, List, [], ◌∷◌, ◌++◌}
use Rattle.rc_types.specs.declared.ids.ServerId.{ServerId}
use Rattle.rc_types.specs.declared.events.Setup.{Setup}
use Rattle.rc_types.specs.declared.events.Event.{Event}
use Rattle.rc_model.specs.Log.{durable_now}
use Rattle.rc_model.specs.Nodes.{factor_of}
use Rattle.rc_model.specs.World.{replay, master_of}
use Rattle.rc_step_laws.specs.WordClaims.{log_of}

-- how many places a master counts as durable
abbrev pub count_of : Setup → List Event → ServerId → ℕ
count_of setup events m = (log_of setup events m).durable

-- Where a segment has replicas at all, and the master isn't deposed: after each event it counts as many places as it
-- did before, or as many as are stored on all just then, whichever is more. So a place is counted, and a client's
-- write at it acknowledged, in the very event in which it becomes stored on all, and in no other.
abbrev pub CountedWhenStored : Type 0
CountedWhenStored = (setup : Setup) (events : List Event) (one : Event) (m : ServerId) → factor_of setup m.index ≢ 0 →
    (master_of (replay setup (events ++ one ∷ [])) m).deposed ≡ false →
    count_of setup (events ++ one ∷ []) m ≡
    max (count_of setup events m) (durable_now (log_of setup (events ++ one ∷ []) m))
