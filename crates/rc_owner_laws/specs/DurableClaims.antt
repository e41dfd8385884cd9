-- What is claimed of durable places: what becomes one, after every list of events of every setup.
use Rattle.std.specs.Prelude.{◌≡◌, ◌≢◌, ℕ, ◌<◌, IsTrue, List, Some, slice_get}
use Rattle.rc_types.specs.declared.ids.ServerId.{ServerId}
use Rattle.rc_types.specs.declared.entries.Entry.{Entry}
use Rattle.rc_types.specs.declared.events.Setup.{Setup}
use Rattle.rc_types.specs.declared.events.Event.{Event}
use Rattle.rc_model.specs.Log.{LogPlace, places_of}
use Rattle.rc_model.specs.Nodes.{factor_of}
use Rattle.rc_model.specs.Recovered.{Ack}
use Rattle.rc_model.specs.Durable.{IsDurable, is_stored_on_all}
use Rattle.rc_model.specs.Headline.{HasAcknowledged, HasMade}
use Rattle.rc_step_laws.specs.WordClaims.{sent_after, log_of, entry_in}

-- Where a segment has replicas at all: a place that is stored on all is durable, since each place of the shut segments
-- before it was stored on all when its segment was shut

abbrev pub StoredIsDurable : Type 0
StoredIsDurable = (setup : Setup) (events : List Event) (m : ServerId) (s o : ℕ) → factor_of setup m.index ≢ 0 →
    IsTrue (is_stored_on_all (log_of setup events m) s o) → IsDurable setup events m s o

-- and so is each place that a master counts as durable
abbrev pub CountedIsDurable : Type 0
CountedIsDurable = (setup : Setup) (events : List Event) (m : ServerId) (k : ℕ) (place : LogPlace) →
    factor_of setup m.index ≢ 0 → k < (log_of setup events m).durable →
    slice_get (places_of (log_of setup events m)) k ≡ Some place → IsDurable setup events m place.seg place.offset

-- so each acknowledgement names a durable place
abbrev pub AcknowledgedIsDurable : Type 0
AcknowledgedIsDurable = (setup : Setup) (events : List Event) (m : ServerId) (ack : Ack) →
    factor_of setup m.index ≢ 0 → HasAcknowledged (sent_after setup events) m ack →
    IsDurable setup events m ack.seg ack.offset

-- What stands at a durable place was sent

abbrev pub DurableIsMade : Type 0
DurableIsMade = (setup : Setup) (events : List Event) (m : ServerId) (s o : ℕ) → IsDurable setup events m s o →
    (entry : Entry) × (entry_in (log_of setup events m) s o ≡ Some entry) × HasMade (sent_after setup events) m s o
    entry
