-- What logs, replicas, recoveries and owners keep holds of every world.
use Rattle.std.proofs.Common.{◌≡◌, ◌≢◌, ℕ, Some}
use Rattle.rc_types.specs.declared.ids.ServerId.{ServerId}
use Rattle.rc_types.specs.declared.entries.Entry.{Entry}
use Rattle.rc_model.specs.Nodes.{factor_of}
use Rattle.rc_model.specs.Recovered.{Ack}
use Rattle.rc_model.specs.Durable.{IsDurable}
use Rattle.rc_model.specs.Headline.{HasAcknowledged}
use Rattle.rc_step_laws.specs.WordClaims.{log_of, entry_in}
use Rattle.rc_step_laws.proofs.Growing.{one-entry, replicas-are-beginnings, recovered-is-made}
use Rattle.rc_owner_laws.proofs.Chained.{points-have-one-chain, terms-rise, points-are-granted-once}
use Rattle.rc_owner_laws.proofs.VersionReplays.{data-is-the-plan-cut, grants-start-from-their-base, versions-rise-with-the-place}
use Rattle.rc_owner_laws.proofs.VersionReplays.{no-version-is-acknowledged-twice}
use Rattle.rc_owner_laws.proofs.Handing.{acknowledged-is-handed-on, durable-is-handed-on}
use Rattle.rc_owner_laws.specs.DurableHandovers as ByFactors
use Rattle.rc_world.specs.HostView.{IsWithinLimits}
use Rattle.rc_world.specs.Happened.{Happened, sent_in}
use Rattle.rc_world.specs.Kept.{KeepsLogs, KeepsOwners, KeepsWrites, IsHandedOn, OwnersKeep}
use Rattle.rc_world.proofs.Serving.{has-replicas}

pub keeps-logs : (world : Happened) → KeepsLogs world
keeps-logs world = record {
  one_entry = one-entry world.setup world.events;
  replicas = replicas-are-beginnings world.setup world.events;
  recovered = recovered-is-made world.setup world.events;
}

pub keeps-owners : (world : Happened) → KeepsOwners world
keeps-owners world = record {
  cut = data-is-the-plan-cut world.setup world.events;
  base = grants-start-from-their-base world.setup world.events;
  chain = points-have-one-chain world.setup world.events;
  less = terms-rise world.setup world.events;
  once = points-are-granted-once world.setup world.events;
  rise = versions-rise-with-the-place world.setup world.events;
  apart = no-version-is-acknowledged-twice world.setup world.events;
}

pub keeps-writes : (world : Happened) → IsWithinLimits world.setup → KeepsWrites world
keeps-writes world limits = record { acknowledged = acknowledged; durable = durable }
  where
    some : (owner : ServerId) → factor_of world.setup owner.index ≢ 0
    some owner = has-replicas world.setup limits owner.index

    acknowledged : (m : ServerId) (ack : Ack) → HasAcknowledged (sent_in world) m ack → IsHandedOn world m ack
    acknowledged m ack was = record {
      recorded = handed.recorded;
      made = handed.made (some m);
      kept = λ grant owner granted to before. handed.kept grant owner granted to before (some owner);
    }
      where
        handed : ByFactors.IsHandedOn world.setup world.events m ack
        handed = acknowledged-is-handed-on world.setup world.events m ack was

    durable : (m : ServerId) (s o : ℕ) → IsDurable world.setup world.events m s o →
        (entry : Entry) × (entry_in (log_of world.setup world.events m) s o ≡ Some entry) × OwnersKeep world entry
    durable m s o is = (
      handed.0,
      handed.1,
      λ grant owner granted to before. handed.2 grant owner granted to before (some owner),
    )
      where
        handed : (entry : Entry) × (entry_in (log_of world.setup world.events m) s o ≡ Some entry)
            × ByFactors.OwnersKeep world.setup world.events entry
        handed = durable-is-handed-on world.setup world.events m s o is
