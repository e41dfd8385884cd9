-- Durable places and acknowledgements.
use Rattle.std.proofs.Common.{◌≡◌, ℕ, List, ◌++◌, take, Some, slice_get, refl, sym, subst}
use Rattle.rc_model.specs.Model.{ServerId, Entry, Setup, Event, Ack, World, replay, HasAcknowledged}
use Rattle.rc_step_laws.specs.All.{log_in, IsSafe, IsWriteOk}
use Rattle.rc_step_laws.proofs.Lists.{get-below}
use Rattle.rc_step_laws.proofs.LogViews.{get-log}
use Rattle.rc_step_laws.proofs.Backups.{own-fine}
use Rattle.rc_step_laws.proofs.Clauses.{safe-there, acknowledged-is}
use Rattle.rc_step_laws.proofs.Replays.{GoodWorld, good-world}
use Rattle.rc_step_laws.specs.WordClaims.{StoredIsSafe, SafeStaysSafe, DurableIsRecovered, AcknowledgedIsSafe}
use Rattle.rc_step_laws.specs.WordClaims.{AcknowledgedIsRecorded}
use Rattle.rc_step_laws.proofs.Since.{Since, since-more, since-take}
use Rattle.rc_step_laws.proofs.Stored.{stored-safe}

pub stored-is-safe : StoredIsSafe
stored-is-safe setup events m s o stored =
    let world : World = replay setup events in
    let good : GoodWorld (replay setup events) = good-world setup events in
    stored-safe (good.masters_are m) (own-fine good) stored

pub safe-stays-safe : SafeStaysSafe
safe-stays-safe setup events more m s o safe = record {
  safe = later.safe s o safe;
  entry = at.0;
  stood = at.1;
  stands = get-log (replay setup (events ++ more)).sent m ((replay setup events).masters m).log
      ((replay setup (events ++ more)).masters m).log later.later s o at.0 at.1;
}
  where
    later : Since m (replay setup events) (replay setup (events ++ more))
    later = since-more setup events more

    at : (entry : Entry) × (slice_get (log_in ((replay setup events).masters m).log s) o ≡ Some entry)
    at = get-below (log_in ((replay setup events).masters m).log s) o safe.logged

-- a durable place is safe now
durable-safe : (setup : Setup) (events : List Event) {m : ServerId} {s o : ℕ} (n : ℕ) →
    IsSafe (replay setup (take n events)).sent m ((replay setup (take n events)).masters m).log s o →
    IsSafe (replay setup events).sent m ((replay setup events).masters m).log s o
durable-safe setup events {s} {o} n safe = (since-take setup events n).safe s o safe

-- a safe place with its entry is as if it were acknowledged
safe-write : (setup : Setup) (events : List Event) (m : ServerId) (s o : ℕ) (entry : Entry) →
    IsSafe (replay setup events).sent m ((replay setup events).masters m).log s o →
    slice_get (log_in ((replay setup events).masters m).log s) o ≡ Some entry →
    IsWriteOk (replay setup events).sent m ((replay setup events).masters m).log s o entry.term entry.table entry.key entry.version
safe-write setup events m s o entry safe at =
    record { safe = safe; entry = entry; holds = at; term_is = refl; table_is = refl; key_is = refl; version_is = refl }

pub durable-is-recovered : DurableIsRecovered
durable-is-recovered setup events m s o durable = record {
  entry = at.0;
  stands = at.1;
  there = λ plan accepted same. safe-there (good-world setup events) accepted
      (subst (λ (n : ServerId). IsWriteOk (replay setup events).sent n ((replay setup events).masters n).log s o
      at.0.term at.0.table at.0.key at.0.version) (sym same) (safe-write setup events m s o at.0 safe at.1));
}
  where
    safe : IsSafe (replay setup events).sent m ((replay setup events).masters m).log s o
    safe = durable-safe setup events durable.moment (stored-is-safe setup (take durable.moment events) m s o durable.stored)

    at : (entry : Entry) × (slice_get (log_in ((replay setup events).masters m).log s) o ≡ Some entry)
    at = get-below (log_in ((replay setup events).masters m).log s) o safe.logged

-- Acknowledgements

write : (setup : Setup) (events : List Event) {m : ServerId} {ack : Ack} → HasAcknowledged (replay setup events).sent m ack →
    IsWriteOk (replay setup events).sent m ((replay setup events).masters m).log ack.seg ack.offset ack.term ack.table ack.key ack.version
write setup events acked = acknowledged-is (good-world setup events) acked

pub acknowledged-is-durable : AcknowledgedIsSafe
acknowledged-is-durable setup events m ack acked = (write setup events acked).safe

pub acknowledged-is-recorded : AcknowledgedIsRecorded
acknowledged-is-recorded setup events m ack acked = record {
  entry = one.entry;
  stands = one.holds;
  of_ack = record { term = one.term_is; table = one.table_is; key = one.key_is };
  version = one.version_is;
}
  where
    one : IsWriteOk (replay setup events).sent m ((replay setup events).masters m).log ack.seg ack.offset ack.term
        ack.table ack.key ack.version
    one = write setup events acked
