-- What is durable was sent, and each later owner keeps it at a durable place.
use Rattle.std.proofs.Common.{arith}
use Rattle.std.proofs.Common.{◌≡◌, ◌≢◌, ℕ, ◌-◌, ◌<◌, ◌&&◌, nat_lt, true, List, take, Some, slice_get, subst}
use Rattle.std.proofs.lemmas.Bool.{and_parts, ltb-true}
use Rattle.rc_model.specs.Model.{ServerId, Server, Entry, Setup, Event, durable_len, Log, has_segment, all_shut_to, IsDurable, factor_of}
use Rattle.rc_model.specs.Model.{Granted, IsGranted, IsEarlier, World, replay, HasMade}
use Rattle.rc_step_laws.specs.Words.{log_in, HasTold}
use Rattle.rc_step_laws.proofs.Clauses.{made-is}
use Rattle.rc_step_laws.proofs.Replays.{good-world}
use Rattle.rc_step_laws.specs.WordClaims.{IsRecorded}
use Rattle.rc_step_laws.proofs.Since.{Since, since-take}
use Rattle.rc_step_laws.proofs.Stored.{stored-told}
use Rattle.rc_owner_laws.specs.Words.{Keeps, IsCarriedOn}
use Rattle.rc_owner_laws.specs.VersionClaims.{Frees}
use Rattle.rc_owner_laws.proofs.VersionReplays.{handovers-keep-acknowledged, handovers-keep-durable}
use Rattle.rc_owner_laws.specs.DurableClaims.{DurableIsMade}
use Rattle.rc_owner_laws.specs.DurableHandovers.{HasKept, AcknowledgedIsHandedOn, DurableIsHandedOn}
use Rattle.rc_owner_laws.proofs.WriteWorlds.{counted-is-durable, acknowledged-is-durable}
use Rattle.rc_owner_laws.proofs.Sending.{IsSent, told-is-sent}

-- what was stored on all was sent
stored-sent : (setup : Setup) (past : List Event) {m : ServerId} {s o : ℕ} →
    o < durable_len (((replay setup past).masters m).log.segments s).config → IsSent (replay setup past).sent m s o
stored-sent setup past {m} {s} {o} less = by (stored-told ((good-world setup past).masters_are m) less)
  where
    by : (x : ServerId) × HasTold (replay setup past).sent x m s
        (((replay setup past).masters m).log.segments s).config.epoch o → IsSent (replay setup past).sent m s o
    by (x, told) = told-is-sent setup past x m s (((replay setup past).masters m).log.segments s).config.epoch told.len
        told.closed told.told o told.above

sent-later : {m : ServerId} {old new : World} {s o : ℕ} → Since m old new → IsSent old.sent m s o → IsSent new.sent m s o
sent-later since p =
    (p.0, record { message = p.1.message; among = since.more p.1.message p.1.among; from = p.1.from; holds = p.1.holds })

durable-sent : {setup : Setup} {events : List Event} {m : ServerId} {s o : ℕ} → IsDurable setup events m s o →
    IsSent (replay setup events).sent m s o
durable-sent {setup} {events} {m} {s} {o} durable = sent-later
    (since-take setup events durable.moment) (stored-sent setup (take durable.moment events) less)
  where
    log : Log
    log = ((replay setup (take durable.moment events)).masters m).log

    parts : (nat_lt o (durable_len (log.segments s).config) && all_shut_to log.segments (s - 1)) ≡ true
    parts = (and_parts (has_segment log s) (nat_lt o (durable_len (log.segments s).config) &&
        all_shut_to log.segments (s - 1)) durable.stored).1

    less : o < durable_len (log.segments s).config
    less = ltb-true o (durable_len (log.segments s).config) (and_parts (nat_lt o (durable_len (log.segments s).config))
        (all_shut_to log.segments (s - 1)) parts).0

pub durable-is-made : DurableIsMade
durable-is-made setup events m s o durable = (sent.0, made-is (good-world setup events) sent.1, sent.1)
  where
    w : World
    w = replay setup events

    sent : IsSent (replay setup events).sent m s o
    sent = durable-sent durable

-- what is kept at a counted place is kept at a durable one
kept-durably : {setup : Setup} {events : List Event} {owner : ServerId} {term : ℕ} {was : Entry} → factor_of setup owner.index ≢ 0 →
    Keeps (Frees setup) (replay setup events).sent owner ((replay setup events).masters owner).log term was →
    HasKept setup events owner term was
kept-durably {setup} {events} {owner} some k = record {
  seg = k.at.seg;
  offset = k.at.offset;
  durable = durable;
  entry = k.entry;
  made = subst (HasMade (replay setup events).sent owner k.at.seg k.at.offset) same made.2;
  term_is = k.term_is;
  keeps = k.keeps;
}
  where
    counted : IsDurable setup events owner k.at.counted.place.seg k.at.counted.place.offset
    counted = counted-is-durable setup events owner k.at.counted.index k.at.counted.place some k.at.counted.below k.at.counted.at

    durable : IsDurable setup events owner k.at.seg k.at.offset
    durable = subst (λ o. IsDurable setup events owner k.at.seg o) k.at.counted.offset_is
        (subst (λ s. IsDurable setup events owner s k.at.counted.place.offset) k.at.counted.seg_is counted)

    made : (entry : Entry) × (slice_get (log_in ((replay setup events).masters owner).log k.at.seg) k.at.offset ≡ Some
        entry) × HasMade (replay setup events).sent owner k.at.seg k.at.offset entry
    made = durable-is-made setup events owner k.at.seg k.at.offset durable

    same : made.0 ≡ k.entry
    same = search (arith, made)

pub acknowledged-is-handed-on : AcknowledgedIsHandedOn
acknowledged-is-handed-on setup events m ack was = record {
  recorded = r;
  made = made;
  kept = λ grant owner granted to before some. kept-durably some (p.kept grant owner granted to (way grant before));
}
  where
    p : IsCarriedOn (Frees setup) (replay setup events).sent (replay setup events).masters m ack
    p = handovers-keep-acknowledged setup events m ack was

    r : IsRecorded ((replay setup events).masters m).log ack
    r = p.recorded

    made : factor_of setup m.index ≢ 0 → HasMade (replay setup events).sent m ack.seg ack.offset r.entry
    made some = subst (HasMade (replay setup events).sent m ack.seg ack.offset) same sent.2
      where
        sent : (entry : Entry) × (slice_get (log_in ((replay setup events).masters m).log ack.seg) ack.offset ≡ Some
            entry) × HasMade (replay setup events).sent m ack.seg ack.offset entry
        sent = durable-is-made setup events m ack.seg ack.offset (acknowledged-is-durable setup events m ack some was)

        same : sent.0 ≡ r.entry
        same =
            let one : slice_get (log_in ((replay setup events).masters m).log ack.seg) ack.offset ≡ Some sent.0 = sent.1 in
            let other : slice_get (log_in ((replay setup events).masters m).log ack.seg) ack.offset ≡ Some r.entry = r.stands in
            cc

    way : (grant : Granted) → IsEarlier (replay setup events).sent r.entry.table r.entry.key r.entry.term grant.term →
        IsEarlier (replay setup events).sent ack.table ack.key ack.term grant.term
    way grant before = search (arith, r)

pub durable-is-handed-on : DurableIsHandedOn
durable-is-handed-on setup events m s o durable = (
  p.0,
  p.1,
  λ grant owner granted to before some. kept-durably some (p.2 grant owner granted to before),
)
  where
    p : (entry : Entry) × (slice_get (log_in ((replay setup events).masters m).log s) o ≡ Some entry)
        × ((grant : Granted) (x : ServerId) → IsGranted (replay setup events).sent grant → grant.owner ≡ Server x →
        IsEarlier (replay setup events).sent entry.table entry.key entry.term grant.term →
        Keeps (Frees setup) (replay setup events).sent x ((replay setup events).masters x).log grant.term entry)
    p = handovers-keep-durable setup events m s o durable
