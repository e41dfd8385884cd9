-- Logs and their replicas.
use Rattle.std.proofs.Common.{◌≡◌, ℕ, ◌<◌, Bool, true, List, ◌++◌, length, Some, slice_get, inl, arith, sym, subst}
use Rattle.std.proofs.lemmas.List.{length-map}
use Rattle.rc_model.specs.Model.{ServerId, Entry, Message, LogPlace, Master, replay}
use Rattle.rc_step_laws.specs.All.{log_in, IsSafe, GoodMaster, GoodReplica, OwnFine}
use Rattle.rc_step_laws.proofs.Lists.{get-below}
use Rattle.rc_step_laws.proofs.Copies.{grows-log, final-log}
use Rattle.rc_step_laws.proofs.Safe.{covered-safe}
use Rattle.rc_step_laws.proofs.MasterSteps.{view-of}
use Rattle.rc_step_laws.proofs.Backups.{own-fine}
use Rattle.rc_step_laws.proofs.Replicas.{begins-whole}
use Rattle.rc_step_laws.proofs.Clauses.{made-is, accepted-is, held-made}
use Rattle.rc_step_laws.proofs.Replays.{good-world}
use Rattle.rc_step_laws.specs.LogClaims.{OneEntryAtAPlace, LogsGrow, ShutIsFinal, ShutIsSafe, ReplicasAreBeginnings, RecoveredIsMade}
use Rattle.rc_step_laws.proofs.Since.{Since, since-more}

pub one-entry : OneEntryAtAPlace
one-entry setup events m s o one other p q =
    let first : slice_get (log_in ((replay setup events).masters m).log s) o ≡ Some one =
    made-is (good-world setup events) p in
    let second : slice_get (log_in ((replay setup events).masters m).log s) o ≡ Some other =
    made-is (good-world setup events) q in
    cc

pub logs-grow : LogsGrow
logs-grow setup events more m s = grows-log (since-more setup events more).later s

pub shut-is-final : ShutIsFinal
shut-is-final setup events more m s shut = record {
  shut = (later.later.shut s shut).0;
  same = final-log later.later (((good-world setup events).masters_are m).shut_below s shut).1;
}
  where
    later : Since m (replay setup events) (replay setup (events ++ more))
    later = since-more setup events more

-- each place of a shut segment is safe
shut-safe : {sent : List Message} {m : ServerId} {master : Master} {s o : ℕ} → GoodMaster sent m master →
    OwnFine sent m master.log → (master.log.segments s).shut ≡ true →
    o < length (log_in master.log s) → IsSafe sent m master.log s o
shut-safe {master} {s} {o} good fine shut less = covered-safe (view-of good fine).log fine
    (record { above = stands.0; upto = omega (arith, stands.1); holds = at.1 })
    (record { reason = inl shut; below = λ t above under. good.old_shut t above (omega (arith, under, stands.1)) })
  where
    stands : (0 < s) × (s < master.log.head)
    stands = good.shut_below s shut

    within : o < length (master.log.segments s).entries
    within = let same : length (log_in master.log s) ≡ length (master.log.segments s).entries =
        length-map (master.log.segments s).entries (λ (one : Entry × Bool). one.0) in omega arith

    at : (one : Entry × Bool) × (slice_get (master.log.segments s).entries o ≡ Some one)
    at = get-below (master.log.segments s).entries o within

    place : LogPlace
    place = record { seg = s; offset = o; entry = at.0.0; client = at.0.1 }

pub shut-is-safe : ShutIsSafe
shut-is-safe setup events m s o shut less = shut-safe ((good-world setup events).masters_are m)
    (own-fine (good-world setup events)) shut less

pub replicas-are-beginnings : ReplicasAreBeginnings
replicas-are-beginnings setup events i m s replica kept = record {
  begins = one.begins;
  whole = whole;
  made = λ o less. one.copy.made o less;
  all_made = λ closed o entry was. subst (λ (entries : List Entry). slice_get entries o ≡ Some entry) (sym (whole closed))
      (made-is (good-world setup events) was);
}
  where
    one : GoodReplica (replay setup events).sent m ((replay setup events).masters m).log i
        ((replay setup events).hosts i).generation s replica
    one = (((good-world setup events).hosts_are i).held m).each s replica kept

    whole : replica.closed ≡ true → replica.entries ≡ log_in ((replay setup events).masters m).log s
    whole closed = begins-whole one.begins (one.copy.whole closed).1

pub recovered-is-made : RecoveredIsMade
recovered-is-made setup events plan s o accepted held = held-made (replay setup events).hosts
    (accepted-is (good-world setup events) accepted) held
