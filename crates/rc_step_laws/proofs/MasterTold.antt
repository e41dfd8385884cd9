-- What members tell and the coordinator grants is noted.
use Rattle.std.proofs.Common.{arith}
use Rattle.std.proofs.Common.{◌≡◌, ℕ, Bool, true, false, nat_lt, nat_le, List, [], refl}
use Rattle.std.proofs.lemmas.Bool.{and_parts, eqb-true, ltb-true, leb-true}
use Rattle.rc_model.specs.Model.{ServerId, Member, Phase, Message, Stored, CommitOk, between, from_coordinator, Config}
use Rattle.rc_model.specs.Model.{noted, committed_at, Segment, Log, has_segment, with_config, stored, commit_noted, Master, with_log}
use Rattle.rc_model.specs.Model.{ids_of, In}
use Rattle.rc_step_laws.specs.All.{IsOpened, OwnFine}
use Rattle.rc_step_laws.proofs.LogMoves.{GoodSegment, GoodLog, LogMoved}
use Rattle.rc_step_laws.proofs.Segments.{SegmentSteady, steady-moved, marked-steady}
use Rattle.rc_step_laws.proofs.Members.{EachNoted, each-told, ids-told}
use Rattle.rc_step_laws.proofs.Views.{GoodView, Moved, quiet-moved, quiet-none}
use Rattle.rc_model.proofs.Tests.{either}

-- what is noted of each member of a good segment
pub each-noted : (sent : List Message) (m : ServerId) (phase : Phase) (head s : ℕ) (segment : Segment) →
    GoodSegment sent m phase head s segment → EachNoted sent m s segment.config.epoch segment.config.members
each-noted sent m phase head s segment good member at = record { len = good.noted member at; closed = good.noted_closed member at }

-- other members, or other notes of them, under the same epoch
pub steady-members : {sent : List Message} {m : ServerId} {phase : Phase} {head s : ℕ} {old : Segment}
    {members : List Member} → GoodSegment sent m phase head s old
    → (old.shut ≡ false → ids_of members ≡ ids_of old.config.members) → EachNoted sent m s old.config.epoch members
    → SegmentSteady sent m s old (record old { config = record old.config { members = members } })
steady-members good ids all = search arith

-- the config stays
steady-config : {sent : List Message} {m : ServerId} {phase : Phase} {head s : ℕ} {old : Segment} →
    GoodSegment sent m phase head s old → SegmentSteady sent m s old (record old { config = old.config })
steady-config good = marked-steady good (record { entries = refl; digest = refl; shut = refl; config = refl })

-- a change of a config that says nothing
pub config-moved : {sent : List Message} {m : ServerId} {log : Log} {s : ℕ} {config : Config} → GoodLog sent m log →
    OwnFine sent m log → IsOpened log s
    → SegmentSteady sent m s (log.segments s) (record (log.segments s) { config = config }) →
    LogMoved sent m log (with_config s config log) []
config-moved good fine opened steady = steady-moved good fine opened steady
    (λ message at. absurd at) (λ x t e digest entries at. absurd at)

pub has-opened : {log : Log} {s : ℕ} → has_segment log s ≡ true → IsOpened log s
has-opened {log} {s} e =
    let both = and_parts (nat_lt 0 s) (nat_le s log.head) e in record { above = ltb-true 0 s both.0; below = leb-true s log.head both.1 }

-- a Stored
stored-log : (sent : List Message) (m : ServerId) (log : Log) (from : ServerId) (s epoch len : ℕ) (closed : Bool) →
    GoodLog sent m log → OwnFine sent m log → In (between from m (Stored s epoch len closed)) sent
    → LogMoved sent m log (stored s from epoch len closed log) []
stored-log sent m log from s epoch len closed good fine at =
    either (λ new. LogMoved sent m log new []) (has_segment log s)
    (with_config s (noted from epoch len closed (log.segments s).config) log) log
    (λ has. config-moved good fine (has-opened has) steady) (λ _. quiet-moved good fine (quiet-none m))
  where
    old : Segment
    old = log.segments s

    steady : SegmentSteady sent m s (log.segments s)
        (record (log.segments s) { config = noted from epoch len closed (log.segments s).config })
    steady = search (arith, steady-members, ids-told, each-told, eqb-true, each-noted, steady-config)

pub moved-stored : (sent : List Message) (m : ServerId) (master : Master) (from : ServerId) (s epoch len : ℕ)
    (closed : Bool) → GoodView sent m master → In (between from m (Stored s epoch len closed)) sent
    → Moved sent m master (with_log master (stored s from epoch len closed master.log), [])
moved-stored sent m master from s epoch len closed view at =
    record { log = stored-log sent m master.log from s epoch len closed view.log view.fine at; known = view.known }

-- a CommitOk
commit-log : (sent : List Message) (m : ServerId) (log : Log) (s epoch : ℕ) → GoodLog sent m log → OwnFine sent m log →
    In (from_coordinator m (CommitOk s epoch)) sent → LogMoved sent m log (commit_noted s epoch log) []
commit-log sent m log s epoch good fine at =
    either (λ new. LogMoved sent m log new []) (has_segment log s) (with_config s (committed_at epoch (log.segments s).config) log) log
    (λ has. config-moved good fine (has-opened has) steady) (λ _. quiet-moved good fine (quiet-none m))
  where
    steady : SegmentSteady sent m s (log.segments s) (record (log.segments s) { config = committed_at epoch (log.segments s).config })
    steady = search (arith, eqb-true, steady-config)

pub moved-commit : (sent : List Message) (m : ServerId) (master : Master) (s epoch : ℕ) → GoodView sent m master →
    In (from_coordinator m (CommitOk s epoch)) sent →
    Moved sent m master (with_log master (commit_noted s epoch master.log), [])
moved-commit sent m master s epoch view at = record { log = commit-log sent m master.log s epoch view.log view.fine at; known = view.known }
