-- A step of a master keeps what its members have told, and shuts only what is closed on all of them.
use Rattle.std.proofs.Common.{arith}
use Rattle.std.proofs.Common.{◌≡◌, ◌⊎◌, ℕ, ◌-◌, true, List, [], ◌∷◌, refl, subst, inl}
use Rattle.rc_model.specs.Model.{Addr, Server, Message, Body, Stored, is_all_closed, with_closes_sent, Log, old_head_of}
use Rattle.rc_model.specs.Model.{left_out, starts, writes_on, Master, then_does, goes_on, ticks, master_takes_first}
use Rattle.rc_model.specs.Model.{master_takes, master_ticks}
use Rattle.rc_model.proofs.Tests.{either}
use Rattle.rc_model.proofs.Walk.{OfLog, LogJoined, LogListed, LogWritten, LogFollowed, of_log-joined, of_log-listed, of_log-taken}
use Rattle.rc_model.proofs.Walk.{of_log-ticked, of_log-followed, kept-takes_first, kept-ticks_first, kept-goes_on, same-deposed}
use Rattle.rc_owner_laws.proofs.Told.{Told, InputOk, input-refl, input-trans, input-commit_noted, IsWholeTold, input-stored, input-loses}
use Rattle.rc_owner_laws.proofs.Told.{input-chosen, input-appends, FollowOk, follow-refl, follow-trans, follow-alike, follow-appends}
use Rattle.rc_owner_laws.proofs.Told.{follow-marks, follow-freed, follow-same, follow-chosen}

-- Inputs

inputs : LogJoined InputOk
inputs = record { still = input-refl; both = input-trans }

listed : LogListed InputOk
listed = record { replaces = input-loses; opens = λ servers log ids none chosen. input-chosen (1 ∷ []) 1 servers chosen }

written : LogWritten InputOk
written = search (arith, input-chosen, input-appends)

-- a Stored that says closed tells all of a segment below the head
abbrev pub TellsWhole : Log → Addr → Body → Type 0
TellsWhole log (Server from) (Stored seg epoch len closed) = IsWholeTold log seg len closed
TellsWhole log from body = Unit {0}

takes_first-input : (master : Master) (from : Addr) (body : Body) → TellsWhole master.log from body →
    OfLog InputOk master (master_takes_first master from body)
takes_first-input master from body tells =
    kept-takes_first (OfLog InputOk) (of_log-joined InputOk inputs) (of_log-listed InputOk inputs listed) from body
    (of_log-taken InputOk inputs written (λ teller seg epoch len closed is told. input-stored teller epoch
    (subst (λ (says : Body). TellsWhole master.log (Server teller) says) told
    (subst (λ (sender : Addr). TellsWhole master.log sender body) is tells)))
    (λ seg epoch is. input-commit_noted seg epoch))

ticks_first-input : (master : Master) → OfLog InputOk master (ticks master)
ticks_first-input = kept-ticks_first (OfLog InputOk) (of_log-joined InputOk inputs) (of_log-listed InputOk inputs listed)
    (of_log-ticked InputOk inputs)

-- The rules that follow up

follows : LogJoined FollowOk
follows = record { still = follow-refl; both = follow-trans }

followed : LogFollowed FollowOk
followed = record {
  marks = follow-marks;
  starts = λ log may. follow-same refl refl refl;
  places = λ log may. follow-same refl refl refl;
  closes = λ log due. follow-alike (log.head - 1) (with_closes_sent (old_head_of log)) refl refl refl;
  shuts = λ log may. follow-trans log (starts log) (writes_on log) (follow-same refl refl refl)
      (follow-freed (left_out log));
  commits = λ log seg. follow-alike seg (record (log.segments seg) { commit_sent = true }) refl refl refl;
  counts = λ log more. follow-same refl refl refl;
}

goes-follows : (master : Master) → OfLog FollowOk master (goes_on master)
goes-follows = kept-goes_on (OfLog FollowOk) (of_log-joined FollowOk follows)
    (of_log-followed FollowOk follows (record {
      rolls = λ servers log digest ids writing room chosen. follow-chosen digest servers chosen;
      writes = λ log entry client writing room. follow-appends entry client log;
    }) followed)

-- Whole steps

pub record StepOk (old new : Log) : Type 0 where
  pub keeps : Told old → Told new
  pub shut : Told old → (s : ℕ) → (new.segments s).shut ≡ true → ((old.segments s).shut ≡ true) ⊎ (is_all_closed (new.segments s) ≡ true)

pub step-same : {log : Log} → StepOk log log
step-same = record { keeps = λ told. told; shut = λ told s e. inl e }

then-step : {old : Log} (first : Master × List Message) → InputOk old first.0.log → StepOk old (then_does first goes_on).0.log
then-step {old} (master, messages) p = search (arith, goes-follows)

pub takes-step : (master : Master) (from : Addr) (body : Body) → TellsWhole master.log from body →
    StepOk master.log (master_takes master from body).0.log
takes-step master from body tells = search (arith, same-deposed, step-same, then-step, takes_first-input)

pub ticks-step : (master : Master) → StepOk master.log (master_ticks master).0.log
ticks-step master =
    either (λ (after : Master × List Message). StepOk master.log after.0.log) master.deposed (master, []) (then_does (ticks master) goes_on)
    (λ _. step-same) (λ _. then-step (ticks master) (ticks_first-input master))
