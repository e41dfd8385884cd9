-- What is claimed of freed segments and of the segments of recoveries, after every list of events of every setup.
use Rattle.std.specs.Prelude.{◌≡◌, ◌↔◌, ℕ, true, List}
use Rattle.rc_types.specs.declared.ids.ServerId.{ServerId}
use Rattle.rc_types.specs.declared.ids.Addr.TheVariants.{Server}
use Rattle.rc_types.specs.declared.events.Setup.{Setup}
use Rattle.rc_types.specs.declared.events.Event.{Event}
use Rattle.rc_types.specs.declared.rows.PlanRow.{PlanRow}
use Rattle.rc_types.specs.declared.messages.Message.{Message}
use Rattle.rc_types.specs.declared.messages.Body.TheVariants.{Free}
use Rattle.rc_model.specs.Recovered.{Accepted}
use Rattle.rc_model.specs.Headline.{In, WasAccepted}
use Rattle.rc_step_laws.specs.Freed.{IsLeftOut}
use Rattle.rc_step_laws.specs.WordClaims.{sent_after, log_of}

-- the master has told a backup to drop its replica of the segment
pub record HasFreed (sent : List Message) (m : ServerId) (s : ℕ) : Type 0 where
  pub message : Message
  pub among : In message sent
  pub from : message.from ≡ Server m
  pub says : message.body ≡ Free s

-- a row of the plan is of this segment
pub record HasRow (plan : Accepted) (s : ℕ) : Type 0 where
  pub row : PlanRow
  pub among : In row plan.rows
  pub seg : row.seg ≡ s

-- an accepted recovery has a row for each segment of its head's digest, and for no other
abbrev pub RecoveriesAreDigests : Type 0
RecoveriesAreDigests = (setup : Setup) (events : List Event) (plan : Accepted) →
    (accepted : WasAccepted (sent_after setup events) plan) → (s : ℕ) →
    HasRow plan s ↔ In s ((log_of setup events plan.master).segments accepted.head).digest

-- its head is no segment that is shut
abbrev pub HeadsAreNotShut : Type 0
HeadsAreNotShut = (setup : Setup) (events : List Event) (plan : Accepted) →
    (accepted : WasAccepted (sent_after setup events) plan) →
    ((log_of setup events plan.master).segments accepted.head).shut ≡ true → ⊥

-- a master frees only what it leaves out for good: each digest from some head on lacks the segment, and every segment
-- before that head is shut
abbrev pub FreedIsLeftOut : Type 0
FreedIsLeftOut = (setup : Setup) (events : List Event) (m : ServerId) (s : ℕ) →
    HasFreed (sent_after setup events) m s → IsLeftOut (log_of setup events m) s

-- so what it has freed, then or since, is in no accepted recovery
abbrev pub FreedIsInNoRecovery : Type 0
FreedIsInNoRecovery = (setup : Setup) (events : List Event) (plan : Accepted) (s : ℕ) →
    WasAccepted (sent_after setup events) plan → HasFreed (sent_after setup events) plan.master s → HasRow plan s → ⊥
