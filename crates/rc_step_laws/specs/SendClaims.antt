-- What is sent in one event, by the views of its sender before and after it: after every list of events of every setup.
use Rattle.std.specs.Prelude.{◌≡◌, ◌⊎◌, ℕ, Bool, true, false, List, [], ◌∷◌, ◌++◌, length, drop}
use Rattle.rc_types.specs.declared.ids.ServerId.{ServerId}
use Rattle.rc_types.specs.declared.ids.Addr.TheVariants.{Server, Coordinator}
use Rattle.rc_types.specs.declared.faults.Fault.TheVariants.{Deposed}
use Rattle.rc_types.specs.declared.events.Setup.{Setup}
use Rattle.rc_types.specs.declared.events.Event.{Event}
use Rattle.rc_types.specs.declared.messages.Message.{Message}
use Rattle.rc_types.specs.declared.messages.Body.{Body}
use Rattle.rc_types.specs.declared.messages.Body.TheVariants.{Stored, Replicas, Data, WriteOk}
use Rattle.rc_model.specs.Messages.{refuses, to_outside}
use Rattle.rc_model.specs.ServerList.{is_up}
use Rattle.rc_model.specs.Log.{Log}
use Rattle.rc_model.specs.Nodes.{is_for_clients}
use Rattle.rc_model.specs.World.{replay, master_of}
use Rattle.rc_model.specs.Headline.{In}
use Rattle.rc_model.specs.HeadClaims.{IsWritingIn, MayTakeData}
use Rattle.rc_model.specs.BackupClaims.{is_telling, IsToldOfFenced}
use Rattle.rc_model.specs.CoordinatorClaims.{is_granting}
use Rattle.rc_step_laws.specs.Words.{log_in}
use Rattle.rc_step_laws.specs.WordClaims.{sent_after, log_of}
use Rattle.rc_step_laws.specs.CommitClaims.{servers_after}

-- the messages that one more event sends
abbrev pub newly_sent : Setup → List Event → Event → List Message
newly_sent setup events one = drop (length (sent_after setup events)) (sent_after setup (events ++ one ∷ []))

-- Masters

-- it holds of each message that a server sends in an event, by its master's log before and after it
abbrev pub OfEachSent : (Log → Log → Body → Type 0) → Type 0
OfEachSent Says = (setup : Setup) (events : List Event) (one : Event) (m : ServerId) (message : Message) →
    In message (newly_sent setup events one) → message.from ≡ Server m →
    Says (log_of setup events m) (log_of setup (events ++ one ∷ []) m) message.body

-- it holds from a master's log before an event to its log after it
abbrev pub OfEachEvent : (Log → Log → Type 0) → Type 0
OfEachEvent Leads = (setup : Setup) (events : List Event) (one : Event) (m : ServerId) →
    Leads (log_of setup events m) (log_of setup (events ++ one ∷ []) m)

-- a segment has the entries that it had, unless it was the head and written in, or may take data
abbrev pub KeepsUnlessWritten : Log → Log → Type 0
KeepsUnlessWritten old new = (s : ℕ) → (log_in new s ≡ log_in old s) ⊎ (IsWritingIn old s ⊎ MayTakeData new s)

-- a backup says this, and no master does
abbrev pub is_backups : Body → Bool
is_backups (Stored seg epoch len closed) = true
is_backups (Replicas attempt rows) = true
is_backups (Data attempt seg term entries) = true
is_backups _ = false

-- the message refuses a client, whose Write or Read was sent to the master, since the master is deposed
pub record RefusesClient (sent : List Message) (m : ServerId) (message : Message) : Type 0 where
  pub refusal : message ≡ refuses m Deposed
  pub asked : Message
  pub among : In asked sent
  pub to : asked.to ≡ Server m
  pub clients : is_for_clients asked.body ≡ true

-- a deposed master's server sends what its backup says, and such refusals, and nothing else
abbrev pub DeposedRefuseClients : Type 0
DeposedRefuseClients = (setup : Setup) (events : List Event) (one : Event) (m : ServerId) (message : Message) →
    (master_of (replay setup events) m).deposed ≡ true → In message (newly_sent setup events one) →
    message.from ≡ Server m → (is_backups message.body ≡ true) ⊎ RefusesClient (sent_after setup events) m message

-- so it acknowledges nothing
abbrev pub DeposedAcknowledgeNothing : Type 0
DeposedAcknowledgeNothing = (setup : Setup) (events : List Event) (one : Event) (m : ServerId)
    (s o term table key version : ℕ) → (master_of (replay setup events) m).deposed ≡ true →
    In (to_outside m (WriteOk s o term table key version)) (newly_sent setup events one) → ⊥

-- and the master stays as it is, for good
abbrev pub DeposedStay : Type 0
DeposedStay = (setup : Setup) (events more : List Event) (m : ServerId) →
    (master_of (replay setup events) m).deposed ≡ true →
    master_of (replay setup (events ++ more)) m ≡ master_of (replay setup events) m

-- Backups

-- what was asked of a server, and that its backup has fenced the master that it answers about, just when it answers
pub record AnswersOfFenced (setup : Setup) (events : List Event) (one : Event) (y : ServerId) (message : Message) : Type
    0 where
  pub asked : Message
  pub among : In asked (sent_after setup events)
  pub to : asked.to ≡ Server y
  pub told : IsToldOfFenced ((replay setup (events ++ one ∷ [])).hosts y.index).backup asked.body message.body

-- Replicas and Data are sent only so
abbrev pub TheFencedAreTold : Type 0
TheFencedAreTold = (setup : Setup) (events : List Event) (one : Event) (y : ServerId) (message : Message) →
    In message (newly_sent setup events one) → message.from ≡ Server y → is_telling message.body ≡ true →
    AnswersOfFenced setup events one y message

-- The coordinator

-- CommitOk and Own, that of a Create too, are sent only to an id that is up then; and nobody else sends one
abbrev pub GrantsGoToTheUpAlone : Type 0
GrantsGoToTheUpAlone = (setup : Setup) (events : List Event) (one : Event) (message : Message) (m : ServerId) →
    In message (newly_sent setup events one) → is_granting message.body ≡ true → message.to ≡ Server m →
    (message.from ≡ Coordinator) × (is_up (servers_after setup events) m ≡ true)
