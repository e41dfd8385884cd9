-- What is claimed of data, grants, handovers and versions: where the facts hold, and in every world.
use Rattle.std.specs.Prelude.{◌≡◌, ◌⊎◌, ℕ, ◌<◌, true, List, Some, None, slice_get}
use Rattle.rc_types.specs.declared.ids.ServerId.{ServerId}
use Rattle.rc_types.specs.declared.ids.Addr.TheVariants.{Server}
use Rattle.rc_types.specs.declared.entries.Entry.{Entry}
use Rattle.rc_types.specs.declared.events.Setup.{Setup}
use Rattle.rc_types.specs.declared.events.Event.{Event}
use Rattle.rc_types.specs.declared.messages.Message.{Message}
use Rattle.rc_types.specs.declared.messages.Body.TheVariants.{Data}
use Rattle.rc_model.specs.Recovered.{Ack}
use Rattle.rc_model.specs.Owners.{Granted, IsGranted, covers, IsEarlier}
use Rattle.rc_model.specs.Master.{Master}
use Rattle.rc_model.specs.Coordinator.{Coordinator}
use Rattle.rc_model.specs.Nodes.{HostNode}
use Rattle.rc_model.specs.World.{replay}
use Rattle.rc_model.specs.Durable.{IsDurable}
use Rattle.rc_model.specs.Breach.{breach}
use Rattle.rc_model.specs.Headline.{In, WasAcknowledged, HasAcknowledged, VersionsRise}
use Rattle.rc_step_laws.specs.Words.{log_in}
use Rattle.rc_step_laws.specs.Facts.{IsSafe}
use Rattle.rc_owner_laws.specs.Worlds.{AllHold}
use Rattle.rc_owner_laws.specs.Words.{Keeps, IsPlanCut, StartsFromBase, IsCarriedOn}

-- Of the messages sent and the masters' last views

-- each Data is the plan cut to the part
abbrev pub DataIsCut : List Message → Type 0
DataIsCut sent = (message : Message) → In message sent → (attempt seg term : ℕ) (entries : List Entry) →
    message.body ≡ Data attempt seg term entries → IsPlanCut sent message attempt seg term entries

-- each grant of a recovery starts from its base
abbrev pub GrantsStart : List Message → (ServerId → Master) → Type 0
GrantsStart sent masters = (grant : Granted) (x : ServerId) → IsGranted sent grant → grant.owner ≡ Server x →
    (grant.attempt ≡ 0 → ⊥) → StartsFromBase sent x (masters x).log grant

-- what stands at a safe place, each later owner of its point keeps: with that version and value, or, where segments are
-- freed, a greater version
abbrev pub SafeIsKept : Type 0 → List Message → (ServerId → Master) → Type 0
SafeIsKept Freed sent masters = (m : ServerId) (s o : ℕ) (entry : Entry) → IsSafe sent m (masters m).log s o →
    slice_get (log_in (masters m).log s) o ≡ Some entry → (grant : Granted) (x : ServerId) → IsGranted sent grant →
    grant.owner ≡ Server x → IsEarlier sent entry.table entry.key entry.term grant.term →
    Keeps Freed sent x (masters x).log grant.term entry

-- and what was acknowledged
abbrev pub AcknowledgedIsKept : Type 0 → List Message → (ServerId → Master) → Type 0
AcknowledgedIsKept Freed sent masters = (m : ServerId) (ack : Ack) → HasAcknowledged sent m ack →
    IsCarriedOn Freed sent masters m ack

-- under one term a key's versions rise with the place, in every log
abbrev pub VersionsRiseWithThePlace : (ServerId → Master) → Type 0
VersionsRiseWithThePlace masters = (m : ServerId) (s o t k : ℕ) (entry other : Entry) →
    slice_get (log_in (masters m).log s) o ≡ Some entry → slice_get (log_in (masters m).log t) k ≡ Some other →
    (t < s) ⊎ ((t ≡ s) × (k < o)) →
    other.term ≡ entry.term → other.table ≡ entry.table → other.key ≡ entry.key → other.version < entry.version

-- no two owners acknowledge one version of a key
abbrev pub NoVersionTwice : List Message → Type 0
NoVersionTwice sent = (one other : Ack) → WasAcknowledged sent one → WasAcknowledged sent other →
    one.table ≡ other.table → one.key ≡ other.key → (one.term ≡ other.term → ⊥) → one.version ≡ other.version → ⊥

-- Where all facts hold; of worlds whose masters may free segments or not

abbrev pub MayFree : Type 0
MayFree = Unit {0}

abbrev pub WhereFactsHold : (List Message → (ServerId → Master) → Type 0) → Type 0
WhereFactsHold P = (sent : List Message) (masters : ServerId → Master) (hosts : ℕ → HostNode) (c : Coordinator) →
    AllHold sent masters hosts c → P sent masters

abbrev pub FactsCutData : Type 0
FactsCutData = WhereFactsHold (λ sent masters. DataIsCut sent)

abbrev pub FactsStartGrants : Type 0
FactsStartGrants = WhereFactsHold GrantsStart

abbrev pub FactsKeepWhatIsSafe : Type 0
FactsKeepWhatIsSafe = WhereFactsHold (SafeIsKept MayFree)

abbrev pub FactsKeepWhatWasAcknowledged : Type 0
FactsKeepWhatWasAcknowledged = WhereFactsHold (AcknowledgedIsKept MayFree)

abbrev pub FactsLetVersionsRise : Type 0
FactsLetVersionsRise = WhereFactsHold (λ sent masters. VersionsRise sent)

-- In every world

-- segments are freed there
abbrev pub Frees : Setup → Type 0
Frees setup = setup.free ≡ true

abbrev pub AllFactsHold : Type 0
AllFactsHold = (setup : Setup) (events : List Event) →
    AllHold (replay setup events).sent (replay setup events).masters (replay setup events).hosts
    (replay setup events).coordinator

abbrev pub DataIsThePlanCutToThePart : Type 0
DataIsThePlanCutToThePart = (setup : Setup) (events : List Event) → DataIsCut (replay setup events).sent

abbrev pub GrantsStartFromTheirBase : Type 0
GrantsStartFromTheirBase = (setup : Setup) (events : List Event) →
    GrantsStart (replay setup events).sent (replay setup events).masters

abbrev pub HandoversKeepWhatWasAcknowledged : Type 0
HandoversKeepWhatWasAcknowledged = (setup : Setup) (events : List Event) →
    AcknowledgedIsKept (Frees setup) (replay setup events).sent (replay setup events).masters

-- and what is durable
abbrev pub HandoversKeepWhatIsDurable : Type 0
HandoversKeepWhatIsDurable = (setup : Setup) (events : List Event) (m : ServerId) (s o : ℕ) →
    IsDurable setup events m s o →
    (entry : Entry) × (slice_get (log_in ((replay setup events).masters m).log s) o ≡ Some entry)
    × ((grant : Granted) (x : ServerId) → IsGranted (replay setup events).sent grant → grant.owner ≡ Server x →
    IsEarlier (replay setup events).sent entry.table entry.key entry.term grant.term →
    Keeps (Frees setup) (replay setup events).sent x ((replay setup events).masters x).log grant.term entry)

-- a grant's previous term is the earlier one at each point of its range, so all this holds over each single grant
abbrev pub PreviousIsEarlier : Type 0
PreviousIsEarlier = (sent : List Message) (grant : Granted) (table key : ℕ) → IsGranted sent grant →
    covers table key grant ≡ true → IsEarlier sent table key grant.previous grant.term

abbrev pub VersionsRiseOverOwners : Type 0
VersionsRiseOverOwners = (setup : Setup) (events : List Event) → VersionsRise (replay setup events).sent

abbrev pub VersionsAlwaysRiseWithThePlace : Type 0
VersionsAlwaysRiseWithThePlace = (setup : Setup) (events : List Event) →
    VersionsRiseWithThePlace (replay setup events).masters

abbrev pub NoVersionIsAcknowledgedTwice : Type 0
NoVersionIsAcknowledgedTwice = (setup : Setup) (events : List Event) → NoVersionTwice (replay setup events).sent

-- so no list of events leads to a breach
abbrev pub NoBreach : Type 0
NoBreach = (setup : Setup) (events : List Event) → breach (replay setup events).sent ≡ None
