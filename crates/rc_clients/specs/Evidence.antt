-- What the judge keeps of a history, up to a moment.
use Rattle.std.specs.Prelude.{◌≡◌, ◌≢◌, ◌<◌, ◌≤◌, ℕ, List, length, Option, Some, None, Result, Ok, Err}
use Rattle.std.specs.Prelude.{Bool, true, false, nat_le, slice_get, option_and_then}
use Rattle.std.specs.declared.cmp.Ordering.{Ordering}
use Rattle.std.specs.Ordering.{nat_cmp, ordering_then}
use Rattle.std.specs.BTreeMap.{BTreeMap, get}
use Rattle.std.specs.BTreeSet.{BTreeSet, contains}
use Rattle.rc_clients.specs.declared.events.ClientEvent.{ClientEvent}
use Rattle.rc_clients.specs.declared.events.ClientEvent.TheVariants.{Invoked, Written, Shown, Failed}
use Rattle.rc_clients.specs.declared.operations.Kind.{Kind}
use Rattle.rc_clients.specs.declared.operations.Kind.TheVariants.{Write, Read}
use Rattle.rc_clients.specs.declared.operations.Operation.{Operation}
use Rattle.rc_clients.specs.declared.bars.KeyName.{KeyName}
use Rattle.rc_clients.specs.declared.bars.Top.{Top}
use Rattle.rc_clients.specs.declared.doubled.VersionName.{VersionName}
use Rattle.rc_clients.specs.declared.judging.Violation.{Violation}
use Rattle.rc_clients.specs.Operations.{operation_at, IsOperation, value_of}
use Rattle.rc_clients.specs.Linearizable.{AreOnKey, IsUnanswered, answered_at, Breaks, Precedes, StandsBefore}
use Rattle.rc_clients.specs.Linearizable.{CanBeWritten, WasWritten}

-- The greatest version

-- no operation on this key was answered before this moment
pub record IsUntold (history : List ClientEvent) (table key moment : ℕ) : Type 0 where
  pub none : (a : Operation) → IsOperation history a → a.table ≡ table → a.key ≡ key → a.response < moment → ⊥

-- one was, and none of those has a greater version
pub record IsGreatest (history : List ClientEvent) (table key moment : ℕ) (top : Top) : Type 0 where
  pub op : Operation
  pub is : operation_at history top.response ≡ Some op
  pub table_is : op.table ≡ table
  pub key_is : op.key ≡ key
  pub version_is : op.version ≡ top.version
  pub before : top.response < moment
  pub greatest : (a : Operation) → IsOperation history a → a.table ≡ table → a.key ≡ key → a.response < moment →
      a.version ≤ top.version

abbrev pub IsTop : List ClientEvent → ℕ → ℕ → ℕ → Option Top → Type 0
IsTop history table key moment None = IsUntold history table key moment
IsTop history table key moment (Some top) = IsGreatest history table key moment top

abbrev pub is_at_least : Option Top → ℕ → Bool
is_at_least None version = false
is_at_least (Some top) version = nat_le version top.version

abbrev pub key_order : KeyName → KeyName → Ordering
key_order a b = ordering_then (nat_cmp a.table b.table) (nat_cmp a.key b.key)

pub record AreTops (history : List ClientEvent) (moment : ℕ) (tops : BTreeMap KeyName Top) : Type 0 where
  pub each : (q : KeyName) → IsTop history q.table q.key moment (get key_order tops q)

-- the key of an invocation
abbrev pub key_in : ClientEvent → Option KeyName
key_in (Invoked table key request) = Some (record { table = table; key = key })
key_in (Written invocation version) = None
key_in (Shown invocation version value) = None
key_in (Failed invocation) = None

unfoldable pub key_at : List ClientEvent → ℕ → Option KeyName
key_at history moment = option_and_then key_in (slice_get history moment)

abbrev pub key_of : Operation → KeyName
key_of op = record { table = op.table; key = op.key }

-- of the invocation at this moment, if one stands there
abbrev pub IsBar : List ClientEvent → ℕ → Option Top → Type 0
IsBar history moment bar = (q : KeyName) → key_at history moment ≡ Some q → IsTop history q.table q.key moment bar

-- what is kept of each event
unfoldable pub bar_at : List (Option Top) → ℕ → Option Top
bar_at bars moment = option_and_then (λ bar. bar) (slice_get bars moment)

pub record AreBars (history : List ClientEvent) (moment : ℕ) (bars : List (Option Top)) : Type 0 where
  pub many : length bars ≡ moment
  pub each : (i : ℕ) → i < moment → IsBar history i (bar_at bars i)

-- The versions

-- the name of an operation's version
abbrev pub version_of : Operation → VersionName
version_of op = record { table = op.table; key = op.key; version = op.version }

abbrev pub version_order : VersionName → VersionName → Ordering
version_order a b =
    ordering_then (nat_cmp a.table b.table) (ordering_then (nat_cmp a.key b.key) (nat_cmp a.version b.version))

-- the write that is answered at this moment, if one is
abbrev pub if_write : Kind → Operation → Option Operation
if_write Write op = Some op
if_write Read op = None

abbrev pub write_at : List ClientEvent → ℕ → Option Operation
write_at history moment = option_and_then (λ op. if_write op.kind op) (operation_at history moment)

-- the writes that were answered before this moment, of each version one
pub record AreWrites (history : List ClientEvent) (moment : ℕ) (writes : BTreeMap VersionName ℕ) : Type 0 where
  pub found : (q : VersionName) (response : ℕ) → get version_order writes q ≡ Some response →
      (op : Operation) × (operation_at history response ≡ Some op) × (version_of op ≡ q) × (op.kind ≡ Write) ×
      (response < moment)
  pub kept : (a : Operation) → IsOperation history a → a.kind ≡ Write → a.response < moment →
      get version_order writes (version_of a) ≡ Some a.response

-- of each version one operation that was answered before this moment, with the value that all of them have
pub record AreFirsts (history : List ClientEvent) (moment : ℕ) (firsts : BTreeMap VersionName Operation) : Type 0 where
  pub found : (q : VersionName) (op : Operation) → get version_order firsts q ≡ Some op →
      IsOperation history op × (version_of op ≡ q) × (op.response < moment)
  pub kept : (a : Operation) → IsOperation history a → a.response < moment →
      (op : Operation) × (get version_order firsts (version_of a) ≡ Some op) ×
      (value_of history op ≡ value_of history a)

-- Writes without a response

-- the invocations that are answered before this moment
pub record AreAnswered (history : List ClientEvent) (moment : ℕ) (answered : BTreeSet ℕ) : Type 0 where
  pub found : (i : ℕ) → contains nat_cmp answered i ≡ true → IsUnanswered history i → ⊥
  pub kept : (n i : ℕ) → n < moment → answered_at history n ≡ Some i → contains nat_cmp answered i ≡ true

-- What is found

-- the operation that is answered at this moment stands behind those that were answered before it was invoked
pub record IsTimelyAt (history : List ClientEvent) (moment : ℕ) : Type 0 where
  pub each : (a b : Operation) → IsOperation history a → operation_at history moment ≡ Some b → AreOnKey a b →
      Precedes a b → StandsBefore a b

-- a read stands behind an operation of its own version, too
abbrev pub behind_by : Kind → ℕ → ℕ → Type 0
behind_by Write version own = version < own
behind_by Read version own = version ≤ own

abbrev pub IsBehind : ℕ → Operation → Type 0
IsBehind version op = behind_by op.kind version op.version

abbrev pub ShowsNothing : List ClientEvent → Operation → Type 0
ShowsNothing history op = (op.kind ≡ Read) × (value_of history op ≡ None)

-- if its version is 0, it is a read that shows nothing
pub record IsBegunAt (history : List ClientEvent) (moment : ℕ) : Type 0 where
  pub each : (a : Operation) → operation_at history moment ≡ Some a → a.version ≡ 0 →
      ShowsNothing history a

-- else some write can have got its version
pub record IsWrittenAt (history : List ClientEvent) (moment : ℕ) : Type 0 where
  pub each : (a : Operation) → operation_at history moment ≡ Some a → a.version ≢ 0 → CanBeWritten history a

-- and one pending write got one version
pub record HasChoice (history : List ClientEvent) : Type 0 where
  pub got : ℕ → ℕ
  pub written : (a : Operation) → IsOperation history a → a.version ≢ 0 → WasWritten history got a

-- so it is at each moment
pub record Always (history : List ClientEvent) (P : ℕ → Type 0) : Type 0 where
  pub each : (moment : ℕ) → moment < length history → P moment

pub record IsOneValue (history : List ClientEvent) : Type 0 where
  pub each : (a b : Operation) → IsOperation history a → IsOperation history b → AreOnKey a b →
      a.version ≡ b.version → value_of history a ≡ value_of history b

-- this holds of the history, or what was found breaks it
abbrev pub Else : List ClientEvent → Type 0 → Option Violation → Type 0
Else history holds None = holds
Else history holds (Some found) = Breaks history found

abbrev pub ElseTwoWrites : List ClientEvent → Result (BTreeMap VersionName ℕ) Violation → Type 0
ElseTwoWrites history (Ok writes) = AreWrites history (length history) writes
ElseTwoWrites history (Err found) = Breaks history found

abbrev pub ElseTwoValues : List ClientEvent → Result (BTreeMap VersionName Operation) Violation → Type 0
ElseTwoValues history (Ok firsts) = AreFirsts history (length history) firsts
ElseTwoValues history (Err found) = Breaks history found
