-- Linearizability, judged by versions. The words are those of `rc_promises`'s page: operation, invocation, response,
-- the order of time; here they are said of a history that clients wrote down, in place of messages.
--
-- The store names with each answer a version of the key. So which linearization is meant need not be looked for: it is
-- the order of versions, a read behind the write of its version. A history is linearizable by versions where this order
-- keeps the order of time and is legal for a register that begins with nothing. Each key is judged for itself.
--
-- This asks for more than that some order is a linearization: the order of versions has to be one. So three writes one
-- after another, the last two with one version, are refused, though without versions they are linearizable, as any
-- writes are of which nobody reads.
use Rattle.std.specs.Prelude.{◌≡◌, ◌≢◌, ◌⊎◌, ℕ, ◌<◌, List, [], ◌∷◌, Option, Some, None, slice_get, option_and_then}
use Rattle.rc_clients.specs.declared.events.ClientEvent.{ClientEvent}
use Rattle.rc_clients.specs.declared.events.ClientEvent.TheVariants.{Invoked, Written, Shown, Failed}
use Rattle.rc_clients.specs.declared.events.Request.TheVariants as request
use Rattle.rc_clients.specs.declared.operations.Kind.TheVariants.{Write, Read}
use Rattle.rc_clients.specs.declared.operations.Operation.{Operation}
use Rattle.rc_clients.specs.declared.judging.Violation.{Violation}
use Rattle.rc_clients.specs.declared.judging.Violation.TheVariants as violation
use Rattle.rc_clients.specs.Operations.{operation_at, IsOperation, value_of}

-- both are on one key
pub record AreOnKey (a b : Operation) : Type 0 where
  pub table_is : a.table ≡ b.table
  pub key_is : a.key ≡ b.key

-- the order of time: the one was answered before the other was invoked
abbrev pub Precedes : Operation → Operation → Type 0
Precedes a b = a.response < b.invocation

-- the order of versions: of one version the write comes first, and then the reads as they were answered
abbrev pub StandsBefore : Operation → Operation → Type 0
StandsBefore a b = (a.version < b.version)
    ⊎ ((a.version ≡ b.version) × (b.kind ≡ Read) × ((a.kind ≡ Write) ⊎ (a.response < b.response)))

-- the invocation that an event answers
abbrev pub answered_in : ClientEvent → Option ℕ
answered_in (Invoked table key request) = None
answered_in (Written invocation version) = Some invocation
answered_in (Shown invocation version value) = Some invocation
answered_in (Failed invocation) = Some invocation

abbrev pub answered_at : List ClientEvent → ℕ → Option ℕ
answered_at history moment = option_and_then answered_in (slice_get history moment)

-- no response names the invocation at this moment
pub record IsUnanswered (history : List ClientEvent) (moment : ℕ) : Type 0 where
  pub none : (n : ℕ) → answered_at history n ≡ Some moment → ⊥

-- A write that was invoked at this moment and never answered can have this operation's version: it wrote the same, and
-- whatever was answered before it was invoked has a lower version.
pub record IsPendingWrite (history : List ClientEvent) (op : Operation) (moment : ℕ) : Type 0 where
  pub invoked : slice_get history moment ≡ Some (Invoked op.table op.key (request.Write (value_of history op)))
  pub unanswered : IsUnanswered history moment
  pub in_time : (a : Operation) → IsOperation history a → AreOnKey a op → a.response < moment → a.version < op.version

-- a write of its version that was answered
pub record IsAnsweredWrite (history : List ClientEvent) (op write : Operation) : Type 0 where
  pub is : IsOperation history write
  pub on_key : AreOnKey write op
  pub kind : write.kind ≡ Write
  pub version_is : write.version ≡ op.version

abbrev pub HasWrite : List ClientEvent → Operation → Type 0
HasWrite history op = (write : Operation) × IsAnsweredWrite history op write

abbrev pub HasPending : List ClientEvent → Operation → Type 0
HasPending history op = (moment : ℕ) × IsPendingWrite history op moment

-- some write can have got the operation's version
abbrev pub CanBeWritten : List ClientEvent → Operation → Type 0
CanBeWritten history op = HasWrite history op ⊎ HasPending history op

-- One write has one version. So a choice is made: `got` tells of the invocation of each pending write which version it
-- got. (Of one that never took place it tells any.)
abbrev pub HasOwnPending : List ClientEvent → (ℕ → ℕ) → Operation → Type 0
HasOwnPending history got op = (moment : ℕ) × IsPendingWrite history op moment × (got moment ≡ op.version)

-- the operation's version was written
abbrev pub WasWritten : List ClientEvent → (ℕ → ℕ) → Operation → Type 0
WasWritten history got op = HasWrite history op ⊎ HasOwnPending history got op

pub record IsLinearizable (history : List ClientEvent) : Type 0 where
  -- the order of versions keeps the order of time,
  pub in_time : (a b : Operation) → IsOperation history a → IsOperation history b → AreOnKey a b → Precedes a b →
      StandsBefore a b
  -- before the first write a read shows nothing;
  pub begins : (a : Operation) → IsOperation history a → a.version ≡ 0 → (a.kind ≡ Read) × (value_of history a ≡ None)
  -- behind one it shows the value of the last: that of the write of its version, of which there is one
  pub got : ℕ → ℕ
  pub written : (a : Operation) → IsOperation history a → a.version ≢ 0 → WasWritten history got a
  pub one_write : (a b : Operation) → IsOperation history a → IsOperation history b → AreOnKey a b →
      a.version ≡ b.version → a.kind ≡ Write → b.kind ≡ Write → a.response ≡ b.response
  pub one_value : (a b : Operation) → IsOperation history a → IsOperation history b → AreOnKey a b →
      a.version ≡ b.version → value_of history a ≡ value_of history b

-- What breaks it: one operation, or two, named by their responses

-- An operation on this key that wrote or showed this value. Its version is below this one, it is not 0, and no answered
-- write has it.
pub record IsWanting (history : List ClientEvent) (table key : ℕ) (value : Option (List ℕ)) (version : ℕ)
    (op : Operation) : Type 0 where
  pub is : IsOperation history op
  pub table_is : op.table ≡ table
  pub key_is : op.key ≡ key
  pub value_is : value_of history op ≡ value
  pub below : op.version < version
  pub later : op.version ≢ 0
  pub unwritten : HasWrite history op → ⊥

-- such operations, each of a lower version than the one before it; beside each stands a moment
abbrev pub AreWanting : List ClientEvent → ℕ → ℕ → Option (List ℕ) → ℕ → List (Operation × ℕ) → Type 0
AreWanting history table key value version [] = Unit {0}
AreWanting history table key value version (one ∷ others) =
    IsWanting history table key value version one.0 × AreWanting history table key value one.0.version others

-- this moment is one of those
abbrev pub IsAmong : ℕ → List (Operation × ℕ) → Type 0
IsAmong moment [] = ⊥
IsAmong moment (one ∷ others) = (one.1 ≡ moment) ⊎ IsAmong moment others

-- Other versions below this operation's want a pending write of the same value, and there are no more such writes than
-- those versions: none is left for this one.
pub record IsTooMany (history : List ClientEvent) (op : Operation) (others : List (Operation × ℕ)) : Type 0 where
  pub wanting : AreWanting history op.table op.key (value_of history op) op.version others
  pub no_more : (moment : ℕ) → IsPendingWrite history op moment → IsAmong moment others

-- two operations on one key
pub record ArePair (history : List ClientEvent) (one other : ℕ) (a b : Operation) : Type 0 where
  pub first : operation_at history one ≡ Some a
  pub second : operation_at history other ≡ Some b
  pub on_key : AreOnKey a b

abbrev pub Breaks : List ClientEvent → Violation → Type 0
-- the one was answered before the other was invoked, and does not stand before it
Breaks history (violation.OutOfTime one other) = (a : Operation) × (b : Operation) × ArePair history one other a b ×
    Precedes a b × (StandsBefore a b → ⊥)
-- version 0 is that of no write, and shows nothing
Breaks history (violation.NotNothing one) = (a : Operation) × (operation_at history one ≡ Some a) ×
    (a.version ≡ 0) × ((a.kind ≡ Read) × (value_of history a ≡ None) → ⊥)
Breaks history (violation.NeverWritten one) = (a : Operation) × (operation_at history one ≡ Some a) ×
    (a.version ≢ 0) × (CanBeWritten history a → ⊥)
Breaks history (violation.TooFewWrites one) = (a : Operation) × (operation_at history one ≡ Some a) ×
    (a.version ≢ 0) × (HasWrite history a → ⊥) × (others : List (Operation × ℕ)) × IsTooMany history a others
Breaks history (violation.TwoWrites one other) = (a : Operation) × (b : Operation) × ArePair history one other a b ×
    (a.version ≡ b.version) × (a.kind ≡ Write) × (b.kind ≡ Write) × (one ≢ other)
Breaks history (violation.TwoValues one other) = (a : Operation) × (b : Operation) × ArePair history one other a b ×
    (a.version ≡ b.version) × (value_of history a ≢ value_of history b)

-- what the judge answers: nothing, where the history is linearizable, and else what breaks it
abbrev pub Judged : List ClientEvent → Option Violation → Type 0
Judged history None = IsLinearizable history
Judged history (Some found) = Breaks history found

-- so it never does both
abbrev pub BreaksRefute : Type 0
BreaksRefute = (history : List ClientEvent) (found : Violation) → Breaks history found → IsLinearizable history → ⊥
