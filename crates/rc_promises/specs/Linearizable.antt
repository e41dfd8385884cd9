-- Linearizability, in the usual words: operation, invocation, response, the order of time, linearization. A history is
-- a list of messages, as they were sent one after another; the moment of a message is its number in that list.
--
-- A master gives each write the next free place of its log, (segment, offset). Then it sends the write to its backups.
-- It has sent something for a place (HasSentFor) once a message to a backup has an entry there.
--
-- What differs from the usual definition:
--
-- - The object is one register for each key of a table. It begins with nothing; a write of nothing deletes.
-- - There are no processes: each operation stands for itself, as if each had a client of its own. So histories need not
--   be well-formed.
-- - An operation is a write that was acknowledged (IsWrite) or a read that was answered and confirmed (IsRead). Its
--   invocation is the client's request, a Write or a Read, when that was sent, and its response the master's WriteOk or
--   ReadOk, when that was sent. The client gets that later. So what is in order for clients is so here, too.
-- - Nothing is said here of a read that is not confirmed. Nor is a request that was refused an operation: a Refused
--   names no request, so a write that was refused counts as pending.
-- - An answer names no request. A write may have come of each Write with its key and value that its master was sent
--   before anything was sent for its place: what follows is said of each choice.
-- - Two writes may have one request. The usual definition forbids that. By the rules one delivery of a Write makes at
--   most one write; that is not said here.
-- - A pending write, one without a response, takes part where a read has shown it (WasAskedFor), and else nowhere. In
--   the usual words: the completion gives a response to each write that a confirmed read has shown, and leaves out all
--   other pending ones. Pending reads do not take part.
-- - The linearization is no list but the order StandsBefore, by which operations with different responses are sorted.
--
-- IsLinearized says that this order keeps the order of time and is legal for a register. The sentence itself stands at
-- the end: Linearizable.
use Rattle.std.specs.Prelude.{◌≡◌, ◌≢◌, ◌⊎◌, ℕ, ◌<◌, List, take, Option, Some, None, slice_get}
use Rattle.rc_types.specs.declared.ids.ServerId.{ServerId}
use Rattle.rc_types.specs.declared.ids.Addr.TheVariants.{Server, Outside}
use Rattle.rc_types.specs.declared.events.Setup.{Setup}
use Rattle.rc_types.specs.declared.events.Event.{Event}
use Rattle.rc_types.specs.declared.messages.Message.{Message}
use Rattle.rc_types.specs.declared.messages.Body.{Body}
use Rattle.rc_types.specs.declared.messages.Body.TheVariants.{Write, WriteOk, ReadOk}
use Rattle.rc_model.specs.Messages.{to_outside}
use Rattle.rc_model.specs.Nodes.{factor_of}
use Rattle.rc_model.specs.Recovered.{Ack}
use Rattle.rc_model.specs.Headline.{HasMade, HasAcknowledged}
use Rattle.rc_history.specs.Apart.{Step, sent_by, TakenApart}
use Rattle.rc_step_laws.specs.WordClaims.{sent_after}
use Rattle.rc_promises.specs.Confirmed.{HasSentFor, IsConfirmed}

-- Operations

pub data Kind : Type 0 where
  AWrite : Kind
  ARead : Kind

-- an operation on a key that was answered: what it wrote or showed, under which version; and its invocation and its
-- response, the numbers of a client's request and of the master's answer
pub record Operation : Type 0 where
  pub kind : Kind
  pub master : ServerId
  pub table : ℕ
  pub key : ℕ
  pub value : Option (List ℕ)
  pub version : ℕ
  pub invocation : ℕ
  pub response : ℕ

-- the message of this number is a client's request to the master
abbrev pub IsRequest : List Message → ℕ → ServerId → Body → Type 0
IsRequest sent number m body = slice_get sent number ≡ Some (record { from = Outside; to = Server m; body = body })

-- and this one is the master's answer
abbrev pub IsResponse : List Message → ℕ → ServerId → Body → Type 0
IsResponse sent number m body = slice_get sent number ≡ Some (to_outside m body)

-- A write that was acknowledged. Its value is what the master has sent for its place, and when it was asked for nothing
-- had been sent for that place.
pub record IsWrite (sent : List Message) (op : Operation) : Type 0 where
  pub kind : op.kind ≡ AWrite
  pub seg : ℕ
  pub offset : ℕ
  pub term : ℕ
  pub request : IsRequest sent op.invocation op.master (Write op.table op.key op.value)
  pub response : IsResponse sent op.response op.master (WriteOk seg offset term op.table op.key op.version)
  pub made : HasMade sent op.master seg offset
      (record { term = term; table = op.table; key = op.key; version = op.version; value = op.value })
  pub fresh : HasSentFor (take op.invocation sent) op.master seg offset → ⊥

-- A read that was answered, and confirmed: its master has acknowledged a write of any key, for whose place it had sent
-- nothing before this answer. Which Read it answers is left open: its invocation is any number below its response, and
-- so that of the Read that it was. This is stronger than the usual definition: even a read that was asked for just
-- before its answer misses nothing that was answered before it.
pub record IsRead (sent : List Message) (op : Operation) : Type 0 where
  pub kind : op.kind ≡ ARead
  pub response : IsResponse sent op.response op.master (ReadOk op.table op.key op.version op.value)
  pub after : op.invocation < op.response
  pub confirmed : IsConfirmed sent op.master (take op.response sent)

-- an operation on this key
pub record IsOn (sent : List Message) (table key : ℕ) (op : Operation) : Type 0 where
  pub is : IsWrite sent op ⊎ IsRead sent op
  pub table_is : op.table ≡ table
  pub key_is : op.key ≡ key

-- The order of time: the one was answered before the other was asked for

abbrev pub Precedes : Operation → Operation → Type 0
Precedes a b = a.response < b.invocation

-- The order of the linearization: by versions; of one version the write comes first, and then the reads as they were
-- answered

abbrev pub StandsBefore : Operation → Operation → Type 0
StandsBefore a b = (a.version < b.version)
    ⊎ ((a.version ≡ b.version) × (b.kind ≡ ARead) × ((a.kind ≡ AWrite) ⊎ (a.response < b.response)))

-- it is a strict order
pub record IsStrictOrder (Before : Operation → Operation → Type 0) : Type 0 where
  pub never : (a : Operation) → Before a a → ⊥
  pub onward : (a b c : Operation) → Before a b → Before b c → Before a c

abbrev pub OrderIsStrict : Type 0
OrderIsStrict = IsStrictOrder StandsBefore

-- The write of an operation's version: a client had asked a master for it, and whatever was answered before it was
-- asked for has a lower version. It may have no response. So it stands in the order, too: behind all lower versions,
-- and before all that has its version or a greater one.
pub record WasAskedFor (sent : List Message) (op : Operation) : Type 0 where
  pub master : ServerId
  pub invocation : ℕ
  pub request : IsRequest sent invocation master (Write op.table op.key op.value)
  pub in_time : (a : Operation) → IsOn sent op.table op.key a → a.response < invocation → a.version < op.version

pub record IsLinearized (sent : List Message) (table key : ℕ) : Type 0 where
  -- the order keeps the order of time,
  pub in_time : (a b : Operation) → IsOn sent table key a → IsOn sent table key b → Precedes a b → StandsBefore a b
  -- and is one: what stands neither before the other nor behind it has the same response
  pub total : (a b : Operation) → IsOn sent table key a → IsOn sent table key b →
      StandsBefore a b ⊎ (StandsBefore b a ⊎ (a.response ≡ b.response))
  -- before the first write a read shows nothing;
  pub begins : (a : Operation) → IsOn sent table key a → a.version ≡ 0 → (a.kind ≡ ARead) × (a.value ≡ None)
  -- behind one it shows the value of the last: that of the write of its version, which has one value
  pub written : (a : Operation) → IsOn sent table key a → a.version ≢ 0 → WasAskedFor sent a
  pub one_value : (a b : Operation) → IsOn sent table key a → IsOn sent table key b → a.version ≡ b.version →
      a.value ≡ b.value

-- the operations on each key, so ordered, are a linearization
abbrev pub IsLinearizable : List Message → Type 0
IsLinearizable sent = (table key : ℕ) → IsLinearized sent table key

-- The sentence

-- each host's segments have replicas
abbrev pub HasReplicas : Setup → Type 0
HasReplicas setup = (host : ℕ) → factor_of setup host ≢ 0

-- of every world, whatever happens in it
abbrev pub Linearizable : Type 0
Linearizable = (setup : Setup) (events : List Event) → HasReplicas setup → IsLinearizable (sent_after setup events)

-- and of nodes that run apart
abbrev pub LinearizableApart : Type 0
LinearizableApart = (setup : Setup) (steps : List Step) → TakenApart setup steps → HasReplicas setup →
    IsLinearizable (sent_by steps)

-- Nothing is left out: each acknowledgement is the response of a write

-- an operation with this response
pub record IsResponseOf (sent : List Message) (m : ServerId) (ack : Ack) (message : Message) : Type 0 where
  pub op : Operation
  pub is : IsWrite sent op
  pub master_is : op.master ≡ m
  pub table_is : op.table ≡ ack.table
  pub key_is : op.key ≡ ack.key
  pub version_is : op.version ≡ ack.version
  pub response_is : slice_get sent op.response ≡ Some message

abbrev pub EachWriteIsAnOperation : Type 0
EachWriteIsAnOperation = (setup : Setup) (events : List Event) (m : ServerId) (ack : Ack) → HasReplicas setup →
    (acknowledged : HasAcknowledged (sent_after setup events) m ack) →
    IsResponseOf (sent_after setup events) m ack acknowledged.message

abbrev pub EachWriteIsAnOperationApart : Type 0
EachWriteIsAnOperationApart = (setup : Setup) (steps : List Step) (m : ServerId) (ack : Ack) → TakenApart setup steps →
    HasReplicas setup → (acknowledged : HasAcknowledged (sent_by steps) m ack) →
    IsResponseOf (sent_by steps) m ack acknowledged.message
