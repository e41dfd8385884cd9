-- Linearizability of processes that end at any moment, by the rules of `rc_history`. The words are those of
-- `specs/Linearizable.antt`. But a moment is the number of a happening, and what clients see are messages that leave.
--
-- - What happened is a list of happenings. The processes of a moment are those before the happening of this number.
-- - A step is done (IsDone) where a process gave its node a work in this moment, and has not forgotten it since: each
--   later end of the process has left all works of its journal on which the step rests.
-- - The invocation of a write is any moment at which its request is made, leaves the client, or is brought to the
--   master, where no step that was done before has sent anything for its place. What follows is said of each choice,
--   so of the latest one. What a process has forgotten does not count, and a request can be brought to it again.
-- - Its response is the moment at which its WriteOk leaves for the first time.
-- - A read is answered by a step, and the ReadOk leaves later. Its response is any moment at which that leaves. Its
--   invocation is any moment up to that step, and so that at which its Read was brought.
-- - A read is confirmed where a WriteOk of its master has left for whose place nothing had been sent by then: neither
--   by the step that answers the read, nor by one that was done before.
use Rattle.std.specs.Prelude.{◌≡◌, ◌⊎◌, ℕ, ◌+◌, ◌<◌, ◌≤◌, List, take, drop, Some, slice_get}
use Rattle.std.specs.List.{flat_map}
use Rattle.rc_types.specs.declared.ids.ServerId.{ServerId}
use Rattle.rc_types.specs.declared.ids.Addr.TheVariants.{Server, Outside}
use Rattle.rc_types.specs.declared.events.Setup.{Setup}
use Rattle.rc_types.specs.declared.messages.Message.{Message}
use Rattle.rc_types.specs.declared.messages.Body.{Body}
use Rattle.rc_types.specs.declared.messages.Body.TheVariants.{Write, WriteOk, ReadOk}
use Rattle.rc_model.specs.Messages.{to_outside}
use Rattle.rc_model.specs.Nodes.{Deliver}
use Rattle.rc_model.specs.World.{TheHost}
use Rattle.rc_model.specs.Recovered.{Ack}
use Rattle.rc_model.specs.Headline.{In, HasMade, HasAcknowledged}
use Rattle.rc_history.specs.Processes.{Deed, Processes, Happening, Takes, Leaves, Falls, new_processes, deed_of, MayAll}
use Rattle.rc_history.specs.Processes.{after_all}
use Rattle.rc_promises.specs.Confirmed.{HasSentFor}
use Rattle.rc_promises.specs.Linearizable.{Operation, AWrite, ARead, HasReplicas}
use Rattle.rc_promises.specs.Conditional.{IsDoneBehind, TakesEffectOn}
use Rattle.rc_promises.specs.Linearized.{AreLinearized}

-- Moments

-- the processes before the happening of this number
abbrev pub at_moment : Setup → List Happening → ℕ → Processes
at_moment setup happenings number = after_all setup (new_processes setup) (take number happenings)

-- and those after all happenings
abbrev pub in_the_end : Setup → List Happening → Processes
in_the_end setup happenings = after_all setup (new_processes setup) happenings

-- what these deeds have sent
abbrev pub sent_by_deeds : List Deed → List Message
sent_by_deeds deeds = flat_map (λ deed. deed.sent) deeds

-- in this moment a process gave its node this work, and it has not forgotten it since
pub record IsDone (setup : Setup) (happenings : List Happening) (number : ℕ) (deed : Deed) : Type 0 where
  pub takes : slice_get happenings number ≡ Some (Takes deed.node deed.work)
  pub does : deed ≡ deed_of deed.node ((at_moment setup happenings number).at deed.node).life deed.work
  pub stays : (count : ℕ) → In (Falls deed.node count) (drop (number + 1) happenings) → deed.rests ≤ count

-- no step that was done before this moment has sent anything for the place
abbrev pub IsUnsent : Setup → List Happening → ℕ → ServerId → ℕ → ℕ → Type 0
IsUnsent setup happenings moment m seg offset = (number : ℕ) (deed : Deed) → number < moment →
    IsDone setup happenings number deed → HasSentFor deed.sent m seg offset → ⊥

-- Operations

abbrev pub request_to : ServerId → Body → Message
request_to m body = record { from = Outside; to = Server m; body = body }

-- in this moment a client's request to the master is made, leaves, or is brought to the master
pub data IsRequest (setup : Setup) (happenings : List Happening) (number : ℕ) (m : ServerId) (body : Body)
    : Type 0 where
  asked : (deed : Deed) → IsDone setup happenings number deed → In (request_to m body) deed.sent →
      IsRequest setup happenings number m body
  leaves : slice_get happenings number ≡ Some (Leaves (request_to m body)) →
      IsRequest setup happenings number m body
  brought : slice_get happenings number ≡ Some (Takes (TheHost m.index) (Deliver (request_to m body))) →
      IsRequest setup happenings number m body

-- in this moment the master's answer leaves
abbrev pub IsResponse : List Happening → ℕ → ServerId → Body → Type 0
IsResponse happenings number m body = slice_get happenings number ≡ Some (Leaves (to_outside m body))

-- A write whose acknowledgement has left. Its value is what the master has sent for its place.
pub record IsWrite (setup : Setup) (happenings : List Happening) (op : Operation) : Type 0 where
  pub kind : op.kind ≡ AWrite
  pub seg : ℕ
  pub offset : ℕ
  pub term : ℕ
  pub request : IsRequest setup happenings op.invocation op.master (Write op.table op.key op.value)
  pub response : IsResponse happenings op.response op.master (WriteOk seg offset term op.table op.key op.version)
  pub first : In (to_outside op.master (WriteOk seg offset term op.table op.key op.version))
      (at_moment setup happenings op.response).left → ⊥
  pub made : HasMade (sent_by_deeds (in_the_end setup happenings).done) op.master seg offset
      (record { term = term; table = op.table; key = op.key; version = op.version; value = op.value })
  pub fresh : IsUnsent setup happenings op.invocation op.master seg offset

-- A read that a step of this moment answers, whose answer has left, and which is confirmed
pub record IsRead (setup : Setup) (happenings : List Happening) (op : Operation) : Type 0 where
  pub kind : op.kind ≡ ARead
  pub moment : ℕ
  pub deed : Deed
  pub done : IsDone setup happenings moment deed
  pub answers : In (to_outside op.master (ReadOk op.table op.key op.version op.value)) deed.sent
  pub response : IsResponse happenings op.response op.master (ReadOk op.table op.key op.version op.value)
  pub asked_before : op.invocation ≤ moment
  pub leaves_after : moment < op.response
  pub ack : Ack
  pub acknowledged : HasAcknowledged (in_the_end setup happenings).left op.master ack
  pub unsent : IsUnsent setup happenings (moment + 1) op.master ack.seg ack.offset

-- an operation on this key
pub record IsOn (setup : Setup) (happenings : List Happening) (table key : ℕ) (op : Operation) : Type 0 where
  pub is : IsWrite setup happenings op ⊎ IsRead setup happenings op
  pub table_is : op.table ≡ table
  pub key_is : op.key ≡ key

-- The write of an operation's version: a client had asked a master for it, and whatever was answered before it was
-- asked for has a lower version.
pub record WasAskedFor (setup : Setup) (happenings : List Happening) (op : Operation) : Type 0 where
  pub master : ServerId
  pub invocation : ℕ
  pub request : IsRequest setup happenings invocation master (Write op.table op.key op.value)
  pub in_time : (a : Operation) → IsOn setup happenings op.table op.key a → a.response < invocation →
      a.version < op.version

-- The sentence: the operations on each key are linearized, in the same words and by the same order as in a list of
-- messages
abbrev pub LinearizableOfProcesses : Type 0
LinearizableOfProcesses = (setup : Setup) (happenings : List Happening) →
    MayAll setup (new_processes setup) happenings → HasReplicas setup → (table key : ℕ) →
    AreLinearized (IsOn setup happenings table key) (WasAskedFor setup happenings)

-- Conditional writes take effect on just the version that was expected, in the same words
abbrev pub ConditionalWritesOfProcesses : Type 0
ConditionalWritesOfProcesses =
    (setup : Setup) (happenings : List Happening) → MayAll setup (new_processes setup) happenings →
    HasReplicas setup → (table key expected : ℕ) (op : Operation) →
    IsDoneBehind (IsOn setup happenings table key) expected op →
    TakesEffectOn (IsOn setup happenings table key) expected op

-- Nothing is left out

-- each acknowledgement that has left is the response of a write, that of the moment at which it left first
pub record IsResponseOf (setup : Setup) (happenings : List Happening) (m : ServerId) (ack : Ack) (message : Message)
    : Type 0 where
  pub op : Operation
  pub is : IsWrite setup happenings op
  pub master_is : op.master ≡ m
  pub table_is : op.table ≡ ack.table
  pub key_is : op.key ≡ ack.key
  pub version_is : op.version ≡ ack.version
  pub response_is : slice_get happenings op.response ≡ Some (Leaves message)

abbrev pub EachWriteOfProcesses : Type 0
EachWriteOfProcesses = (setup : Setup) (happenings : List Happening) → MayAll setup (new_processes setup) happenings →
    HasReplicas setup → (m : ServerId) (ack : Ack) →
    (acknowledged : HasAcknowledged (in_the_end setup happenings).left m ack) →
    IsResponseOf setup happenings m ack acknowledged.message

-- and each message that leaves was sent by a step that was done before, and that is not forgotten
pub record IsOfStep (setup : Setup) (happenings : List Happening) (number : ℕ) (message : Message) : Type 0 where
  pub moment : ℕ
  pub deed : Deed
  pub done : IsDone setup happenings moment deed
  pub before : moment < number
  pub sends : In message deed.sent

abbrev pub WhatLeavesWasDone : Type 0
WhatLeavesWasDone = (setup : Setup) (happenings : List Happening) → MayAll setup (new_processes setup) happenings →
    (number : ℕ) (message : Message) → slice_get happenings number ≡ Some (Leaves message) →
    IsOfStep setup happenings number message
