-- The operations of a history of clients. The moment of an event is its number, its place in the history.
use Rattle.std.specs.Prelude.{◌≡◌, ℕ, Bool, true, false, List, Option, Some, None, nat_lt, if◌then◌else◌, slice_get}
use Rattle.std.specs.Prelude.{option_and_then}
use Rattle.std.specs.Option.{option_map_or}
use Rattle.rc_clients.specs.declared.events.Request.{Request}
use Rattle.rc_clients.specs.declared.events.Request.TheVariants as request
use Rattle.rc_clients.specs.declared.events.ClientEvent.{ClientEvent}
use Rattle.rc_clients.specs.declared.events.ClientEvent.TheVariants.{Invoked, Written, Shown}
use Rattle.rc_clients.specs.declared.operations.Kind.{Kind}
use Rattle.rc_clients.specs.declared.operations.Kind.TheVariants as kind
use Rattle.rc_clients.specs.declared.operations.Operation.{Operation}

-- the request is of this kind
abbrev pub asks_for : Kind → Request → Bool
asks_for kind.Write (request.Write value) = true
asks_for kind.Read request.Read = true
asks_for _ _ = false

-- the operation of this kind that the invocation asks for, with the version that its response tells
abbrev pub operation_of : Kind → ℕ → ℕ → ℕ → ClientEvent → Option Operation
operation_of wanted invocation response version (Invoked table key asked) = if asks_for wanted asked then Some (record {
  kind = wanted;
  table = table;
  key = key;
  version = version;
  invocation = invocation;
  response = response;
}) else None
operation_of wanted invocation response version _ = None

-- the same, where the invocation stands before the response
abbrev pub answered : List ClientEvent → Kind → ℕ → ℕ → ℕ → Option Operation
answered history wanted invocation response version = if nat_lt invocation response then
    option_and_then (operation_of wanted invocation response version) (slice_get history invocation) else None

-- the operation that the event at this moment answers: a write or a read
abbrev pub answered_by : List ClientEvent → ℕ → ClientEvent → Option Operation
answered_by history response (Written invocation version) = answered history kind.Write invocation response version
answered_by history response (Shown invocation version value) = answered history kind.Read invocation response version
answered_by history response _ = None

-- the operation whose response is the event at this moment, if it is one
unfoldable pub operation_at : List ClientEvent → ℕ → Option Operation
operation_at history moment = option_and_then (answered_by history moment) (slice_get history moment)

-- an operation of the history: one that was answered
abbrev pub IsOperation : List ClientEvent → Operation → Type 0
IsOperation history op = operation_at history op.response ≡ Some op

-- what an event writes or shows
abbrev pub value_in : ClientEvent → Option (List ℕ)
value_in (Invoked table key (request.Write value)) = value
value_in (Shown invocation version value) = value
value_in _ = None

-- what a write wrote stands in its invocation, and what a read showed in its response
abbrev pub told_at : Kind → ℕ → ℕ → ℕ
told_at kind.Write invocation response = invocation
told_at kind.Read invocation response = response

unfoldable pub value_of : List ClientEvent → Operation → Option (List ℕ)
value_of history op = option_map_or value_in (slice_get history (told_at op.kind op.invocation op.response)) None
