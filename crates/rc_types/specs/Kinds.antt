-- The kinds of bodies and of events, their names and their numbers.
use Rattle.std.specs.Prelude.{◌≡◌, ℕ, List, [], ◌∷◌, Option, find, codes}
use Rattle.std.specs.Str.{bytes_eq}
use Rattle.rc_types.specs.declared.events.Event.{Event}
use Rattle.rc_types.specs.declared.events.Event.TheVariants as event
use Rattle.rc_types.specs.declared.events.Order.TheVariants as order
use Rattle.rc_types.specs.declared.messages.Body.{Body}
use Rattle.rc_types.specs.declared.messages.Body.TheVariants as body
use Rattle.rc_types.specs.declared.messages.Kind.{Kind}
use Rattle.rc_types.specs.declared.messages.Kind.TheVariants as kind
use Rattle.rc_types.specs.declared.events.EventKind.{EventKind}
use Rattle.rc_types.specs.declared.events.EventKind.TheVariants as of_event

abbrev pub kind_of : Body → Kind
kind_of (body.Write table key value) = kind.Write
kind_of (body.Read table key) = kind.Read
kind_of (body.WriteOk seg offset term table key version) = kind.WriteOk
kind_of (body.ReadOk table key version value) = kind.ReadOk
kind_of (body.Refused code) = kind.Refused
kind_of (body.Place seg epoch digest entries closed) = kind.Place
kind_of (body.Append seg offset entries) = kind.Append
kind_of (body.Close seg len) = kind.Close
kind_of (body.Stored seg epoch len closed) = kind.Stored
kind_of (body.Commit seg epoch) = kind.Commit
kind_of (body.CommitOk seg epoch) = kind.CommitOk
kind_of body.Enlist = kind.Enlist
kind_of body.Ready = kind.Ready
kind_of (body.List version rows) = kind.List
kind_of (body.Gather attempt master) = kind.Gather
kind_of (body.Replicas attempt rows) = kind.Replicas
kind_of (body.Plan head attempt master rows parts) = kind.Plan
kind_of (body.Fetch attempt master seg len part) = kind.Fetch
kind_of (body.Data attempt seg term entries) = kind.Data
kind_of (body.Recovered attempt term) = kind.Recovered
kind_of (body.Own range term previous attempt) = kind.Own
kind_of (body.SplitOk table at) = kind.SplitOk
kind_of (body.Free seg) = kind.Free

abbrev pub kind_name : Kind → List ℕ
kind_name kind.Write = codes "Write"
kind_name kind.Read = codes "Read"
kind_name kind.WriteOk = codes "WriteOk"
kind_name kind.ReadOk = codes "ReadOk"
kind_name kind.Refused = codes "Refused"
kind_name kind.Place = codes "Place"
kind_name kind.Append = codes "Append"
kind_name kind.Close = codes "Close"
kind_name kind.Stored = codes "Stored"
kind_name kind.Commit = codes "Commit"
kind_name kind.CommitOk = codes "CommitOk"
kind_name kind.Enlist = codes "Enlist"
kind_name kind.Ready = codes "Ready"
kind_name kind.List = codes "List"
kind_name kind.Gather = codes "Gather"
kind_name kind.Replicas = codes "Replicas"
kind_name kind.Plan = codes "Plan"
kind_name kind.Fetch = codes "Fetch"
kind_name kind.Data = codes "Data"
kind_name kind.Recovered = codes "Recovered"
kind_name kind.Own = codes "Own"
kind_name kind.SplitOk = codes "SplitOk"
kind_name kind.Free = codes "Free"

-- every kind
abbrev pub all_kinds : List Kind
all_kinds =
    kind.Write ∷ kind.Read ∷ kind.WriteOk ∷ kind.ReadOk ∷ kind.Refused ∷ kind.Place ∷ kind.Append ∷ kind.Close ∷
    kind.Stored ∷ kind.Commit ∷ kind.CommitOk ∷ kind.Enlist
    ∷ kind.Ready ∷ kind.List ∷ kind.Gather ∷ kind.Replicas ∷ kind.Plan ∷ kind.Fetch ∷ kind.Data ∷ kind.Recovered ∷
    kind.Own ∷ kind.SplitOk ∷ kind.Free ∷ []

-- the kind of this name
unfoldable pub kind_named : List ℕ → Option Kind
kind_named name = find (λ kind. bytes_eq (kind_name kind) name) all_kinds

-- its number: its place among all kinds, from 0
abbrev pub kind_number : Kind → ℕ
kind_number kind.Write = 0
kind_number kind.Read = 1
kind_number kind.WriteOk = 2
kind_number kind.ReadOk = 3
kind_number kind.Refused = 4
kind_number kind.Place = 5
kind_number kind.Append = 6
kind_number kind.Close = 7
kind_number kind.Stored = 8
kind_number kind.Commit = 9
kind_number kind.CommitOk = 10
kind_number kind.Enlist = 11
kind_number kind.Ready = 12
kind_number kind.List = 13
kind_number kind.Gather = 14
kind_number kind.Replicas = 15
kind_number kind.Plan = 16
kind_number kind.Fetch = 17
kind_number kind.Data = 18
kind_number kind.Recovered = 19
kind_number kind.Own = 20
kind_number kind.SplitOk = 21
kind_number kind.Free = 22

-- a kind is known by its number
abbrev pub KindsHavePlaces : Type 0
KindsHavePlaces = (one other : Kind) → kind_number one ≡ kind_number other → one ≡ other

abbrev pub event_kind_of : Event → EventKind
event_kind_of (event.Ask to body) = of_event.Ask
event_kind_of (event.Deliver number) = of_event.Deliver
event_kind_of (event.Tick addr) = of_event.Tick
event_kind_of (event.Stop id) = of_event.Stop
event_kind_of (event.Start host kept) = of_event.Start
event_kind_of (event.Order (order.Suspect id)) = of_event.Suspect
event_kind_of (event.Order (order.Decide id)) = of_event.Decide
event_kind_of (event.Order (order.Create table owner)) = of_event.Create
event_kind_of (event.Order (order.Split table at)) = of_event.Split

abbrev pub event_name : EventKind → List ℕ
event_name of_event.Ask = codes "Ask"
event_name of_event.Deliver = codes "Deliver"
event_name of_event.Tick = codes "Tick"
event_name of_event.Stop = codes "Stop"
event_name of_event.Start = codes "Start"
event_name of_event.Suspect = codes "Suspect"
event_name of_event.Decide = codes "Decide"
event_name of_event.Create = codes "Create"
event_name of_event.Split = codes "Split"

-- its number: its place among all kinds of events, from 0
abbrev pub event_number : EventKind → ℕ
event_number of_event.Ask = 0
event_number of_event.Deliver = 1
event_number of_event.Tick = 2
event_number of_event.Stop = 3
event_number of_event.Start = 4
event_number of_event.Suspect = 5
event_number of_event.Decide = 6
event_number of_event.Create = 7
event_number of_event.Split = 8
