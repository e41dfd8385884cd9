-- What the members of an event say, a member at a time.
use Rattle.std.specs.Prelude.{ℕ, Bool, true, false, if◌then◌else◌, List, [], Option, Some, None, option_map}
use Rattle.std.specs.Prelude.{option_and_then, codes}
use Rattle.std.specs.Str.{bytes_eq}
use Rattle.rc_types.specs.declared.ids.ServerId.{ServerId}
use Rattle.rc_types.specs.declared.ids.Addr.{Addr}
use Rattle.rc_types.specs.declared.ids.Addr.TheVariants.{Coordinator, Server, Outside}
use Rattle.serde_json.specs.Data.{Data}
use Rattle.rc_reading.specs.declared.fields.MemberName.{MemberName}
use Rattle.rc_reading.specs.declared.fields.MemberName.TheVariants as name
use Rattle.rc_reading.specs.declared.fields.Only.{Only}
use Rattle.rc_reading.specs.declared.fields.Fields.{Fields}
use Rattle.rc_reading.specs.declared.names.EventName.{EventName}
use Rattle.rc_reading.specs.declared.names.EventName.TheVariants as event
use Rattle.rc_reading.specs.declared.scenarios.ScenarioEvent.{ScenarioEvent}
use Rattle.rc_types.specs.declared.events.Event.{Event}
use Rattle.rc_types.specs.declared.events.Event.TheVariants.{Start, Stop, Tick, Deliver}
use Rattle.rc_reading.specs.declared.scenarios.ScenarioEvent.TheVariants.{Core, Settle}
use Rattle.rc_reading.specs.Scenario.{asks_write, asks_read, suspects, decides, creates, splits}
use Rattle.rc_reading.specs.Kinds.{no_kinds}
use Rattle.rc_reading.specs.Hosts.{no_hosts}
use Rattle.rc_reading.specs.Names.{start_members, id_members, write_members, read_members, deliver_members}
use Rattle.rc_reading.specs.Names.{settle_members, create_members, split_members}
use Rattle.rc_reading.specs.Values.{has_only, field, optional, given2, given3, given4, host_of, table_of, key_of}
use Rattle.rc_reading.specs.Values.{message_of, id_of, addr_of, kept_of, kinds_of, hosts_of, written, event_name}

abbrev pub member_named : List ℕ → Option MemberName
member_named text =
    if bytes_eq text (codes "e") then Some name.Event
    else (if bytes_eq text (codes "n") then Some name.Number
    else (if bytes_eq text (codes "to") then Some name.To
    else (if bytes_eq text (codes "table") then Some name.Table
    else (if bytes_eq text (codes "key") then Some name.Key
    else (if bytes_eq text (codes "value") then Some name.Value
    else (if bytes_eq text (codes "id") then Some name.Id
    else (if bytes_eq text (codes "host") then Some name.Host
    else (if bytes_eq text (codes "kept") then Some name.Kept
    else (if bytes_eq text (codes "kinds") then Some name.Kinds
    else (if bytes_eq text (codes "hosts") then Some name.Hosts
    else (if bytes_eq text (codes "owner") then Some name.Owner
    else (if bytes_eq text (codes "at") then Some name.At
    else None))))))))))))

-- For each event whether it has all the members that have come

abbrev pub all_events : Only
all_events = record {
  start = true;
  id = true;
  write = true;
  read = true;
  deliver = true;
  settle = true;
  create = true;
  split = true;
}

abbrev pub no_event : Only
no_event = record {
  start = false;
  id = false;
  write = false;
  read = false;
  deliver = false;
  settle = false;
  create = false;
  split = false;
}

abbrev pub narrowed : Option MemberName → Only → Only
narrowed None only = no_event
narrowed (Some name.Event) only = only
narrowed (Some name.Host) only = record no_event { start = only.start }
narrowed (Some name.Kept) only = record no_event { start = only.start }
narrowed (Some name.Id) only = record no_event { id = only.id }
narrowed (Some name.To) only = record no_event { write = only.write; read = only.read }
narrowed (Some name.Table) only =
    record no_event { write = only.write; read = only.read; create = only.create; split = only.split }
narrowed (Some name.Key) only = record no_event { write = only.write; read = only.read }
narrowed (Some name.Value) only = record no_event { write = only.write }
narrowed (Some name.Number) only = record no_event { deliver = only.deliver }
narrowed (Some name.Kinds) only = record no_event { settle = only.settle }
narrowed (Some name.Hosts) only = record no_event { settle = only.settle }
narrowed (Some name.Owner) only = record no_event { create = only.create }
narrowed (Some name.At) only = record no_event { split = only.split }

-- one more member was read
abbrev pub said : Option MemberName → Data → Fields → Fields
said None d fields = fields
said (Some name.Event) d fields = record fields { event = event_name d }
said (Some name.Host) d fields = record fields { host = host_of d }
said (Some name.Kept) d fields = record fields { kept = kept_of d }
said (Some name.Id) d fields = record fields { addr = addr_of d }
said (Some name.To) d fields = record fields { to = id_of d }
said (Some name.Table) d fields = record fields { table = table_of d }
said (Some name.Key) d fields = record fields { key = key_of d }
said (Some name.Value) d fields = record fields { value = written d }
said (Some name.Number) d fields = record fields { number = message_of d }
said (Some name.Kinds) d fields = record fields { kinds = kinds_of d }
said (Some name.Hosts) d fields = record fields { hosts = hosts_of d }
said (Some name.Owner) d fields = record fields { owner = id_of d }
said (Some name.At) d fields = record fields { at = key_of d }

abbrev pub noted : Option MemberName → Data → Fields → Fields
noted name d fields = said name d (record fields { only = narrowed name fields.only })

-- what all members of an object say
abbrev pub only_of : Data → Only
only_of d = record {
  start = has_only start_members d;
  id = has_only id_members d;
  write = has_only write_members d;
  read = has_only read_members d;
  deliver = has_only deliver_members d;
  settle = has_only settle_members d;
  create = has_only create_members d;
  split = has_only split_members d;
}

abbrev pub fields_of : Data → Fields
fields_of d = record {
  only = only_of d;
  event = field (codes "e") event_name d;
  host = field (codes "host") host_of d;
  kept = optional [] (codes "kept") kept_of d;
  addr = field (codes "id") addr_of d;
  to = field (codes "to") id_of d;
  table = field (codes "table") table_of d;
  key = field (codes "key") key_of d;
  value = field (codes "value") written d;
  number = field (codes "n") message_of d;
  kinds = optional no_kinds (codes "kinds") kinds_of d;
  hosts = optional no_hosts (codes "hosts") hosts_of d;
  owner = field (codes "owner") id_of d;
  at = field (codes "at") key_of d;
}

abbrev pub server_in : Option Addr → Option ServerId
server_in None = None
server_in (Some Coordinator) = None
server_in (Some (Server id)) = Some id
server_in (Some Outside) = None

-- whether this event has all the members that have come
abbrev pub allowed : EventName → Only → Bool
allowed event.Start only = only.start
allowed event.Stop only = only.id
allowed event.Suspect only = only.id
allowed event.Decide only = only.id
allowed event.Tick only = only.id
allowed event.Write only = only.write
allowed event.Read only = only.read
allowed event.Deliver only = only.deliver
allowed event.Settle only = only.settle
allowed event.Create only = only.create
allowed event.Split only = only.split

-- the event of the world of this name, where the members that it needs say something; a pass is none
abbrev pub needed_core : EventName → Fields → Option Event
needed_core event.Start fields = given2 Start fields.host fields.kept
needed_core event.Stop fields = option_map Stop (server_in fields.addr)
needed_core event.Suspect fields = option_map suspects (server_in fields.addr)
needed_core event.Decide fields = option_map decides (server_in fields.addr)
needed_core event.Tick fields = option_map Tick fields.addr
needed_core event.Write fields = given4 asks_write fields.to fields.table fields.key fields.value
needed_core event.Read fields = given3 asks_read fields.to fields.table fields.key
needed_core event.Deliver fields = option_map Deliver fields.number
needed_core event.Settle fields = None
needed_core event.Create fields = given2 creates fields.table fields.owner
needed_core event.Split fields = given2 splits fields.table fields.at

-- the event of this name
abbrev pub needed : EventName → Fields → Option ScenarioEvent
needed event.Settle fields = given2 Settle fields.kinds fields.hosts
needed name fields = option_map Core (needed_core name fields)

-- the event that the members say
abbrev pub event_from : EventName → Fields → Option ScenarioEvent
event_from name fields = if allowed name fields.only then needed name fields else None

abbrev pub event_in : Fields → Option ScenarioEvent
event_in fields = option_and_then (λ name. event_from name fields) fields.event
