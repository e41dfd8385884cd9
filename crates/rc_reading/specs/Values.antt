-- What a JSON value says where a number, an id, a list or an object is wanted: nothing, where it is something else.
use Rattle.std.specs.Prelude.{ℕ, Bool, true, false, nat_lt, nat_le, ◌&&◌, ◌||◌, if◌then◌else◌, List, [], ◌∷◌, ◌++◌}
use Rattle.std.specs.Prelude.{length, Option, Some, None, option_map, option_and_then, codes}
use Rattle.std.specs.Str.{bytes_eq}
use Rattle.rc_types.specs.declared.ids.ServerId.{ServerId}
use Rattle.rc_types.specs.declared.ids.Addr.{Addr}
use Rattle.rc_types.specs.declared.ids.Addr.TheVariants.{Coordinator, Server}
use Rattle.rc_types.specs.declared.limits.TheConstants.{MAX_FACTOR, MAX_HOSTS, LAST_SEGMENT, LAST_KEY}
use Rattle.serde_json.specs.Data.{Data, Items, no_items, item, Members, no_members, member, null, string}
use Rattle.serde_json.specs.Find.{get, as_number, as_u64, as_str, as_array, as_object}
use Rattle.rc_reading.specs.declared.limits.TheConstants.{LAST_TABLE, LAST_GENERATION, LAST_MESSAGE}
use Rattle.rc_reading.specs.declared.hosts.Hosts.{Hosts}
use Rattle.rc_reading.specs.declared.kinds.Kinds.{Kinds}
use Rattle.rc_reading.specs.declared.names.EventName.{EventName}
use Rattle.rc_types.specs.Kinds.{kind_named}
use Rattle.rc_reading.specs.Kinds.{with_kind, no_kinds}
use Rattle.rc_reading.specs.Hosts.{with_host, no_hosts}
use Rattle.rc_reading.specs.Names.{event_named}

-- Objects

abbrev pub is_one_of : List (List ℕ) → List ℕ → Bool
is_one_of [] name = false
is_one_of (one ∷ names) name = bytes_eq name one || is_one_of names name

abbrev pub are_among : List (List ℕ) → Members → Bool
are_among names no_members = true
are_among names (member name d members) = is_one_of names name && are_among names members

abbrev pub holds : Option Bool → Bool
holds None = false
holds (Some b) = b

-- an object without other members than these
abbrev pub has_only : List (List ℕ) → Data → Bool
has_only names d = holds (option_map (are_among names) (as_object d))

-- what was found, if there are no other members than these
abbrev pub only : {A : Type 0} → List (List ℕ) → Data → Option A → Option A
only names d found = if has_only names d then found else None

-- what the member of this name says
abbrev pub field : {A : Type 0} → List ℕ → (Data → Option A) → Data → Option A
field name says d = option_and_then says (get name d)

-- what a member says that may be left out
abbrev pub or_absent : {A : Type 0} → A → (Data → Option A) → Option Data → Option A
or_absent absent says None = Some absent
or_absent absent says (Some d) = says d

-- what the member of this name says, if it isn't left out
abbrev pub optional : {A : Type 0} → A → List ℕ → (Data → Option A) → Data → Option A
optional absent name says d = or_absent absent says (get name d)

-- all that was looked for was found
abbrev pub given2 : {A B R : Type 0} → (A → B → R) → Option A → Option B → Option R
given2 f (Some a) (Some b) = Some (f a b)
given2 f (Some a) None = None
given2 f None b = None

abbrev pub given3 : {A B C R : Type 0} → (A → B → C → R) → Option A → Option B → Option C → Option R
given3 f (Some a) b c = given2 (f a) b c
given3 f None b c = None

abbrev pub given4 : {A B C D R : Type 0} → (A → B → C → D → R) → Option A → Option B → Option C → Option D → Option R
given4 f (Some a) b c d = given3 (f a) b c d
given4 f None b c d = None

-- Numbers

-- the number, if it is in this range
abbrev pub within : ℕ → ℕ → ℕ → Option ℕ
within low high n = if nat_le low n && nat_le n high then Some n else None

-- a whole number in this range; what is written with a sign, a point or an exponent is none
abbrev pub whole : ℕ → ℕ → Data → Option ℕ
whole low high d = option_and_then (within low high) (option_and_then as_u64 (as_number d))

abbrev pub below : ℕ → Data → Option ℕ
below n d = option_and_then (λ i. if nat_lt i n then Some i else None) (option_and_then as_u64 (as_number d))

abbrev pub host_of : Data → Option ℕ
host_of = below MAX_HOSTS

abbrev pub factor_of : Data → Option ℕ
factor_of = whole 1 MAX_FACTOR

abbrev pub table_of : Data → Option ℕ
table_of = whole 0 LAST_TABLE

abbrev pub key_of : Data → Option ℕ
key_of = whole 0 LAST_KEY

abbrev pub message_of : Data → Option ℕ
message_of = whole 0 LAST_MESSAGE

-- Lists

abbrev pub listed : Items → List Data
listed no_items = []
listed (item d ds) = d ∷ listed ds

abbrev pub list_of : Data → Option (List Data)
list_of d = option_map listed (as_array d)

-- each item is taken in turn
abbrev pub each : {A : Type 0} → (A → Data → Option A) → A → List Data → Option A
each takes a [] = Some a
each takes a (d ∷ ds) = option_and_then (λ b. each takes b ds) (takes a d)

-- a list whose items are taken in turn
abbrev pub list_from : {A : Type 0} → (A → Data → Option A) → A → Data → Option A
list_from takes a d = option_and_then (each takes a) (list_of d)

-- [index, generation]
abbrev pub id_in : List Data → Option ServerId
id_in (index ∷ generation ∷ []) =
    given2 (λ i g. record { index = i; generation = g }) (host_of index) (whole 1 LAST_GENERATION generation)
id_in _ = None

abbrev pub id_of : Data → Option ServerId
id_of d = option_and_then id_in (list_of d)

-- an id, or the coordinator's letter
abbrev pub addr_in : Option (List ℕ) → Option ServerId → Option Addr
addr_in (Some text) id = if bytes_eq text (codes "c") then Some Coordinator else None
addr_in None id = option_map Server id

abbrev pub addr_of : Data → Option Addr
addr_of d = addr_in (as_str d) (id_of d)

-- [id, segment]
abbrev pub name_in : List Data → Option (ServerId × ℕ)
name_in (id ∷ segment ∷ []) = given2 (λ i s. (i, s)) (id_of id) (whole 1 LAST_SEGMENT segment)
name_in _ = None

abbrev pub take_name : List (ServerId × ℕ) → Data → Option (List (ServerId × ℕ))
take_name kept d = option_map (λ name. kept ++ name ∷ []) (option_and_then name_in (list_of d))

abbrev pub kept_of : Data → Option (List (ServerId × ℕ))
kept_of = list_from take_name []

-- a set of kinds, by their names
abbrev pub take_kind : Kinds → Data → Option Kinds
take_kind kinds d = option_map (with_kind kinds) (option_and_then kind_named (as_str d))

abbrev pub kinds_of : Data → Option Kinds
kinds_of = list_from take_kind no_kinds

-- a set of hosts, by their indexes
abbrev pub take_host : Hosts → Data → Option Hosts
take_host hosts d = option_map (with_host hosts) (host_of d)

abbrev pub hosts_of : Data → Option Hosts
hosts_of = list_from take_host no_hosts

-- a factor for each host, at most
abbrev pub take_factor : List ℕ → Data → Option (List ℕ)
take_factor factors d = if nat_lt (length factors) MAX_HOSTS then option_map (λ factor. factors ++ factor ∷ [])
    (factor_of d) else None

abbrev pub factors_of : Data → Option (List ℕ)
factors_of = list_from take_factor []

-- Texts

-- what is written: a text's bytes, or nothing for a deletion
abbrev pub written : Data → Option (Option (List ℕ))
written null = Some None
written (string bytes) = Some (Some bytes)
written _ = None

-- the event that a text names
abbrev pub event_name : Data → Option EventName
event_name d = option_and_then event_named (as_str d)
