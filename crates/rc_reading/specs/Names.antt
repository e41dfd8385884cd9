-- The names of a scenario's events, and the members that each has beside `e`.
use Rattle.std.specs.Prelude.{ℕ, List, [], ◌∷◌, Option, Some, None, if◌then◌else◌, codes}
use Rattle.std.specs.Str.{bytes_eq}
use Rattle.rc_reading.specs.declared.names.EventName.{EventName}
use Rattle.rc_reading.specs.declared.names.EventName.TheVariants as name

-- the event that stands at `e`
abbrev pub event_named : List ℕ → Option EventName
event_named text =
    if bytes_eq text (codes "deliver") then Some name.Deliver
    else (if bytes_eq text (codes "settle") then Some name.Settle
    else (if bytes_eq text (codes "write") then Some name.Write
    else (if bytes_eq text (codes "tick") then Some name.Tick
    else (if bytes_eq text (codes "read") then Some name.Read
    else (if bytes_eq text (codes "start") then Some name.Start
    else (if bytes_eq text (codes "stop") then Some name.Stop
    else (if bytes_eq text (codes "suspect") then Some name.Suspect
    else (if bytes_eq text (codes "decide") then Some name.Decide
    else (if bytes_eq text (codes "create") then Some name.Create
    else (if bytes_eq text (codes "split") then Some name.Split
    else None))))))))))

-- All members of each event.

abbrev pub start_members : List (List ℕ)
start_members = codes "e" ∷ codes "host" ∷ codes "kept" ∷ []

abbrev pub id_members : List (List ℕ)
id_members = codes "e" ∷ codes "id" ∷ []

abbrev pub write_members : List (List ℕ)
write_members = codes "e" ∷ codes "to" ∷ codes "table" ∷ codes "key" ∷ codes "value" ∷ []

abbrev pub read_members : List (List ℕ)
read_members = codes "e" ∷ codes "to" ∷ codes "table" ∷ codes "key" ∷ []

abbrev pub deliver_members : List (List ℕ)
deliver_members = codes "e" ∷ codes "n" ∷ []

abbrev pub settle_members : List (List ℕ)
settle_members = codes "e" ∷ codes "kinds" ∷ codes "hosts" ∷ []

abbrev pub create_members : List (List ℕ)
create_members = codes "e" ∷ codes "table" ∷ codes "owner" ∷ []

abbrev pub split_members : List (List ℕ)
split_members = codes "e" ∷ codes "table" ∷ codes "at" ∷ []

-- All members of a scenario, by its format.

abbrev pub first_members : List (List ℕ)
first_members = codes "format" ∷ codes "factor" ∷ codes "segment" ∷ codes "events" ∷ []

abbrev pub second_members : List (List ℕ)
second_members = codes "format" ∷ codes "factor" ∷ codes "factors" ∷ codes "free" ∷ codes "segment" ∷ codes
    "events" ∷ []
