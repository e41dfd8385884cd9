-- The names of a trace's messages, and the members that each has, with `m`.
use Rattle.std.specs.Prelude.{ℕ, List, [], ◌∷◌, Option, Some, None, if◌then◌else◌, codes}
use Rattle.std.specs.Str.{bytes_eq}
use Rattle.rc_traces.specs.declared.names.MessageName.{MessageName}
use Rattle.rc_traces.specs.declared.names.MessageName.TheVariants as name

-- the message that stands at `m`
abbrev pub message_named : List ℕ → Option MessageName
message_named text =
    if bytes_eq text (codes "place") then Some name.Place
    else (if bytes_eq text (codes "append") then Some name.Append
    else (if bytes_eq text (codes "ok") then Some name.Ok
    else (if bytes_eq text (codes "plan") then Some name.Plan
    else (if bytes_eq text (codes "own") then Some name.Own
    else None))))

abbrev pub place_members : List (List ℕ)
place_members = codes "m" ∷ codes "from" ∷ codes "seg" ∷ codes "entries" ∷ []

abbrev pub append_members : List (List ℕ)
append_members = codes "m" ∷ codes "from" ∷ codes "seg" ∷ codes "offset" ∷ codes "entries" ∷ []

abbrev pub ok_members : List (List ℕ)
ok_members = codes "m" ∷ codes "from" ∷ codes "seg" ∷ codes "offset" ∷ codes "term" ∷ codes "table" ∷ codes
    "key" ∷ codes "version" ∷ []

abbrev pub plan_members : List (List ℕ)
plan_members = codes "m" ∷ codes "attempt" ∷ codes "of" ∷ codes "rows" ∷ []

abbrev pub own_members : List (List ℕ)
own_members = codes "m" ∷ codes "to" ∷ codes "table" ∷ codes "lo" ∷ codes "hi" ∷ codes "term" ∷ codes
    "previous" ∷ codes "attempt" ∷ []

-- the members of a trace
abbrev pub trace_members : List (List ℕ)
trace_members = codes "format" ∷ codes "messages" ∷ []
