-- A breach of the headline in a list of messages: the first one, by clause. Nothing here knows of nodes.
use Rattle.std.specs.Prelude.{ℕ, ◌+◌, Bool, true, false, not, nat_eq, nat_lt, ◌&&◌, ◌||◌, if◌then◌else◌, List, []}
use Rattle.std.specs.Prelude.{◌∷◌, Option, Some, None, zero, suc, map}
use Rattle.std.specs.List.{list_any, list_all}
use Rattle.std.specs.Option.{option_or, option_eq}
use Rattle.rc_types.specs.declared.entries.Entry.{Entry}
use Rattle.rc_types.specs.declared.rows.PlanRow.{PlanRow}
use Rattle.rc_types.specs.declared.messages.Message.{Message}
use Rattle.rc_types.specs.declared.messages.Body.{Body}
use Rattle.rc_types.specs.declared.messages.Body.TheVariants.{Place, Append}
use Rattle.rc_types.specs.declared.verdicts.Breach.{Breach}
use Rattle.rc_types.specs.declared.verdicts.Breach.TheVariants.{Missing, Invented, Version}
use Rattle.rc_model.specs.Ids.{is_server}
use Rattle.rc_model.specs.Ascending.{ascending}
use Rattle.rc_model.specs.Made.{made}
use Rattle.rc_model.specs.Recovered.{Ack, acknowledged, all_acknowledged, Accepted, accepted, reach, is_recovered}
use Rattle.rc_model.specs.Owners.{is_earlier}

-- the numbers are the same, one by one
abbrev pub same_numbers : List ℕ → List ℕ → Bool
same_numbers [] [] = true
same_numbers (n ∷ ns) (m ∷ ms) = nat_eq n m && same_numbers ns ms
same_numbers _ _ = false

abbrev pub same_value : Option (List ℕ) → Option (List ℕ) → Bool
same_value a b = option_eq same_numbers a b

-- the entries are the same, their values too
abbrev pub same_entry : Entry → Entry → Bool
same_entry a b =
    nat_eq a.term b.term && (nat_eq a.table b.table &&
    (nat_eq a.key b.key && (nat_eq a.version b.version && same_value a.value b.value)))

-- Nothing acknowledged is missing

-- the entry is of the acknowledged term, table and key
abbrev pub is_of_ack : Ack → Entry → Bool
is_of_ack ack entry = nat_eq entry.term ack.term && (nat_eq entry.table ack.table && nat_eq entry.key ack.key)

-- and of its version
abbrev pub agrees : Ack → Entry → Bool
agrees ack entry = is_of_ack ack entry && nat_eq entry.version ack.version

abbrev pub all_agree : Ack → List Entry → Bool
all_agree ack entries = list_all (agrees ack) entries

-- the entry is a greater version of what was acknowledged
abbrev pub is_greater : Ack → Entry → Bool
is_greater ack entry = is_of_ack ack entry && nat_lt ack.version entry.version

-- among these entries of a segment, the first of which stands at the offset, a recovered one is a greater version
abbrev pub has_greater : List PlanRow → Ack → ℕ → ℕ → List Entry → Bool
has_greater rows ack s o [] = false
has_greater rows ack s o (entry ∷ entries) =
    (is_recovered rows s o && is_greater ack entry) || has_greater rows ack s (o + 1) entries

abbrev pub holds_greater : List PlanRow → Ack → Body → Bool
holds_greater rows ack (Place seg epoch digest entries closed) = has_greater rows ack seg 0 entries
holds_greater rows ack (Append seg offset entries) = has_greater rows ack seg offset entries
holds_greater rows ack _ = false

-- a greater version of what was acknowledged is made at a place that a row holds
abbrev pub is_superseded : List Message → Accepted → Ack → Bool
is_superseded sent plan ack =
    list_any (λ message. is_server plan.master message.from && holds_greater plan.rows ack message.body) sent

-- no row holds the place, and none a greater version of its key under its term; or another entry was made at the place
abbrev pub is_missing : List Message → Accepted → Ack → Bool
is_missing sent plan ack =
    not (is_recovered plan.rows ack.seg ack.offset || is_superseded sent plan ack)
    || not (all_agree ack (made sent plan.master ack.seg ack.offset))

-- the first of these writes that is missing
abbrev pub first_missing : List Message → Accepted → List Ack → Option Breach
first_missing sent plan [] = None
first_missing sent plan (ack ∷ acks) =
    if is_missing sent plan ack then Some (Missing plan.attempt plan.master ack.seg ack.offset)
    else first_missing sent plan acks

-- Nothing recovered is invented

-- all of these are the same as this one
abbrev pub all_same : Entry → List Entry → Bool
all_same entry others = list_all (same_entry entry) others

-- something was sent for the place, and all that was sent for it is the same
abbrev pub is_one_entry : List Entry → Bool
is_one_entry [] = false
is_one_entry (entry ∷ entries) = all_same entry entries

-- the first place of a segment, of so many from an offset on, for which not exactly one entry was sent
abbrev pub first_invented_from : List Message → Accepted → ℕ → ℕ → ℕ → Option Breach
first_invented_from sent plan s o zero = None
first_invented_from sent plan s o (suc places) =
    if is_one_entry (made sent plan.master s o) then first_invented_from sent plan s (o + 1) places
    else Some (Invented plan.attempt plan.master s o)

-- the first such place of these segments, in their order
abbrev pub first_invented : List Message → Accepted → List ℕ → Option Breach
first_invented sent plan [] = None
first_invented sent plan (s ∷ segs) =
    option_or (first_invented_from sent plan s 0 (reach plan.rows s)) (first_invented sent plan segs)

abbrev pub segments_of : List PlanRow → List ℕ
segments_of rows = map (λ row. row.seg) rows

-- Versions rise over owners

-- the one was acknowledged under an earlier ownership of the key, and its version isn't below the later one's
abbrev pub falls : List Message → Ack → Ack → Bool
falls sent later earlier =
    nat_eq earlier.table later.table && (nat_eq earlier.key later.key
    && (not (nat_lt earlier.version later.version) && is_earlier sent later.table later.key earlier.term later.term))

-- the first of these from which the later one falls
abbrev pub first_fall : List Message → Ack → List Ack → Option Breach
first_fall sent later [] = None
first_fall sent later (earlier ∷ acks) =
    if falls sent later earlier then Some (Version later.table later.key earlier.term earlier.version later.term
    later.version)
    else first_fall sent later acks

-- Over all plans, and over all acknowledgements, in order

abbrev pub missing_of : List Message → List Accepted → Option Breach
missing_of sent [] = None
missing_of sent (plan ∷ plans) =
    option_or (first_missing sent plan (acknowledged sent plan.master)) (missing_of sent plans)

abbrev pub invented_of : List Message → List Accepted → Option Breach
invented_of sent [] = None
invented_of sent (plan ∷ plans) =
    option_or (first_invented sent plan (ascending (segments_of plan.rows))) (invented_of sent plans)

abbrev pub falls_of : List Message → List Ack → Option Breach
falls_of sent [] = None
falls_of sent (later ∷ acks) = option_or (first_fall sent later (all_acknowledged sent)) (falls_of sent acks)

-- the first breach: a missing write of any plan comes before an invented place of any, and that before a falling
-- version
abbrev pub breach : List Message → Option Breach
breach sent =
    option_or (missing_of sent (accepted sent))
    (option_or (invented_of sent (accepted sent)) (falls_of sent (all_acknowledged sent)))
