-- The tablets: a list in order of (table, lo), of ranges that do not overlap. A table that is there
-- is covered from key 0 to the last one.
use Rattle.std.specs.Prelude.{ℕ, ◌+◌, ◌-◌, Bool, true, false, not, nat_eq, nat_lt, ◌&&◌, if◌then◌else◌}
use Rattle.std.specs.Prelude.{List, [], ◌∷◌, Option, map, filter, find}
use Rattle.std.specs.List.{list_any}
use Rattle.rc_types.specs.Ranges.{all_keys, in_range}
use Rattle.rc_types.specs.declared.ids.ServerId.{ServerId}
use Rattle.rc_types.specs.declared.rows.Tablet.{Tablet}
use Rattle.rc_types.specs.declared.rows.KeyRange.{KeyRange}
use Rattle.rc_model.specs.Ids.{same_id}

-- the tablet holds the point (table, key)
abbrev pub holds : Tablet → ℕ → ℕ → Bool
holds tablet table key = in_range tablet.range table key

-- the tablet of a point: the first that holds it
abbrev pub tablet_of : List Tablet → ℕ → ℕ → Option Tablet
tablet_of tablets table key = find (λ tablet. holds tablet table key) tablets

-- some tablet of the table is there
abbrev pub has_table : List Tablet → ℕ → Bool
has_table tablets table = list_any (λ tablet. nat_eq tablet.range.table table) tablets

-- the tablets of one owner, in order
abbrev pub tablets_of : ServerId → List Tablet → List Tablet
tablets_of owner tablets = filter (λ tablet. same_id owner tablet.owner) tablets

-- the new tablet is put before the first that lies behind it
abbrev pub insert_tablet : Tablet → List Tablet → List Tablet
insert_tablet new [] = new ∷ []
insert_tablet new (tablet ∷ tablets) =
    if nat_lt new.range.table tablet.range.table then new ∷ tablet ∷ tablets else tablet ∷ insert_tablet new tablets

-- the whole of a table
abbrev pub whole_table : ℕ → ServerId → ℕ → Tablet
whole_table table owner term = record { range = all_keys table; owner = owner; term = term; crashed = false }

-- the tablets with a new table, all of it one tablet
abbrev pub with_table : ℕ → ServerId → ℕ → List Tablet → List Tablet
with_table table owner term tablets = insert_tablet (whole_table table owner term) tablets

-- a tablet whose owner has crashed is marked
abbrev pub mark_if_owned : ServerId → Tablet → Tablet
mark_if_owned owner tablet = if same_id owner tablet.owner then record tablet { crashed = true } else tablet

-- all tablets of a crashed owner are marked
abbrev pub marked_crashed : ServerId → List Tablet → List Tablet
marked_crashed owner tablets = map (mark_if_owned owner) tablets

-- how many of an owner's tablets are not marked yet
abbrev pub count_to_mark : ServerId → List Tablet → ℕ
count_to_mark owner [] = 0
count_to_mark owner (tablet ∷ tablets) =
    if same_id owner tablet.owner && not tablet.crashed then count_to_mark owner tablets + 1
    else count_to_mark owner tablets

-- the keys of a tablet below this one, and those from it on
abbrev pub lower_half : ℕ → Tablet → Tablet
lower_half at tablet = record tablet { range = record tablet.range { hi = at - 1 } }

abbrev pub upper_half : ℕ → Tablet → Tablet
upper_half at tablet = record tablet { range = record tablet.range { lo = at } }

-- the tablet that holds the point becomes two, of which the second begins at the point
abbrev pub split_at : ℕ → ℕ → List Tablet → List Tablet
split_at table at [] = []
split_at table at (tablet ∷ tablets) =
    if holds tablet table at then lower_half at tablet ∷ upper_half at tablet ∷ tablets
    else tablet ∷ split_at table at tablets

-- the tablet has exactly this range
abbrev pub is_range : KeyRange → Tablet → Bool
is_range range tablet = nat_eq tablet.range.table range.table
    && (nat_eq tablet.range.lo range.lo && nat_eq tablet.range.hi range.hi)

-- some tablet has exactly this range
abbrev pub has_range : KeyRange → List Tablet → Bool
has_range range tablets = list_any (is_range range) tablets

-- the tablet of this range gets a new owner and term, and its mark goes
abbrev pub assigned : KeyRange → ServerId → ℕ → List Tablet → List Tablet
assigned range owner term [] = []
assigned range owner term (tablet ∷ tablets) =
    if is_range range tablet then record tablet { owner = owner; term = term; crashed = false } ∷ tablets
    else tablet ∷ assigned range owner term tablets
