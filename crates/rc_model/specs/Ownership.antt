-- What a master owns, and the parts of crashed masters' logs that it replays.
use Rattle.std.specs.Prelude.{ℕ, Bool, true, false, not, nat_eq, nat_lt, nat_le, ◌&&◌, ◌||◌, if◌then◌else◌, List, []}
use Rattle.std.specs.Prelude.{◌∷◌, ◌++◌, length, map, filter, find, Option, Some, None, option_map, is_some, drop}
use Rattle.std.specs.Prelude.{unwrap_or}
use Rattle.std.specs.List.{list_any, list_all, flat_map}
use Rattle.rc_types.specs.Ranges.{in_range}
use Rattle.rc_types.specs.declared.ids.ServerId.{ServerId}
use Rattle.rc_types.specs.declared.entries.Entry.{Entry}
use Rattle.rc_types.specs.declared.rows.Part.{Part}
use Rattle.rc_types.specs.declared.kept.GrantedRange.{GrantedRange}
use Rattle.rc_model.specs.Ids.{same_id}

-- a row that a part waits for: its segment, who holds it, and its entries once they have come
pub record PartRow : Type 0 where
  pub seg : ℕ
  pub holder : ServerId
  pub came : Option (List Entry)

-- a part: its rows, ascending by segment, until all have come; from then on how many entries it has; and whether its
-- end was told
pub record PartState : Type 0 where
  pub part : Part
  pub rows : List PartRow
  pub size : ℕ
  pub answered : Bool

pub record Ownership : Type 0 where
  pub grants : List GrantedRange
  -- the parts, in the order in which they were begun
  pub parts : List PartState
  -- the entries that wait to be appended, under their new terms
  pub replay : List Entry

abbrev pub owns_nothing : Ownership
owns_nothing = record { grants = []; parts = []; replay = [] }

-- Ranges

-- the term of the first granted range that holds the point
abbrev pub term_of : Ownership → ℕ → ℕ → Option ℕ
term_of own table key = option_map (λ grant. grant.term) (find (λ grant. in_range grant.range table key) own.grants)

-- the term is owned already
abbrev pub owns_term : Ownership → ℕ → Bool
owns_term own term = list_any (λ grant. nat_eq grant.term term) own.grants

-- a range is granted under a term that isn't owned yet
abbrev pub grant : GrantedRange → Ownership → Ownership
grant granted own = if owns_term own granted.term then own else record own { grants = own.grants ++ granted ∷ [] }

-- Parts

abbrev pub has_part : Ownership → ℕ → Bool
has_part own term = list_any (λ state. nat_eq state.part.term term) own.parts

-- the term is known: a part under it was begun before, or it was granted
abbrev pub knows_term : Ownership → ℕ → Bool
knows_term own term = has_part own term || owns_term own term

-- the rows in order of segment, those of one segment as they came
abbrev pub insert_row : PartRow → List PartRow → List PartRow
insert_row row [] = row ∷ []
insert_row row (other ∷ rows) = if nat_lt other.seg row.seg then other ∷ insert_row row rows else row ∷ other ∷ rows

abbrev pub rows_in_order : List PartRow → List PartRow
rows_in_order [] = []
rows_in_order (row ∷ rows) = insert_row row (rows_in_order rows)

abbrev pub awaited_row : ℕ × ServerId → PartRow
awaited_row name = record { seg = name.0; holder = name.1; came = None }

-- a part is begun: it waits for these rows
abbrev pub new_part : Part → List (ℕ × ServerId) → PartState
new_part part rows = record { part = part; rows = rows_in_order (map awaited_row rows); size = 0; answered = false }

abbrev pub begin_part : Part → List (ℕ × ServerId) → Ownership → Ownership
begin_part part rows own =
    if knows_term own part.term then own else record own { parts = own.parts ++ new_part part rows ∷ [] }

-- the row of this segment is awaited from this holder
abbrev pub is_awaited : ℕ → ServerId → PartRow → Bool
is_awaited seg from row = nat_eq row.seg seg && (same_id row.holder from && not (is_some row.came))

-- the first such row has come
abbrev pub with_row : ℕ → ServerId → List Entry → List PartRow → List PartRow
with_row seg from entries [] = []
with_row seg from entries (row ∷ rows) =
    if is_awaited seg from row then record row { came = Some entries } ∷ rows else row ∷ with_row seg from entries rows

-- a row of this part is awaited so
abbrev pub awaits : ℕ → ℕ → ServerId → PartState → Bool
awaits term seg from state = nat_eq state.part.term term && list_any (is_awaited seg from) state.rows

-- some part awaits such a row
abbrev pub awaits_data : ℕ → ℕ → ServerId → Ownership → Bool
awaits_data term seg from own = list_any (awaits term seg from) own.parts

abbrev pub all_came : List PartRow → Bool
all_came rows = list_all (λ row. is_some row.came) rows

-- the entries of all rows that have come, in order of segment and offset
abbrev pub entries_that_came : List PartRow → List Entry
entries_that_came rows = flat_map (λ row. unwrap_or row.came []) rows

-- the entry under another term
abbrev pub under_term : ℕ → Entry → Entry
under_term term entry = record entry { term = term }

-- a part whose rows have all come waits for none any more
abbrev pub joined : PartState → PartState
joined state = if all_came state.rows then record state { rows = []; size = length (entries_that_came state.rows) }
    else state

-- what joins the replay then
abbrev pub joining : PartState → List Entry
joining state = if all_came state.rows then map (under_term state.part.term) (entries_that_came state.rows) else []

-- the part with this row
abbrev pub part_with_row : ℕ → ServerId → List Entry → PartState → PartState
part_with_row seg from entries state = record state { rows = with_row seg from entries state.rows }

-- the first part that awaits the row takes it, and joins the replay at its end once it has all
abbrev pub data_in : ℕ → ℕ → ServerId → List Entry → List PartState → List PartState
data_in term seg from entries [] = []
data_in term seg from entries (state ∷ states) =
    if awaits term seg from state then joined (part_with_row seg from entries state) ∷ states
    else state ∷ data_in term seg from entries states

abbrev pub replay_in : ℕ → ℕ → ServerId → List Entry → List PartState → List Entry
replay_in term seg from entries [] = []
replay_in term seg from entries (state ∷ states) =
    if awaits term seg from state then joining (part_with_row seg from entries state)
    else replay_in term seg from entries states

abbrev pub put_data : ℕ → ℕ → ServerId → List Entry → Ownership → Ownership
put_data term seg from entries own = record own {
  parts = data_in term seg from entries own.parts;
  replay = own.replay ++ replay_in term seg from entries own.parts;
}

-- the first entry of the replay is taken out of it
abbrev pub after_replay : Ownership → Ownership
after_replay own = record own { replay = drop 1 own.replay }

-- how many of these entries are under the term
abbrev pub count_under : ℕ → List Entry → ℕ
count_under term entries = length (filter (λ entry. nat_eq entry.term term) entries)

-- a part is complete: its rows have all come, and as many of its own entries are durable as they held. Its own are
-- those under its term that were taken out of the replay; these are the durable ones of all parts
abbrev pub is_complete : List Entry → PartState → Bool
is_complete own state = nat_eq (length state.rows) 0 && nat_le state.size (count_under state.part.term own)

-- a complete part whose end wasn't told yet
abbrev pub is_to_answer : List Entry → PartState → Bool
is_to_answer own state = is_complete own state && not state.answered

-- the term of the first one, of a master of which these replayed entries are durable
abbrev pub to_answer : List Entry → Ownership → Option ℕ
to_answer replayed own = option_map (λ state. state.part.term) (find (is_to_answer replayed) own.parts)

-- its end is told
abbrev pub answered_in : List Entry → List PartState → List PartState
answered_in own [] = []
answered_in own (state ∷ states) =
    if is_to_answer own state then record state { answered = true } ∷ states else state ∷ answered_in own states

abbrev pub after_answer : List Entry → Ownership → Ownership
after_answer replayed own = record own { parts = answered_in replayed own.parts }
