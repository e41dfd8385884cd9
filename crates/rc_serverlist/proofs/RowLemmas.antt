-- Rows of ids and marks.
use Rattle.std.proofs.Common.{◌≡◌, ℕ, zero, suc, ◌+◌, Bool, true, false, cond, if◌then◌else◌, not, nat_eq, nat_lt}
use Rattle.std.proofs.Common.{◌&&◌, ◌||◌, List, [], ◌∷◌, ◌++◌, length, take, drop, slice_get, append-nil, append_assoc}
use Rattle.std.proofs.Common.{Option, Some, is_some, unwrap_or, refl, sym, ap, subst, ◌∙◌, arith, add-one, true≢false}
use Rattle.std.proofs.lemmas.Bool.Decides.{nat_tests}
use Rattle.std.specs.Bool.{OnFalse}
use Rattle.std.specs.List.{IsDistinct, AllByRecursion, list_all}
use Rattle.std.specs.Map.{keys_of, lookup, set_value}
use Rattle.std.proofs.lemmas.List.{take_at, drop_at}
use Rattle.std.proofs.lemmas.Map.Keys.{IsDistinct-head, IsDistinct-tail}
use Rattle.indexmap.specs.IndexMap.{insert_entry, insert_all, set_value_at}
use Rattle.rc_model.specs.Model.{ServerId, same_id, knows, marked_up, is_newest, index_crashed, id_crashed, first_rows}
use Rattle.rc_model.proofs.Ids.{same_id-true}
use Rattle.rc_serverlist.proofs.IdLemmas.{same_id-sym}

abbrev pub Rows : Type 0
Rows = List (ServerId × Bool)

-- an id is known where a look-up finds it
pub knows-lookup : (rows : Rows) (id : ServerId) → knows rows id ≡ is_some (lookup (same_id id) rows)
knows-lookup [] id = refl
knows-lookup (row ∷ rows) id = by (same_id id row.0) (knows-lookup rows id)
  where
    by : (b : Bool) → knows rows id ≡ is_some (lookup (same_id id) rows) →
        (b || knows rows id) ≡ is_some (cond b (Some row.1) (lookup (same_id id) rows))
    by true rest = refl
    by false rest = rest

-- and its mark is what the look-up finds
pub marked_up-lookup : (rows : Rows) (id : ServerId) → marked_up rows id ≡ unwrap_or (lookup (same_id id) rows) false
marked_up-lookup [] id = refl
marked_up-lookup (row ∷ rows) id = by (same_id id row.0) (marked_up-lookup rows id)
  where
    by : (b : Bool) → marked_up rows id ≡ unwrap_or (lookup (same_id id) rows) false →
        cond b row.1 (marked_up rows id) ≡ unwrap_or (cond b (Some row.1) (lookup (same_id id) rows)) false
    by true rest = refl
    by false rest = rest

-- an id has crashed where a look-up finds it, and finds no mark
pub crashed-lookup : (rows : Rows) (id : ServerId) (found : Option Bool) → found ≡ lookup (same_id id) rows →
    (is_some found && (if unwrap_or found false then false else true))
    ≡ (knows rows id && (if marked_up rows id then false else true))
crashed-lookup rows id found is = ap (λ f. is_some f && (if unwrap_or f false then false else true)) is
    ∙ sym (ap (λ k. k && (if marked_up rows id then false else true)) (knows-lookup rows id)
    ∙ ap (λ m. is_some (lookup (same_id id) rows) && (if m then false else true)) (marked_up-lookup rows id))

-- no row of another id is marked
id_crashed-absent : (id : ServerId) (rows : Rows) → AllByRecursion (λ other. same_id id other ≡ false) (keys_of rows) →
    id_crashed id rows ≡ rows
id_crashed-absent id [] h = refl
id_crashed-absent id (row ∷ rows) h = ap (λ b. (row.0, cond b false row.1) ∷ id_crashed id rows) h.0 ∙
    ap (λ rest. row ∷ rest) (id_crashed-absent id rows h.1)

-- nor are those behind the id's own
id_crashed-elsewhere : (id : ServerId) (row : ServerId × Bool) (rows : Rows) → same_id id row.0 ≡ true →
    IsDistinct same_id (keys_of (row ∷ rows)) → id_crashed id rows ≡ rows
id_crashed-elsewhere id row rows e d =
    let P : ServerId → Type 0 = λ k. AllByRecursion (λ other. same_id k other ≡ false) (keys_of rows) in
    id_crashed-absent id rows (subst P (sym (same_id-true e)) (IsDistinct-head same_id row.0 (keys_of rows) d))

-- of rows of different ids, one at the most is marked
pub id_crashed-distinct : (id : ServerId) (rows : Rows) → IsDistinct same_id (keys_of rows) →
    id_crashed id rows ≡ set_value (same_id id) rows false
id_crashed-distinct id [] d = refl
id_crashed-distinct id (row ∷ rows) d =
    by (same_id id row.0) refl (id_crashed-distinct id rows (IsDistinct-tail same_id row.0 (keys_of rows) d))
  where
    by : (b : Bool) → same_id id row.0 ≡ b → id_crashed id rows ≡ set_value (same_id id) rows false →
        ((row.0, cond b false row.1) ∷ id_crashed id rows) ≡ cond b ((row.0, false) ∷ rows)
        (row ∷ set_value (same_id id) rows false)
    by true e rest = ap (λ tail. (row.0, false) ∷ tail) (id_crashed-elsewhere id row rows e d)
    by false e rest = ap (λ tail. row ∷ tail) rest

-- where the id isn't marked up, nothing changes
pub id_crashed-down : (id : ServerId) (rows : Rows) → IsDistinct same_id (keys_of rows) → marked_up rows id ≡ false →
    id_crashed id rows ≡ rows
id_crashed-down id [] d h = refl
id_crashed-down id (row ∷ rows) d h =
    by (same_id id row.0) refl h (id_crashed-down id rows (IsDistinct-tail same_id row.0 (keys_of rows) d))
  where
    by : (b : Bool) → same_id id row.0 ≡ b → cond b row.1 (marked_up rows id) ≡ false →
        (marked_up rows id ≡ false → id_crashed id rows ≡ rows)
        → ((row.0, cond b false row.1) ∷ id_crashed id rows) ≡ (row ∷ rows)
    by true e down rest = ap (λ tail. (row.0, false) ∷ tail) (id_crashed-elsewhere id row rows e d) ∙
        ap (λ up. (row.0, up) ∷ rows) (sym down)
    by false e down rest = ap (λ tail. row ∷ tail) (rest down)

pub unchanged-down : (id : ServerId) (rows new : Rows) (was_up : Bool) → IsDistinct same_id (keys_of rows) →
    was_up ≡ marked_up rows id → new ≡ id_crashed id rows → OnFalse was_up (new ≡ rows)
unchanged-down id rows new true d h e = tt
unchanged-down id rows new false d h e = e ∙ id_crashed-down id rows d (sym h)

-- an id is newest where each known one is of another index or of a lower generation
abbrev pub is_older : ServerId → ServerId → Bool
is_older id known = not (nat_eq known.index id.index) || nat_lt known.generation id.generation

pub is_newest-list_all : (id : ServerId) (rows : Rows) → is_newest id rows ≡ list_all (is_older id) (keys_of rows)
is_newest-list_all id [] = refl
is_newest-list_all id (row ∷ rows) = by (nat_eq row.0.index id.index) (nat_lt row.0.generation id.generation) (is_newest-list_all id rows)
  where
    by : (same older : Bool) {rest all : Bool} → rest ≡ all → (cond same older true && rest) ≡ ((not same || older) && all)
    by true true e = e
    by true false e = refl
    by false true e = e
    by false false e = e

-- a newest id is not known
pub is_newest-unknown : (id : ServerId) (rows : Rows) → is_newest id rows ≡ true → knows rows id ≡ false
is_newest-unknown id [] h = refl
is_newest-unknown id (row ∷ rows) h = grind (arith, nat_tests, is_newest-unknown id rows)

-- an id that is not known goes last
pub insert_entry-unknown : (rows : Rows) (id : ServerId) (up : Bool) → knows rows id ≡ false →
    insert_entry same_id rows id up ≡ rows ++ (id, up) ∷ []
insert_entry-unknown [] id up h = refl
insert_entry-unknown (row ∷ rows) id up h = by (same_id id row.0) h (insert_entry-unknown rows id up)
  where
    by : (b : Bool) → (b || knows rows id) ≡ false → (knows rows id ≡ false → insert_entry same_id rows id up ≡ rows ++ (id, up) ∷ [])
        → cond b ((row.0, up) ∷ rows) (row ∷ insert_entry same_id rows id up) ≡ row ∷ rows ++ (id, up) ∷ []
    by true h rest = absurd (true≢false h)
    by false h rest = ap (λ tail. row ∷ tail) (rest h)

-- a row for an id unless it has one
pub added-unknown : (rows new : Rows) (id : ServerId) (up : Bool) → is_some (lookup (same_id id) rows) ≡ false →
    new ≡ insert_entry same_id rows id up → new ≡ (if knows rows id then rows else rows ++ (id, up) ∷ [])
added-unknown rows new id up absent added =
    let unknown : knows rows id ≡ false = knows-lookup rows id ∙ absent in
    added ∙ insert_entry-unknown rows id up unknown ∙ ap (λ b. if b then rows else rows ++ (id, up) ∷ []) (sym unknown)

pub kept-known : (rows : Rows) (id : ServerId) (up : Bool) → is_some (lookup (same_id id) rows) ≡ true →
    rows ≡ (if knows rows id then rows else rows ++ (id, up) ∷ [])
kept-known rows id up found = ap (λ b. if b then rows else rows ++ (id, up) ∷ []) (sym (knows-lookup rows id ∙ found))

-- a row that a List message tells of counts unless its id has one
pub first_rows-row : (before rest : Rows) (row : ServerId × Bool) →
    first_rows before (row ∷ rest) ≡ first_rows (if knows before row.0 then before else before ++ row ∷ []) rest
first_rows-row before rest row = by (knows before row.0)
  where
    by : (b : Bool) → cond b (first_rows before rest) (first_rows (before ++ row ∷ []) rest) ≡ first_rows
        (if b then before else before ++ row ∷ []) rest
    by true = refl
    by false = refl

-- of rows of different ids, none is of an id that stands before it
apart : (x : ServerId) (before rows : Rows) (row : ServerId × Bool) →
    AllByRecursion (λ other. same_id x other ≡ false) (keys_of (before ++ row ∷ rows)) → same_id x row.0 ≡ false
apart x [] rows row h = h.0
apart x (other ∷ before) rows row h = apart x before rows row h.1

unknown_before : (before rows : Rows) (row : ServerId × Bool) → IsDistinct same_id (keys_of (before ++ row ∷ rows)) →
    knows before row.0 ≡ false
unknown_before [] rows row d = refl
unknown_before (other ∷ before) rows row d =
    let apart_from : same_id row.0 other.0 ≡ false = same_id-sym row.0 other.0 ∙ apart other.0 before rows row
    (IsDistinct-head same_id other.0 (keys_of (before ++ row ∷ rows)) d) in
    ap (λ b. b || knows before row.0) apart_from ∙ unknown_before before rows row
    (IsDistinct-tail same_id other.0 (keys_of (before ++ row ∷ rows)) d)

-- so rows of different ids, inserted in turn, are those rows
insert_all-distinct : (before rows : Rows) → IsDistinct same_id (keys_of (before ++ rows)) → insert_all same_id before rows ≡ before ++ rows
insert_all-distinct before [] d = sym (append-nil before)
insert_all-distinct before (row ∷ rows) d =
    let joined : (before ++ row ∷ []) ++ rows ≡ before ++ row ∷ rows = append_assoc before (row ∷ []) rows in
    let P : Rows → Type 0 = λ l. IsDistinct same_id (keys_of l) in
    ap (λ l. insert_all same_id l rows) (insert_entry-unknown before row.0 row.1 (unknown_before before rows row d))
    ∙ insert_all-distinct (before ++ row ∷ []) rows (subst P (sym joined) d) ∙ joined

pub insert_all-rows : (rows : Rows) → IsDistinct same_id (keys_of rows) → insert_all same_id [] rows ≡ rows
insert_all-rows rows d = insert_all-distinct [] rows d

-- the rows before a place are marked, and those from it on are as they were
abbrev pub crashed_below : ℕ → ℕ → Rows → Rows
crashed_below index place rows = index_crashed index (take place rows) ++ drop place rows

pub length-crashed_below : (index place : ℕ) (rows : Rows) → length (crashed_below index place rows) ≡ length rows
length-crashed_below index zero rows = refl
length-crashed_below index (suc place) [] = refl
length-crashed_below index (suc place) (row ∷ rows) = ap suc (length-crashed_below index place rows)

-- the row at the place, which has this id and this mark, is marked next
pub crashed_below-more : (index place : ℕ) (rows : Rows) (id : ServerId) (up : Bool) →
    slice_get (crashed_below index place rows) place ≡ Some (id, up)
    → crashed_below index (suc place) rows ≡ cond (nat_eq id.index index)
    (set_value_at (crashed_below index place rows) place false) (crashed_below index place rows)
crashed_below-more index zero [] id up h = cc
crashed_below-more index (suc place) [] id up h = cc
crashed_below-more index zero (row ∷ rows) id up h =
    let e : row ≡ (id, up) = cc in
    subst (λ (r : ServerId × Bool). ((row.0, cond (nat_eq row.0.index index) false row.1) ∷ rows) ≡ cond
    (nat_eq r.0.index index) ((row.0, false) ∷ rows) (row ∷ rows)) e (by (nat_eq row.0.index index))
  where
    by : (b : Bool) → ((row.0, cond b false row.1) ∷ rows) ≡ cond b ((row.0, false) ∷ rows) (row ∷ rows)
    by true = refl
    by false = refl
crashed_below-more index (suc place) (row ∷ rows) id up h = by (nat_eq id.index index) (crashed_below-more index place rows id up h)
  where
    first : ServerId × Bool
    first = (row.0, cond (nat_eq row.0.index index) false row.1)

    by : (b : Bool) → crashed_below index (suc place) rows ≡ cond b
        (set_value_at (crashed_below index place rows) place false) (crashed_below index place rows)
        → (first ∷ crashed_below index (suc place) rows) ≡ cond b
        (first ∷ set_value_at (crashed_below index place rows) place false) (first ∷ crashed_below index place rows)
    by true rest = ap (λ tail. first ∷ tail) rest
    by false rest = ap (λ tail. first ∷ tail) rest

-- a step of the loop at a row of the index, and at another
pub crashed_below-marked : (index place : ℕ) (rows now : Rows) (id : ServerId) (up : Bool) →
    now ≡ crashed_below index place rows → slice_get now place ≡ Some (id, up)
    → id.index ≡ index → set_value_at now place false ≡ crashed_below index (place + 1) rows
crashed_below-marked index place rows now id up e found same =
    let step = crashed_below-more index place rows id up (subst (λ l. slice_get l place ≡ Some (id, up)) e found) in
    let b : nat_eq id.index index ≡ true = grind (arith, nat_tests) in
    ap (λ l. set_value_at l place false) e
    ∙ sym (step ∙ ap (λ t. cond t (set_value_at (crashed_below index place rows) place false) (crashed_below index place rows)) b)
    ∙ ap (λ n. crashed_below index n rows) (sym (add-one place))

set_value_at-same : (rows : Rows) (place : ℕ) (id : ServerId) (up : Bool) → slice_get rows place ≡ Some (id, up) →
    set_value_at rows place up ≡ rows
set_value_at-same [] place id up found = refl
set_value_at-same (row ∷ rows) zero id up found =
    let e : row ≡ (id, up) = cc in
    ap (λ (r : ServerId × Bool). (row.0, r.1) ∷ rows) (sym e)
set_value_at-same (row ∷ rows) (suc place) id up found = ap (λ tail. row ∷ tail) (set_value_at-same rows place id up found)

pub crashed_below-kept : (index place : ℕ) (rows now : Rows) (id : ServerId) (up : Bool) →
    now ≡ crashed_below index place rows → slice_get now place ≡ Some (id, up)
    → (id.index ≡ index → ⊥) → set_value_at now place up ≡ crashed_below index (place + 1) rows
crashed_below-kept index place rows now id up e found other =
    let step = crashed_below-more index place rows id up (subst (λ l. slice_get l place ≡ Some (id, up)) e found) in
    let b : nat_eq id.index index ≡ false = grind (arith, nat_tests) in
    set_value_at-same now place id up found ∙ e ∙
    sym (step ∙ ap (λ t. cond t (set_value_at (crashed_below index place rows) place false)
    (crashed_below index place rows)) b) ∙ ap (λ n. crashed_below index n rows) (sym (add-one place))

-- the marks of all rows but the last one, which is new
pub enlisted-rows : (id : ServerId) (old with_id new : Rows) (count : ℕ) → is_newest id old ≡ true →
    with_id ≡ insert_entry same_id old id true → count ≡ length old
    → new ≡ index_crashed id.index (take count with_id) ++ drop count with_id → new ≡ index_crashed id.index old ++ (id, true) ∷ []
enlisted-rows id old with_id new count newest added all marked =
    let e : with_id ≡ old ++ (id, true) ∷ [] = added ∙ insert_entry-unknown old id true (is_newest-unknown id old newest) in
    marked ∙ ap (λ l. crashed_below id.index count l) e
    ∙ (λ j. index_crashed id.index (take_at old ((id, true) ∷ []) count (sym all) j) ++ drop_at old ((id, true) ∷ []) count (sym all) j)
