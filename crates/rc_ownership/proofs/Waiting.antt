-- The entries that wait: at the cursor, once one is taken, and once rows have joined.
use Rattle.std.proofs.Common.{◌≡◌, ℕ, ◌+◌, ◌-◌, ◌<◌, ◌≤◌, List, [], ◌∷◌, ◌++◌, map, length, take}
use Rattle.std.proofs.Common.{drop, append_assoc, length-append, sym}
use Rattle.std.proofs.Common.{ap, subst, ◌∙◌, refl, arith, zero, suc, nat_lt}
use Rattle.std.proofs.lemmas.Bool.Decides.{nat_tests}
use Rattle.std.proofs.lemmas.List.{append-nil, map-append, length-drop, drop-drop, drop-append-le, take-append-le, take-take}
use Rattle.std.proofs.lemmas.List.{length-take-le}
use Rattle.std.proofs.Math.Seq.{drop-append_seam}
use Rattle.std.specs.Prelude.{slice_get, slice_index_or, unwrap_or}
use Rattle.rc_model.specs.Model.{Entry, PartRow, under_term, entries_that_came}
use Rattle.rc_ownership.specs.Replay.{all_waiting, waiting_from, NoneIsEmpty, IsPlace, IsReplay}

-- Lists none of which is empty

pub none_empty-append : (rows more : List (List Entry)) → NoneIsEmpty rows → NoneIsEmpty more → NoneIsEmpty (rows ++ more)
none_empty-append [] more none others = others
none_empty-append (row ∷ rows) more none others = (none.0, none_empty-append rows more none.1 others)

pub none_empty-drop : (rows : List (List Entry)) (count : ℕ) → NoneIsEmpty rows → NoneIsEmpty (drop count rows)
none_empty-drop [] zero none = tt
none_empty-drop [] (suc count) none = tt
none_empty-drop (row ∷ rows) zero none = none
none_empty-drop (row ∷ rows) (suc count) none = none_empty-drop rows count none.1

pub none_empty-take : (rows : List (List Entry)) (count : ℕ) → NoneIsEmpty rows → NoneIsEmpty (take count rows)
none_empty-take [] zero none = tt
none_empty-take [] (suc count) none = tt
none_empty-take (row ∷ rows) zero none = tt
none_empty-take (row ∷ rows) (suc count) none = (none.0, none_empty-take rows count none.1)

-- Places

pub first_place : (rows : List (List Entry)) → NoneIsEmpty rows → IsPlace 0 rows
first_place [] none = refl
first_place (row ∷ rows) none = none.0

place-append : (rows more : List (List Entry)) (place : ℕ) → NoneIsEmpty more → IsPlace place rows → IsPlace place (rows ++ more)
place-append [] more place none h = subst (λ p. IsPlace p more) (sym h) (first_place more none)
place-append (row ∷ rows) more place none h = h

-- an entry waits where a row is left
pub waits : (rows : List (List Entry)) (row place : ℕ) → row ≤ length rows → IsPlace place (drop row rows) →
    nat_lt row (length rows) ≡ nat_lt 0 (length (waiting_from place (drop row rows)))
waits rows row place within h = by (drop row rows) (length-drop row rows) h
  where
    by : (rest : List (List Entry)) → length rest ≡ length rows - row → IsPlace place rest →
        nat_lt row (length rows) ≡ nat_lt 0 (length (waiting_from place rest))
    by [] left none = outside (length rows) (drop place []) (omega (arith, left))
        (omega (arith, length-drop place (let none : List Entry = [] in none)))
      where
        outside : (count : ℕ) (entries : List Entry) → count ≤ row → length entries ≡ 0 → nat_lt row count ≡ nat_lt 0 (length entries)
        outside count entries past none = grind (arith, nat_tests)
    by (first ∷ rest) left there =
        inside (length rows) (length (drop place (first ++ all_waiting rest))) (omega (arith, left))
        (omega (arith, length-drop place (first ++ all_waiting rest), length-append first (all_waiting rest), there))
      where
        inside : (count more : ℕ) → row < count → 0 < more → nat_lt row count ≡ nat_lt 0 more
        inside count more one other = grind (arith, nat_tests)

-- The first entry that waits

-- the rows from a place on begin with the one at the place
pub drop-at : (rows : List (List Entry)) (place : ℕ) (row : List Entry) → place < length rows →
    row ≡ slice_index_or rows place row → drop place rows ≡ row ∷ drop (place + 1) rows
drop-at [] place row within is = absurd (omega arith)
drop-at (first ∷ rows) zero row within is = ap (λ r. r ∷ rows) (sym is)
drop-at (first ∷ rows) (suc place) row within is =
    drop-at rows place row (omega arith) is ∙ ap (λ count. row ∷ drop count (first ∷ rows)) (moved place)
  where
    moved : (n : ℕ) → suc (n + 1) ≡ suc n + 1
    moved n = omega arith

get-drop : (entries more : List Entry) (place : ℕ) → place < length entries →
    slice_get entries place ≡ slice_get (drop place (entries ++ more)) 0
get-drop [] more place within = absurd (omega arith)
get-drop (entry ∷ entries) more zero within = refl
get-drop (entry ∷ entries) more (suc place) within = get-drop entries more place (omega arith)

next-drop : (entries : List Entry) (place : ℕ) → drop (place + 1) entries ≡ drop 1 (drop place entries)
next-drop [] zero = refl
next-drop [] (suc place) = ap (λ count. drop count (let none : List Entry = [] in none)) (moved place)
  where
    moved : (n : ℕ) → suc n + 1 ≡ suc (n + 1)
    moved n = omega arith
next-drop (entry ∷ entries) zero = refl
next-drop (entry ∷ entries) (suc place) = ap (λ count. drop count (entry ∷ entries)) (moved place) ∙ next-drop entries place
  where
    moved : (n : ℕ) → suc n + 1 ≡ suc (n + 1)
    moved n = omega arith

-- the row at the cursor, and what waits from there on
pub record IsRowAt (rows : List (List Entry)) (row place : ℕ) (entries : List Entry) : Type 0 where
  pub within : row < length rows
  pub is : entries ≡ slice_index_or rows row entries
  pub place_now : IsPlace place (drop row rows)

pub place-row : (rows : List (List Entry)) (row place : ℕ) (entries : List Entry) → IsRowAt rows row place entries → place < length entries
place-row rows row place entries at = subst (IsPlace place) (drop-at rows row entries at.within at.is) at.place_now

-- the entry at the cursor is the first that waits
pub first_waiting : (rows : List (List Entry)) (row place : ℕ) (entries : List Entry) → IsRowAt rows row place entries →
    slice_get entries place ≡ slice_get (waiting_from place (drop row rows)) 0
first_waiting rows row place entries at =
    get-drop entries (all_waiting (drop (row + 1) rows)) place (place-row rows row place entries at)
    ∙ ap (λ rest. slice_get (waiting_from place rest) 0) (sym (drop-at rows row entries at.within at.is))

-- the cursor moves on in its row
pub next_place : (rows : List (List Entry)) (row place : ℕ) →
    waiting_from (place + 1) (drop row rows) ≡ drop 1 (waiting_from place (drop row rows))
next_place rows row place = next-drop (all_waiting (drop row rows)) place

-- the cursor moves on to the next row
pub next_row : (rows : List (List Entry)) (row place : ℕ) (entries : List Entry) → IsRowAt rows row place entries →
    length entries ≤ place + 1 →
    waiting_from 0 (drop (row + 1) rows) ≡ drop 1 (waiting_from place (drop row rows))
next_row rows row place entries at last =
    let there : place < length entries = place-row rows row place entries at in
    let rest = all_waiting (drop (row + 1) rows) in
    sym (drop-append_seam entries rest)
    ∙ ap (λ count. drop count (entries ++ rest)) (let e : length entries ≡ place + 1 = omega arith in e)
    ∙ next-drop (entries ++ rest) place
    ∙ ap (λ left. drop 1 (waiting_from place left)) (sym (drop-at rows row entries at.within at.is))

pub replay-next_row : (rows : List (List Entry)) (kept first row place : ℕ) → IsReplay rows kept first row place →
    row < length rows → IsReplay rows kept first (row + 1) 0
replay-next_row rows kept first row place is within = record {
  none_empty = is.none_empty;
  kept_within = is.kept_within;
  row_within = omega (arith, within);
  place_before = is.place_before;
  place_now = first_place (drop (row + 1) rows) (none_empty-drop rows (row + 1) is.none_empty);
}

-- Rows that join

pub replay-joined : (rows more : List (List Entry)) (kept first row place : ℕ) → IsReplay rows kept first row place →
    NoneIsEmpty more → IsReplay (rows ++ more) kept first row place
replay-joined rows more kept first row place is none = record {
  none_empty = none_empty-append rows more is.none_empty none;
  kept_within = omega (arith, is.kept_within, length-append rows more);
  row_within = omega (arith, is.row_within, length-append rows more);
  place_before = subst (IsPlace first) (sym (take-append-le kept rows more is.kept_within)) is.place_before;
  place_now = subst (IsPlace place) (sym (drop-append-le row rows more is.row_within))
      (place-append (drop row rows) more place none is.place_now);
}

entries-push : (rows : List PartRow) (row : PartRow) → entries_that_came (rows ++ row ∷ []) ≡ entries_that_came rows ++
    unwrap_or row.came []
entries-push [] row = append-nil (unwrap_or row.came [])
entries-push (first ∷ rows) row =
    ap (λ entries. unwrap_or first.came [] ++ entries) (entries-push rows row)
    ∙ sym (append_assoc (unwrap_or first.came []) (entries_that_came rows) (unwrap_or row.came []))

pub length_under : (term : ℕ) (entries : List Entry) → length (map (under_term term) entries) ≡ length entries
length_under term [] = refl
length_under term (entry ∷ entries) = ap suc (length_under term entries)

-- one row more joins
pub joined-push : (term : ℕ) (old new : List (List Entry)) (rows : List PartRow) (row : PartRow) →
    all_waiting old ≡ map (under_term term) (entries_that_came rows) →
    all_waiting new ≡ all_waiting old ++ map (under_term term) (unwrap_or row.came []) →
    all_waiting new ≡ map (under_term term) (entries_that_came (rows ++ row ∷ []))
joined-push term old new rows row before pushed =
    pushed
    ∙ ap (λ entries. entries ++ map (under_term term) (unwrap_or row.came [])) before
    ∙ sym (map-append (under_term term) (entries_that_came rows) (unwrap_or row.came []))
    ∙ ap (map (under_term term)) (sym (entries-push rows row))

-- Going on

-- the row before the cursor is let go
pub passed : (rows : List (List Entry)) (row : ℕ) → 0 < row → drop (row - 1) (drop 1 rows) ≡ drop row rows
passed rows row more = drop-drop (row - 1) 1 rows ∙ ap (λ count. drop count rows) (let e : 1 + (row - 1) ≡ row = omega arith in e)

-- Going back

take_again : (rows : List (List Entry)) (count : ℕ) → take count (take count rows) ≡ take count rows
take_again rows count = take-take count count rows (omega arith)

pub replay-restored : (rows : List (List Entry)) (kept first row place : ℕ) → IsReplay rows kept first row place →
    IsReplay (take kept rows) kept first 0 first
replay-restored rows kept first row place is = record {
  none_empty = none_empty-take rows kept is.none_empty;
  kept_within = omega (arith, length-take-le kept rows is.kept_within);
  row_within = omega arith;
  place_before = subst (IsPlace first) (sym (take_again rows kept)) is.place_before;
  place_now = is.place_before;
}
