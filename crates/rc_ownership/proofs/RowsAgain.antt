-- The rows of a part, where one that came has not come.
use Rattle.std.proofs.Common.{◌≡◌, ℕ, ◌+◌, ◌-◌, ◌<◌, ◌≤◌, Bool, true, false, cond, not, ◌||◌, is_some, Some}
use Rattle.std.proofs.Common.{None, Option, List, [], ◌∷◌}
use Rattle.std.proofs.Common.{◌++◌, length, length-append, filter, zero, suc, sym, ap, ◌∙◌, refl, arith}
use Rattle.std.specs.Prelude.{slice_index_or, slice_set, unwrap_or}
use Rattle.std.specs.List.{list_any, position_or_len}
use Rattle.rc_model.specs.Model.{ServerId, Part, Entry, PartRow, PartState, is_awaited, with_row, entries_that_came}
use Rattle.rc_ownership.specs.Rows.{count_missing, size_of, AreInOrder, AreCounted, awaited_again}
use Rattle.rc_ownership.proofs.PartRows.{awaited-none, size_of-some, some-length, length-with_row}

-- a row that hasn't come
abbrev emptied : PartRow → PartRow
emptied row = record row { came = None }

-- what is written at the place
pub again-set : (rows : List PartRow) (place : ℕ) (row : PartRow) → place < length rows →
    row ≡ slice_index_or rows place row → slice_set rows place (record row { came = None }) ≡ awaited_again place rows
again-set [] place row within is = absurd (omega arith)
again-set (first ∷ rows) zero row within is = ap (λ r. emptied r ∷ rows) is
again-set (first ∷ rows) (suc place) row within is = ap (λ rest. first ∷ rest) (again-set rows place row (omega arith) is)

pub again-beyond : (rows : List PartRow) (place : ℕ) → length rows ≤ place → awaited_again place rows ≡ rows
again-beyond [] place past = refl
again-beyond (first ∷ rows) zero past = absurd (omega arith)
again-beyond (first ∷ rows) (suc place) past = ap (λ rest. first ∷ rest) (again-beyond rows place (omega arith))

same_empty : (row : PartRow) → row.came ≡ None → emptied row ≡ row
same_empty row none = ap (λ came. let one : PartRow = record row { came = came } in one) (sym none)

-- a row that hasn't come stays as it is
pub again-none : (rows : List PartRow) (place : ℕ) (row : PartRow) → place < length rows →
    row ≡ slice_index_or rows place row → row.came ≡ None → awaited_again place rows ≡ rows
again-none [] place row within is none = refl
again-none (first ∷ rows) zero row within is none =
    ap (λ r. r ∷ rows) (same_empty first (ap (λ r. r.came) (sym is) ∙ none))
again-none (first ∷ rows) (suc place) row within is none = ap (λ rest. first ∷ rest) (again-none rows place row (omega arith) is none)

pub length-again : (place : ℕ) (rows : List PartRow) → length (awaited_again place rows) ≡ length rows
length-again place [] = refl
length-again zero (row ∷ rows) = refl
length-again (suc place) (row ∷ rows) = ap suc (length-again place rows)

seg-again : (rows : List PartRow) (place at : ℕ) (other : PartRow) →
    (slice_index_or (awaited_again place rows) at other).seg ≡ (slice_index_or rows at other).seg
seg-again [] place at other = refl
seg-again (row ∷ rows) zero zero other = refl
seg-again (row ∷ rows) zero (suc at) other = refl
seg-again (row ∷ rows) (suc place) zero other = refl
seg-again (row ∷ rows) (suc place) (suc at) other = seg-again rows place at other

ordered-again : (rows : List PartRow) (place : ℕ) → AreInOrder rows → AreInOrder (awaited_again place rows)
ordered-again rows place order low high other below within =
    omega (
      arith,
      order low high other below (omega (arith, within, length-again place rows)),
      seg-again rows place low other,
      seg-again rows place high other,
    )

-- one row more is missing
pub missing-again : (rows : List PartRow) (place : ℕ) (row : PartRow) (entries : List Entry) → place < length rows →
    row ≡ slice_index_or rows place row → row.came ≡ Some entries →
    count_missing (awaited_again place rows) ≡ count_missing rows + 1
missing-again [] place row entries within is some = absurd (omega arith)
missing-again (first ∷ rows) zero row entries within is some =
    by first.came (ap (λ r. r.came) (sym is) ∙ some)
  where
    by : (came : Option (List Entry)) → came ≡ Some entries →
        suc (length (filter (λ one. not (is_some one.came)) rows)) ≡ length (cond (not (is_some came))
        (first ∷ filter (λ one. not (is_some one.came)) rows) (filter (λ one. not (is_some one.came)) rows)) + 1
    by None h = absurd (cc)
    by (Some held) h = omega arith
missing-again (first ∷ rows) (suc place) row entries within is some =
    by (not (is_some first.came)) (missing-again rows place row entries (omega arith) is some)
  where
    by : (b : Bool) → count_missing (awaited_again place rows) ≡ count_missing rows + 1 →
        length (cond b (first ∷ filter (λ one. not (is_some one.came)) (awaited_again place rows))
        (filter (λ one. not (is_some one.came)) (awaited_again place rows)))
        ≡ length (cond b (first ∷ filter (λ one. not (is_some one.came)) rows) (filter (λ one. not (is_some one.came)) rows)) + 1
    by true later = omega (arith, later)
    by false later = later

missing-le : (rows : List PartRow) → count_missing rows ≤ length rows
missing-le [] = omega arith
missing-le (row ∷ rows) = by (not (is_some row.came)) (missing-le rows)
  where
    by : (b : Bool) → count_missing rows ≤ length rows →
        length (cond b (row ∷ filter (λ one. not (is_some one.came)) rows) (filter (λ one. not (is_some one.came)) rows))
        ≤ length (row ∷ rows)
    by true later = omega (arith, later)
    by false later = omega (arith, later)

pub missing-fits : (rows : List PartRow) (place : ℕ) (row : PartRow) (entries : List Entry) → place < length rows →
    row ≡ slice_index_or rows place row → row.came ≡ Some entries → count_missing rows + 1 ≤ length rows
missing-fits rows place row entries within is some =
    omega (
      arith,
      missing-again rows place row entries within is some,
      missing-le (awaited_again place rows),
      length-again place rows,
    )

-- its entries are gone
pub entries-again : (rows : List PartRow) (place : ℕ) (row : PartRow) (entries : List Entry) → place < length rows →
    row ≡ slice_index_or rows place row → row.came ≡ Some entries →
    length (entries_that_came rows) ≡ length (entries_that_came (awaited_again place rows)) + length entries
entries-again [] place row entries within is some = absurd (omega arith)
entries-again (first ∷ rows) zero row entries within is some =
    ap (λ came. length (unwrap_or came [] ++ entries_that_came rows)) (ap (λ r. r.came) (sym is) ∙ some)
    ∙ omega (arith, length-append entries (entries_that_came rows))
entries-again (first ∷ rows) (suc place) row entries within is some =
    omega (
      arith,
      entries-again rows place row entries (omega arith) is some,
      length-append (unwrap_or first.came []) (entries_that_came rows),
      length-append (unwrap_or first.came []) (entries_that_came (awaited_again place rows)),
    )

-- the counts beside the rows then
pub counted-again : (rows : List PartRow) (place : ℕ) (row : PartRow) (entries : List Entry) (missing count : ℕ) →
    place < length rows → row ≡ slice_index_or rows place row → row.came ≡ Some entries →
    AreCounted rows missing count → AreCounted (awaited_again place rows) (missing + 1) (count - length entries)
counted-again rows place row entries missing count within is some counts = record {
  in_order = ordered-again rows place counts.in_order;
  missing_are = omega (arith, counts.missing_are, missing-again rows place row entries within is some);
  entries_are = λ more. omega (
    arith,
    counts.entries_are (omega (arith, within)),
    entries-again rows place row entries within is some,
  );
}

-- the part then
pub part_again : (part : Part) (rows after : List PartRow) (count now_count place : ℕ) (answered : Bool) (old : PartState) →
    place < length rows →
    record { part = part; rows = rows; size = size_of rows count; answered = answered } ≡ old →
    after ≡ awaited_again place rows →
    record { part = part; rows = after; size = size_of after now_count; answered = answered }
    ≡ record old { rows = awaited_again place old.rows }
part_again part rows after count now_count place answered old within is again =
    let there : 0 < length rows = omega (arith, within) in
    let still : 0 < length (awaited_again place rows) = omega (arith, within, length-again place rows) in
    ap (λ r. let state : PartState = record { part = part; rows = r; size = size_of r now_count; answered = answered } in state) again
    ∙ ap (λ n. let state : PartState = record {
      part = part;
      rows = awaited_again place rows;
      size = n;
      answered = answered;
    } in state)
    (size_of-some (awaited_again place rows) now_count still ∙ sym (size_of-some rows count there))
    ∙ ap (λ state. let now : PartState = record state { rows = awaited_again place state.rows } in now) is

pub part_still : (place : ℕ) (old : PartState) → awaited_again place old.rows ≡ old.rows →
    old ≡ record old { rows = awaited_again place old.rows }
part_still place old same = ap (λ rows. let state : PartState = record old { rows = rows } in state) (sym same)

-- a row that was awaited is awaited again
pub again-with_row : (seg : ℕ) (from : ServerId) (entries : List Entry) (rows : List PartRow) →
    list_any (is_awaited seg from) rows ≡ true →
    awaited_again (position_or_len (is_awaited seg from) rows) (with_row seg from entries rows) ≡ rows
again-with_row seg from entries [] some = refl
again-with_row seg from entries (row ∷ rows) some =
    by (is_awaited seg from row) (position_or_len (is_awaited seg from) rows) (awaited-none seg from row) some
    (again-with_row seg from entries rows)
  where
    by : (b : Bool) (n : ℕ) → (b ≡ true → row.came ≡ None) → (b || list_any (is_awaited seg from) rows) ≡ true →
        (list_any (is_awaited seg from) rows ≡ true → awaited_again n (with_row seg from entries rows) ≡ rows) →
        awaited_again (cond (not b) (1 + n) 0) (cond b (record row { came = Some entries } ∷ rows)
        (row ∷ with_row seg from entries rows)) ≡ row ∷ rows
    by true n none some later = ap (λ r. r ∷ rows) (same_empty row (none refl))
    by false n none some later =
        let e : 1 + n ≡ suc n = omega arith in
        ap (λ at. awaited_again at (row ∷ with_row seg from entries rows)) e ∙ ap (λ rest. row ∷ rest) (later some)

-- and so the part is what it was
pub part_unput : (seg : ℕ) (from : ServerId) (entries : List Entry) (part : Part) (rows after : List PartRow)
    (count more place : ℕ) (answered : Bool) (old : PartState) →
    record { part = part; rows = rows; size = size_of rows count; answered = answered } ≡ old →
    after ≡ with_row seg from entries rows → list_any (is_awaited seg from) rows ≡ true →
    place ≡ position_or_len (is_awaited seg from) rows →
    record { part = part; rows = awaited_again place after; size = size_of after more; answered = answered } ≡ old
part_unput seg from entries part rows after count more place answered old is put some first =
    let there : 0 < length rows = some-length (is_awaited seg from) rows some in
    let still : 0 < length after = omega (arith, there, ap length put, length-with_row seg from entries rows) in
    ap (λ r. let state : PartState = record { part = part; rows = r; size = size_of after more; answered = answered } in state)
    (ap (awaited_again place) put ∙ ap (λ at. awaited_again at (with_row seg from entries rows)) first
    ∙ again-with_row seg from entries rows some)
    ∙ ap (λ n. let state : PartState = record { part = part; rows = rows; size = n; answered = answered } in state)
    (size_of-some after more still ∙ sym (size_of-some rows count there))
    ∙ is
