-- The rows of a part once one more has come, and what is counted of them.
use Rattle.std.proofs.Common.{◌≡◌, ℕ, ◌+◌, ◌-◌, ◌<◌, Bool, true, false, cond, not, ◌||◌, ◌&&◌, nat_eq, nat_lt}
use Rattle.std.proofs.Common.{is_some, Option, Some}
use Rattle.std.proofs.Common.{None, position, map, List, [], ◌∷◌, ◌++◌, length, length-append, filter, zero, suc, sym, ap}
use Rattle.std.proofs.Common.{subst, ◌∙◌}
use Rattle.std.proofs.Common.{refl, arith, true≢false}
use Rattle.std.proofs.lemmas.Bool.Decides.{nat_tests}
use Rattle.std.specs.Prelude.{slice_index_or, slice_set, unwrap_or}
use Rattle.std.specs.List.{list_any, position_or_len}
use Rattle.rc_model.specs.Model.{ServerId, Part, Entry, PartRow, PartState, part_with_row, is_awaited, awaited_row, with_row, insert_row}
use Rattle.rc_model.specs.Model.{rows_in_order, all_came, entries_that_came}
use Rattle.rc_ownership.specs.Rows.{count_missing, size_of, AreInOrder, AreCounted}
use Rattle.rc_ownership.proofs.RowOrder.{ordered}

-- Places

any-found : (p : PartRow → Bool) (rows : List PartRow) → nat_lt (position_or_len p rows) (length rows) ≡ list_any p rows
any-found p [] = grind (arith, nat_tests)
any-found p (row ∷ rows) = by (p row) (position_or_len p rows) (any-found p rows)
  where
    by : (b : Bool) (n : ℕ) → nat_lt n (length rows) ≡ list_any p rows →
        nat_lt (cond (not b) (1 + n) 0) (length (row ∷ rows)) ≡ (b || list_any p rows)
    by true n later = grind (arith, nat_tests)
    by false n later = shift n (length rows) ∙ later
      where
        shift : (one other : ℕ) → nat_lt (1 + one) (suc other) ≡ nat_lt one other
        shift one other = grind (arith, nat_tests)

some_if : (b : Bool) (n : ℕ) → is_some (cond b (Some n) None) ≡ b
some_if true n = refl
some_if false n = refl

-- a place is found where some row passes
pub found-any : (p : PartRow → Bool) (rows : List PartRow) → is_some (position p rows) ≡ list_any p rows
found-any p rows = some_if (nat_lt (position_or_len p rows) (length rows)) (position_or_len p rows) ∙ any-found p rows

pub any-place : (p : PartRow → Bool) (rows : List PartRow) (found : Option ℕ) (place : ℕ) → found ≡ position p rows →
    found ≡ Some place → list_any p rows ≡ true
any-place p rows found place searched is = sym (found-any p rows) ∙ ap is_some (sym searched ∙ is)

pub any-none : (p : PartRow → Bool) (rows : List PartRow) (found : Option ℕ) → found ≡ position p rows → found ≡ None →
    list_any p rows ≡ false
any-none p rows found searched is = sym (found-any p rows) ∙ ap is_some (sym searched ∙ is)

place_is : (b : Bool) (n place : ℕ) → cond b (Some n) None ≡ Some place → place ≡ n
place_is true n place h = cc
place_is false n place h = absurd (cc)

pub place-first : (p : PartRow → Bool) (rows : List PartRow) (found : Option ℕ) (place : ℕ) → found ≡ position p rows →
    found ≡ Some place → place ≡ position_or_len p rows
place-first p rows found place searched is =
    place_is (nat_lt (position_or_len p rows) (length rows)) (position_or_len p rows) place (sym searched ∙ is)

-- One more row has come

-- what was written at the place is what the row was, filled
pub with_row-at : (seg : ℕ) (from : ServerId) (entries : List Entry) (rows : List PartRow) (row : PartRow) →
    list_any (is_awaited seg from) rows ≡ true →
    row ≡ slice_index_or rows (position_or_len (is_awaited seg from) rows) row →
    slice_set rows (position_or_len (is_awaited seg from) rows) (record row { came = Some entries }) ≡ with_row seg from entries rows
with_row-at seg from entries [] row some is = absurd (true≢false (sym some))
with_row-at seg from entries (first ∷ rows) row some is =
    by (is_awaited seg from first) (position_or_len (is_awaited seg from) rows) some is (with_row-at seg from entries rows row)
  where
    by : (b : Bool) (n : ℕ) → (b || list_any (is_awaited seg from) rows) ≡ true →
        row ≡ slice_index_or (first ∷ rows) (cond (not b) (1 + n) 0) row →
        (list_any (is_awaited seg from) rows ≡ true → row ≡ slice_index_or rows n row →
        slice_set rows n (record row { came = Some entries }) ≡ with_row seg from entries rows) →
        slice_set (first ∷ rows) (cond (not b) (1 + n) 0) (record row { came = Some entries }) ≡ cond b
        (record first { came = Some entries } ∷ rows) (first ∷ with_row seg from entries rows)
    by true n some is later = ap (λ r. let filled : PartRow = record r { came = Some entries } in filled ∷ rows) is
    by false n some is later =
        let e : 1 + n ≡ suc n = omega arith in
        ap (λ place. slice_set (first ∷ rows) place (record row { came = Some entries })) e
        ∙ ap (λ tail. first ∷ tail) (later some (is ∙ ap (λ place. slice_index_or (first ∷ rows) place row) e))

pub length-with_row : (seg : ℕ) (from : ServerId) (entries : List Entry) (rows : List PartRow) →
    length (with_row seg from entries rows) ≡ length rows
length-with_row seg from entries [] = refl
length-with_row seg from entries (row ∷ rows) = by (is_awaited seg from row) (length-with_row seg from entries rows)
  where
    by : (b : Bool) → length (with_row seg from entries rows) ≡ length rows →
        length (cond b (record row { came = Some entries } ∷ rows) (row ∷ with_row seg from entries rows)) ≡ length (row ∷ rows)
    by true later = refl
    by false later = ap suc later

and_last : (a b c : Bool) → (a && (b && c)) ≡ true → c ≡ true
and_last true true c h = h
and_last true false c h = absurd (true≢false (sym h))
and_last false b c h = absurd (true≢false (sym h))

not_some : (came : Option (List Entry)) → not (is_some came) ≡ true → came ≡ None
not_some None h = refl
not_some (Some entries) h = absurd (true≢false (sym h))

-- an awaited row has not come
pub awaited-none : (seg : ℕ) (from : ServerId) (row : PartRow) → is_awaited seg from row ≡ true → row.came ≡ None
awaited-none seg from row h = not_some row.came (and_last (nat_eq row.seg seg) _ (not (is_some row.came)) h)

-- one row fewer is missing
pub missing-with_row : (seg : ℕ) (from : ServerId) (entries : List Entry) (rows : List PartRow) →
    list_any (is_awaited seg from) rows ≡ true →
    count_missing rows ≡ count_missing (with_row seg from entries rows) + 1
missing-with_row seg from entries [] some = absurd (true≢false (sym some))
missing-with_row seg from entries (row ∷ rows) some =
    by (is_awaited seg from row) (awaited-none seg from row) some (missing-with_row seg from entries rows)
  where
    counted : (b : Bool) (n : ℕ) → length (filter (λ one. not (is_some one.came)) rows) ≡ n →
        length (cond b (row ∷ filter (λ one. not (is_some one.came)) rows) (filter (λ one. not (is_some one.came)) rows)) ≡ cond b (n + 1) n
    counted true n h = omega (arith, h)
    counted false n h = h

    kept : (b : Bool) (more : List PartRow) →
        length (cond b (row ∷ filter (λ one. not (is_some one.came)) more)
        (filter (λ one. not (is_some one.came)) more)) + 1
        ≡ cond b (count_missing more + 1 + 1) (count_missing more + 1)
    kept true more = omega arith
    kept false more = refl

    by : (b : Bool) → (b ≡ true → row.came ≡ None) → (b || list_any (is_awaited seg from) rows) ≡ true →
        (list_any (is_awaited seg from) rows ≡ true → count_missing rows ≡ count_missing (with_row seg from entries rows) + 1) →
        count_missing (row ∷ rows) ≡ count_missing
        (cond b (record row { came = Some entries } ∷ rows) (row ∷ with_row seg from entries rows)) + 1
    by true none some later =
        ap (λ came. length (cond (not (is_some came)) (row ∷ filter (λ one. not (is_some one.came)) rows)
        (filter (λ one. not (is_some one.came)) rows))) (none refl) ∙ omega arith
    by false none some later =
        counted (not (is_some row.came)) (count_missing (with_row seg from entries rows) + 1) (later some) ∙
        sym (kept (not (is_some row.came)) (with_row seg from entries rows))

-- its entries are added
pub entries-with_row : (seg : ℕ) (from : ServerId) (entries : List Entry) (rows : List PartRow) →
    list_any (is_awaited seg from) rows ≡ true →
    length (entries_that_came (with_row seg from entries rows)) ≡ length (entries_that_came rows) + length entries
entries-with_row seg from entries [] some = absurd (true≢false (sym some))
entries-with_row seg from entries (row ∷ rows) some =
    by (is_awaited seg from row) (awaited-none seg from row) some (entries-with_row seg from entries rows)
  where
    by : (b : Bool) → (b ≡ true → row.came ≡ None) → (b || list_any (is_awaited seg from) rows) ≡ true →
        (list_any (is_awaited seg from) rows ≡ true →
        length (entries_that_came (with_row seg from entries rows)) ≡ length (entries_that_came rows) + length
        entries) →
        length (entries_that_came (cond b (record row { came = Some entries } ∷ rows) (row ∷ with_row seg from entries rows)))
        ≡ length (unwrap_or row.came [] ++ entries_that_came rows) + length entries
    by true none some later =
        let nothing : length (unwrap_or row.came [] ++ entries_that_came rows) ≡ length (entries_that_came rows) =
        ap (λ came. length (unwrap_or came [] ++ entries_that_came rows)) (none refl) in
        omega (arith, nothing, length-append entries (entries_that_came rows))
    by false none some later =
        omega (
          arith,
          later some,
          length-append (unwrap_or row.came []) (entries_that_came rows),
          length-append (unwrap_or row.came []) (entries_that_came (with_row seg from entries rows)),
        )

seg-with_row : (seg : ℕ) (from : ServerId) (entries : List Entry) (rows : List PartRow) (at : ℕ) (other : PartRow) →
    (slice_index_or (with_row seg from entries rows) at other).seg ≡ (slice_index_or rows at other).seg
seg-with_row seg from entries [] at other = refl
seg-with_row seg from entries (row ∷ rows) at other = by at (is_awaited seg from row) (λ n. seg-with_row seg from entries rows n other)
  where
    by : (n : ℕ) (b : Bool) →
        ((m : ℕ) → (slice_index_or (with_row seg from entries rows) m other).seg ≡ (slice_index_or rows m other).seg) →
        (slice_index_or (cond b (record row { came = Some entries } ∷ rows) (row ∷ with_row seg from entries rows)) n other).seg
        ≡ (slice_index_or (row ∷ rows) n other).seg
    by zero true later = refl
    by zero false later = refl
    by (suc n) true later = refl
    by (suc n) false later = later n

ordered-with_row : (seg : ℕ) (from : ServerId) (entries : List Entry) (rows : List PartRow) → AreInOrder rows →
    AreInOrder (with_row seg from entries rows)
ordered-with_row seg from entries rows order low high other below within =
    omega (
      arith,
      order low high other below (omega (arith, within, length-with_row seg from entries rows)),
      seg-with_row seg from entries rows low other,
      seg-with_row seg from entries rows high other,
    )

-- the counts beside the rows, with one more row
pub counted-with_row : (seg : ℕ) (from : ServerId) (entries : List Entry) (rows : List PartRow) (missing count : ℕ) →
    list_any (is_awaited seg from) rows ≡ true →
    AreCounted rows missing count → AreCounted (with_row seg from entries rows) (missing - 1) (count + length entries)
counted-with_row seg from entries rows missing count some counts = record {
  in_order = ordered-with_row seg from entries rows counts.in_order;
  missing_are = omega (arith, counts.missing_are, missing-with_row seg from entries rows some);
  entries_are = λ more. omega (
    arith,
    counts.entries_are (omega (arith, length-with_row seg from entries rows)),
    entries-with_row seg from entries rows some,
  );
}

-- a part that waits has no size yet
pub size_of-some : (rows : List PartRow) (count : ℕ) → 0 < length rows → size_of rows count ≡ 0
size_of-some [] count more = absurd (omega arith)
size_of-some (row ∷ rows) count more = refl

pub some-length : (p : PartRow → Bool) (rows : List PartRow) → list_any p rows ≡ true → 0 < length rows
some-length p [] some = absurd (true≢false (sym some))
some-length p (row ∷ rows) some = omega arith

-- all have come where none is missing
pub all_came-missing : (rows : List PartRow) → nat_eq (count_missing rows) 0 ≡ all_came rows
all_came-missing [] = grind (arith, nat_tests)
all_came-missing (row ∷ rows) = by (is_some row.came) (all_came-missing rows)
  where
    by : (b : Bool) → nat_eq (count_missing rows) 0 ≡ all_came rows →
        nat_eq (length (cond (not b) (row ∷ filter (λ one. not (is_some one.came)) rows)
        (filter (λ one. not (is_some one.came)) rows))) 0 ≡ (b && all_came rows)
    by true later = later
    by false later = grind (arith, nat_tests)

-- A part that was just begun

-- none of the rows has come
abbrev pub NoneCame : List PartRow → Type 0
NoneCame [] = Unit {0}
NoneCame (row ∷ rows) = (row.came ≡ None) × NoneCame rows

insert-none : (row : PartRow) (rows : List PartRow) → row.came ≡ None → NoneCame rows → NoneCame (insert_row row rows)
insert-none row [] none h = (none, tt)
insert-none row (other ∷ rows) none h = by (nat_lt other.seg row.seg) (insert-none row rows none h.1)
  where
    by : (b : Bool) → NoneCame (insert_row row rows) → NoneCame (cond b (other ∷ insert_row row rows) (row ∷ other ∷ rows))
    by true later = (h.0, later)
    by false later = (none, h)

order-none : (rows : List (ℕ × ServerId)) → NoneCame (rows_in_order (map awaited_row rows))
order-none [] = tt
order-none (row ∷ rows) = insert-none (awaited_row row) (rows_in_order (map awaited_row rows)) refl (order-none rows)

none-missing : (rows : List PartRow) → NoneCame rows → length rows ≡ count_missing rows
none-missing [] h = refl
none-missing (row ∷ rows) h =
    ap suc (none-missing rows h.1)
    ∙ ap (λ came. length (cond (not (is_some came)) (row ∷ filter (λ one. not (is_some one.came)) rows)
    (filter (λ one. not (is_some one.came)) rows))) (sym h.0)

none-entries : (rows : List PartRow) → NoneCame rows → 0 ≡ length (entries_that_came rows)
none-entries [] h = refl
none-entries (row ∷ rows) h = none-entries rows h.1 ∙ ap (λ came. length (unwrap_or came [] ++ entries_that_came rows)) (sym h.0)

pub counted-new : (rows : List PartRow) (given : List (ℕ × ServerId)) → rows ≡ rows_in_order (map awaited_row given) →
    AreCounted rows (length rows) 0
counted-new rows given is =
    let none : NoneCame rows = subst NoneCame (sym is) (order-none given) in
    record {
      in_order = subst AreInOrder (sym is) (ordered (map awaited_row given));
      missing_are = none-missing rows none;
      entries_are = λ more. none-entries rows none;
    }

-- what a row holds once it was filled at the place that was found
pub put_at : (seg : ℕ) (from : ServerId) (entries came : List Entry) (rows : List PartRow) (found : Option ℕ)
    (place : ℕ) (row new : PartRow) →
    found ≡ position (is_awaited seg from) rows → found ≡ Some place → row ≡ slice_index_or rows place row →
    new ≡ record row { came = Some came } → came ≡ entries →
    slice_set rows place new ≡ with_row seg from entries rows
put_at seg from entries came rows found place row new searched is read put same =
    let first = place-first (is_awaited seg from) rows found place searched is in
    ap (λ r. slice_set rows place r) (put ∙ ap (λ es. let filled : PartRow = record row { came = Some es } in filled) same)
    ∙ ap (λ at. slice_set rows at (record row { came = Some entries })) first
    ∙ with_row-at seg from entries rows row (any-place (is_awaited seg from) rows found place searched is)
    (read ∙ ap (λ at. slice_index_or rows at row) first)

-- the part then
pub part_put : (seg : ℕ) (from : ServerId) (entries : List Entry) (part : Part) (rows after : List PartRow)
    (count more : ℕ) (answered : Bool) (now : PartState) →
    record { part = part; rows = rows; size = size_of rows count; answered = answered } ≡ now →
    after ≡ with_row seg from entries rows → list_any (is_awaited seg from) rows ≡ true →
    record { part = part; rows = after; size = size_of after more; answered = answered } ≡ part_with_row seg from entries now
part_put seg from entries part rows after count more answered now is put some =
    let there : 0 < length rows = some-length (is_awaited seg from) rows some in
    let still : 0 < length (with_row seg from entries rows) = omega (arith, length-with_row seg from entries rows) in
    ap (λ r. let state : PartState = record { part = part; rows = r; size = size_of r more; answered = answered } in state) put
    ∙ ap (λ n. let state : PartState = record {
      part = part;
      rows = with_row seg from entries rows;
      size = n;
      answered = answered;
    } in state)
    (size_of-some (with_row seg from entries rows) more still ∙ sym (size_of-some rows count there))
    ∙ ap (part_with_row seg from entries) is
