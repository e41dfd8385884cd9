-- Rows in order of segment, and the search for one that is awaited.
use Rattle.std.proofs.Common.{◌≡◌, ℕ, ◌+◌, ◌<◌, ◌≤◌, ◌⊎◌, inl, inr, Bool, true, false, cond, not, nat_lt, nat_eq, ◌&&◌, is_some}
use Rattle.std.proofs.Common.{Some, None, position, List, [], ◌∷◌, length, suc, sym, refl, ap, subst, ◌∙◌, arith}
use Rattle.std.proofs.lemmas.Bool.{cases_lt}
use Rattle.std.proofs.lemmas.Bool.Decides.{nat_tests}
use Rattle.std.proofs.lemmas.List.{get_or_default}
use Rattle.std.proofs.lemmas.List.Sums.{prefix_len-le-length, position_or_len_is, fails_before_first, passes_at_first}
use Rattle.std.proofs.lemmas.List.Sorted.{IsNonDecreasingBy-short, IsNonDecreasingBy-insert}
use Rattle.std.specs.Prelude.{slice_index_or}
use Rattle.std.specs.List.{insert, position_or_len}
use Rattle.std.specs.List.Sorted.{IsPartitionPoint}
use Rattle.rc_model.specs.Model.{ServerId, same_id, PartRow, insert_row, rows_in_order, is_awaited}
use Rattle.rc_ownership.specs.Rows.{AreInOrder}

-- whether a row of this segment goes before the row
abbrev pub goes_before : ℕ → PartRow → Bool
goes_before seg row = not (nat_lt row.seg seg)

-- a row goes before the first that its segment goes before, and to the end where there is none
pub insert-row : (row : PartRow) (rows : List PartRow) →
    insert rows (position_or_len (goes_before row.seg) rows) row ≡ insert_row row rows
insert-row row [] = refl
insert-row row (other ∷ rows) = by (nat_lt other.seg row.seg) (insert-row row rows)
  where
    by : (b : Bool) → insert rows (position_or_len (goes_before row.seg) rows) row ≡ insert_row row rows
        → insert (other ∷ rows) (cond (not (not b)) (1 + position_or_len (goes_before row.seg) rows) 0) row ≡ cond b
        (other ∷ insert_row row rows) (row ∷ other ∷ rows)
    by false rest = refl
    by true rest =
        let n : ℕ = position_or_len (goes_before row.seg) rows in
        let e : 1 + n ≡ suc n = omega arith in
        ap (λ place. insert (other ∷ rows) place row) e ∙ ap (λ tail. other ∷ tail) rest

-- Order

below : (one seg : ℕ) → not (nat_lt one seg) ≡ false → one < seg
below one seg h = grind (arith, nat_tests)

at_least : (one seg : ℕ) → not (nat_lt one seg) ≡ true → seg ≤ one
at_least one seg h = grind (arith, nat_tests)

-- from the first row on that the segment goes before, no row's segment is lower
pub from_first : (seg : ℕ) (rows : List PartRow) → AreInOrder rows → (place : ℕ) (other : PartRow) →
    position_or_len (goes_before seg) rows ≤ place → place < length rows → seg ≤ (slice_index_or rows place other).seg
from_first seg rows order place other past within =
    let first = position_or_len (goes_before seg) rows in
    let least = at_least (slice_index_or rows first other).seg seg
    (passes_at_first (goes_before seg) rows other (omega arith)) in
    omega (arith, least, order first place other past within)

pub before_first : (seg : ℕ) (rows : List PartRow) (place : ℕ) (other : PartRow) →
    place < position_or_len (goes_before seg) rows → (slice_index_or rows place other).seg < seg
before_first seg rows place other before =
    below (slice_index_or rows place other).seg seg (fails_before_first (goes_before seg) rows place other before)

pub first_within : (seg : ℕ) (rows : List PartRow) → position_or_len (goes_before seg) rows ≤ length rows
first_within seg rows = prefix_len-le-length (λ row. not (goes_before seg row)) rows

-- rows that were put in order are in order
pub ordered : (rows : List PartRow) → AreInOrder (rows_in_order rows)
ordered [] = IsNonDecreasingBy-short (λ row. row.seg) [] (omega arith)
ordered (row ∷ rows) =
    let others = rows_in_order rows in
    subst AreInOrder (insert-row row others)
    (IsNonDecreasingBy-insert (λ one. one.seg) others (position_or_len (goes_before row.seg) others) row (ordered rows)
    (first_within row.seg others)
    (λ place other before. lower (slice_index_or others place other).seg (before_first row.seg others place other before))
    (λ place other past within. from_first row.seg others (ordered rows) place other past within))
  where
    lower : (one : ℕ) → one < row.seg → one ≤ row.seg
    lower one h = omega arith

-- what a binary search answers is the first place
pub first-point : (seg : ℕ) (rows : List PartRow) (count : ℕ) → count ≤ length rows →
    IsPartitionPoint (λ row. nat_lt row.seg seg ≡ true) (λ row. nat_lt row.seg seg ≡ false) rows count →
    count ≡ position_or_len (goes_before seg) rows
first-point seg [] count within point = omega arith
first-point seg (row ∷ rows) count within point =
    sym (position_or_len_is (goes_before seg) (row ∷ rows) count row within
    (λ place before. ap not (point.0 place row (omega arith) before))
    (λ there. ap not (point.1 count row (omega arith) there)))

-- The search

-- no row below the place is awaited, and from the place on no row's segment is lower
pub record IsSearched (seg : ℕ) (from : ServerId) (rows : List PartRow) (place : ℕ) : Type 0 where
  pub within : place ≤ length rows
  pub none : (below : ℕ) (other : PartRow) → below < place → is_awaited seg from (slice_index_or rows below other) ≡ false
  pub rest : (above : ℕ) (other : PartRow) → place ≤ above → above < length rows →
      seg ≤ (slice_index_or rows above other).seg

-- a row of another segment isn't awaited
of_another : (seg : ℕ) (from : ServerId) (row : PartRow) → nat_eq row.seg seg ≡ false → is_awaited seg from row ≡ false
of_another seg from row apart = ap (λ b. b && (same_id row.holder from && not (is_some row.came))) apart

pub search-start : (seg : ℕ) (from : ServerId) (rows : List PartRow) (place : ℕ) → AreInOrder rows →
    place ≡ position_or_len (goes_before seg) rows → IsSearched seg from rows place
search-start seg from rows place order is = record {
  within = omega (arith, is, first_within seg rows);
  none = λ low other before. of_another seg from (slice_index_or rows low other)
      (apart (slice_index_or rows low other).seg
      (before_first seg rows low other (subst (λ n. low < n) is before)));
  rest = λ above other past there. from_first seg rows order above other (subst (λ n. n ≤ above) is past) there;
}
  where
    apart : (one : ℕ) → one < seg → nat_eq one seg ≡ false
    apart one h = grind (arith, nat_tests)

pub search-next : (seg : ℕ) (from : ServerId) (rows : List PartRow) (place : ℕ) (row : PartRow) →
    IsSearched seg from rows place → place < length rows → row ≡ slice_index_or rows place row →
    is_awaited seg from row ≡ false → IsSearched seg from rows (place + 1)
search-next seg from rows place row searched there is not_it = record {
  within = omega (arith, there);
  none = λ low other before. by low other before (cases_lt low place);
  rest = λ above other past within. searched.rest above other (omega (arith, past)) within;
}
  where
    same : (low : ℕ) → low < place + 1 → place ≤ low → low ≡ place
    same low before past = omega arith

    by : (low : ℕ) (other : PartRow) → low < place + 1 → (low < place) ⊎ (place ≤ low) →
        is_awaited seg from (slice_index_or rows low other) ≡ false
    by low other before (inl h) = searched.none low other h
    by low other before (inr past) =
        let e = same low before past in
        ap (λ at. is_awaited seg from (slice_index_or rows at other)) e
        ∙ ap (is_awaited seg from) (get_or_default rows place other row there ∙ sym is) ∙ not_it

found_at : (first place count : ℕ) → first ≡ place → place < count → Some place ≡ cond (nat_lt first count) (Some first) None
found_at first place count same within =
    ap Some (sym same) ∙ ap (λ b. cond b (Some first) None) (let e : true ≡ nat_lt first count = grind (arith, nat_tests) in e)

pub search-found : (seg : ℕ) (from : ServerId) (rows : List PartRow) (place : ℕ) (row : PartRow) →
    IsSearched seg from rows place → place < length rows → row ≡ slice_index_or rows place row →
    is_awaited seg from row ≡ true → Some place ≡ position (is_awaited seg from) rows
search-found seg from rows place row searched there is it =
    found_at (position_or_len (is_awaited seg from) rows) place (length rows)
    (position_or_len_is (is_awaited seg from) rows place row searched.within (λ low before. searched.none low row before)
    (λ within. ap (is_awaited seg from) (sym is) ∙ it)) there

none_found : (rows : List PartRow) (first : ℕ) → first ≡ length rows → None ≡ cond (nat_lt first (length rows)) (Some first) None
none_found rows first same = ap (λ b. cond b (Some first) None) (let e : false ≡ nat_lt first (length rows) = grind (arith, nat_tests) in e)

pub search-none : (seg : ℕ) (from : ServerId) (rows : List PartRow) →
    ((place : ℕ) (other : PartRow) → place < length rows → is_awaited seg from (slice_index_or rows place other) ≡ false) →
    None ≡ position (is_awaited seg from) rows
search-none seg from [] none = refl
search-none seg from (row ∷ rows) none =
    none_found (row ∷ rows) (position_or_len (is_awaited seg from) (row ∷ rows))
    (position_or_len_is (is_awaited seg from) (row ∷ rows) (length (row ∷ rows)) row (omega arith)
    (λ place within. none place row within) (λ past. absurd (beyond (length (row ∷ rows)) past)))
  where
    beyond : (n : ℕ) → n < n → ⊥
    beyond n h = omega arith

pub search-end : (seg : ℕ) (from : ServerId) (rows : List PartRow) (place : ℕ) → IsSearched seg from rows place →
    length rows ≤ place → None ≡ position (is_awaited seg from) rows
search-end seg from rows place searched past =
    search-none seg from rows (λ at other within. searched.none at other (omega (arith, within, past)))

-- a row of a higher segment ends the search
pub search-past : (seg : ℕ) (from : ServerId) (rows : List PartRow) (place : ℕ) (row : PartRow) → AreInOrder rows →
    IsSearched seg from rows place → place < length rows → row ≡ slice_index_or rows place row →
    nat_eq row.seg seg ≡ false → None ≡ position (is_awaited seg from) rows
search-past seg from rows place row order searched there is apart =
    search-none seg from rows (λ at other within. by at other within (cases_lt at place))
  where
    higher : (one other : ℕ) → seg ≤ one → nat_eq one seg ≡ false → one ≤ other → nat_eq other seg ≡ false
    higher one other low h up = grind (arith, nat_tests)

    by : (at : ℕ) (other : PartRow) → at < length rows → (at < place) ⊎ (place ≤ at) →
        is_awaited seg from (slice_index_or rows at other) ≡ false
    by at other within (inl h) = searched.none at other h
    by at other within (inr h) =
        let here : slice_index_or rows place other ≡ row = get_or_default rows place other row there ∙ sym is in
        of_another seg from (slice_index_or rows at other)
        (higher (slice_index_or rows place other).seg (slice_index_or rows at other).seg
        (searched.rest place other (omega arith) there) (ap (λ one. nat_eq one.seg seg) here ∙ apart) (order place at other h within))
