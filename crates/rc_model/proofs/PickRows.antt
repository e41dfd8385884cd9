-- The rows that are taken, one segment further on.
use Rattle.std.proofs.Common.{◌≡◌, ◌≢◌, ℕ, suc, ◌+◌, ◌<◌, nat_eq, drop-cons, List, [], ◌∷◌, ◌++◌}
use Rattle.std.proofs.Common.{Option, Some, None, Result, Ok, Err, take, drop, length, get_or, refl, arith}
use Rattle.std.proofs.lemmas.Bool.{eq-eqb, ne_eqb, cases_eq}
use Rattle.std.proofs.lemmas.List.{take_more, take-append-drop}
use Rattle.rc_model.specs.Model.{ServerId, Pair, Row, PlanRow, Fault, SegmentMissing, HeldRow, row_of, taken_row, taken_rows, plan_row}

module _ (min : Pair) (replies : List (ServerId × List Row)) (head : HeldRow) where
  -- what is taken of a first segment and of the others
  pub taken_rows_some : (seg : ℕ) (segs : List ℕ) {held : HeldRow} {rows : List PlanRow} →
      taken_row min replies head seg ≡ Some held → taken_rows min replies head segs ≡ Ok rows →
      taken_rows min replies head (seg ∷ segs) ≡ Ok (plan_row held ∷ rows)
  taken_rows_some seg segs here rest = rw (here, rest) refl

  pub taken_rows_err : (seg : ℕ) (segs : List ℕ) {held : HeldRow} {fault : Fault} →
      taken_row min replies head seg ≡ Some held → taken_rows min replies head segs ≡ Err fault →
      taken_rows min replies head (seg ∷ segs) ≡ Err fault
  taken_rows_err seg segs here rest = rw (here, rest) refl

  pub taken_rows_none : {seg : ℕ} (segs : List ℕ) → taken_row min replies head seg ≡ None →
      taken_rows min replies head (seg ∷ segs) ≡ Err (SegmentMissing seg)
  taken_rows_none segs here = rw here refl

  -- each segment has a row, and one more has
  pub taken_rows-push : (segs : List ℕ) (seg : ℕ) {held : HeldRow} (rows : List PlanRow) →
      taken_rows min replies head segs ≡ Ok rows → taken_row min replies head seg ≡ Some held →
      taken_rows min replies head (segs ++ seg ∷ []) ≡ Ok (rows ++ plan_row held ∷ [])
  taken_rows-push [] seg rows were is = let none : [] ≡ rows = cc in rw (← none) (taken_rows_some seg [] is refl)
  taken_rows-push (s ∷ segs) seg {held} rows were is =
      by (taken_row min replies head s) refl (taken_rows min replies head segs) refl (taken_rows-push segs seg)
    where
      by : (o : Option HeldRow) → taken_row min replies head s ≡ o → (r : Result (List PlanRow) Fault) →
          taken_rows min replies head segs ≡ r
          → ((others : List PlanRow) → taken_rows min replies head segs ≡ Ok others →
          taken_row min replies head seg ≡ Some held →
          taken_rows min replies head (segs ++ seg ∷ []) ≡ Ok (others ++ plan_row held ∷ []))
          → taken_rows min replies head (s ∷ (segs ++ seg ∷ [])) ≡ Ok (rows ++ plan_row held ∷ [])
      by None here r rest further = let none : taken_rows min replies head (s ∷ segs) ≡ Err (SegmentMissing s) =
          taken_rows_none segs here in absurd cc
      by (Some h) here (Ok others) rest further = search (arith, taken_rows_some)
      by (Some h) here (Err fault) rest further = let none : taken_rows min replies head (s ∷ segs) ≡ Err fault =
          taken_rows_err s segs here rest in absurd cc

  -- each segment has a row, and the next one has none
  taken_rows-missing : (segs : List ℕ) {seg : ℕ} (others : List ℕ) (rows : List PlanRow) →
      taken_rows min replies head segs ≡ Ok rows → taken_row min replies head seg ≡ None →
      taken_rows min replies head (segs ++ seg ∷ others) ≡ Err (SegmentMissing seg)
  taken_rows-missing [] others rows were is = taken_rows_none others is
  taken_rows-missing (s ∷ segs) {seg} others rows were is = by (taken_row min replies head s) refl
      (taken_rows min replies head segs) refl (taken_rows-missing segs others)
    where
      by : (o : Option HeldRow) → taken_row min replies head s ≡ o → (r : Result (List PlanRow) Fault) →
          taken_rows min replies head segs ≡ r
          → ((first : List PlanRow) → taken_rows min replies head segs ≡ Ok first →
          taken_row min replies head seg ≡ None → taken_rows min replies head (segs ++ seg ∷ others) ≡ Err
          (SegmentMissing seg)) → taken_rows min replies head (s ∷ (segs ++ seg ∷ others)) ≡ Err (SegmentMissing seg)
      by None here r rest further = let none : taken_rows min replies head (s ∷ segs) ≡ Err (SegmentMissing s) =
          taken_rows_none segs here in absurd cc
      by (Some h) here (Ok first) rest further = taken_rows_err s (segs ++ seg ∷ others) here (further first rest is)
      by (Some h) here (Err fault) rest further = let none : taken_rows min replies head (s ∷ segs) ≡ Err fault =
          taken_rows_err s segs here rest in absurd cc

  -- what is taken of a segment, given the head row and the first of the others
  pub taken_row_from : {seg : ℕ} {held best : Option HeldRow} → (seg ≡ head.row.seg → held ≡ Some head) →
      (seg ≢ head.row.seg → held ≡ best) → best ≡ row_of min replies seg → taken_row min replies head seg ≡ held
  taken_row_from {seg} {held} own other is = search (arith, nat_eq, eq-eqb, ne_eqb, cases_eq)

  -- a loop's step over the segments
  pub taken_rows_more : (segs : List ℕ) (i seg : ℕ) (held : HeldRow) (rows next : List PlanRow) → i < length segs →
      seg ≡ get_or segs i 0 → taken_rows min replies head (take i segs) ≡ Ok rows →
      taken_row min replies head seg ≡ Some held → next ≡ rows ++ plan_row held ∷ [] →
      taken_rows min replies head (take (i + 1) segs) ≡ Ok next
  taken_rows_more segs i seg held rows next inside at were is then =
      let here : taken_row min replies head (get_or segs i 0) ≡ Some held = rw (← at) is in
      rw (then, take_more segs i 0 inside) (taken_rows-push (take i segs) (get_or segs i 0) rows were here)

  -- a loop's exit at a segment that has no row
  pub taken_rows_missing : (segs : List ℕ) (i seg : ℕ) (rows : List PlanRow) → i < length segs → seg ≡ get_or segs i 0 →
      taken_rows min replies head (take i segs) ≡ Ok rows → taken_row min replies head seg ≡ None →
      taken_rows min replies head segs ≡ Err (SegmentMissing seg)
  taken_rows_missing segs i seg rows inside at were is =
      let parts : take i segs ++ (get_or segs i 0 ∷ drop (suc i) segs) ≡ segs =
      rw (← drop-cons segs i 0 inside) (take-append-drop i segs) in
      let all : taken_rows min replies head (take i segs ++ seg ∷ drop (suc i) segs) ≡ Err (SegmentMissing seg) =
      taken_rows-missing (take i segs) (drop (suc i) segs) rows were is in
      let same : take i segs ++ (seg ∷ drop (suc i) segs) ≡ segs = rw at parts in
      rw same at all
