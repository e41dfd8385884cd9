-- The row that is taken of a segment is a row of that segment.
use Rattle.std.proofs.Common.{arith}
use Rattle.std.proofs.Common.{◌≡◌, ℕ, true, nat_eq, List, [], ◌∷◌, map, filter, Some, refl, ap, ◌∙◌, subst}
use Rattle.std.specs.List.{All}
use Rattle.std.proofs.lemmas.Bool.{eqb-true, eq-eqb, ne_eqb, cases_eq, and_parts}
use Rattle.std.proofs.lemmas.List.Elements.{filter_passes}
use Rattle.rc_model.specs.Model.{ServerId, Pair, Row, PlanRow, HeldRow, held_rows, row_of, closed_first, is_valid, is_valid_of, taken_row}
use Rattle.rc_model.specs.Model.{AreTaken}
use Rattle.rc_model.specs.PickOrders.{IsBetter, IsFirst}
use Rattle.rc_model.proofs.PickOrders.{tells_better, apart_better, split_better}
use Rattle.rc_model.proofs.PickFirsts.{All-middle, first_by_first}

module _ (min : Pair) (replies : List (ServerId × List Row)) where
  seg-row_of : {seg : ℕ} {held : HeldRow} → row_of min replies seg ≡ Some held → held.row.seg ≡ seg
  seg-row_of {seg} {held} is =
      let rows : List HeldRow = filter (is_valid_of min seg) (held_rows replies) in
      let first : IsFirst IsBetter rows held = first_by_first closed_first IsBetter tells_better apart_better split_better rows is in
      let each : All (λ row. is_valid_of min seg row ≡ true) rows = filter_passes (is_valid_of min seg) (held_rows replies) in
      let passes : is_valid_of min seg held ≡ true = All-middle (λ row. is_valid_of min seg row ≡ true) first.earlier
      held first.later (subst (All (λ row. is_valid_of min seg row ≡ true)) first.place each) in
      eqb-true held.row.seg seg (and_parts (nat_eq held.row.seg seg) (is_valid min held.row) passes).0

  seg-taken_row : (head : HeldRow) {seg : ℕ} {held : HeldRow} → taken_row min replies head seg ≡ Some held → held.row.seg ≡ seg
  seg-taken_row head {seg} {held} is = search (arith, nat_eq, eq-eqb, ne_eqb, seg-row_of, cases_eq)

  -- the rows are of these segments, one by one
  pub segs-taken : (head : HeldRow) (segs : List ℕ) (rows : List PlanRow) → AreTaken min replies head segs rows →
      map (λ row. row.seg) rows ≡ segs
  segs-taken head [] [] taken = refl
  segs-taken head [] (row ∷ rows) taken = absurd taken
  segs-taken head (seg ∷ segs) [] taken = absurd taken
  segs-taken head (seg ∷ segs) (row ∷ rows) taken =
      let first : row.seg ≡ seg = ap (λ (r : PlanRow). r.seg) taken.0.2 ∙ seg-taken_row head taken.0.1 in
      let rest : map (λ row. row.seg) rows ≡ segs = segs-taken head segs rows taken.1 in
      cc
