-- A plan is pickable exactly where it is picked.
use Rattle.std.proofs.Common.{◌≡◌, ℕ, List, [], ◌∷◌, Option, Some, None, Result, Ok, Err, refl, sym, ap, ◌∙◌, arith}
use Rattle.rc_model.specs.Model.{ServerId, Pair, Row, PlanRow, Fault, HeadMissing, SegmentMissing, HeldRow, head_row, taken_row}
use Rattle.rc_model.specs.Model.{taken_rows, plan_row, plan_of, ascending, pick, AreTaken, IsPickable}
use Rattle.rc_types.specs.declared.rows.Plan.{Plan}
use Rattle.rc_model.proofs.PickRows.{taken_rows_some, taken_rows_err, taken_rows_none}

module _ (min : Pair) (replies : List (ServerId × List Row)) where
  -- what is picked, by the head row
  pub pick_none : head_row min replies ≡ None → pick min replies ≡ Err HeadMissing
  pick_none none = rw none refl

  pub pick_some : {head : HeldRow} → head_row min replies ≡ Some head →
      pick min replies ≡ plan_of head.row.seg (taken_rows min replies head (ascending head.row.digest))
  pick_some is = rw is refl

  module _ (head : HeldRow) where
    taken_rows-from_taken : (segs : List ℕ) (rows : List PlanRow) → AreTaken min replies head segs rows →
        taken_rows min replies head segs ≡ Ok rows
    taken_rows-from_taken [] [] taken = refl
    taken_rows-from_taken [] (row ∷ rows) taken = absurd taken
    taken_rows-from_taken (seg ∷ segs) [] taken = absurd taken
    taken_rows-from_taken (seg ∷ segs) (row ∷ rows) taken =
        taken_rows_some min replies head seg segs taken.0.1 (taken_rows-from_taken segs rows taken.1) ∙
        ap (λ first. Ok (first ∷ rows)) (sym taken.0.2)

    AreTaken-from_rows : (segs : List ℕ) (rows : List PlanRow) → taken_rows min replies head segs ≡ Ok rows →
        AreTaken min replies head segs rows
    AreTaken-from_rows [] [] is = tt
    AreTaken-from_rows [] (row ∷ rows) is = absurd cc
    AreTaken-from_rows (seg ∷ segs) rows is = at (taken_row min replies head seg) refl
        (taken_rows min replies head segs) refl rows is (AreTaken-from_rows segs)
      where
        at : (o : Option HeldRow) → taken_row min replies head seg ≡ o → (r : Result (List PlanRow) Fault) →
            taken_rows min replies head segs ≡ r → (rows : List PlanRow) →
            taken_rows min replies head (seg ∷ segs) ≡ Ok rows
            → ((others : List PlanRow) → taken_rows min replies head segs ≡ Ok others →
            AreTaken min replies head segs others) → AreTaken min replies head (seg ∷ segs) rows
        at None here r rest rows is further = let none : taken_rows min replies head (seg ∷ segs) ≡ Err
            (SegmentMissing seg) = taken_rows_none min replies head segs here in absurd cc
        at (Some held) here (Err fault) rest rows is further = let none : taken_rows min replies head (seg ∷ segs) ≡ Err
            fault = taken_rows_err min replies head seg segs here rest in absurd cc
        at (Some held) here (Ok others) rest [] is further = let all : taken_rows min replies head (seg ∷ segs) ≡ Ok
            (plan_row held ∷ others) = taken_rows_some min replies head seg segs here rest in absurd cc
        at (Some held) here (Ok others) rest (row ∷ rows) is further = search (arith, taken_rows_some)

  pub picked-from_pickable : {plan : Plan} → IsPickable min replies plan → pick min replies ≡ Ok plan
  picked-from_pickable {plan} is = search (arith, taken_rows-from_taken, pick_some)

  pub pickable-from_picked : {plan : Plan} → pick min replies ≡ Ok plan → IsPickable min replies plan
  pickable-from_picked {plan} is = at (head_row min replies) refl
    where
      at : (o : Option HeldRow) → head_row min replies ≡ o → IsPickable min replies plan
      at None none = let err : pick min replies ≡ Err HeadMissing = pick_none none in absurd cc
      at (Some head) head_is = rows (taken_rows min replies head (ascending head.row.digest)) refl
        where
          rows : (r : Result (List PlanRow) Fault) → taken_rows min replies head (ascending head.row.digest) ≡ r →
              IsPickable min replies plan
          rows (Err fault) rest = let err : pick min replies ≡ Err fault =
              pick_some head_is ∙ ap (plan_of head.row.seg) rest in absurd cc
          rows (Ok taken) rest =
              let ok : pick min replies ≡ Ok (record { head = head.row.seg; rows = taken }) =
              pick_some head_is ∙ ap (plan_of head.row.seg) rest in
              let same : ◌≡◌ {A = Plan} (record { head = head.row.seg; rows = taken }) plan = cc in
              let segment : plan.head ≡ head.row.seg = sym (ap (λ (p : Plan). p.head) same) in
              let taken_is : taken_rows min replies head (ascending head.row.digest) ≡ Ok plan.rows =
              rest ∙ ap (λ (p : Plan). Ok p.rows) same in
              record {
                head = head;
                head_is = head_is;
                segment = segment;
                taken = AreTaken-from_rows head (ascending head.row.digest) plan.rows taken_is;
              }
