-- When no plan is picked, and which refusal it is.
use Rattle.std.proofs.Common.{◌≡◌, ◌≢◌, ◌⊎◌, ⊎_elim, inl, inr, ℕ, ◌<◌, false, nat_eq, List, [], ◌∷◌, Option}
use Rattle.std.proofs.Common.{Some, None, IsSome, Result, Ok, Err, filter, refl, sym, ap, ◌∙◌, subst, arith}
use Rattle.std.specs.List.{All}
use Rattle.std.proofs.lemmas.Bool.{eq-eqb, ne_eqb, cases_eq}
use Rattle.rc_model.specs.Model.{ServerId, Pair, Row, PlanRow, Fault, HeadMissing, SegmentMissing, HeldRow, held_rows, head_row, row_of}
use Rattle.rc_model.specs.Model.{head_first, closed_first, is_open_valid, is_valid_of, first_by, taken_row, taken_rows, plan_row, plan_of}
use Rattle.rc_model.specs.Model.{ascending, pick, In}
use Rattle.rc_model.specs.PickMissing.{HasNoHead, IsLeastMissing}
use Rattle.rc_model.proofs.Ascending.{IsAscending, IsBelow-in, IsAscending-ascending, In-ascending}
use Rattle.rc_model.proofs.Ascending.{In-from_ascending, In-contains, Contains-in}
use Rattle.rc_model.proofs.PickRows.{taken_rows_some, taken_rows_err, taken_rows_none}
use Rattle.rc_model.proofs.PickFirsts.{filter_none, filter_none_from, first_by_none}
use Rattle.rc_model.proofs.Pickable.{pick_none, pick_some}

module _ (min : Pair) (replies : List (ServerId × List Row)) where
  pub head_none : HasNoHead min replies → head_row min replies ≡ None
  head_none none = ap (first_by head_first) (filter_none_from (is_open_valid min) (held_rows replies) none)

  HasNoHead-from_none : head_row min replies ≡ None → HasNoHead min replies
  HasNoHead-from_none none = filter_none (is_open_valid min) (held_rows replies)
      (first_by_none head_first (filter (is_open_valid min) (held_rows replies)) none)

  row_none : (seg : ℕ) → All (λ held. is_valid_of min seg held ≡ false) (held_rows replies) → row_of min replies seg ≡ None
  row_none seg none = ap (first_by closed_first) (filter_none_from (is_valid_of min seg) (held_rows replies) none)

  none-from_row : (seg : ℕ) → row_of min replies seg ≡ None → All (λ held. is_valid_of min seg held ≡ false) (held_rows replies)
  none-from_row seg none = filter_none (is_valid_of min seg) (held_rows replies)
      (first_by_none closed_first (filter (is_valid_of min seg) (held_rows replies)) none)

  module _ (head : HeldRow) where
    -- no row is taken of a segment exactly where it is not the head's and none of its rows is valid
    taken_none : {seg : ℕ} → seg ≢ head.row.seg → row_of min replies seg ≡ None → taken_row min replies head seg ≡ None
    taken_none {seg} other none = let test : nat_eq seg head.row.seg ≡ false = ne_eqb seg head.row.seg other in rw test none

    none-from_taken : {seg : ℕ} → taken_row min replies head seg ≡ None →
        (seg ≢ head.row.seg) × (row_of min replies seg ≡ None)
    none-from_taken {seg} none = search (arith, nat_eq, eq-eqb, ne_eqb, cases_eq)

    -- this is the first of the segments of which no row is taken
    pub record IsFirstMissing (segs : List ℕ) (seg : ℕ) : Type 0 where
      pub listed : In seg segs
      pub none : taken_row min replies head seg ≡ None
      pub below : (lower : ℕ) → lower < seg → In lower segs → IsSome (taken_row min replies head lower)

    some_here : (seg : ℕ) {held : HeldRow} → taken_row min replies head seg ≡ Some held → IsSome (taken_row min replies head seg)
    some_here seg is = rw is refl

    first_missing : (segs : List ℕ) → IsAscending segs → (fault : Fault) →
        taken_rows min replies head segs ≡ Err fault → (seg : ℕ) × (fault ≡ SegmentMissing seg) ×
        IsFirstMissing segs seg
    first_missing [] up fault is = absurd cc
    first_missing (s ∷ segs) up fault is =
        at (taken_row min replies head s) refl (taken_rows min replies head segs) refl (first_missing segs up.1)
      where
        at : (o : Option HeldRow) → taken_row min replies head s ≡ o → (r : Result (List PlanRow) Fault) →
            taken_rows min replies head segs ≡ r → ((fault : Fault) → taken_rows min replies head segs ≡ Err fault →
            (seg : ℕ) × (fault ≡ SegmentMissing seg) × IsFirstMissing segs seg) →
            (seg : ℕ) × (fault ≡ SegmentMissing seg) × IsFirstMissing (s ∷ segs) seg
        at None here r rest further =
            let none : taken_rows min replies head (s ∷ segs) ≡ Err (SegmentMissing s) = taken_rows_none min replies head segs here in
            let same : fault ≡ SegmentMissing s = cc in
            let least : (lower : ℕ) → lower < s → In lower (s ∷ segs) → IsSome (taken_row min replies head lower) =
            λ lower less at. absurd (⊎_elim {C = ⊥} (λ (e : lower ≡ s). omega (arith, e, less))
            (λ (later : In lower segs). omega (arith, less, IsBelow-in s lower segs up.0 later)) at) in
            (s, same, record { listed = inl refl; none = here; below = least })
        at (Some held) here (Ok others) rest further = let all : taken_rows min replies head (s ∷ segs) ≡ Ok
            (plan_row held ∷ others) = taken_rows_some min replies head s segs here rest in absurd cc
        at (Some held) here (Err other) rest further =
            let all : taken_rows min replies head (s ∷ segs) ≡ Err other = taken_rows_err min replies head s segs here rest in
            let same : taken_rows min replies head segs ≡ Err fault = cc in
            let found = further fault same in
            let least : (lower : ℕ) → lower < found.0 → In lower (s ∷ segs) → IsSome (taken_row min replies head lower) =
            λ lower less at. ⊎_elim {C = IsSome (taken_row min replies head lower)}
            (λ (e : lower ≡ s). subst (λ seg. IsSome (taken_row min replies head seg)) (sym e)
            (some_here s here)) (λ (later : In lower segs). found.2.below lower less later) at in
            (found.0, found.1, record { listed = inr found.2.listed; none = found.2.none; below = least })

    missing-from_first : (segs : List ℕ) → IsAscending segs → (seg : ℕ) → IsFirstMissing segs seg →
        taken_rows min replies head segs ≡ Err (SegmentMissing seg)
    missing-from_first [] up seg is = absurd is.listed
    missing-from_first (s ∷ segs) up seg is = at is.listed (missing-from_first segs up.1)
      where
        at : (seg ≡ s) ⊎ In seg segs →
            ((seg : ℕ) → IsFirstMissing segs seg → taken_rows min replies head segs ≡ Err (SegmentMissing seg)) →
            taken_rows min replies head (s ∷ segs) ≡ Err (SegmentMissing seg)
        at (inl e) further = subst (λ n. taken_rows min replies head (s ∷ segs) ≡ Err (SegmentMissing n)) (sym e)
            (taken_rows_none min replies head segs (subst (λ n. taken_row min replies head n ≡ None) e is.none))
        at (inr later) further = held (taken_row min replies head s) refl
          where
            held : (o : Option HeldRow) → taken_row min replies head s ≡ o →
                taken_rows min replies head (s ∷ segs) ≡ Err (SegmentMissing seg)
            held None here =
                let some : IsSome (taken_row min replies head s) = is.below s (IsBelow-in s seg segs up.0 later) (inl refl) in
                let none : IsSome {T = HeldRow} None = rw here at some in absurd cc
            held (Some h) here = taken_rows_err min replies head s segs here
                (further seg (record {
                  listed = later;
                  none = is.none;
                  below = λ lower less at. is.below lower less (inr at);
                }))

  pub head_missing : pick min replies ≡ Err HeadMissing → HasNoHead min replies
  head_missing is = at (head_row min replies) refl
    where
      at : (o : Option HeldRow) → head_row min replies ≡ o → HasNoHead min replies
      at None none = HasNoHead-from_none none
      at (Some head) head_is = rows (taken_rows min replies head (ascending head.row.digest)) refl
        where
          rows : (r : Result (List PlanRow) Fault) → taken_rows min replies head (ascending head.row.digest) ≡ r → HasNoHead min replies
          rows (Ok taken) rest = let ok : pick min replies ≡ plan_of head.row.seg (Ok taken) =
              pick_some min replies head_is ∙ ap (plan_of head.row.seg) rest in absurd cc
          rows (Err fault) rest =
              let err : pick min replies ≡ Err fault = pick_some min replies head_is ∙ ap (plan_of head.row.seg) rest in
              let found = first_missing head (ascending head.row.digest) (IsAscending-ascending head.row.digest) fault rest in
              let other : fault ≡ SegmentMissing found.0 = found.1 in
              absurd cc

  pub missing_head : HasNoHead min replies → pick min replies ≡ Err HeadMissing
  missing_head none = pick_none min replies (head_none none)

  pub segment_missing : {seg : ℕ} → pick min replies ≡ Err (SegmentMissing seg) → IsLeastMissing min replies seg
  segment_missing {seg} is = at (head_row min replies) refl
    where
      at : (o : Option HeldRow) → head_row min replies ≡ o → IsLeastMissing min replies seg
      at None none = let err : pick min replies ≡ Err HeadMissing = pick_none min replies none in absurd cc
      at (Some head) head_is = rows (taken_rows min replies head (ascending head.row.digest)) refl
        where
          rows : (r : Result (List PlanRow) Fault) → taken_rows min replies head (ascending head.row.digest) ≡ r →
              IsLeastMissing min replies seg
          rows (Ok taken) rest = let ok : pick min replies ≡ plan_of head.row.seg (Ok taken) =
              pick_some min replies head_is ∙ ap (plan_of head.row.seg) rest in absurd cc
          rows (Err fault) rest =
              let err : pick min replies ≡ Err fault = pick_some min replies head_is ∙ ap (plan_of head.row.seg) rest in
              let found = first_missing head (ascending head.row.digest) (IsAscending-ascending head.row.digest) fault rest in
              let other : fault ≡ SegmentMissing found.0 = found.1 in
              let same : found.0 ≡ seg = cc in
              let first : IsFirstMissing head (ascending head.row.digest) seg =
              subst (IsFirstMissing head (ascending head.row.digest)) same found.2 in
              let none = none-from_taken head first.none in
              record {
                head = head;
                head_is = head_is;
                listed = Contains-in seg head.row.digest (In-from_ascending seg head.row.digest first.listed);
                other = none.0;
                none = none-from_row seg none.1;
                below = λ lower less at. first.below lower less (In-ascending lower head.row.digest (In-contains lower head.row.digest at));
              }

  pub missing_segment : {seg : ℕ} → IsLeastMissing min replies seg → pick min replies ≡ Err (SegmentMissing seg)
  missing_segment {seg} is =
      let first : IsFirstMissing is.head (ascending is.head.row.digest) seg = record {
        listed = In-ascending seg is.head.row.digest (In-contains seg is.head.row.digest is.listed);
        none = taken_none is.head is.other (row_none seg is.none);
        below = λ lower less at. is.below lower less (Contains-in lower is.head.row.digest (In-from_ascending lower is.head.row.digest at));
      } in
      let err : taken_rows min replies is.head (ascending is.head.row.digest) ≡ Err (SegmentMissing seg) =
      missing-from_first is.head (ascending is.head.row.digest) (IsAscending-ascending is.head.row.digest) seg
      first in
      pick_some min replies is.head_is ∙ ap (plan_of is.head.row.seg) err
