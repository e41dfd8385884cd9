-- What a picked plan has: a valid open head row, and for each segment of its digest a valid row, all from the answers.
use Rattle.std.proofs.Common.{arith}
use Rattle.std.proofs.Common.{◌≡◌, ◌⊎◌, ℕ, Bool, true, false, cond, not, List, [], ◌∷◌, filter, nat_eq, Option}
use Rattle.std.proofs.Common.{Some, None, Result, Ok, Err, refl, sym, ap, ◌∙◌, subst, inl, inr}
use Rattle.std.proofs.lemmas.Bool.{eqb-true, and_parts, not-true}
use Rattle.std.specs.List.{fold}
use Rattle.rc_model.specs.Pick.{better}
use Rattle.rc_model.specs.Model.{ServerId, Pair, Row, PlanRow, Fault, HeldRow, rows_of, held_rows, is_valid, is_open_valid, is_valid_of}
use Rattle.rc_model.specs.Model.{head_first, closed_first, first_by, head_row, row_of, ascending, plan_row}
use Rattle.rc_model.specs.Model.{taken_row, row_then, taken_rows, plan_of, pick_by, pick, In}
use Rattle.rc_types.specs.declared.rows.Plan.{Plan}
use Rattle.rc_model.proofs.Members.{In-append, In-filter}
use Rattle.rc_model.proofs.Ascending.{In-ascending, In-from_ascending}
use Rattle.rc_model.proofs.Tests.{either}

-- The first by an order is one of the list

fold_better-in : (before : HeldRow → HeldRow → Bool) (best : HeldRow) (rows : List HeldRow) →
    In (fold (better before) best rows) (best ∷ rows)
fold_better-in before best [] = inl refl
fold_better-in before best (row ∷ rows) = either (λ next. (next ≡ best) ⊎ (next ≡ row) →
    In (fold (better before) next rows) (best ∷ row ∷ rows)) (before row best) row best
    (λ _ which. by row which (fold_better-in before row rows)) (λ _ which. by best which (fold_better-in before best rows)) which
  where
    by : (next : HeldRow) → (next ≡ best) ⊎ (next ≡ row) → In (fold (better before) next rows) (next ∷ rows) →
        In (fold (better before) next rows) (best ∷ row ∷ rows)
    by next (inl is_best) (inl e) = inl (e ∙ is_best)
    by next (inr is_row) (inl e) = inr (inl (e ∙ is_row))
    by next which (inr rest) = inr (inr rest)

    which : (cond (before row best) row best ≡ best) ⊎ (cond (before row best) row best ≡ row)
    which = either (λ next. (next ≡ best) ⊎ (next ≡ row)) (before row best) row best (λ _. inr refl) (λ _. inl refl)

first_by-in : (before : HeldRow → HeldRow → Bool) (rows : List HeldRow) {row : HeldRow} → first_by before rows ≡ Some row → In row rows
first_by-in before [] e = cc
first_by-in before (best ∷ rows) {row} e =
    let same : fold (better before) best rows ≡ row = cc in subst (λ one. In one (best ∷ rows)) same (fold_better-in before best rows)

-- A held row is one of an answer

rows_of-in : (holder : ServerId) (rows : List Row) (held : HeldRow) → In held (rows_of holder rows) →
    (held.holder ≡ holder) × In held.row rows
rows_of-in holder [] held at = absurd at
rows_of-in holder (row ∷ rows) held (inl e) = (ap (λ (one : HeldRow). one.holder) e, inl (ap (λ (one : HeldRow). one.row) e))
rows_of-in holder (row ∷ rows) held (inr rest) =
    let found : (held.holder ≡ holder) × In held.row rows = rows_of-in holder rows held rest in (found.0, inr found.1)

pub record IsAnswered (replies : List (ServerId × List Row)) (held : HeldRow) : Type 0 where
  pub rows : List Row
  pub reply : In (held.holder, rows) replies
  pub row : In held.row rows

pub held_rows-in : (replies : List (ServerId × List Row)) (held : HeldRow) → In held (held_rows replies) → IsAnswered replies held
held_rows-in [] held at = absurd at
held_rows-in (reply ∷ replies) held at = by (held_rows-in replies held) (In-append held (rows_of reply.0 reply.1) (held_rows replies) at)
  where
    here : (held.holder ≡ reply.0) × In held.row reply.1 → IsAnswered (reply ∷ replies) held
    here p = record { rows = reply.1; reply = inl (ap (λ (holder : ServerId). (holder, reply.1)) p.0); row = p.1 }

    further : IsAnswered replies held → IsAnswered (reply ∷ replies) held
    further p = record { rows = p.rows; reply = inr p.reply; row = p.row }

    by : (In held (held_rows replies) → IsAnswered replies held) → In held (rows_of reply.0 reply.1) ⊎
        In held (held_rows replies) → IsAnswered (reply ∷ replies) held
    by rec (inl first) = here (rows_of-in reply.0 reply.1 held first)
    by rec (inr rest) = further (rec rest)

-- What is taken of a segment

-- a valid row of an answer, of which the plan's row is made
pub record IsTaken (min : Pair) (replies : List (ServerId × List Row)) (row : PlanRow) : Type 0 where
  pub held : HeldRow
  pub answered : IsAnswered replies held
  pub valid : is_valid min held.row ≡ true
  pub row_is : row ≡ plan_row held

pub record IsHead (min : Pair) (replies : List (ServerId × List Row)) (head : HeldRow) : Type 0 where
  pub answered : IsAnswered replies head
  pub unclosed : head.row.closed ≡ false
  pub valid : is_valid min head.row ≡ true

head-is : {min : Pair} {replies : List (ServerId × List Row)} {head : HeldRow} → head_row min replies ≡ Some head → IsHead min replies head
head-is {min} {replies} {head} e =
    let at : In head (filter (is_open_valid min) (held_rows replies)) =
    first_by-in head_first (filter (is_open_valid min) (held_rows replies)) e in
    let both : In head (held_rows replies) × (is_open_valid min head ≡ true) = In-filter (is_open_valid min) head (held_rows replies) at in
    let parts : (not head.row.closed ≡ true) × (is_valid min head.row ≡ true) =
    and_parts (not head.row.closed) (is_valid min head.row) both.1 in
    record { answered = held_rows-in replies head both.0; unclosed = not-true head.row.closed parts.0; valid = parts.1 }

row_of-is : {min : Pair} {replies : List (ServerId × List Row)} {seg : ℕ} {held : HeldRow} → row_of min replies seg ≡ Some held →
    IsTaken min replies (plan_row held) × (held.row.seg ≡ seg)
row_of-is {min} {replies} {seg} {held} e =
    let at : In held (filter (is_valid_of min seg) (held_rows replies)) =
    first_by-in closed_first (filter (is_valid_of min seg) (held_rows replies)) e in
    let both : In held (held_rows replies) × (is_valid_of min seg held ≡ true) =
    In-filter (is_valid_of min seg) held (held_rows replies) at in
    let parts : (nat_eq held.row.seg seg ≡ true) × (is_valid min held.row ≡ true) =
    and_parts (nat_eq held.row.seg seg) (is_valid min held.row) both.1 in
    (record { held = held; answered = held_rows-in replies held both.0; valid = parts.1; row_is = refl }, eqb-true held.row.seg seg parts.0)

taken_row-is : {min : Pair} {replies : List (ServerId × List Row)} {head : HeldRow} → IsHead min replies head → {seg : ℕ} {held : HeldRow} →
    taken_row min replies head seg ≡ Some held → IsTaken min replies (plan_row held) × (held.row.seg ≡ seg)
taken_row-is {min} {replies} {head} is_head {seg} {held} e =
    either (λ found. found ≡ Some held → IsTaken min replies (plan_row held) × (held.row.seg ≡ seg))
    (nat_eq seg head.row.seg) (Some head) (row_of min replies seg)
    (λ same it. of_head (eqb-true seg head.row.seg same) it) (λ _ it. row_of-is it) e
  where
    of_head : seg ≡ head.row.seg → Some head ≡ Some held → IsTaken min replies (plan_row held) × (held.row.seg ≡ seg)
    of_head same it = search arith

-- the rows that are taken: each is of an answer and of one of the segments, and each segment has one
pub record AreAllTaken (min : Pair) (replies : List (ServerId × List Row)) (segs : List ℕ) (rows : List PlanRow) : Type 0 where
  pub each : (row : PlanRow) → In row rows → IsTaken min replies row
  pub within : (row : PlanRow) → In row rows → In row.seg segs
  pub all : (seg : ℕ) → In seg segs → (row : PlanRow) × (In row rows) × (row.seg ≡ seg)

taken_rows-are : {min : Pair} {replies : List (ServerId × List Row)} {head : HeldRow} → IsHead min replies head →
    (segs : List ℕ) (rows : List PlanRow) →
    taken_rows min replies head segs ≡ Ok rows → AreAllTaken min replies segs rows
taken_rows-are is_head [] rows e = search arith
taken_rows-are {min} {replies} {head} is_head (seg ∷ segs) rows e =
    by (taken_row min replies head seg) (taken_rows min replies head segs) refl (taken_rows-are is_head segs) e
  where
    done : (held : HeldRow) → taken_row min replies head seg ≡ Some held → (others : List PlanRow) → AreAllTaken min replies segs others →
        AreAllTaken min replies (seg ∷ segs) (plan_row held ∷ others)
    done held here others rest =
        let one : IsTaken min replies (plan_row held) × (held.row.seg ≡ seg) = taken_row-is is_head here in
        record { each = each; within = within; all = all }
      where
        one : IsTaken min replies (plan_row held) × (held.row.seg ≡ seg)
        one = taken_row-is is_head here

        each : (row : PlanRow) → In row (plan_row held ∷ others) → IsTaken min replies row
        each row (inl same) = subst (IsTaken min replies) (sym same) one.0
        each row (inr at) = rest.each row at

        within : (row : PlanRow) → In row (plan_row held ∷ others) → In row.seg (seg ∷ segs)
        within row (inl same) = inl (ap (λ (r : PlanRow). r.seg) same ∙ one.1)
        within row (inr at) = inr (rest.within row at)

        all : (t : ℕ) → In t (seg ∷ segs) → (row : PlanRow) × (In row (plan_row held ∷ others)) × (row.seg ≡ t)
        all t (inl same) = (plan_row held, inl refl, one.1 ∙ sym same)
        all t (inr at) = let found : (row : PlanRow) × (In row others) × (row.seg ≡ t) = rest.all t at in (found.0, inr found.1, found.2)

    by : (found : Option HeldRow) (others : Result (List PlanRow) Fault) → taken_row min replies head seg ≡ found →
        ((some : List PlanRow) → others ≡ Ok some → AreAllTaken min replies segs some) →
        row_then seg found others ≡ Ok rows → AreAllTaken min replies (seg ∷ segs) rows
    by None others here rec it = cc
    by (Some held) (Ok some) here rec it = search (arith, done)
    by (Some held) (Err fault) here rec it = cc

-- A picked plan
pub record IsPicked (min : Pair) (replies : List (ServerId × List Row)) (plan : Plan) : Type 0 where
  pub head : HeldRow
  pub head_is : plan.head ≡ head.row.seg
  pub is_head : IsHead min replies head
  pub each : (row : PlanRow) → In row plan.rows → IsTaken min replies row
  pub within : (row : PlanRow) → In row plan.rows → In row.seg head.row.digest
  pub all : (seg : ℕ) → In seg head.row.digest → (row : PlanRow) × (In row plan.rows) × (row.seg ≡ seg)

pub picked-is : {min : Pair} {replies : List (ServerId × List Row)} {plan : Plan} → pick min replies ≡ Ok plan → IsPicked min replies plan
picked-is {min} {replies} {plan} e = by (head_row min replies) refl e
  where
    with_rows : (head : HeldRow) → head_row min replies ≡ Some head → (found : Result (List PlanRow) Fault) →
        taken_rows min replies head (ascending head.row.digest) ≡ found → plan_of head.row.seg found ≡ Ok plan → IsPicked min replies plan
    with_rows head here (Ok rows) taken it =
        let same : record { head = head.row.seg; rows = rows } ≡ plan = cc in
        let rows_are : rows ≡ plan.rows = ap (λ (one : Plan). one.rows) same in
        let are : AreAllTaken min replies (ascending head.row.digest) rows =
        taken_rows-are (head-is here) (ascending head.row.digest) rows taken in
        let are_now : AreAllTaken min replies (ascending head.row.digest) plan.rows =
        subst (AreAllTaken min replies (ascending head.row.digest)) rows_are are in
        record {
          head = head;
          head_is = sym (ap (λ (one : Plan). one.head) same);
          is_head = head-is here;
          each = are_now.each;
          within = λ row at. In-from_ascending row.seg head.row.digest (are_now.within row at);
          all = λ seg at. are_now.all seg (In-ascending seg head.row.digest at);
        }
    with_rows head here (Err fault) taken it = cc

    by : (found : Option HeldRow) → head_row min replies ≡ found → pick_by min replies found ≡ Ok plan → IsPicked min replies plan
    by None here it = cc
    by (Some head) here it = with_rows head here (taken_rows min replies head (ascending head.row.digest)) refl it
