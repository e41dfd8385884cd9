-- The rows of a plan: one for a segment, in order.
use Rattle.std.proofs.Common.{◌≡◌, ℕ, ◌<◌, List, [], ◌∷◌, map, nat_lt, Ok, refl, sym, ap, ◌∙◌, subst, inl, inr, arith}
use Rattle.std.proofs.lemmas.Bool.{ltb-true}
use Rattle.rc_model.specs.Model.{ServerId, Pair, Entry, Message, Row, PlanRow, pick, IsPickable, ascending, PartRow, awaited_row}
use Rattle.rc_model.specs.Model.{insert_row, rows_in_order, In}
use Rattle.rc_types.specs.declared.rows.Plan.{Plan}
use Rattle.rc_model.proofs.Members.{In-left, In-right}
use Rattle.rc_model.proofs.Ascending.{IsBelow, IsAscending, IsAscending-ascending}
use Rattle.rc_model.proofs.PickColumns.{segs-taken}
use Rattle.rc_model.proofs.Pickable.{pickable-from_picked}
use Rattle.rc_owner_laws.specs.Parts.{HasSent, AllCame}

-- the segments of rows
abbrev pub segs_of : List PlanRow → List ℕ
segs_of rows = map (λ row. row.seg) rows

-- a picked plan's rows ascend
pub rows-ascend : (least : Pair) (replies : List (ServerId × List Row)) {plan : Plan} → pick least replies ≡ Ok plan →
    IsAscending (segs_of plan.rows)
rows-ascend least replies {plan} e =
    let is : IsPickable least replies plan = pickable-from_picked least replies e in
    subst IsAscending (sym (segs-taken least replies is.head (ascending is.head.row.digest) plan.rows is.taken))
    (IsAscending-ascending is.head.row.digest)

pub below-row : (n : ℕ) (rows : List PlanRow) (row : PlanRow) → IsBelow n (segs_of rows) → In row rows → n < row.seg
below-row n [] row below at = absurd at
below-row n (first ∷ rows) row below (inl same) = subst (λ (one : PlanRow). n < one.seg) (sym same) below.0
below-row n (first ∷ rows) row below (inr rest) = below-row n rows row below.1 rest

-- two rows of one segment are one
pub one-row : (rows : List PlanRow) (row other : PlanRow) → IsAscending (segs_of rows) → In row rows → In other rows →
    row.seg ≡ other.seg → row ≡ other
one-row [] row other up at there e = absurd at
one-row (first ∷ rows) row other up (inl a) (inl b) e = a ∙ sym b
one-row (first ∷ rows) row other up (inl a) (inr rest) e =
    let below : first.seg < other.seg = below-row first.seg rows other up.0 rest in
    let same : row.seg ≡ first.seg = ap (λ (one : PlanRow). one.seg) a in
    absurd (omega arith)
one-row (first ∷ rows) row other up (inr rest) (inl b) e =
    let below : first.seg < row.seg = below-row first.seg rows row up.0 rest in
    let same : other.seg ≡ first.seg = ap (λ (one : PlanRow). one.seg) b in
    absurd (omega arith)
one-row (first ∷ rows) row other up (inr here) (inr there) e = one-row rows row other up.1 here there e

-- In order

abbrev pub waited : List PlanRow → List PartRow
waited rows = map awaited_row (map (λ row. (row.seg, row.holder)) rows)

insert-first : (row : PlanRow) (rows : List PlanRow) → IsBelow row.seg (segs_of rows) →
    insert_row (awaited_row (row.seg, row.holder)) (waited rows) ≡ awaited_row (row.seg, row.holder) ∷ waited rows
insert-first row [] below = refl
insert-first row (other ∷ rows) below = search (arith, nat_lt, ltb-true)

-- rows that ascend are in order
pub in-order : (rows : List PlanRow) → IsAscending (segs_of rows) → rows_in_order (waited rows) ≡ waited rows
in-order [] up = refl
in-order (row ∷ rows) up = ap (insert_row (awaited_row (row.seg, row.holder))) (in-order rows up.1) ∙ insert-first row rows up.0

-- What came for a row is among what came for all

pub record CameFor (sent : List Message) (m : ServerId) (term : ℕ) (row : PlanRow) (entries : List Entry) : Type 0 where
  pub first : List Entry
  pub was : HasSent sent m row.holder term row.seg first
  pub among : (entry : Entry) → In entry first → In entry entries

pub came-for : (sent : List Message) (m : ServerId) (term : ℕ) (rows : List PlanRow) (row : PlanRow)
    (entries : List Entry) → AllCame sent m term (waited rows) entries → In row rows → CameFor sent m term row entries
came-for sent m term [] row entries came at = absurd at
came-for sent m term (first ∷ rows) row entries came (inl same) = record {
  first = came.0;
  was = subst (λ (one : PlanRow). HasSent sent m one.holder term one.seg came.0) (sym same) came.2;
  among = λ entry there. subst (In entry) (sym came.4) (In-left entry came.0 came.1 there);
}
came-for sent m term (first ∷ rows) row entries came (inr rest) =
    let p : CameFor sent m term row came.1 = came-for sent m term rows row came.1 came.3 rest in
    record {
      first = p.first;
      was = p.was;
      among = λ entry there. subst (In entry) (sym came.4) (In-right entry came.0 came.1 (p.among entry there));
    }
