-- `first_by` gives the first by the order and then by its place, where the order is strict.
use Rattle.std.proofs.Common.{◌≡◌, ◌⊎◌, ⊎_elim, Bool, true, false, cond, List, [], ◌∷◌, ◌++◌, filter, Some, None}
use Rattle.std.proofs.Common.{refl, sym, ap, ◌∙◌}
use Rattle.std.proofs.Common.{subst}
use Rattle.std.specs.Bool.{Decides}
use Rattle.std.specs.List.{All, fold}
use Rattle.std.proofs.lemmas.Bool.{false≢true}
use Rattle.std.proofs.lemmas.List.Elements.{All-nil, All-cons, All-head, All-tail}
use Rattle.rc_model.specs.Pick.{better, HeldRow, first_by}
use Rattle.rc_model.specs.PickOrders.{IsFirst}

-- what holds of each element holds of this one
pub All-middle : {X : Type 0} (P : X → Type 0) (earlier : List X) (x : X) (later : List X) → All P (earlier ++ x ∷ later) → P x
All-middle P [] x later all = All-head P x later all
All-middle P (y ∷ earlier) x later all = All-middle P earlier x later (All-tail P y (earlier ++ x ∷ later) all)

-- a filter leaves nothing exactly where no element passes
pub filter_none : {X : Type 0} (test : X → Bool) (xs : List X) → filter test xs ≡ [] → All (λ x. test x ≡ false) xs
filter_none test [] none = All-nil (λ x. test x ≡ false)
filter_none test (x ∷ xs) none = at (test x) refl (filter_none test xs) none
  where
    at : (b : Bool) → test x ≡ b → (filter test xs ≡ [] → All (λ x. test x ≡ false) xs) →
        cond b (x ∷ filter test xs) (filter test xs) ≡ [] → All (λ x. test x ≡ false) (x ∷ xs)
    at true is rest none = absurd cc
    at false is rest none = All-cons (λ x. test x ≡ false) x xs is (rest none)

pub filter_none_from : {X : Type 0} (test : X → Bool) (xs : List X) → All (λ x. test x ≡ false) xs → filter test xs ≡ []
filter_none_from test [] all = refl
filter_none_from test (x ∷ xs) all =
    rw (All-head (λ x. test x ≡ false) x xs all) (filter_none_from test xs (All-tail (λ x. test x ≡ false) x xs all))

pub first_by_none : (before : HeldRow → HeldRow → Bool) (rows : List HeldRow) → first_by before rows ≡ None → rows ≡ []
first_by_none before [] none = refl
first_by_none before (row ∷ rows) none = absurd cc

module _ (before : HeldRow → HeldRow → Bool) (ComesBefore : HeldRow → HeldRow → Type 0) (tells : (a b : HeldRow) →
    Decides (before a b) (ComesBefore a b))
    (apart : (a b : HeldRow) → ComesBefore a b → ComesBefore b a → ⊥) (split : (a b c : HeldRow) → ComesBefore a c →
    ComesBefore a b ⊎ ComesBefore b c) where
  not_before : {a b : HeldRow} → before a b ≡ false → ComesBefore a b → ⊥
  not_before {a} {b} no_ p = false≢true (sym no_ ∙ (tells a b).1 p)

  -- a comes before b, and c does not
  passes : {a b c : HeldRow} → ComesBefore a b → (ComesBefore c b → ⊥) → ComesBefore a c
  passes {a} {b} {c} p no_ =
      ⊎_elim {C = ComesBefore a c} (λ (q : ComesBefore a c). q) (λ (q : ComesBefore c b). absurd (no_ q)) (split a c b p)

  -- x comes before the best so far, and so all goes on from x
  replaced : {best x : HeldRow} {xs : List HeldRow} {first : HeldRow} → ComesBefore x best →
      IsFirst ComesBefore (x ∷ xs) first → IsFirst ComesBefore (best ∷ x ∷ xs) first
  replaced {best} {x} {xs} {first} earlier_ is =
      let not_x : ComesBefore x first → ⊥ = All-head (λ row. ¬ ComesBefore row first) x xs is.least in
      let beaten : ComesBefore first best = ⊎_elim {C = ComesBefore first best} (λ (q : ComesBefore x first).
      absurd (not_x q)) (λ (q : ComesBefore first best). q) (split x first best earlier_) in
      record {
        earlier = best ∷ is.earlier;
        later = is.later;
        place = ap (λ rows. best ∷ rows) is.place;
        least = All-cons (λ row. ¬ ComesBefore row first) best (x ∷ xs) (λ q. apart best first q beaten) is.least;
        before_earlier = All-cons (λ row. ComesBefore first row) best is.earlier beaten is.before_earlier;
      }

  -- x does not come before the best so far, and so is passed by
  kept : {best x : HeldRow} {xs : List HeldRow} {first : HeldRow} → (ComesBefore x best → ⊥) →
      IsFirst ComesBefore (best ∷ xs) first → IsFirst ComesBefore (best ∷ x ∷ xs) first
  kept {best} {x} {xs} {first} stays is = at is.earlier is.place is.before_earlier
    where
      at : (earlier : List HeldRow) → best ∷ xs ≡ earlier ++ first ∷ is.later →
          All (λ row. ComesBefore first row) earlier → IsFirst ComesBefore (best ∷ x ∷ xs) first
      at [] place all =
          let same : best ≡ first = cc in
          record {
            earlier = [];
            later = x ∷ xs;
            place = ap (λ row. row ∷ x ∷ xs) same;
            least = All-cons (λ row. ¬ ComesBefore row first) best (x ∷ xs) (All-head (λ row. ¬ ComesBefore row first) best xs is.least)
                (All-cons (λ row. ¬ ComesBefore row first) x xs
                (λ q. stays (subst (λ row. ComesBefore x row) (sym same) q))
                (All-tail (λ row. ¬ ComesBefore row first) best xs is.least));
            before_earlier = All-nil (λ row. ComesBefore first row);
          }
      at (e ∷ es) place all =
          let same : best ≡ e = cc in
          let rest : xs ≡ es ++ first ∷ is.later = cc in
          let beaten : ComesBefore first best =
          subst (λ row. ComesBefore first row) (sym same) (All-head (λ row. ComesBefore first row) e es all) in
          let over : ComesBefore first x = passes beaten stays in
          record {
            earlier = best ∷ x ∷ es;
            later = is.later;
            place = ap (λ rows. best ∷ x ∷ rows) rest;
            least = All-cons (λ row. ¬ ComesBefore row first) best (x ∷ xs) (All-head (λ row. ¬ ComesBefore row first) best xs is.least)
                (All-cons (λ row. ¬ ComesBefore row first) x xs (λ q. apart x first q over)
                (All-tail (λ row. ¬ ComesBefore row first) best xs is.least));
            before_earlier = All-cons (λ row. ComesBefore first row) best (x ∷ es) beaten
                (All-cons (λ row. ComesBefore first row) x es over (All-tail (λ row. ComesBefore first row) e es all));
          }

  fold_better_first : {best : HeldRow} (rows : List HeldRow) → IsFirst ComesBefore (best ∷ rows) (fold (better before) best rows)
  fold_better_first {best} [] = record {
    earlier = [];
    later = [];
    place = refl;
    least = All-cons (λ row. ¬ ComesBefore row best) best [] (λ q. apart best best q q) (All-nil (λ row. ¬ ComesBefore row best));
    before_earlier = All-nil (λ row. ComesBefore best row);
  }
  fold_better_first {best} (x ∷ xs) = at (before x best) refl (λ b. fold_better_first xs)
    where
      at : (b : Bool) → before x best ≡ b →
          ((from : HeldRow) → IsFirst ComesBefore (from ∷ xs) (fold (better before) from xs)) →
          IsFirst ComesBefore (best ∷ x ∷ xs) (fold (better before) (cond b x best) xs)
      at true is rest = replaced ((tells x best).0 is) (rest x)
      at false is rest = kept (not_before is) (rest best)

  -- there is one first row
  same_first : (e : List HeldRow) {a : HeldRow} (l : List HeldRow) (f : List HeldRow) {b : HeldRow} (m : List HeldRow) →
      e ++ a ∷ l ≡ f ++ b ∷ m → (ComesBefore a b → ⊥) → (ComesBefore b a → ⊥) → All (λ row. ComesBefore a row) e →
      All (λ row. ComesBefore b row) f → a ≡ b
  same_first [] l [] m same not_a not_b all_e all_f = cc
  same_first [] {a} l (y ∷ f) {b} m same not_a not_b all_e all_f = let is : a ≡ y =
      cc in absurd (not_b (subst (λ row. ComesBefore b row) (sym is) (All-head (λ row. ComesBefore b row) y f all_f)))
  same_first (x ∷ e) {a} l [] {b} m same not_a not_b all_e all_f = let is : x ≡ b =
      cc in absurd (not_a (subst (λ row. ComesBefore a row) is (All-head (λ row. ComesBefore a row) x e all_e)))
  same_first (x ∷ e) {a} l (y ∷ f) {b} m same not_a not_b all_e all_f =
      let tails : e ++ a ∷ l ≡ f ++ b ∷ m = cc in same_first e l f m tails not_a not_b
      (All-tail (λ row. ComesBefore a row) x e all_e) (All-tail (λ row. ComesBefore b row) y f all_f)

  one_first : {rows : List HeldRow} {a b : HeldRow} → IsFirst ComesBefore rows a → IsFirst ComesBefore rows b → a ≡ b
  one_first {a} {b} is_a is_b =
      same_first is_a.earlier is_a.later is_b.earlier is_b.later (sym is_a.place ∙ is_b.place)
      (All-middle (λ row. ¬ ComesBefore row b) is_a.earlier a is_a.later (subst (All (λ row. ¬ ComesBefore row b)) is_a.place is_b.least))
      (All-middle (λ row. ¬ ComesBefore row a) is_b.earlier b is_b.later (subst (All (λ row. ¬ ComesBefore row a)) is_b.place is_a.least))
      is_a.before_earlier is_b.before_earlier

  pub first_by_first : (rows : List HeldRow) {first : HeldRow} → first_by before rows ≡ Some first → IsFirst ComesBefore rows first
  first_by_first [] is = absurd cc
  first_by_first (row ∷ rows) {first} is = let same : fold (better before) row rows ≡ first =
      cc in subst (IsFirst ComesBefore (row ∷ rows)) same (fold_better_first rows)

  pub fold_better_IsFirst : (rows : List HeldRow) {first : HeldRow} → IsFirst ComesBefore rows first →
      first_by before rows ≡ Some first
  fold_better_IsFirst [] {first} is = at is.earlier is.place
    where
      at : (earlier : List HeldRow) → [] ≡ earlier ++ first ∷ is.later → None ≡ Some first
      at [] place = cc
      at (e ∷ es) place = cc
  fold_better_IsFirst (row ∷ rows) is = ap Some (one_first (fold_better_first rows) is)
