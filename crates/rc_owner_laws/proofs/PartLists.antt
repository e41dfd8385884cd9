-- Entries under a term, and places at the end of a log.
use Rattle.std.proofs.Common.{◌≡◌, ◌⊎◌, ℕ, zero, suc, ◌+◌, ◌≤◌, Bool, true, false, cond, List, [], ◌∷◌, ◌++◌, nat_eq}
use Rattle.std.proofs.Common.{length, map, filter, not, take, refl, sym, ap, ◌∙◌, subst, inl, inr, arith}
use Rattle.std.proofs.lemmas.Bool.{eqb-true, eq-eqb, ne_eqb}
use Rattle.std.proofs.lemmas.List.{append_assoc, length-append}
use Rattle.rc_model.specs.Model.{Entry, LogPlace, replayed_at, under_term, count_under, In}
use Rattle.rc_step_laws.specs.Words.{Begins}
use Rattle.rc_owner_laws.specs.Parts.{logged, under}
use Rattle.rc_model.proofs.Tests.{either}

pub append-nil : {X : Type 0} (xs : List X) → xs ++ [] ≡ xs
append-nil [] = refl
append-nil (x ∷ xs) = ap (λ rest. x ∷ rest) (append-nil xs)

-- Under a term

pub under-append : (term : ℕ) (xs ys : List Entry) → under term (xs ++ ys) ≡ under term xs ++ under term ys
under-append term [] ys = refl
under-append term (x ∷ xs) ys = by (nat_eq x.term term) (under-append term xs ys)
  where
    by : (b : Bool) → under term (xs ++ ys) ≡ under term xs ++ under term ys →
        cond b (x ∷ under term (xs ++ ys)) (under term (xs ++ ys)) ≡ cond b (x ∷ under term xs) (under term xs) ++
        under term ys
    by true rec = ap (λ rest. x ∷ rest) rec
    by false rec = rec

pub under-here : {term : ℕ} {x : Entry} (xs : List Entry) → x.term ≡ term → under term (x ∷ xs) ≡ x ∷ under term xs
under-here {term} {x} xs e = ap (λ b. cond b (x ∷ under term xs) (under term xs)) (eq-eqb x.term term e)

pub under-beside : {term : ℕ} (x : Entry) (xs : List Entry) → (x.term ≡ term → ⊥) → under term (x ∷ xs) ≡ under term xs
under-beside {term} x xs differs = ap (λ b. cond b (x ∷ under term xs) (under term xs)) (ne_eqb x.term term differs)

pub under-none : {term : ℕ} (xs : List Entry) → ((x : Entry) → In x xs → x.term ≡ term → ⊥) → under term xs ≡ []
under-none [] none = refl
under-none (x ∷ xs) none = under-beside x xs (none x (inl refl)) ∙ under-none xs (λ y at. none y (inr at))

pub under-all : (term : ℕ) (xs : List Entry) → under term (map (under_term term) xs) ≡ map (under_term term) xs
under-all term [] = refl
under-all term (x ∷ xs) = under-here (map (under_term term) xs) refl ∙
    ap (λ rest. under_term term x ∷ rest) (under-all term xs)

pub In-under : (term : ℕ) (x : Entry) (xs : List Entry) → In x xs → x.term ≡ term → In x (under term xs)
In-under term x [] at e = absurd at
In-under term x (y ∷ xs) (inl same) e =
    subst (λ l. In x l) (sym (under-here xs (ap (λ (one : Entry). one.term) (sym same) ∙ e))) (inl same)
In-under term x (y ∷ xs) (inr rest) e =
    either (λ l. In x l) (nat_eq y.term term) (y ∷ under term xs) (under term xs) (λ _. inr (In-under term x xs rest e))
    (λ _. In-under term x xs rest e)

pub under-In : (term : ℕ) (x : Entry) (xs : List Entry) → In x (under term xs) → In x xs × (x.term ≡ term)
under-In term x [] at = absurd at
under-In term x (y ∷ xs) at =
    either (λ l. In x l → ((x ≡ y) ⊎ In x xs) × (x.term ≡ term)) (nat_eq y.term term) (y ∷ under term xs) (under term xs)
    (λ e now. here (under-In term x xs) (eqb-true y.term term e) now) (λ _ now. later (under-In term x xs now)) at
  where
    later : In x xs × (x.term ≡ term) → ((x ≡ y) ⊎ In x xs) × (x.term ≡ term)
    later p = (inr p.0, p.1)

    here : (In x (under term xs) → In x xs × (x.term ≡ term)) → y.term ≡ term → (x ≡ y) ⊎ In x (under term xs) →
        ((x ≡ y) ⊎ In x xs) × (x.term ≡ term)
    here rec e (inl same) = (inl same, ap (λ (one : Entry). one.term) same ∙ e)
    here rec e (inr rest) = later (rec rest)

-- How many there are

count-step : (term d : ℕ) (x : Entry) (xs ys : List Entry) → count_under term xs ≤ count_under term ys →
    count_under term (x ∷ xs) ≤ count_under term (x ∷ ys)
count-step term d x xs ys less = search arith

pub count-take : (term d : ℕ) (xs : List Entry) → count_under term (take d xs) ≤ count_under term xs
count-take term zero xs = omega arith
count-take term (suc d) [] = omega arith
count-take term (suc d) (x ∷ xs) = count-step term d x (take d xs) xs (count-take term d xs)

pub count-grows : (term d e : ℕ) (xs ys : List Entry) → d ≤ e → count_under term (take d xs) ≤ count_under term (take e (xs ++ ys))
count-grows term zero e xs ys less = omega arith
count-grows term (suc d) e [] ys less = omega arith
count-grows term (suc d) zero (x ∷ xs) ys less = absurd (omega arith)
count-grows term (suc d) (suc e) (x ∷ xs) ys less =
    count-step term d x (take d xs) (take e (xs ++ ys)) (count-grows term d e xs ys (omega arith))

-- one more entry counts where it is under the term
pub count-first : (term : ℕ) (x : Entry) (xs : List Entry) {b : Bool} → nat_eq x.term term ≡ b →
    count_under term (x ∷ xs) ≡ cond b (count_under term xs + 1) (count_under term xs)
count-first term x xs {b} is = search arith

count-more : (term : ℕ) (x : Entry) (xs : List Entry) → count_under term xs ≤ count_under term (x ∷ xs)
count-more term x xs = search arith

-- of the first places those that were replayed are no more than all
pub count-replayed : (term d : ℕ) (places : List LogPlace) →
    count_under term (replayed_at (take d places)) ≤ count_under term (take d (logged places))
count-replayed term zero places = omega arith
count-replayed term (suc d) [] = omega arith
count-replayed term (suc d) (place ∷ places) = by place.client (count-replayed term d places)
  where
    by : (b : Bool) → count_under term (replayed_at (take d places)) ≤ count_under term (take d (logged places)) →
        count_under term (logged (cond (not b) (place ∷ filter (λ one. not one.client) (take d places))
        (filter (λ one. not one.client) (take d places))))
        ≤ count_under term (place.entry ∷ take d (logged places))
    by true less = (let more = count-more term place.entry (take d (logged places)) in omega arith)
    by false less = count-step term d place.entry (replayed_at (take d places)) (take d (logged places)) less

-- The entries of places

pub logged-append : (xs ys : List LogPlace) → logged (xs ++ ys) ≡ logged xs ++ logged ys
logged-append [] ys = refl
logged-append (x ∷ xs) ys = ap (λ rest. x.entry ∷ rest) (logged-append xs ys)

-- Beginnings

cons-head : {X : Type 0} {x y : X} {xs ys : List X} → x ∷ xs ≡ y ∷ ys → x ≡ y
cons-head e = cc

cons-tail : {X : Type 0} {x y : X} {xs ys : List X} → x ∷ xs ≡ y ∷ ys → xs ≡ ys
cons-tail e = cc

pub begins-more : {X : Type 0} (xs : List X) {ys : List X} (zs : List X) → Begins xs ys → Begins xs (ys ++ zs)
begins-more xs zs p = (p.0 ++ zs, sym (append_assoc xs p.0 zs) ∙ ap (λ l. l ++ zs) p.1)

-- where the first of two is no shorter than the beginning of both, the beginning is the first's
pub begins-within : {X : Type 0} (xs ys zs : List X) → Begins xs (ys ++ zs) → length xs ≤ length ys → Begins xs ys
begins-within [] ys zs p less = (ys, refl)
begins-within (x ∷ xs) [] zs p less = absurd (omega arith)
begins-within (x ∷ xs) (y ∷ ys) zs p less =
    let heads : x ≡ y = cons-head (p.1) in
    let rest : Begins xs ys = begins-within xs ys zs (p.0, cons-tail p.1) (omega arith) in
    (rest.0, ap (λ z. z ∷ (xs ++ rest.0)) heads ∙ ap (λ l. y ∷ l) rest.1)

-- where it is as long as all, there is nothing more
pub nothing-more : {X : Type 0} {xs ys : List X} (zs : List X) → ys ++ zs ≡ xs → length xs ≤ length ys → (zs ≡ []) × (ys ≡ xs)
nothing-more {ys} [] e less = (refl, sym (append-nil ys) ∙ e)
nothing-more {xs} {ys} (z ∷ zs) e less = search (arith, length-append)

-- The last of a list

pub record IsLast {X : Type 0} (xs : List X) (x : X) (before : List X) (y : X) (after : List X) : Type 0 where
  pub none : after ≡ []
  pub before_is : before ≡ xs
  pub is : y ≡ x

pub record IsBefore {X : Type 0} (xs : List X) (x : X) (before : List X) (y : X) (after : List X) : Type 0 where
  pub rest : List X
  pub rest_is : after ≡ rest ++ x ∷ []
  pub whole : xs ≡ before ++ y ∷ rest

too-short : {X : Type 0} {P : Type 0} {x b : X} (y : X) (before after : List X) → x ∷ [] ≡ b ∷ (before ++ y ∷ after) → P
too-short {x} {b} y before after e =
    let n : length (x ∷ []) ≡ length (b ∷ (before ++ y ∷ after)) = ap length e in
    let m : length (before ++ y ∷ after) ≡ length before + length (y ∷ after) = length-append before (y ∷ after) in
    absurd (omega arith)

last-further : {X : Type 0} {xs : List X} {x z b : X} {before : List X} {y : X} {after : List X} → z ≡ b →
    IsLast xs x before y after ⊎ IsBefore xs x before y after
    → IsLast (z ∷ xs) x (b ∷ before) y after ⊎ IsBefore (z ∷ xs) x (b ∷ before) y after
last-further {z} {before} same (inl p) =
    inl (record { none = p.none; before_is = ap (λ w. w ∷ before) (sym same) ∙ ap (λ l. z ∷ l) p.before_is; is = p.is })
last-further {xs} {b} same (inr p) =
    inr (record { rest = p.rest; rest_is = p.rest_is; whole = ap (λ w. w ∷ xs) same ∙ ap (λ l. b ∷ l) p.whole })

pub last-or-before : {X : Type 0} (xs : List X) {x : X} (before : List X) {y : X} {after : List X} →
    xs ++ x ∷ [] ≡ before ++ y ∷ after → IsLast xs x before y after ⊎ IsBefore xs x before y after
last-or-before [] [] e = inl (record { none = sym (cons-tail e); before_is = refl; is = sym (cons-head e) })
last-or-before [] (b ∷ before) {y} {after} e = too-short y before after e
last-or-before (z ∷ xs) [] e = inr (record { rest = xs; rest_is = sym (cons-tail e); whole = ap (λ w. w ∷ xs) (cons-head e) })
last-or-before (z ∷ xs) (b ∷ before) e = last-further (cons-head e) (last-or-before xs before (cons-tail e))
