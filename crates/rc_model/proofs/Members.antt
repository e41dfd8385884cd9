-- Membership in lists, over plain variables.
use Rattle.std.proofs.Common.{◌≡◌, ◌⊎◌, ℕ, zero, suc, ◌<◌, Bool, true, false, cond, max, List, [], ◌∷◌, ◌++◌, map, filter, nat_eq}
use Rattle.std.proofs.Common.{Option, Some, None, slice_get, refl, sym, ap, ◌∙◌, subst, inl, inr, arith}
use Rattle.std.specs.Option.{option_to_list}
use Rattle.std.proofs.lemmas.Bool.{eqb-true, eq-eqb, ltb-true, lt-ltb}
use Rattle.rc_model.specs.Model.{PlanRow, reach, is_recovered, segments_of, In, IsHeld}
use Rattle.rc_model.proofs.Tests.{either, true_false}

pub In-left : {X : Type 0} (x : X) (xs ys : List X) → In x xs → In x (xs ++ ys)
In-left x [] ys at = absurd at
In-left x (y ∷ xs) ys (inl e) = inl e
In-left x (y ∷ xs) ys (inr rest) = inr (In-left x xs ys rest)

pub In-right : {X : Type 0} (x : X) (xs ys : List X) → In x ys → In x (xs ++ ys)
In-right x [] ys at = at
In-right x (y ∷ xs) ys at = inr (In-right x xs ys at)

pub In-append : {X : Type 0} (x : X) (xs ys : List X) → In x (xs ++ ys) → In x xs ⊎ In x ys
In-append x [] ys at = inr at
In-append x (y ∷ xs) ys (inl e) = inl (inl e)
In-append x (y ∷ xs) ys (inr rest) = further (In-append x xs ys rest)
  where
    further : In x xs ⊎ In x ys → ((x ≡ y) ⊎ In x xs) ⊎ In x ys
    further (inl old) = inl (inr old)
    further (inr new) = inr new

-- what stands at a place is a member
pub In-get : {X : Type 0} (xs : List X) (k : ℕ) (x : X) → slice_get xs k ≡ Some x → In x xs
In-get [] k x e = cc
In-get (y ∷ xs) zero x e = let same : y ≡ x = cc in inl (sym same)
In-get (y ∷ xs) (suc k) x e = inr (In-get xs k x e)

-- and a member stands at a place
pub place_of : {X : Type 0} (xs : List X) (x : X) → In x xs → (k : ℕ) × (slice_get xs k ≡ Some x)
place_of [] x at = absurd at
place_of (y ∷ xs) x (inl e) = (0, ap Some (sym e))
place_of (y ∷ xs) x (inr rest) = let found : (k : ℕ) × (slice_get xs k ≡ Some x) = place_of xs x rest in (suc found.0, found.1)

-- the one of an option
pub In-option : {X : Type 0} (x : X) (found : Option X) → In x (option_to_list found) → found ≡ Some x
In-option x None at = absurd at
In-option x (Some y) (inl e) = ap Some (sym e)
In-option x (Some y) (inr rest) = absurd rest

pub In-from_option : {X : Type 0} (x : X) (found : Option X) → found ≡ Some x → In x (option_to_list found)
In-from_option x found e = subst (λ f. In x (option_to_list f)) (sym e) (inl refl)

-- a member of what is gathered, with a piece that counts where the test says so
pub In-gathered : {X : Type 0} (x : X) (b : Bool) (piece rest : List X) → In x (cond b (piece ++ rest) rest) →
    ((b ≡ true) × In x piece) ⊎ In x rest
In-gathered x false piece rest at = inr at
In-gathered x true piece rest at = by (In-append x piece rest at)
  where
    by : In x piece ⊎ In x rest → ((true ≡ true) × In x piece) ⊎ In x rest
    by (inl new) = inl (refl, new)
    by (inr old) = inr old

pub In-gathered_rest : {X : Type 0} (x : X) (b : Bool) (piece rest : List X) → In x rest → In x (cond b (piece ++ rest) rest)
In-gathered_rest x true piece rest at = In-right x piece rest at
In-gathered_rest x false piece rest at = at

pub In-gathered_piece : {X : Type 0} (x : X) (b : Bool) (piece rest : List X) → b ≡ true → In x piece → In x (cond b (piece ++ rest) rest)
In-gathered_piece x true piece rest e at = In-left x piece rest at
In-gathered_piece x false piece rest e at = cc

-- a member of a filtered list is one of the whole, and passes the test
pub In-filter : {X : Type 0} (test : X → Bool) (x : X) (xs : List X) → In x (filter test xs) → In x xs × (test x ≡ true)
In-filter test x [] at = absurd at
In-filter test x (y ∷ xs) at = by (test y) refl (In-filter test x xs) at
  where
    further : In x xs × (test x ≡ true) → ((x ≡ y) ⊎ In x xs) × (test x ≡ true)
    further p = (inr p.0, p.1)

    by : (b : Bool) → test y ≡ b → (In x (filter test xs) → In x xs × (test x ≡ true)) →
        In x (cond b (y ∷ filter test xs) (filter test xs)) → ((x ≡ y) ⊎ In x xs) × (test x ≡ true)
    by true e rec (inl same) = (inl same, ap test same ∙ e)
    by true e rec (inr rest) = further (rec rest)
    by false e rec rest = further (rec rest)

-- a member that passes stays in a filtered list
pub filter-In : {X : Type 0} (test : X → Bool) (x : X) (xs : List X) → In x xs → test x ≡ true → In x (filter test xs)
filter-In test x [] at e = absurd at
filter-In test x (y ∷ xs) (inl same) e = either (λ l. In x l) (test y) (y ∷ filter test xs) (filter test xs)
    (λ _. inl same) (λ no. true_false (sym e ∙ ap test same ∙ no))
filter-In test x (y ∷ xs) (inr rest) e = either (λ l. In x l) (test y) (y ∷ filter test xs) (filter test xs)
    (λ _. inr (filter-In test x xs rest e)) (λ _. filter-In test x xs rest e)

-- a member of a mapped list is the image of one
pub In-map : {X Y : Type 0} (f : X → Y) (y : Y) (xs : List X) → In y (map f xs) → (x : X) × (In x xs) × (y ≡ f x)
In-map f y [] at = absurd at
In-map f y (x ∷ xs) (inl e) = (x, inl refl, e)
In-map f y (x ∷ xs) (inr rest) = let found = In-map f y xs rest in (found.0, inr found.1, found.2)

pub map-In : {X Y : Type 0} (f : X → Y) (x : X) (xs : List X) → In x xs → In (f x) (map f xs)
map-In f x [] at = absurd at
map-In f x (z ∷ xs) (inl e) = inl (ap f e)
map-In f x (z ∷ xs) (inr rest) = inr (map-In f x xs rest)

-- the rows reach above a place exactly where one of them holds it

pub held-reaches : (rows : List PlanRow) (row : PlanRow) (s o : ℕ) → In row rows → row.seg ≡ s → o < row.len → o < reach rows s
held-reaches [] row s o at seg below = absurd at
held-reaches (first ∷ rows) row s o (inl e) seg below = search (arith, either, nat_eq, eq-eqb)
held-reaches (first ∷ rows) row s o (inr rest) seg below =
    let later : o < reach rows s = held-reaches rows row s o rest seg below in
    either (λ n. o < n) (nat_eq first.seg s) (max first.len (reach rows s)) (reach rows s) (λ _. omega (arith, later)) (λ _. later)

held-more : {first : PlanRow} {rows : List PlanRow} {s o : ℕ} → IsHeld rows s o → IsHeld (first ∷ rows) s o
held-more p = record { row = p.row; among = inr p.among; seg = p.seg; below = p.below }

pub held-from_reach : (rows : List PlanRow) {s o : ℕ} → o < reach rows s → IsHeld rows s o
held-from_reach [] {o} below = search arith
held-from_reach (first ∷ rows) {s} {o} below = by (nat_eq first.seg s) refl (held-from_reach rows) below
  where
    which : nat_eq first.seg s ≡ true → (o < reach rows s → IsHeld rows s o) → (o < first.len) ⊎ (o < reach rows s) →
        IsHeld (first ∷ rows) s o
    which same later (inl here) = record { row = first; among = inl refl; seg = eqb-true first.seg s same; below = here }
    which same later (inr there) = held-more (later there)

    of_max : (a b : ℕ) → o < max a b → (o < a) ⊎ (o < b)
    of_max a b h = grind arith

    by : (b : Bool) → nat_eq first.seg s ≡ b → (o < reach rows s → IsHeld rows s o) →
        o < cond b (max first.len (reach rows s)) (reach rows s) → IsHeld (first ∷ rows) s o
    by true same later h = which same later (of_max first.len (reach rows s) h)
    by false same later h = held-more (later h)

pub is_recovered-held : {rows : List PlanRow} {s o : ℕ} → is_recovered rows s o ≡ true → IsHeld rows s o
is_recovered-held {rows} {s} {o} e = held-from_reach rows (ltb-true o (reach rows s) e)

pub held-is_recovered : {rows : List PlanRow} {s o : ℕ} → IsHeld rows s o → is_recovered rows s o ≡ true
held-is_recovered {rows} {s} {o} p = lt-ltb o (reach rows s) (held-reaches rows p.row s o p.among p.seg p.below)

-- the segment of a place that is held is one of the rows'
pub held-segment : (rows : List PlanRow) (row : PlanRow) → In row rows → In row.seg (segments_of rows)
held-segment [] row at = absurd at
held-segment (first ∷ rows) row (inl e) = inl (ap (λ (r : PlanRow). r.seg) e)
held-segment (first ∷ rows) row (inr rest) = inr (held-segment rows row rest)
