-- Tablets in order, round a point at which some of them begin.
use Rattle.std.proofs.Common.{◌≡◌, ℕ, ◌≤◌, Bool, true, false, cond, List, [], ◌∷◌, ◌++◌, Option, Some, None, refl, subst, arith}
use Rattle.std.proofs.lemmas.Bool.Decides.{nat_tests}
use Rattle.rc_model.specs.Model.{Tablet, holds, tablet_of}
use Rattle.rc_rangetree.specs.declared.points.Point.{Point}
use Rattle.rc_rangetree.specs.Points.{IsBefore, IsAtOrAfter, BeginsAt}
use Rattle.rc_rangetree.specs.Ranges.{LiesBefore, LiesBeforeAll, AreInOrder}

LiesBeforeAll-left : (tablet : Tablet) (xs ys : List Tablet) → LiesBeforeAll tablet (xs ++ ys) → LiesBeforeAll tablet xs
LiesBeforeAll-left tablet [] ys h = tt
LiesBeforeAll-left tablet (x ∷ xs) ys h = (h.0, LiesBeforeAll-left tablet xs ys h.1)

pub LiesBeforeAll-middle : (tablet : Tablet) (xs : List Tablet) (y : Tablet) (ys : List Tablet) →
    LiesBeforeAll tablet (xs ++ y ∷ ys) → LiesBefore tablet.range y.range
LiesBeforeAll-middle tablet [] y ys h = h.0
LiesBeforeAll-middle tablet (x ∷ xs) y ys h = LiesBeforeAll-middle tablet xs y ys h.1

pub AreInOrder-left : (xs ys : List Tablet) → AreInOrder (xs ++ ys) → AreInOrder xs
AreInOrder-left [] ys h = tt
AreInOrder-left (x ∷ xs) ys h = (h.0, LiesBeforeAll-left x xs ys h.1, AreInOrder-left xs ys h.2)

pub AreInOrder-right : (xs ys : List Tablet) → AreInOrder (xs ++ ys) → AreInOrder ys
AreInOrder-right [] ys h = h
AreInOrder-right (x ∷ xs) ys h = AreInOrder-right xs ys h.2

holds_too_low : (x y : Tablet) (table key : ℕ) (point : Point) → LiesBefore x.range y.range → y.range.table ≡ point.table →
    y.range.lo ≡ point.key → IsAtOrAfter table key point → holds x table key ≡ false
holds_too_low x y table key point b t l h = grind (arith, nat_tests)

-- no tablet before the point holds a key from the point on
pub tablet_of-before : (xs ys : List Tablet) (table key : ℕ) (point : Point) → AreInOrder (xs ++ ys) →
    BeginsAt point ys → IsAtOrAfter table key point → tablet_of xs table key ≡ None
tablet_of-before xs [] table key point o b h = absurd b
tablet_of-before [] (y ∷ ys) table key point o b h = refl
tablet_of-before (x ∷ xs) (y ∷ ys) table key point o b h =
    rw (holds_too_low x y table key point (LiesBeforeAll-middle x xs y ys o.1) b.0 b.1 h)
    (tablet_of-before xs (y ∷ ys) table key point o.2 b h)

holds_too_high : (y z : Tablet) (table key : ℕ) (point : Point) → LiesBefore y.range z.range → y.range.lo ≤ y.range.hi →
    y.range.table ≡ point.table → y.range.lo ≡ point.key → IsBefore table key point → holds z table key ≡ false
holds_too_high y z table key point b r t l h = grind (arith, nat_tests)

tablet_of-later : (y : Tablet) (zs : List Tablet) (table key : ℕ) (point : Point) → LiesBeforeAll y zs → y.range.lo ≤ y.range.hi →
    y.range.table ≡ point.table → y.range.lo ≡ point.key → IsBefore table key point → tablet_of zs table key ≡ None
tablet_of-later y [] table key point b r t l h = refl
tablet_of-later y (z ∷ zs) table key point b r t l h =
    rw (holds_too_high y z table key point b.0 r t l h)
    (tablet_of-later y zs table key point b.1 r t l h)

holds_first : (y : Tablet) (table key : ℕ) (point : Point) → y.range.table ≡ point.table → y.range.lo ≡ point.key →
    IsBefore table key point → holds y table key ≡ false
holds_first y table key point t l h = grind (arith, nat_tests)

-- no tablet from the point on holds a key before the point
pub tablet_of-after : (ys : List Tablet) (table key : ℕ) (point : Point) → AreInOrder ys → BeginsAt point ys →
    IsBefore table key point → tablet_of ys table key ≡ None
tablet_of-after [] table key point o b h = absurd b
tablet_of-after (y ∷ ys) table key point o b h =
    rw (holds_first y table key point b.0 b.1 h)
    (tablet_of-later y ys table key point o.1 o.0 b.0 b.1 h)

found_cases : (b : Bool) (x u : Tablet) (later : Option Tablet) (P : Tablet → Type 0) → (b ≡ true → P x) →
    (later ≡ Some u → P u) → cond b (Some x) later ≡ Some u → P u
found_cases true x u later P here there h = let same : x ≡ u = cc in subst P same (here refl)
found_cases false x u later P here there h = there h

tablet_of-holds : (xs : List Tablet) (table key : ℕ) (tablet : Tablet) → tablet_of xs table key ≡ Some tablet →
    holds tablet table key ≡ true
tablet_of-holds [] table key tablet h = cc
tablet_of-holds (x ∷ xs) table key tablet h = found_cases (holds x table key) x tablet _ (λ u. holds u table key ≡ true)
    (λ e. e) (tablet_of-holds xs table key tablet) h

table_of_holder : (tablet : Tablet) (table key : ℕ) → holds tablet table key ≡ true → tablet.range.table ≡ table
table_of_holder tablet table key h = grind (arith, nat_tests)

lo_of_holder : (tablet : Tablet) (table key : ℕ) → holds tablet table key ≡ true → tablet.range.lo ≤ key
lo_of_holder tablet table key h = grind (arith, nat_tests)

-- the tablet of a key is one of the key's table, and doesn't begin after the key
pub tablet_of-table : (xs : List Tablet) (table key : ℕ) (tablet : Tablet) → tablet_of xs table key ≡ Some tablet →
    tablet.range.table ≡ table
tablet_of-table xs table key tablet h = table_of_holder tablet table key (tablet_of-holds xs table key tablet h)

pub tablet_of-lo : (xs : List Tablet) (table key : ℕ) (tablet : Tablet) → tablet_of xs table key ≡ Some tablet → tablet.range.lo ≤ key
tablet_of-lo xs table key tablet h = lo_of_holder tablet table key (tablet_of-holds xs table key tablet h)
