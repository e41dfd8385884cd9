-- The functions of tablets at two lists, one after the other.
use Rattle.std.proofs.Common.{◌≡◌, ℕ, ◌+◌, ◌<◌, ◌≤◌, Bool, true, false, not, cond, ◌&&◌, ◌||◌, List, [], ◌∷◌, ◌++◌}
use Rattle.std.proofs.Common.{length, nat_eq, nat_lt, Option, Some, None, refl, sym, ap, ◌∙◌, arith}
use Rattle.std.proofs.Math.Bool.{or_assoc}
use Rattle.std.proofs.lemmas.Bool.{or_from, lt-ltb, le-ltb}
use Rattle.std.proofs.lemmas.Bool.Decides.{nat_tests}
use Rattle.rc_model.specs.Model.{ServerId, Tablet, KeyRange, same_id, holds, tablet_of, has_table, tablets_of, insert_tablet}
use Rattle.rc_model.specs.Model.{mark_if_owned, marked_crashed, count_to_mark, split_at, is_range, has_range, assigned}
use Rattle.rc_rangetree.specs.declared.points.Point.{Point}
use Rattle.rc_rangetree.specs.Points.{BeginsAt}
use Rattle.rc_rangetree.specs.Ranges.{LiesBefore, AreInOrder}
use Rattle.rc_rangetree.proofs.InOrder.{LiesBeforeAll-middle}

pub tablet_of-append_left : (xs ys : List Tablet) (table key : ℕ) → tablet_of ys table key ≡ None →
    tablet_of (xs ++ ys) table key ≡ tablet_of xs table key
tablet_of-append_left [] ys table key h = h
tablet_of-append_left (x ∷ xs) ys table key h = ap (λ o. cond (holds x table key) (Some x) o) (tablet_of-append_left xs ys table key h)

later_found : (b : Bool) (x : Tablet) (rest all found : Option Tablet) → (rest ≡ None → all ≡ found) →
    cond b (Some x) rest ≡ None → cond b (Some x) all ≡ found
later_found true x rest all found f h = cc
later_found false x rest all found f h = f h

pub tablet_of-append_right : (xs ys : List Tablet) (table key : ℕ) → tablet_of xs table key ≡ None →
    tablet_of (xs ++ ys) table key ≡ tablet_of ys table key
tablet_of-append_right [] ys table key h = refl
tablet_of-append_right (x ∷ xs) ys table key h = later_found (holds x table key) x _ _ _ (tablet_of-append_right xs ys table key) h

split_left : (b : Bool) (x low high : Tablet) (rest : Option Tablet) (u : Tablet) (xs ys new all : List Tablet) →
    (rest ≡ Some u → all ≡ new ++ ys) → cond b (Some x) rest ≡ Some u →
    cond b (low ∷ high ∷ (xs ++ ys)) (x ∷ all) ≡ cond b (low ∷ high ∷ xs) (x ∷ new) ++ ys
split_left true x low high rest u xs ys new all f h = refl
split_left false x low high rest u xs ys new all f h = ap (λ l. x ∷ l) (f h)

pub split_at-append_left : (xs ys : List Tablet) (table at : ℕ) (u : Tablet) → tablet_of xs table at ≡ Some u →
    split_at table at (xs ++ ys) ≡ split_at table at xs ++ ys
split_at-append_left [] ys table at u h = cc
split_at-append_left (x ∷ xs) ys table at u h = split_left (holds x table at) x _ _ _ u xs ys _ _ (split_at-append_left xs ys table at u) h

split_right : (b : Bool) (x : Tablet) (now : List Tablet) (rest : Option Tablet) (all new : List Tablet) →
    (rest ≡ None → all ≡ new) → cond b (Some x) rest ≡ None → cond b now (x ∷ all) ≡ x ∷ new
split_right true x now rest all new f h = cc
split_right false x now rest all new f h = ap (λ l. x ∷ l) (f h)

pub split_at-append_right : (xs ys : List Tablet) (table at : ℕ) → tablet_of xs table at ≡ None →
    split_at table at (xs ++ ys) ≡ xs ++ split_at table at ys
split_at-append_right [] ys table at h = refl
split_at-append_right (x ∷ xs) ys table at h = split_right (holds x table at) x _ _ _ _ (split_at-append_right xs ys table at) h

or_first : (b c d : Bool) → c ≡ d → (b || c) ≡ (b || d)
or_first b c d h = ap (λ x. b || x) h

pub has_range-append : (range : KeyRange) (xs ys : List Tablet) → has_range range (xs ++ ys) ≡ (has_range range xs || has_range range ys)
has_range-append range [] ys = refl
has_range-append range (x ∷ xs) ys = or_first (is_range range x) _ _ (has_range-append range xs ys) ∙
    sym (or_assoc (is_range range x) (has_range range xs) (has_range range ys))

pub has_table-append : (xs ys : List Tablet) (table : ℕ) → has_table (xs ++ ys) table ≡ (has_table xs table || has_table ys table)
has_table-append [] ys table = refl
has_table-append (x ∷ xs) ys table = or_first (nat_eq x.range.table table) _ _ (has_table-append xs ys table) ∙
    sym (or_assoc (nat_eq x.range.table table) (has_table xs table) (has_table ys table))

-- a tablet of exactly this range holds its first key
is_range_holds : (range : KeyRange) (x : Tablet) → x.range.lo ≤ x.range.hi → holds x range.table range.lo ≡ false → is_range range x ≡ false
is_range_holds range x r h = grind (arith, nat_tests)

none_here : (b : Bool) (x : Tablet) (rest : Option Tablet) → cond b (Some x) rest ≡ None → (b ≡ false) × (rest ≡ None)
none_here true x rest h = cc
none_here false x rest h = (refl, h)

pub has_range-none : (range : KeyRange) (xs : List Tablet) → AreInOrder xs → tablet_of xs range.table range.lo ≡ None →
    has_range range xs ≡ false
has_range-none range [] o h = refl
has_range-none range (x ∷ xs) o h =
    let n = none_here (holds x range.table range.lo) x _ h in
    or_from _ _ (is_range_holds range x o.0 n.0) (has_range-none range xs o.2 n.1)

not_assigned : (b f : Bool) (x y : Tablet) (xs ys : List Tablet) → (f ≡ false → ys ≡ xs) → (b || f) ≡ false →
    cond b (y ∷ xs) (x ∷ ys) ≡ x ∷ xs
not_assigned true f x y xs ys e h = cc
not_assigned false f x y xs ys e h = ap (λ l. x ∷ l) (e h)

pub assigned-none : (range : KeyRange) (owner : ServerId) (term : ℕ) (xs : List Tablet) → has_range range xs ≡ false →
    assigned range owner term xs ≡ xs
assigned-none range owner term [] h = refl
assigned-none range owner term (x ∷ xs) h = not_assigned (is_range range x) _ x _ xs _ (assigned-none range owner term xs) h

assigned_left : (b : Bool) (x y : Tablet) (xs ys new all : List Tablet) → all ≡ new ++ ys →
    cond b (y ∷ (xs ++ ys)) (x ∷ all) ≡ cond b (y ∷ xs) (x ∷ new) ++ ys
assigned_left true x y xs ys new all h = refl
assigned_left false x y xs ys new all h = ap (λ l. x ∷ l) h

pub assigned-append_left : (range : KeyRange) (owner : ServerId) (term : ℕ) (xs ys : List Tablet) →
    has_range range ys ≡ false → assigned range owner term (xs ++ ys) ≡ assigned range owner term xs ++ ys
assigned-append_left range owner term [] ys h = assigned-none range owner term ys h
assigned-append_left range owner term (x ∷ xs) ys h =
    assigned_left (is_range range x) x _ xs ys _ _ (assigned-append_left range owner term xs ys h)

assigned_right : (b f : Bool) (x : Tablet) (now all new : List Tablet) → (f ≡ false → all ≡ new) → (b || f) ≡ false →
    cond b now (x ∷ all) ≡ x ∷ new
assigned_right true f x now all new e h = cc
assigned_right false f x now all new e h = ap (λ l. x ∷ l) (e h)

pub assigned-append_right : (range : KeyRange) (owner : ServerId) (term : ℕ) (xs ys : List Tablet) →
    has_range range xs ≡ false → assigned range owner term (xs ++ ys) ≡ xs ++ assigned range owner term ys
assigned-append_right range owner term [] ys h = refl
assigned-append_right range owner term (x ∷ xs) ys h =
    assigned_right (is_range range x) _ x _ _ _ (assigned-append_right range owner term xs ys) h

pub marked_crashed-append : (owner : ServerId) (xs ys : List Tablet) →
    marked_crashed owner (xs ++ ys) ≡ marked_crashed owner xs ++ marked_crashed owner ys
marked_crashed-append owner [] ys = refl
marked_crashed-append owner (x ∷ xs) ys = ap (λ l. mark_if_owned owner x ∷ l) (marked_crashed-append owner xs ys)

count_more : (b : Bool) (m n k : ℕ) → m ≡ n + k → cond b (m + 1) m ≡ cond b (n + 1) n + k
count_more true m n k h = omega arith
count_more false m n k h = omega arith

pub count_to_mark-append : (owner : ServerId) (xs ys : List Tablet) →
    count_to_mark owner (xs ++ ys) ≡ count_to_mark owner xs + count_to_mark owner ys
count_to_mark-append owner [] ys = omega arith
count_to_mark-append owner (x ∷ xs) ys = count_more (same_id owner x.owner && not x.crashed) _ _ _ (count_to_mark-append owner xs ys)

count_within : (b : Bool) (m n : ℕ) → m ≤ n → cond b (m + 1) m ≤ n + 1
count_within true m n h = omega arith
count_within false m n h = omega arith

pub count_to_mark-le-length : (owner : ServerId) (xs : List Tablet) → count_to_mark owner xs ≤ length xs
count_to_mark-le-length owner [] = omega arith
count_to_mark-le-length owner (x ∷ xs) =
    grind (arith, count_within (same_id owner x.owner && not x.crashed) _ _ (count_to_mark-le-length owner xs))

owned_more : (b : Bool) (x : Tablet) (all xs ys : List Tablet) → all ≡ xs ++ ys → cond b (x ∷ all) all ≡ cond b (x ∷ xs) xs ++ ys
owned_more true x all xs ys h = ap (λ l. x ∷ l) h
owned_more false x all xs ys h = h

pub tablets_of-append : (owner : ServerId) (xs ys : List Tablet) → tablets_of owner (xs ++ ys) ≡ tablets_of owner xs ++ tablets_of owner ys
tablets_of-append owner [] ys = refl
tablets_of-append owner (x ∷ xs) ys = owned_more (same_id owner x.owner) x _ _ _ (tablets_of-append owner xs ys)

insert_left : (b : Bool) (new x : Tablet) (xs ys all : List Tablet) (with_new : List Tablet) → all ≡ with_new ++ ys →
    cond b (new ∷ x ∷ (xs ++ ys)) (x ∷ all) ≡ cond b (new ∷ x ∷ xs) (x ∷ with_new) ++ ys
insert_left true new x xs ys all with_new h = refl
insert_left false new x xs ys all with_new h = ap (λ l. x ∷ l) h

pub insert_tablet-append_left : (new : Tablet) (xs ys : List Tablet) (point : Point) → BeginsAt point ys →
    new.range.table < point.table → insert_tablet new (xs ++ ys) ≡ insert_tablet new xs ++ ys
insert_tablet-append_left new xs [] point b h = absurd b
insert_tablet-append_left new [] (y ∷ ys) point b h =
    let earlier : new.range.table < y.range.table = omega (arith, b.0) in rw (lt-ltb new.range.table y.range.table earlier)
insert_tablet-append_left new (x ∷ xs) (y ∷ ys) point b h =
    insert_left (nat_lt new.range.table x.range.table) new x xs (y ∷ ys) _ _ (insert_tablet-append_left new xs (y ∷ ys) point b h)

not_later : (x y new : Tablet) (point : Point) → LiesBefore x.range y.range → y.range.table ≡ point.table → point.table ≤ new.range.table →
    nat_lt new.range.table x.range.table ≡ false
not_later x y new point l e h = le-ltb new.range.table x.range.table (omega arith)

pub insert_tablet-append_right : (new : Tablet) (xs ys : List Tablet) (point : Point) → AreInOrder (xs ++ ys) →
    BeginsAt point ys → point.table ≤ new.range.table → insert_tablet new (xs ++ ys) ≡ xs ++ insert_tablet new ys
insert_tablet-append_right new xs [] point o b h = absurd b
insert_tablet-append_right new [] (y ∷ ys) point o b h = refl
insert_tablet-append_right new (x ∷ xs) (y ∷ ys) point o b h =
    rw (not_later x y new point (LiesBeforeAll-middle x xs y ys o.1) b.0 h)
    (ap (λ l. x ∷ l) (insert_tablet-append_right new xs (y ∷ ys) point o.2 b h))

-- the functions that go over all tablets, at two lists
pub ruleset joined = (count_to_mark-append, marked_crashed-append)
