-- Lists that cover their tables: they are in order, and each change of a tree keeps them so.
use Rattle.std.proofs.Common.{◌≡◌, ℕ, ◌+◌, ◌<◌, ◌≤◌, Bool, true, false, cond, ◌⊎◌, List, [], ◌∷◌, length, nat_eq}
use Rattle.std.proofs.Common.{nat_lt, Option, Some, None, refl, sym, ◌∙◌, subst, inl, inr, arith}
use Rattle.std.specs.Prelude.{is_some}
use Rattle.std.proofs.lemmas.Bool.{cases_lt, cases_eq, eq-eqb, ne_eqb, or_parts, or_left, eqb-false, lt-ltb, le-ltb}
use Rattle.std.proofs.lemmas.Bool.Decides.{nat_tests}
use Rattle.rc_model.specs.Model.{ServerId, Tablet, KeyRange, same_id, holds, tablet_of, has_table, insert_tablet, whole_table, with_table}
use Rattle.rc_model.specs.Model.{all_keys, lower_half, marked_crashed, split_at, is_range, assigned, upper_half}
use Rattle.rc_rangetree.specs.Ranges.{Follows, CoversFrom, CoverTables, LiesBefore, LiesBeforeAll, AreInOrder}

lies_before : (x y : KeyRange) → Follows x y → LiesBefore x y
lies_before x y f = record { tables = f.in_order; keys = λ e. omega (arith, f.goes_on e) }

lies_before_later : (x y z : KeyRange) → LiesBefore x y → y.lo ≤ y.hi → LiesBefore y z → LiesBefore x z
lies_before_later x y z a r b =
    record { tables = omega (arith, a.tables, b.tables); keys = λ e. omega (arith, a.tables, b.tables, a.keys, b.keys) }

lies_before_all : (x y : Tablet) (ys : List Tablet) → LiesBefore x.range y.range → CoversFrom y ys → LiesBeforeAll x ys
lies_before_all x y [] b c = tt
lies_before_all x y (z ∷ zs) b c =
    let later = lies_before_later x.range y.range z.range b c.0 (lies_before y.range z.range c.1) in
    (later, lies_before_all x z zs later c.2)

in_order_from : (x : Tablet) (xs : List Tablet) → CoversFrom x xs → AreInOrder (x ∷ xs)
in_order_from x [] c = (c.0, tt, tt)
in_order_from x (y ∷ ys) c =
    let b = lies_before x.range y.range c.1 in
    (c.0, (b, lies_before_all x y ys b c.2), in_order_from y ys c.2)

-- lists that cover their tables are in order
pub in_order : (xs : List Tablet) → CoverTables xs → AreInOrder xs
in_order [] c = tt
in_order (x ∷ xs) c = in_order_from x xs c.1

some_here : (b : Bool) (x : Tablet) (later : Option Tablet) → b ≡ true → is_some (cond b (Some x) later) ≡ true
some_here true x later h = refl
some_here false x later h = cc

some_later : (b : Bool) (x : Tablet) (later : Option Tablet) → is_some later ≡ true → is_some (cond b (Some x) later) ≡ true
some_later true x later h = refl
some_later false x later h = h

holds_inside : (x : Tablet) (table key : ℕ) → x.range.table ≡ table → x.range.lo ≤ key → key ≤ x.range.hi → holds x table key ≡ true
holds_inside x table key t l h = grind (arith, nat_tests)

goes_on_to : (x y : KeyRange) (key : ℕ) → Follows x y → x.hi < key → key ≤ 18446744073709551615 → (x.table ≡ y.table) × (y.lo ≤ key)
goes_on_to x y key f above last =
    elim (cases_lt x.table y.table) [
      | inl earlier ↦ absurd (omega (arith, f.ends earlier))
      | inr rest ↦
          let same : x.table ≡ y.table = omega (arith, f.in_order) in
          (same, omega (arith, f.goes_on same))
    ]

held_from : (x : Tablet) (xs : List Tablet) (table key : ℕ) → CoversFrom x xs → x.range.table ≡ table → x.range.lo ≤ key →
    key ≤ 18446744073709551615 → is_some (tablet_of (x ∷ xs) table key) ≡ true
held_from x [] table key c t l last = some_here _ x None (holds_inside x table key t l (omega (arith, c.1)))
held_from x (y ∷ ys) table key c t l last =
    elim (cases_lt x.range.hi key) [
      | inl above ↦
          let on = goes_on_to x.range y.range key c.1 above last in
          some_later (holds x table key) x _ (held_from y ys table key c.2 (sym on.0 ∙ t) on.1 last)
      | inr inside ↦ some_here _ x _ (holds_inside x table key t l inside)
    ]

not_held : (x : Tablet) (table key : ℕ) → (x.range.table ≡ table → ⊥) → holds x table key ≡ false
not_held x table key n = grind (arith, nat_tests)

begins_at_zero : (x y : KeyRange) (table : ℕ) → Follows x y → (x.table ≡ table → ⊥) → y.table ≡ table → y.lo ≡ 0
begins_at_zero x y table f n t = f.begins (omega (arith, f.in_order, n))

covered_from : (x : Tablet) (xs : List Tablet) (table key : ℕ) → CoversFrom x xs → (x.range.table ≡ table → ⊥) →
    key ≤ 18446744073709551615 → is_some (tablet_of xs table key) ≡ has_table xs table
covered_from x [] table key c n last = refl
covered_from x (y ∷ ys) table key c n last =
    elim (cases_eq y.range.table table) [
      | inl same ↦
          let zero = begins_at_zero x.range y.range table c.1 n same in
          held_from y ys table key c.2 same (omega (arith, zero)) last ∙ sym (or_left _ _ (eq-eqb y.range.table table same))
      | inr other ↦ rw (not_held y table key other, ne_eqb y.range.table table other) (covered_from y ys table key c.2 other last)
    ]

-- each key of a table that is there has its tablet
pub covered : (xs : List Tablet) (table key : ℕ) → CoverTables xs → key ≤ 18446744073709551615 →
    is_some (tablet_of xs table key) ≡ has_table xs table
covered [] table key c last = refl
covered (x ∷ xs) table key c last =
    elim (cases_eq x.range.table table) [
      | inl same ↦ held_from x xs table key c.1 same (omega (arith, c.0)) last ∙ sym (or_left _ _ (eq-eqb x.range.table table same))
      | inr other ↦ rw (not_held x table key other, ne_eqb x.range.table table other) (covered_from x xs table key c.1 other last)
    ]

insert_first : (new x : Tablet) (xs : List Tablet) → new.range.table < x.range.table → insert_tablet new (x ∷ xs) ≡ new ∷ x ∷ xs
insert_first new x xs h = rw (lt-ltb new.range.table x.range.table h)

insert_later : (new x : Tablet) (xs : List Tablet) → x.range.table ≤ new.range.table → insert_tablet new (x ∷ xs) ≡ x ∷ insert_tablet new xs
insert_later new x xs h = rw (le-ltb new.range.table x.range.table h)

whole_follows : (x : Tablet) (table : ℕ) (owner : ServerId) (term : ℕ) → x.range.table < table → x.range.hi ≡ 18446744073709551615 →
    Follows x.range (all_keys table)
whole_follows x table owner term t e =
    record { in_order = omega arith; goes_on = λ s. absurd (omega arith); ends = λ _. e; begins = λ _. refl }

follows_whole : (y : Tablet) (table : ℕ) (owner : ServerId) (term : ℕ) → table < y.range.table → y.range.lo ≡ 0 →
    Follows (all_keys table) y.range
follows_whole y table owner term t z =
    record { in_order = omega arith; goes_on = λ s. absurd (omega arith); ends = λ _. refl; begins = λ _. z }

covers_insert_from : (x : Tablet) (xs : List Tablet) (table : ℕ) (owner : ServerId) (term : ℕ) → CoversFrom x xs →
    x.range.table < table → has_table xs table ≡ false → CoversFrom x (with_table table owner term xs)
covers_insert_from x [] table owner term c t n = (c.0, whole_follows x table owner term t c.1, (omega arith, refl))
covers_insert_from x (y ∷ ys) table owner term c t n =
    let apart : (nat_eq y.range.table table ≡ false) × (has_table ys table ≡ false) = or_parts _ _ n in
    elim (cases_lt table y.range.table) [
      | inl earlier ↦
          rw (insert_first (whole_table table owner term) y ys earlier) (
            c.0,
            whole_follows x table owner term t (c.1.ends (omega arith)),
            (omega arith, follows_whole y table owner term earlier (c.1.begins (omega arith)), c.2),
          )
      | inr later ↦
          rw (insert_later (whole_table table owner term) y ys later)
          (c.0, c.1, covers_insert_from y ys table owner term c.2 (omega (arith, eqb-false y.range.table table apart.0)) apart.1)
    ]

pub covers_insert : (xs : List Tablet) (table : ℕ) (owner : ServerId) (term : ℕ) → CoverTables xs →
    has_table xs table ≡ false → CoverTables (with_table table owner term xs)
covers_insert [] table owner term c n = (refl, (omega arith, refl))
covers_insert (x ∷ xs) table owner term c n =
    let apart : (nat_eq x.range.table table ≡ false) × (has_table xs table ≡ false) = or_parts _ _ n in
    elim (cases_lt table x.range.table) [
      | inl earlier ↦
          rw (insert_first (whole_table table owner term) x xs earlier)
          (refl, (omega arith, follows_whole x table owner term earlier c.0, c.1))
      | inr later ↦
          rw (insert_later (whole_table table owner term) x xs later)
          (c.0, covers_insert_from x xs table owner term c.1 (omega (arith, eqb-false x.range.table table apart.0)) apart.1)
    ]

-- lists with the same ranges
abbrev pub SameRanges : List Tablet → List Tablet → Type 0
SameRanges [] [] = Unit {0}
SameRanges (x ∷ xs) (y ∷ ys) = (x.range ≡ y.range) × SameRanges xs ys
SameRanges [] (y ∷ ys) = ⊥
SameRanges (x ∷ xs) [] = ⊥

same_ranges : (xs : List Tablet) → SameRanges xs xs
same_ranges [] = tt
same_ranges (x ∷ xs) = (refl, same_ranges xs)

follows_same : (x y v w : KeyRange) → x.table ≡ v.table → x.hi ≡ v.hi → y.table ≡ w.table → y.lo ≡ w.lo → Follows v w → Follows x y
follows_same x y v w xt xh yt yl f = record {
  in_order = omega (arith, f.in_order);
  goes_on = λ e. omega (arith, f.goes_on (omega arith));
  ends = λ e. omega (arith, f.ends (omega arith));
  begins = λ e. omega (arith, f.begins (omega arith));
}

covers_same_from : (x y : Tablet) (xs ys : List Tablet) → x.range ≡ y.range → SameRanges xs ys → CoversFrom y ys → CoversFrom x xs
covers_same_from x y [] [] e s c = subst (λ (r : KeyRange). (r.lo ≤ r.hi) × (r.hi ≡ 18446744073709551615)) (sym e) c
covers_same_from x y [] (w ∷ ys) e s c = absurd s
covers_same_from x y (v ∷ xs) [] e s c = absurd s
covers_same_from x y (v ∷ xs) (w ∷ ys) e s c = (
  subst (λ (r : KeyRange). r.lo ≤ r.hi) (sym e) c.0,
  subst (λ (r : KeyRange). Follows r v.range) (sym e) (subst (Follows y.range) (sym s.0) c.1),
  covers_same_from v w xs ys s.0 s.1 c.2,
)

pub length_same : (xs ys : List Tablet) → SameRanges xs ys → length xs ≡ length ys
length_same [] [] s = refl
length_same [] (y ∷ ys) s = absurd s
length_same (x ∷ xs) [] s = absurd s
length_same (x ∷ xs) (y ∷ ys) s = omega (arith, length_same xs ys s.1)

covers_same : (xs ys : List Tablet) → SameRanges xs ys → CoverTables ys → CoverTables xs
covers_same [] [] s c = tt
covers_same [] (y ∷ ys) s c = absurd s
covers_same (x ∷ xs) [] s c = absurd s
covers_same (x ∷ xs) (y ∷ ys) s c = (subst (λ (r : KeyRange). r.lo ≡ 0) (sym s.0) c.0, covers_same_from x y xs ys s.0 s.1 c.1)

mark_keeps_range : (b : Bool) (x : Tablet) → let y =
    cond b (record x { crashed = true }) x in y.range ≡ x.range
mark_keeps_range true x = refl
mark_keeps_range false x = refl

marked_same_ranges : (owner : ServerId) (xs : List Tablet) → SameRanges (marked_crashed owner xs) xs
marked_same_ranges owner [] = tt
marked_same_ranges owner (x ∷ xs) =
    (mark_keeps_range (same_id owner x.owner) x, marked_same_ranges owner xs)

pub covers_marked : (owner : ServerId) (xs : List Tablet) → CoverTables xs → CoverTables (marked_crashed owner xs)
covers_marked owner xs c = covers_same _ xs (marked_same_ranges owner xs) c

pub length-marked_crashed : (owner : ServerId) (xs : List Tablet) → length (marked_crashed owner xs) ≡ length xs
length-marked_crashed owner xs = length_same _ xs (marked_same_ranges owner xs)

same_ranges_if : (b : Bool) (x y : Tablet) (xs ys : List Tablet) → y.range ≡ x.range → SameRanges ys xs →
    SameRanges (cond b (y ∷ xs) (x ∷ ys)) (x ∷ xs)
same_ranges_if true x y xs ys e s = (e, same_ranges xs)
same_ranges_if false x y xs ys e s = (refl, s)

assigned_same_ranges : (range : KeyRange) (owner : ServerId) (term : ℕ) (xs : List Tablet) → SameRanges (assigned range owner term xs) xs
assigned_same_ranges range owner term [] = tt
assigned_same_ranges range owner term (x ∷ xs) =
    same_ranges_if (is_range range x) x _ xs _ refl (assigned_same_ranges range owner term xs)

pub covers_assigned : (range : KeyRange) (owner : ServerId) (term : ℕ) (xs : List Tablet) → CoverTables xs →
    CoverTables (assigned range owner term xs)
covers_assigned range owner term xs c = covers_same _ xs (assigned_same_ranges range owner term xs) c

pub length-assigned : (range : KeyRange) (owner : ServerId) (term : ℕ) (xs : List Tablet) →
    length (assigned range owner term xs) ≡ length xs
length-assigned range owner term xs = length_same _ xs (assigned_same_ranges range owner term xs)

longer : (b : Bool) (new x : Tablet) (xs all : List Tablet) → length all ≡ length xs + 1 →
    length (cond b (new ∷ x ∷ xs) (x ∷ all)) ≡ length (x ∷ xs) + 1
longer true new x xs all h = omega arith
longer false new x xs all h = omega arith

pub length-insert_tablet : (new : Tablet) (xs : List Tablet) → length (insert_tablet new xs) ≡ length xs + 1
length-insert_tablet new [] = omega arith
length-insert_tablet new (x ∷ xs) = longer (nat_lt new.range.table x.range.table) new x xs _ (length-insert_tablet new xs)

-- a tablet split in two parts
covers_end : (x y : Tablet) (xs : List Tablet) → x.range.table ≡ y.range.table → x.range.hi ≡ y.range.hi →
    x.range.lo ≤ x.range.hi → CoversFrom y xs → CoversFrom x xs
covers_end x y [] t h l c = (l, h ∙ c.1)
covers_end x y (z ∷ zs) t h l c = (l, follows_same x.range z.range y.range z.range t h refl refl c.1, c.2)

covers_parts : (x : Tablet) (xs : List Tablet) (at : ℕ) → CoversFrom x xs → x.range.lo < at → at ≤ x.range.hi →
    CoversFrom (lower_half at x) (upper_half at x ∷ xs)
covers_parts x xs at c above below = (
  omega arith,
  record { in_order = omega arith; goes_on = λ _. omega arith; ends = λ e. absurd (omega arith); begins = λ e. absurd (omega arith) },
  covers_end (upper_half at x) x xs refl refl below c,
)

holds_at : (x : Tablet) (table at : ℕ) → holds x table at ≡ true → at ≤ x.range.hi
holds_at x table at h = grind (arith, nat_tests)

found_here : (b : Bool) (x u : Tablet) (later : Option Tablet) → cond b (Some x) later ≡ Some u →
    ((b ≡ true) × (x ≡ u)) ⊎ ((b ≡ false) × (later ≡ Some u))
found_here true x u later h = inl (refl, cc)
found_here false x u later h = inr (refl, h)

covers_split_from : (x : Tablet) (xs : List Tablet) (table at : ℕ) (u : Tablet) → CoversFrom x xs →
    tablet_of xs table at ≡ Some u → u.range.lo < at → CoversFrom x (split_at table at xs)
covers_split_from x [] table at u c f l = cc
covers_split_from x (y ∷ ys) table at u c f l =
    elim (found_here (holds y table at) y u (tablet_of ys table at) f) [
      | inl here ↦
          rw (here.0) (
            c.0,
            follows_same x.range (lower_half at y).range x.range y.range refl refl refl refl c.1,
            covers_parts y ys at c.2 (rw (here.1) l) (holds_at y table at here.0),
          )
      | inr later ↦ rw (later.0) (c.0, c.1, covers_split_from y ys table at u c.2 later.1 l)
    ]

pub covers_split : (xs : List Tablet) (table at : ℕ) (u : Tablet) → CoverTables xs → tablet_of xs table at ≡ Some u →
    u.range.lo < at → CoverTables (split_at table at xs)
covers_split [] table at u c f l = cc
covers_split (x ∷ xs) table at u c f l =
    elim (found_here (holds x table at) x u (tablet_of xs table at) f) [
      | inl here ↦ rw (here.0) (c.0, covers_parts x xs at c.1 (rw (here.1) l) (holds_at x table at here.0))
      | inr later ↦ rw (later.0) (c.0, covers_split_from x xs table at u c.1 later.1 l)
    ]

split_longer : (b : Bool) (x low high u : Tablet) (later : Option Tablet) (xs all : List Tablet) →
    (later ≡ Some u → length all ≡ length xs + 1) → cond b (Some x) later ≡ Some u →
    length (cond b (low ∷ high ∷ xs) (x ∷ all)) ≡ length (x ∷ xs) + 1
split_longer true x low high u later xs all e h = omega arith
split_longer false x low high u later xs all e h = omega (arith, e h)

pub length-split_at : (xs : List Tablet) (table at : ℕ) (u : Tablet) → tablet_of xs table at ≡ Some u →
    length (split_at table at xs) ≡ length xs + 1
length-split_at [] table at u h = cc
length-split_at (x ∷ xs) table at u h = split_longer (holds x table at) x _ _ u _ xs _ (length-split_at xs table at u) h

-- how long the list of tablets is after each change
pub ruleset lengths = (length-marked_crashed, length-assigned, length-insert_tablet, length-split_at)
