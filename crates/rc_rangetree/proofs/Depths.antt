-- How many forks lie above the tablets of a node, and how many a search passes.
use Rattle.std.proofs.Common.{◌≡◌, ℕ, ◌+◌, ◌-◌, ◌/◌, ◌^◌, ◌<◌, ◌≤◌, max, Bool, true, false, cond, List, [], ◌∷◌, ◌++◌}
use Rattle.std.proofs.Common.{map, length, get_or, Box, subst, refl, sym, ap, ◌∙◌, arith, length-append, suc, zero}
use Rattle.std.specs.List.{count_by}
use Rattle.std.proofs.lemmas.List.{length-map, get_or-map, get_or_append_left, get_or-append_right}
use Rattle.std.proofs.lemmas.List.Sums.{sum_by-append, sum_by-cons, count_by-le-length}
use Rattle.std.proofs.lemmas.Bool.Decides.{nat_tests}
use Rattle.std.proofs.Math.Nat.{pow-suc}
use Rattle.rc_types.specs.declared.rows.Tablet.{Tablet}
use Rattle.rc_rangetree.specs.declared.limits.TheConstants.{MAX_FORKS}
use Rattle.rc_rangetree.specs.declared.points.Point.{Point}
use Rattle.rc_rangetree.specs.declared.nodes.Node.{Node}
use Rattle.rc_rangetree.specs.declared.nodes.Node.TheVariants.{Empty, Leaf, Fork, Fork'}
use Rattle.rc_rangetree.specs.Points.{IsBefore, IsAtOrAfter, BeginsAt}
use Rattle.rc_rangetree.specs.Ranges.{LiesBefore, LiesBeforeAll, AreInOrder}
use Rattle.rc_rangetree.specs.Nodes.{leaves, forks_above, node_depth, HasBounds, IsSearchTree}
use Rattle.rc_rangetree.specs.Trees.{greatest, begins_by}
use Rattle.rc_rangetree.proofs.InOrder.{LiesBeforeAll-middle, AreInOrder-right}

-- of each tablet there is a number of forks
pub length-forks_above : {A : Type 0} (node : Node A) → length (forks_above node) ≡ length (leaves node)
length-forks_above Empty = refl
length-forks_above (Leaf tablet) = refl
length-forks_above (Fork' bound p left q right) =
    omega (
      arith,
      length-map (forks_above left ++ forks_above right) (λ n. n + 1),
      length-append (forks_above left)
          (forks_above right),
      length-append (leaves left) (leaves right),
      length-forks_above left,
      length-forks_above right,
    )

greatest-append : (xs ys : List ℕ) → greatest (xs ++ ys) ≡ max (greatest xs) (greatest ys)
greatest-append [] ys = omega arith
greatest-append (x ∷ xs) ys = omega (arith, greatest-append xs ys)

greatest_of_more : (x : ℕ) (xs : List ℕ) → greatest (map (λ n. n + 1) (x ∷ xs)) ≡ greatest (x ∷ xs) + 1
greatest_of_more x [] = omega arith
greatest_of_more x (y ∷ ys) = omega (arith, greatest_of_more y ys)

greatest-more : (xs : List ℕ) → 0 < length xs → greatest (map (λ n. n + 1) xs) ≡ greatest xs + 1
greatest-more [] h = absurd (omega (arith, h))
greatest-more (x ∷ xs) h = greatest_of_more x xs

-- the greatest of these numbers is how deep the node is
pub greatest-forks_above : {A : Type 0} (node : Node A) → HasBounds node → greatest (forks_above node) ≡ node_depth node
greatest-forks_above Empty h = refl
greatest-forks_above (Leaf tablet) h = omega arith
greatest-forks_above (Fork' bound p left q right) h =
    let some : 0 < length (forks_above left ++ forks_above right) =
    omega (arith, length-append (forks_above left) (forks_above right), length-forks_above left, h.3) in
    omega (
      arith,
      greatest-more (forks_above left ++ forks_above right) some,
      greatest-append (forks_above left)
          (forks_above right),
      greatest-forks_above left h.1,
      greatest-forks_above right h.2,
    )

count_by-append : (p : Tablet → Bool) (xs ys : List Tablet) → count_by p (xs ++ ys) ≡ count_by p xs + count_by p ys
count_by-append p xs ys = sum_by-append (λ x. cond (p x) 1 0) xs ys

-- a key before the point at which the right end begins: no tablet there begins by it
begins_first : (y : Tablet) (table key : ℕ) (point : Point) → y.range.table ≡ point.table → y.range.lo ≡ point.key →
    IsBefore table key point → begins_by table key y ≡ false
begins_first y table key point t l h = grind (arith, nat_tests)

begins_later : (y z : Tablet) (table key : ℕ) (point : Point) → LiesBefore y.range z.range → y.range.lo ≤ y.range.hi →
    y.range.table ≡ point.table → y.range.lo ≡ point.key → IsBefore table key point → begins_by table key z ≡ false
begins_later y z table key point b r t l h = grind (arith, nat_tests)

count_by-none : (p : Tablet → Bool) (x : Tablet) (xs : List Tablet) → p x ≡ false → count_by p xs ≡ 0 → count_by p (x ∷ xs) ≡ 0
count_by-none p x xs h e = sum_by-cons (λ y. cond (p y) 1 0) x xs ∙ (rw (h) (omega (arith, e)))

count_by-one : (p : Tablet → Bool) (x : Tablet) (xs : List Tablet) → p x ≡ true → count_by p (x ∷ xs) ≡ count_by p xs + 1
count_by-one p x xs h = sum_by-cons (λ y. cond (p y) 1 0) x xs ∙ (rw (h) (omega arith))

none_begin_later : (y : Tablet) (zs : List Tablet) (table key : ℕ) (point : Point) → LiesBeforeAll y zs → y.range.lo ≤ y.range.hi →
    y.range.table ≡ point.table → y.range.lo ≡ point.key → IsBefore table key point → count_by (begins_by table key) zs ≡ 0
none_begin_later y [] table key point b r t l h = refl
none_begin_later y (z ∷ zs) table key point b r t l h =
    count_by-none (begins_by table key) z zs (begins_later y z table key point b.0 r t l h)
    (none_begin_later y zs table key point b.1 r t l h)

none_begin : (ys : List Tablet) (table key : ℕ) (point : Point) → AreInOrder ys → BeginsAt point ys →
    IsBefore table key point → count_by (begins_by table key) ys ≡ 0
none_begin [] table key point o b h = absurd b
none_begin (y ∷ ys) table key point o b h =
    count_by-none (begins_by table key) y ys (begins_first y table key point b.0 b.1 h)
    (none_begin_later y ys table key point o.1 o.0 b.0 b.1 h)

-- a key from that point on: all tablets on the left begin by it, and at least one on the right
begins_before : (x y : Tablet) (table key : ℕ) (point : Point) → LiesBefore x.range y.range → x.range.lo ≤ x.range.hi →
    y.range.table ≡ point.table → y.range.lo ≡ point.key → IsAtOrAfter table key point → begins_by table key x ≡ true
begins_before x y table key point b r t l h = grind (arith, nat_tests)

all_begin : (xs ys : List Tablet) (table key : ℕ) (point : Point) → AreInOrder (xs ++ ys) → BeginsAt point ys →
    IsAtOrAfter table key point → count_by (begins_by table key) xs ≡ length xs
all_begin xs [] table key point o b h = absurd b
all_begin [] (y ∷ ys) table key point o b h = refl
all_begin (x ∷ xs) (y ∷ ys) table key point o b h =
    let here = begins_before x y table key point (LiesBeforeAll-middle x xs y ys o.1) o.0 b.0 b.1 h in
    let later = all_begin xs (y ∷ ys) table key point o.2 b h in
    omega (arith, count_by-one (begins_by table key) x xs here, later)

begins_at : (y : Tablet) (table key : ℕ) (point : Point) → y.range.table ≡ point.table → y.range.lo ≡ point.key →
    IsAtOrAfter table key point → begins_by table key y ≡ true
begins_at y table key point t l h = grind (arith, nat_tests)

some_begin : (ys : List Tablet) (table key : ℕ) (point : Point) → BeginsAt point ys → IsAtOrAfter table key point →
    0 < count_by (begins_by table key) ys
some_begin [] table key point b h = absurd b
some_begin (y ∷ ys) table key point b h = omega (arith, count_by-one (begins_by table key) y ys (begins_at y table key point b.0 b.1 h))

-- a read of the numbers of a fork at a place on its left, and at one on its right
read_left : (xs ys : List ℕ) (i : ℕ) → i < length xs → get_or (map (λ n. n + 1) (xs ++ ys)) i 0 ≡ get_or xs i 0 + 1
read_left xs ys i h =
    let within : i < length (xs ++ ys) = omega (arith, length-append xs ys) in
    get_or-map (λ n. n + 1) (xs ++ ys) i 0 0 within ∙ ap (λ n. n + 1) (get_or_append_left xs ys 0 i h)

read_right : (xs ys : List ℕ) (i j : ℕ) → j ≡ length xs + i → i < length ys → get_or (map (λ n. n + 1) (xs ++ ys)) j 0 ≡ get_or ys i 0 + 1
read_right xs ys i j e h =
    let within : j < length (xs ++ ys) = omega (arith, length-append xs ys) in
    let back : j - length xs ≡ i = omega arith in
    get_or-map (λ n. n + 1) (xs ++ ys) j 0 0 within ∙
    ap (λ n. n + 1) (get_or-append_right xs ys (length xs) j 0 refl (omega arith) ∙ ap (λ k. get_or ys k 0) back)

-- a search passes one more fork than in the end into which it goes
passed_on_left : {A : Type 0} (left right : Node A) (bound : Point) (table key : ℕ) →
    AreInOrder (leaves left ++ leaves right) → BeginsAt bound (leaves right) → 0 < length (leaves left) →
    IsBefore table key bound → get_or (map (λ n. n + 1) (forks_above left ++ forks_above right))
    (count_by (begins_by table key) (leaves left ++ leaves right) - 1) 0 ≡ get_or (forks_above left)
    (count_by (begins_by table key) (leaves left) - 1) 0 + 1
passed_on_left left right bound table key o b some before =
    let none = none_begin (leaves right) table key bound (AreInOrder-right (leaves left) (leaves right) o) b before in
    let same : count_by (begins_by table key) (leaves left ++ leaves right) ≡ count_by (begins_by table key)
    (leaves left) = count_by-append (begins_by table key) (leaves left) (leaves right) ∙ omega (arith, none) in
    rw (same) (read_left (forks_above left) (forks_above right) (count_by (begins_by table key) (leaves left) - 1)
    (omega (arith, length-forks_above left, count_by-le-length (begins_by table key) (leaves left))))

passed_on_right : {A : Type 0} (left right : Node A) (bound : Point) (table key : ℕ) →
    AreInOrder (leaves left ++ leaves right) → BeginsAt bound (leaves right) → IsAtOrAfter table key bound →
    get_or (map (λ n. n + 1) (forks_above left ++ forks_above right))
    (count_by (begins_by table key) (leaves left ++ leaves right) - 1) 0 ≡ get_or (forks_above right)
    (count_by (begins_by table key) (leaves right) - 1) 0 + 1
passed_on_right left right bound table key o b after =
    let all = all_begin (leaves left) (leaves right) table key bound o b after in
    let some = some_begin (leaves right) table key bound b after in
    read_right (forks_above left) (forks_above right) (count_by (begins_by table key) (leaves right) - 1)
    (count_by (begins_by table key) (leaves left ++ leaves right) - 1)
    (omega (arith, all, some, count_by-append (begins_by table key) (leaves left) (leaves right), length-forks_above left))
    (omega (arith, some, count_by-le-length (begins_by table key) (leaves right), length-forks_above right))

-- how many forks of a node a search for the key passes
abbrev pub passed : {A : Type 0} → ℕ → ℕ → Node A → ℕ
passed table key node = get_or (forks_above node) (count_by (begins_by table key) (leaves node) - 1) 0

pub passed_left : {A : Type 0} {node : Node A} {bound : Point} {left right : Box (Node A) A} {table key : ℕ} →
    IsSearchTree node → node ≡ Fork bound left right → IsBefore table key bound → (n : Node A) → n ≡ left.value →
    passed table key node ≡ passed table key n + 1
passed_left {A} {node} {bound} {left} {right} {table} {key} tree is before n same =
    let bounds : HasBounds (Fork bound left right) = subst HasBounds is tree.bounds in
    let in_order : AreInOrder (leaves (Fork bound left right)) = subst (λ m. AreInOrder (leaves m)) is tree.in_order in
    ap (passed table key) is ∙ passed_on_left left.value right.value bound table key in_order bounds.0 bounds.3 before ∙
    ap (λ m. passed table key m + 1) (sym same)

pub passed_right : {A : Type 0} {node : Node A} {bound : Point} {left right : Box (Node A) A} {table key : ℕ} →
    IsSearchTree node → node ≡ Fork bound left right → IsAtOrAfter table key bound → (n : Node A) → n ≡ right.value →
    passed table key node ≡ passed table key n + 1
passed_right {A} {node} {bound} {left} {right} {table} {key} tree is after n same =
    let bounds : HasBounds (Fork bound left right) = subst HasBounds is tree.bounds in
    let in_order : AreInOrder (leaves (Fork bound left right)) = subst (λ m. AreInOrder (leaves m)) is tree.in_order in
    ap (passed table key) is ∙ passed_on_right left.value right.value bound table key in_order bounds.0 after ∙
    ap (λ m. passed table key m + 1) (sym same)

-- both halves of these tablets lie below one fork less than all of them may
pub depth_of_halves : (number low high left right forks : ℕ) → 2 ≤ number → low ≡ number / 2 →
    high ≡ number - number / 2 → ((h : ℕ) → low ≤ 2 ^ h → left ≤ h) → ((h : ℕ) → high ≤ 2 ^ h → right ≤ h) →
    number ≤ 2 ^ forks → max left right + 1 ≤ forks
depth_of_halves number low high left right zero some l h dl dr few = absurd (omega (arith, few))
depth_of_halves number low high left right (suc forks) some l h dl dr few =
    let twice = pow-suc 2 forks in
    let on_left : left ≤ forks = dl forks (omega arith) in
    let on_right : right ≤ forks = dr forks (omega arith) in
    omega arith

pub within_room : {depth : ℕ} → depth ≤ 10 → depth < MAX_FORKS
within_room h = omega (arith, h)
