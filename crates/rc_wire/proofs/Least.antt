-- Ascending numbers, and the first from a number on.
use Rattle.std.proofs.Common.{◌≡◌, ℕ, zero, suc, ◌+◌, ◌<◌, ◌≤◌, nat_lt, nat_le, Bool, true, false, cond, List, [], ◌∷◌, ◌++◌, length, Some}
use Rattle.std.proofs.Common.{slice_get, slice_index_or, refl, sym, ap, ◌∙◌, arith}
use Rattle.std.specs.List.{find, AllWithin}
use Rattle.std.specs.List.Sorted.{IsPartitionedBy}
use Rattle.rc_model.specs.Model.{Message, NodeName, same_node, node_of}
use Rattle.rc_wire.specs.Numbers.{numbers_from}
use Rattle.rc_wire.specs.Rising.{Rises}

rises-from : (high low : ℕ) (numbers : List ℕ) → low ≤ high → Rises high numbers → Rises low numbers
rises-from high low [] le rise = tt
rises-from high low (x ∷ xs) le rise = (omega (arith, rise.0), rise.1)

one-more : (first : ℕ) (numbers : List ℕ) (b : Bool) → Rises (first + 1) numbers → Rises first (cond b (first ∷ numbers) numbers)
one-more first numbers true rise = (omega arith, rise)
one-more first numbers false rise = rises-from (first + 1) first numbers (omega arith) rise

pub numbers-rise : (first : ℕ) (name : NodeName) (messages : List Message) → Rises first (numbers_from first name messages)
numbers-rise first name [] = tt
numbers-rise first name (message ∷ messages) =
    one-more first (numbers_from (first + 1) name messages) (same_node (node_of message.to) name) (numbers-rise (first + 1) name messages)

below-first : (from x : ℕ) (xs : List ℕ) (j d : ℕ) → Rises (x + 1) xs → j < length xs →
    nat_lt (slice_index_or xs j d) from ≡ true → nat_lt x from ≡ true
below-first from x [] j d rise lt below = absurd (omega (arith, lt))
below-first from x (y ∷ ys) zero d rise lt below = grind (arith, rise.0)
below-first from x (y ∷ ys) (suc j) d rise lt below =
    below-first from x ys j d (rises-from (y + 1) (x + 1) ys (omega (arith, rise.0)) rise.1) (omega (arith, lt)) below

pub rises-parted : (from low : ℕ) (xs : List ℕ) → Rises low xs → IsPartitionedBy (λ n. nat_lt n from) xs
rises-parted from low [] rise i j d le lt below = absurd (omega (arith, lt))
rises-parted from low (x ∷ xs) rise zero zero d le lt below = below
rises-parted from low (x ∷ xs) rise zero (suc j) d le lt below = below-first from x xs j d rise.1 (omega (arith, lt)) below
rises-parted from low (x ∷ xs) rise (suc i) zero d le lt below = absurd (omega (arith, le))
rises-parted from low (x ∷ xs) rise (suc i) (suc j) d le lt below =
    rises-parted from (x + 1) xs rise.1 i j d (omega (arith, le)) (omega (arith, lt)) below

at-or-above : (from x : ℕ) → nat_lt x from ≡ false → nat_le from x ≡ true
at-or-above from x above = grind (arith, above)

not-above : (from x : ℕ) → nat_lt x from ≡ true → nat_le from x ≡ false
not-above from x below = grind (arith, below)

-- what the place between them divides
pub least-at : (from : ℕ) (xs : List ℕ) (place : ℕ) → AllWithin (λ n. nat_lt n from ≡ true) xs 0 place →
    AllWithin (λ n. nat_lt n from ≡ false) xs place (length xs) → slice_get xs place ≡ find (λ n. nat_le from n) xs
least-at from [] zero below above = refl
least-at from [] (suc place) below above = refl
least-at from (x ∷ xs) zero below above =
    let is : nat_le from x ≡ true = at-or-above from x (above 0 0 (omega arith) (omega arith)) in
    sym (ap (λ b. cond b (Some x) (find (λ n. nat_le from n) xs)) is)
least-at from (x ∷ xs) (suc place) below above =
    let is : nat_le from x ≡ false = not-above from x (below 0 0 (omega arith) (omega arith)) in
    least-at from xs place (λ k d le lt. below (suc k) d (omega arith) (omega (arith, lt)))
    (λ k d le lt. above (suc k) d (omega (arith, le)) (omega (arith, lt)))
    ∙ sym (ap (λ b. cond b (Some x) (find (λ n. nat_le from n) xs)) is)

-- what rises goes on rising
pub rises-after : (low : ℕ) (xs ys : List ℕ) → Rises low (xs ++ ys) → Rises low ys
rises-after low [] ys rise = rise
rises-after low (x ∷ xs) ys rise = rises-from (x + 1) low ys (omega (arith, rise.0)) (rises-after (x + 1) xs ys rise.1)

-- what stands before a number that is too small is too small
pub find-past : (from low : ℕ) (xs : List ℕ) (y : ℕ) (ys : List ℕ) → Rises low (xs ++ y ∷ ys) → nat_lt y from ≡ true →
    find (λ n. nat_le from n) (xs ++ y ∷ ys) ≡ find (λ n. nat_le from n) (y ∷ ys)
find-past from low [] y ys rise below = refl
find-past from low (x ∷ xs) y ys rise below =
    let at : x + 1 ≤ y = (rises-after (x + 1) xs (y ∷ ys) rise.1).0 in
    let is : nat_le from x ≡ false = not-above from x (grind (arith, at, below)) in
    ap (λ b. cond b (Some x) (find (λ n. nat_le from n) (xs ++ y ∷ ys))) is ∙ find-past from (x + 1) xs y ys rise.1 below

-- the first from a number on is among the last, where the first of these is too small
pub find-last : (from low : ℕ) (xs ys : List ℕ) (d : ℕ) → Rises low (xs ++ ys) → 1 ≤ length ys →
    slice_index_or ys 0 d < from → find (λ n. nat_le from n) ys ≡ find (λ n. nat_le from n) (xs ++ ys)
find-last from low xs [] d rise some below = absurd (omega (arith, some))
find-last from low xs (y ∷ ys) d rise some below = sym (find-past from low xs y ys rise (grind (arith, below)))
