-- `ascending` gives the one ascending list of the same numbers.
use Rattle.std.proofs.Common.{◌≡◌, ℕ, zero, suc, ◌+◌, ◌<◌, ◌⊎◌, cond, eqb, List, [], ◌∷◌, get_or}
use Rattle.std.proofs.Common.{refl, sym, inl, inr, ⊎_elim, subst, arith, nat_eq, nat_lt}
use Rattle.std.specs.List.{Contains, dedup}
use Rattle.std.specs.List.Sorted.{IsStrictlyIncreasing, IsSorted, IsPermutation}
use Rattle.std.specs.Ordering.{nat_cmp}
use Rattle.std.proofs.lemmas.List.Kept.{Contains-dedup_nat, Contains-from_dedup}
use Rattle.std.proofs.lemmas.List.Sorted.{Contains-permutation, IsPermutation-sym}
use Rattle.std.proofs.lemmas.Map.Keys.{IsStrictlyIncreasing-dedup}
use Rattle.std.proofs.lemmas.Bool.{ltb-true, ltb-false, eqb-true, eqb-false}
use Rattle.rc_model.specs.Model.{insert_once, ascending, In}
use Rattle.rc_model.proofs.Tests.{either}

-- n is below each of these
abbrev pub IsBelow : ℕ → List ℕ → Type 0
IsBelow n [] = Unit {0}
IsBelow n (m ∷ ms) = (n < m) × IsBelow n ms

-- each is below all that follow
abbrev pub IsAscending : List ℕ → Type 0
IsAscending [] = Unit {0}
IsAscending (n ∷ ns) = IsBelow n ns × IsAscending ns

pub IsBelow-in : (n m : ℕ) (ns : List ℕ) → IsBelow n ns → In m ns → n < m
IsBelow-in n m [] below at = absurd at
IsBelow-in n m (k ∷ ks) below at = ⊎_elim (λ (e : m ≡ k). omega (arith, below.0)) (λ (rest : In m ks). IsBelow-in n m ks below.1 rest) at

IsBelow-from_below : (n m : ℕ) (ms : List ℕ) → n < m → IsBelow m ms → IsBelow n ms
IsBelow-from_below n m [] less below = tt
IsBelow-from_below n m (k ∷ ks) less below = (omega (arith, below.0), IsBelow-from_below n m ks less below.1)

-- insertion

IsBelow-insert_once : (k n : ℕ) (ms : List ℕ) → k < n → IsBelow k ms → IsBelow k (insert_once n ms)
IsBelow-insert_once k n [] less below = (less, tt)
IsBelow-insert_once k n (m ∷ ms) less below =
    either (IsBelow k) (nat_lt n m) (n ∷ m ∷ ms) (cond (nat_eq n m) (m ∷ ms) (m ∷ insert_once n ms)) (λ _. (less, below)) (λ _.
    either (IsBelow k) (nat_eq n m) (m ∷ ms) (m ∷ insert_once n ms) (λ _. below) (λ _. (below.0, IsBelow-insert_once k n ms less below.1)))

IsAscending-insert_once : (n : ℕ) (ms : List ℕ) → IsAscending ms → IsAscending (insert_once n ms)
IsAscending-insert_once n [] up = (tt, tt)
IsAscending-insert_once n (m ∷ ms) up =
    either IsAscending (nat_lt n m) (n ∷ m ∷ ms) (cond (nat_eq n m) (m ∷ ms) (m ∷ insert_once n ms))
    (λ e. let less : n < m = ltb-true n m e in ((less, IsBelow-from_below n m ms less up.0), up)) (λ e.
    either IsAscending (nat_eq n m) (m ∷ ms) (m ∷ insert_once n ms) (λ _. up)
    (λ ne. let less : m < n = omega (arith, ltb-false n m e, eqb-false n m ne) in
    (IsBelow-insert_once m n ms less up.0, IsAscending-insert_once n ms up.1)))

pub IsAscending-ascending : (ns : List ℕ) → IsAscending (ascending ns)
IsAscending-ascending [] = tt
IsAscending-ascending (n ∷ ns) = IsAscending-insert_once n (ascending ns) (IsAscending-ascending ns)

In-insert_once_new : (n : ℕ) (ms : List ℕ) → In n (insert_once n ms)
In-insert_once_new n [] = inl refl
In-insert_once_new n (m ∷ ms) =
    either (In n) (nat_lt n m) (n ∷ m ∷ ms) (cond (nat_eq n m) (m ∷ ms) (m ∷ insert_once n ms)) (λ _. inl refl) (λ _.
    either (In n) (nat_eq n m) (m ∷ ms) (m ∷ insert_once n ms) (λ e. inl (eqb-true n m e)) (λ _. inr (In-insert_once_new n ms)))

In-insert_once_old : (k n : ℕ) (ms : List ℕ) → In k ms → In k (insert_once n ms)
In-insert_once_old k n [] at = absurd at
In-insert_once_old k n (m ∷ ms) at =
    either (In k) (nat_lt n m) (n ∷ m ∷ ms) (cond (nat_eq n m) (m ∷ ms) (m ∷ insert_once n ms)) (λ _. inr at) (λ _.
    either (In k) (nat_eq n m) (m ∷ ms) (m ∷ insert_once n ms) (λ _. at)
    (λ _. let goal : Type 0 = In k (m ∷ insert_once n ms) in ⊎_elim {C = goal} (λ e. inl e)
    (λ rest. inr (In-insert_once_old k n ms rest)) at))

In-from_insert_once : (k n : ℕ) (ms : List ℕ) → In k (insert_once n ms) → (k ≡ n) ⊎ In k ms
In-from_insert_once k n [] at = at
In-from_insert_once k n (m ∷ ms) at = either (λ ks. In k ks → (k ≡ n) ⊎ In k (m ∷ ms)) (nat_lt n m) (n ∷ m ∷ ms)
    (cond (nat_eq n m) (m ∷ ms) (m ∷ insert_once n ms)) (λ _ new. new) (λ _.
    either (λ ks. In k ks → (k ≡ n) ⊎ In k (m ∷ ms)) (nat_eq n m) (m ∷ ms) (m ∷ insert_once n ms) (λ _ old. inr old)
    (λ _ new. after (In-from_insert_once k n ms) new)) at
  where
    further : (k ≡ n) ⊎ In k ms → (k ≡ n) ⊎ In k (m ∷ ms)
    further (inl e) = inl e
    further (inr old) = inr (inr old)

    after : (In k (insert_once n ms) → (k ≡ n) ⊎ In k ms) → (k ≡ m) ⊎ In k (insert_once n ms) → (k ≡ n) ⊎ In k (m ∷ ms)
    after from (inl e) = inr (inl e)
    after from (inr rest) = further (from rest)

pub In-ascending : (k : ℕ) (ns : List ℕ) → In k ns → In k (ascending ns)
In-ascending k [] at = absurd at
In-ascending k (n ∷ ns) (inl e) = subst (λ m. In m (insert_once n (ascending ns))) (sym e) (In-insert_once_new n (ascending ns))
In-ascending k (n ∷ ns) (inr rest) = In-insert_once_old k n (ascending ns) (In-ascending k ns rest)

pub In-from_ascending : (k : ℕ) (ns : List ℕ) → In k (ascending ns) → In k ns
In-from_ascending k [] at = absurd at
In-from_ascending k (n ∷ ns) at = after (In-from_ascending k ns) (In-from_insert_once k n (ascending ns) at)
  where
    after : (In k (ascending ns) → In k ns) → (k ≡ n) ⊎ In k (ascending ns) → (k ≡ n) ⊎ In k ns
    after from (inl e) = inl e
    after from (inr rest) = inr (from rest)

-- two ascending lists of the same numbers are the same

tail_in : (n m : ℕ) (ns ms : List ℕ) → n ≡ m → IsBelow n ns → (k : ℕ) → In k ns → In k (m ∷ ms) → In k ms
tail_in n m ns ms same below k at (inl e) = absurd (omega (arith, IsBelow-in n k ns below at))
tail_in n m ns ms same below k at (inr rest) = rest

pub same_from_in : (ns ms : List ℕ) → IsAscending ns → IsAscending ms → ((k : ℕ) → In k ns → In k ms) →
    ((k : ℕ) → In k ms → In k ns) → ns ≡ ms
same_from_in [] [] up_n up_m to from = refl
same_from_in [] (m ∷ ms) up_n up_m to from = absurd (from m (inl refl))
same_from_in (n ∷ ns) [] up_n up_m to from = absurd (to n (inl refl))
same_from_in (n ∷ ns) (m ∷ ms) up_n up_m to from =
    let heads : n ≡ m = first (to n (inl refl)) (from m (inl refl)) in
    let tails : ns ≡ ms = same_from_in ns ms up_n.1 up_m.1 (λ k at. tail_in n m ns ms heads up_n.0 k at (to k (inr at)))
    (λ k at. tail_in m n ms ns (sym heads) up_m.0 k at (from k (inr at))) in
    cc
  where
    first : In n (m ∷ ms) → In m (n ∷ ns) → n ≡ m
    first (inl e) back = e
    first (inr at) (inl e) = sym e
    first (inr at) (inr back) = absurd (omega (arith, IsBelow-in m n ms up_m.0 at, IsBelow-in n m ns up_n.0 back))

-- from and to std's words

pub In-contains : (k : ℕ) (ns : List ℕ) → Contains ns k → In k ns
In-contains k [] c = absurd (omega arith)
In-contains k (n ∷ ns) (zero, inside, is) = inl (sym is)
In-contains k (n ∷ ns) (suc i, inside, is) = inr (In-contains k ns (i, omega arith, is))

pub Contains-in : (k : ℕ) (ns : List ℕ) → In k ns → Contains ns k
Contains-in k [] at = absurd at
Contains-in k (n ∷ ns) (inl e) = (zero, omega arith, sym e)
Contains-in k (n ∷ ns) (inr rest) = let further : Contains ns k = Contains-in k ns rest in (suc further.0, omega arith, further.2)

pub IsAscending-increasing : (ns : List ℕ) → IsStrictlyIncreasing ns → IsAscending ns
IsAscending-increasing [] up = tt
IsAscending-increasing (n ∷ []) up = (tt, tt)
IsAscending-increasing (n ∷ m ∷ ms) up =
    let rest : IsAscending (m ∷ ms) = IsAscending-increasing (m ∷ ms)
    (λ k inside. let further : suc k + 1 ≡ suc (k + 1) = omega arith in let next : get_or (m ∷ ms) k 0 < get_or
    (n ∷ m ∷ ms) (suc k + 1) 0 = up (suc k) (omega arith) in rw further at next) in
    let less : n < m = up 0 (omega arith) in
    ((less, IsBelow-from_below n m ms less rest.0), rest)

pub IsStrictlyIncreasing-ascending : (ns : List ℕ) → IsAscending ns → IsStrictlyIncreasing ns
IsStrictlyIncreasing-ascending [] up k inside = absurd (omega arith)
IsStrictlyIncreasing-ascending (n ∷ []) up k inside = absurd (omega arith)
IsStrictlyIncreasing-ascending (n ∷ m ∷ ms) up zero inside = up.0.0
IsStrictlyIncreasing-ascending (n ∷ m ∷ ms) up (suc k) inside =
    let further : suc k + 1 ≡ suc (k + 1) = omega arith in rw further (IsStrictlyIncreasing-ascending (m ∷ ms) up.1 k (omega arith))

-- what a sort and a `dedup` leave
pub ascending-sorted : {digest sorted : List ℕ} → IsPermutation digest sorted → IsSorted nat_cmp sorted →
    dedup eqb sorted ≡ ascending digest
ascending-sorted {digest} {sorted} moved up = same_from_in (dedup eqb sorted) (ascending digest)
    (IsAscending-increasing (dedup eqb sorted) (IsStrictlyIncreasing-dedup sorted up)) (IsAscending-ascending digest)
    (λ k at. In-ascending k digest
    (In-contains k digest (Contains-permutation sorted digest k (IsPermutation-sym digest sorted moved)
    (Contains-from_dedup eqb sorted k (Contains-in k (dedup eqb sorted) at)))))
    (λ k at. In-contains k (dedup eqb sorted) (Contains-dedup_nat sorted k
    (Contains-permutation digest sorted k moved (Contains-in k digest (In-from_ascending k digest at)))))
