-- The replicas of one master: a list that ascends by segment.
use Rattle.std.proofs.Common.{◌≡◌, ℕ, ◌<◌, ◌≤◌, Bool, true, false, cond, not, List, [], ◌∷◌, filter, nat_eq, nat_lt}
use Rattle.std.proofs.Common.{Some, None, refl, sym, ap, ◌∙◌, subst, inl, inr, arith}
use Rattle.std.proofs.lemmas.Bool.{eqb-true, eqb-false, eq-eqb, ne_eqb, ltb-true, ltb-false}
use Rattle.rc_model.specs.Model.{Row, Replica, replica_of, put_replica, without_replica, row_of_replica, rows_of_replicas, In}
use Rattle.rc_step_laws.specs.Facts.{AllAbove, Ascending}
use Rattle.rc_model.proofs.Tests.{either}

-- The list

-- the new replica is found
pub replica_of-put : (seg : ℕ) {replica : Replica} (replicas : List (ℕ × Replica)) →
    replica_of seg (put_replica seg replica replicas) ≡ Some replica
replica_of-put seg {replica} [] = ap (λ b. cond b (Some replica) None) (eq-eqb seg seg refl)
replica_of-put seg {replica} (one ∷ others) =
    either (λ all. replica_of seg all ≡ Some replica) (nat_lt seg one.0) ((seg, replica) ∷ one ∷ others)
    (cond (nat_eq seg one.0) ((seg, replica) ∷ others) (one ∷ put_replica seg replica others))
    (λ _. ap (λ b. cond b (Some replica) (replica_of seg (one ∷ others))) (eq-eqb seg seg refl))
    (λ _. either (λ all. replica_of seg all ≡ Some replica) (nat_eq seg one.0) ((seg, replica) ∷ others)
    (one ∷ put_replica seg replica others)
    (λ _. ap (λ b. cond b (Some replica) (replica_of seg others)) (eq-eqb seg seg refl))
    (λ e. ap (λ b. cond b (Some one.1) (replica_of seg (put_replica seg replica others))) e ∙ replica_of-put seg others))

-- and of another segment nothing changes
pub replica_of-other : {s seg : ℕ} (replica : Replica) (replicas : List (ℕ × Replica)) → (s ≡ seg → ⊥) →
    replica_of s (put_replica seg replica replicas) ≡ replica_of s replicas
replica_of-other {s} {seg} replica [] differs = ap (λ b. cond b (Some replica) None) (ne_eqb s seg differs)
replica_of-other {s} {seg} replica (one ∷ others) differs =
    either (λ all. replica_of s all ≡ replica_of s (one ∷ others)) (nat_lt seg one.0) ((seg, replica) ∷ one ∷ others)
    (cond (nat_eq seg one.0) ((seg, replica) ∷ others) (one ∷ put_replica seg replica others))
    (λ _. ap (λ b. cond b (Some replica) (replica_of s (one ∷ others))) (ne_eqb s seg differs))
    (λ _. either (λ all. replica_of s all ≡ replica_of s (one ∷ others)) (nat_eq seg one.0) ((seg, replica) ∷ others)
    (one ∷ put_replica seg replica others) (λ e.
    let other : s ≡ one.0 → ⊥ = λ same. differs (same ∙ sym (eqb-true seg one.0 e)) in
    ap (λ b. cond b (Some replica) (replica_of s others)) (ne_eqb s seg differs) ∙
    sym (ap (λ b. cond b (Some one.1) (replica_of s others)) (ne_eqb s one.0 other)))
    (λ _. ap (cond (nat_eq s one.0) (Some one.1)) (replica_of-other replica others differs)))

-- all numbers are above n, where the new one is too
AllAbove-put : (n seg : ℕ) (replica : Replica) (replicas : List (ℕ × Replica)) → n < seg → AllAbove n replicas →
    AllAbove n (put_replica seg replica replicas)
AllAbove-put n seg replica [] less above = (less, tt)
AllAbove-put n seg replica (one ∷ others) less above =
    either (AllAbove n) (nat_lt seg one.0) ((seg, replica) ∷ one ∷ others)
    (cond (nat_eq seg one.0) ((seg, replica) ∷ others) (one ∷ put_replica seg replica others)) (λ _. (less, above))
    (λ _. either (AllAbove n) (nat_eq seg one.0) ((seg, replica) ∷ others) (one ∷ put_replica seg replica others)
    (λ _. (less, above.1)) (λ _. (above.0, AllAbove-put n seg replica others less above.1)))

-- what is above a number is above a lower one
AllAbove-less : (n m : ℕ) (replicas : List (ℕ × Replica)) → n < m → AllAbove m replicas → AllAbove n replicas
AllAbove-less n m [] less above = tt
AllAbove-less n m (one ∷ others) less above = (omega (arith, above.0), AllAbove-less n m others less above.1)

-- and above an equal one
AllAbove-same : (n m : ℕ) (replicas : List (ℕ × Replica)) → n ≡ m → AllAbove m replicas → AllAbove n replicas
AllAbove-same n m replicas e above = subst (λ k. AllAbove k replicas) (sym e) above

-- the list stays ascending
pub Ascending-put : (seg : ℕ) (replica : Replica) (replicas : List (ℕ × Replica)) → Ascending replicas →
    Ascending (put_replica seg replica replicas)
Ascending-put seg replica [] up = (tt, tt)
Ascending-put seg replica (one ∷ others) up = either Ascending (nat_lt seg one.0) ((seg, replica) ∷ one ∷ others)
    (cond (nat_eq seg one.0) ((seg, replica) ∷ others) (one ∷ put_replica seg replica others))
    (λ e. let less : seg < one.0 = ltb-true seg one.0 e in ((less, AllAbove-less seg one.0 others less up.0), up))
    (λ e. either Ascending (nat_eq seg one.0) ((seg, replica) ∷ others) (one ∷ put_replica seg replica others)
    (λ same. (AllAbove-same seg one.0 others (eqb-true seg one.0 same) up.0, up.1)) (λ other.
    let less : one.0 < seg = (let a : one.0 ≤ seg = ltb-false seg one.0 e in let b : seg ≡ one.0 →
    ⊥ = eqb-false seg one.0 other in grind arith) in
    (AllAbove-put one.0 seg replica others less up.0, Ascending-put seg replica others up.1)))

-- each number of the list is above n
AllAbove-in : (n : ℕ) (replicas : List (ℕ × Replica)) (one : ℕ × Replica) → AllAbove n replicas → In one replicas → n < one.0
AllAbove-in n [] one above at = absurd at
AllAbove-in n (other ∷ others) one above (inl e) = subst (λ (some : ℕ × Replica). n < some.0) (sym e) above.0
AllAbove-in n (other ∷ others) one above (inr rest) = AllAbove-in n others one above.1 rest

-- each replica of the list is the one of its segment
replica_of-in : (replicas : List (ℕ × Replica)) (one : ℕ × Replica) → Ascending replicas → In one replicas →
    replica_of one.0 replicas ≡ Some one.1
replica_of-in [] one up at = absurd at
replica_of-in (other ∷ others) one up (inl e) = ap (λ b. cond b (Some other.1) (replica_of one.0 others))
    (eq-eqb one.0 other.0 (ap (λ (some : ℕ × Replica). some.0) e)) ∙ ap (λ (some : ℕ × Replica). Some some.1) (sym e)
replica_of-in (other ∷ others) one up (inr rest) =
    let less : other.0 < one.0 = AllAbove-in other.0 others one up.0 rest in
    ap (λ b. cond b (Some other.1) (replica_of one.0 others)) (ne_eqb one.0 other.0 (λ e. omega arith)) ∙ replica_of-in others one up.1 rest

-- a row is of a replica in the list
In-rows_of_replicas : (replicas : List (ℕ × Replica)) (row : Row) → In row (rows_of_replicas replicas) →
    (one : ℕ × Replica) × (In one replicas) × (row ≡ row_of_replica one)
In-rows_of_replicas [] row at = absurd at
In-rows_of_replicas (one ∷ others) row (inl e) = (one, inl refl, e)
In-rows_of_replicas (one ∷ others) row (inr rest) = let found : (some : ℕ × Replica) × (In some others) ×
    (row ≡ row_of_replica some) = In-rows_of_replicas others row rest in (found.0, inr found.1, found.2)

-- a row is of the replica of its segment
pub replica_of-row : (replicas : List (ℕ × Replica)) (row : Row) → Ascending replicas →
    In row (rows_of_replicas replicas) → (replica : Replica) × (replica_of row.seg replicas ≡ Some replica) ×
    (row ≡ row_of_replica (row.seg, replica))
replica_of-row replicas row up at =
    let found : (one : ℕ × Replica) × (In one replicas) × (row ≡ row_of_replica one) = In-rows_of_replicas replicas row at in
    let seg : row.seg ≡ found.0.0 = ap (λ (some : Row). some.seg) found.2 in
    let here : replica_of found.0.0 replicas ≡ Some found.0.1 = replica_of-in replicas found.0 up found.1 in
    (found.0.1, ap (λ s. replica_of s replicas) seg ∙ here, found.2 ∙ ap (λ s. row_of_replica (s, found.0.1)) (sym seg))

-- A part of the list

AllAbove-filter : (test : ℕ × Replica → Bool) (n : ℕ) (replicas : List (ℕ × Replica)) → AllAbove n replicas →
    AllAbove n (filter test replicas)
AllAbove-filter test n [] above = tt
AllAbove-filter test n (one ∷ others) above =
    either (AllAbove n) (test one) (one ∷ filter test others) (filter test others)
    (λ _. (above.0, AllAbove-filter test n others above.1)) (λ _. AllAbove-filter test n others above.1)

pub Ascending-filter : (test : ℕ × Replica → Bool) (replicas : List (ℕ × Replica)) → Ascending replicas → Ascending (filter test replicas)
Ascending-filter test [] up = tt
Ascending-filter test (one ∷ others) up = either Ascending (test one) (one ∷ filter test others) (filter test others)
    (λ _. (AllAbove-filter test one.0 others up.0, Ascending-filter test others up.1)) (λ _. Ascending-filter test others up.1)

-- nothing at or below a number stands in a list that is above it
replica_of-above : {s n : ℕ} (replicas : List (ℕ × Replica)) → s ≤ n → AllAbove n replicas → replica_of s replicas ≡ None
replica_of-above [] upto above = refl
replica_of-above {s} {n} (one ∷ others) upto above =
    let less : n < one.0 = above.0 in
    ap (λ b. cond b (Some one.1) (replica_of s others)) (ne_eqb s one.0 (λ e. omega arith)) ∙ replica_of-above others upto above.1

-- what stands in the part stands in the list
pub replica_of-filter : (test : ℕ × Replica → Bool) (s : ℕ) {replica : Replica} (replicas : List (ℕ × Replica)) → Ascending replicas →
    replica_of s (filter test replicas) ≡ Some replica → replica_of s replicas ≡ Some replica
replica_of-filter test s [] up e = e
replica_of-filter test s {replica} (one ∷ others) up e = by_test (test one) refl
    (λ at. replica_of-filter test s others up.1 at) e
  where
    none_some : {X : Type 0} (x : X) → None ≡ Some x → ⊥
    none_some x never = cc

    -- where the first is left out, and is of the segment, nothing else is
    skipped : (b : Bool) → nat_eq s one.0 ≡ b → replica_of s (filter test others) ≡ Some replica →
        replica_of s others ≡ Some replica → cond b (Some one.1) (replica_of s others) ≡ Some replica
    skipped false differs at found = found
    skipped true same at found = search (arith, eqb-true, replica_of-above, none_some)

    kept : (b : Bool) → nat_eq s one.0 ≡ b →
        (replica_of s (filter test others) ≡ Some replica → replica_of s others ≡ Some replica) →
        cond b (Some one.1) (replica_of s (filter test others)) ≡ Some replica →
        cond b (Some one.1) (replica_of s others) ≡ Some replica
    kept true same rec at = at
    kept false differs rec at = rec at

    by_test : (b : Bool) → test one ≡ b → (replica_of s (filter test others) ≡ Some replica → replica_of s others ≡ Some replica) →
        replica_of s (cond b (one ∷ filter test others) (filter test others)) ≡ Some replica →
        cond (nat_eq s one.0) (Some one.1) (replica_of s others) ≡ Some replica
    by_test true t rec at = kept (nat_eq s one.0) refl rec at
    by_test false t rec at = skipped (nat_eq s one.0) refl at (rec at)

-- what passes the test stays
pub replica_of-passes : {test : ℕ × Replica → Bool} {s : ℕ} {replica : Replica} (replicas : List (ℕ × Replica)) →
    replica_of s replicas ≡ Some replica → ((one : ℕ × Replica) → one.0 ≡ s → test one ≡ true) →
    replica_of s (filter test replicas) ≡ Some replica
replica_of-passes [] e passes = e
replica_of-passes {test} {s} {replica} (one ∷ others) e passes =
    by (test one) refl (nat_eq s one.0) refl (λ at. replica_of-passes others at passes) e
  where
    by : (b : Bool) → test one ≡ b → (same : Bool) → nat_eq s one.0 ≡ same →
        (replica_of s others ≡ Some replica → replica_of s (filter test others) ≡ Some replica) →
        cond same (Some one.1) (replica_of s others) ≡ Some replica →
        replica_of s (cond b (one ∷ filter test others) (filter test others)) ≡ Some replica
    by true t true same rec at = ap (λ b. cond b (Some one.1) (replica_of s (filter test others))) same ∙ at
    by true t false same rec at = ap (λ b. cond b (Some one.1) (replica_of s (filter test others))) same ∙ rec at
    by false t true same rec at = (let yes_it : test one ≡ true = passes one (sym (eqb-true s one.0 same)) in
        let never : true ≡ false = sym yes_it ∙ t in cc)
    by false t false same rec at = rec at

-- of another segment nothing goes
pub replica_of-without : {s seg : ℕ} {replica : Replica} (replicas : List (ℕ × Replica)) → (s ≡ seg → ⊥) →
    replica_of s replicas ≡ Some replica →
    replica_of s (without_replica seg replicas) ≡ Some replica
replica_of-without {seg} replicas differs e = replica_of-passes replicas e
    (λ one same. ap not (ne_eqb seg one.0 (λ is. differs (sym (is ∙ same)))))
