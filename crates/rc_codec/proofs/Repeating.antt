-- Reading one after the other, as a loop does.
use Rattle.std.proofs.Common.{◌≡◌, ℕ, suc, ◌-◌, ◌+◌, ◌≤◌, ◌<◌, List, [], ◌∷◌, ◌++◌, Option, Some, None, refl, sym, ap, ◌∙◌, append_assoc}
use Rattle.std.proofs.Common.{arith}
use Rattle.std.proofs.lemmas.List.{append-nil}
use Rattle.rc_codec.specs.declared.faults.DecodeFault.{DecodeFault}
use Rattle.rc_codec.specs.declared.faults.DecodeFault.TheVariants.{OutOfMemory, Malformed}
use Rattle.rc_codec.specs.Reading.{◌>>=◌, Reader, Fails, each_at}

-- what was read before, and what is still read
abbrev pub with_front : {A : Type 0} → List A → Option (List A × List ℕ) → Option (List A × List ℕ)
with_front front read = read >>= λ x. Some (front ++ x.0, x.1)

regroup : {A : Type 0} (front : List A) (x : A) (read : Option (List A × List ℕ))
    → with_front front (read >>= λ y. Some (x ∷ y.0, y.1)) ≡ with_front (front ++ x ∷ []) read
regroup front x (Some y) = ap (λ zs. Some (zs, y.1)) (simp append_assoc)
regroup front x None = refl

pub goes_on : {A : Type 0} (read : Reader A) (front : List A) (count i : ℕ) (xs : List ℕ) (x : A) (after : List ℕ)
    (total : Option (List A × List ℕ)) → i < count → read xs ≡ Some (x, after)
    → with_front front (each_at read (count - i) xs) ≡ total → with_front (front ++ x ∷ []) (each_at read (count - (i + 1)) after) ≡ total
unfolding each_at
goes_on read front count i xs x after total lt h so_far =
    let k : count - i ≡ suc (count - (i + 1)) = omega arith in
    let one : with_front front (each_at read (count - i) xs) ≡ with_front (front ++ x ∷ []) (each_at read (count - (i + 1)) after) = rw
    (k, h) (regroup front x (each_at read (count - (i + 1)) after)) in
    sym one ∙ so_far

pub ends : {A : Type 0} (e : DecodeFault) (read : Reader A) (front : List A) (count i : ℕ) (xs : List ℕ)
    (total : Option (List A × List ℕ)) → i < count → Fails e (read xs)
    → with_front front (each_at read (count - i) xs) ≡ total → Fails e total
unfolding each_at
ends OutOfMemory read front count i xs total lt h so_far = tt
ends Malformed read front count i xs total lt h so_far =
    let k : count - i ≡ suc (count - (i + 1)) = omega arith in
    let one : with_front front (each_at read (count - i) xs) ≡ None = rw (k, h) refl in
    sym so_far ∙ one

pub is_done : {A : Type 0} (read : Reader A) (front : List A) (count i : ℕ) (xs : List ℕ) (total : Option (List A × List ℕ)) → count ≤ i
    → with_front front (each_at read (count - i) xs) ≡ total → total ≡ Some (front, xs)
unfolding each_at
is_done read front count i xs total le so_far =
    let k : count - i ≡ 0 = omega arith in
    let one : with_front front (each_at read (count - i) xs) ≡ Some (front, xs) = rw k (ap (λ zs. Some (zs, xs)) (append-nil front)) in
    sym so_far ∙ one
