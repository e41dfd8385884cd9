-- What a writer has taken, write by write.
use Rattle.std.proofs.Common.{◌≡◌, ◌≤◌, ◌<◌, ℕ, ◌+◌, ◌-◌, zero, suc, List, [], ◌∷◌, ◌++◌, length, take, drop, Option}
use Rattle.std.proofs.Common.{Some, None, Result, Ok, Err, refl, ap, append_assoc, arith}
use Rattle.std.proofs.lemmas.List.{length-drop}
use Rattle.std.specs.Io.KnownBytes.{Appends}
use Rattle.rc_sim.specs.declared.verdicts.SimFault.{SimFault}
use Rattle.rc_sim.specs.declared.verdicts.SimFault.TheVariants as sim_fault
use Rattle.rc_sim.specs.Failures.{after_write}

take_none : (n : ℕ) → take {A = ℕ} n [] ≡ []
take_none zero = refl
take_none (suc n) = refl

-- a beginning, and a beginning of the rest
take_more : (n m : ℕ) (xs : List ℕ) → take (n + m) xs ≡ take n xs ++ take m (drop n xs)
take_more zero m xs = let same : 0 + m ≡ m = omega arith in rw same refl
take_more (suc n) zero [] = take_none (suc n + 0)
take_more (suc n) (suc m) [] = take_none (suc n + suc m)
take_more (suc n) m (x ∷ xs) = let moved : suc n + m ≡ suc (n + m) = omega arith in rw moved (ap (λ ys. x ∷ ys) (take_more n m xs))

appends_more : (old mid new : Option (List ℕ)) (bs cs all : List ℕ) → Appends old mid bs → Appends mid new cs →
    all ≡ bs ++ cs → Appends old new all
appends_more None mid new bs cs all first second same = tt
appends_more (Some old) None new bs cs all first second same = absurd first
appends_more (Some old) (Some mid) None bs cs all first second same = absurd second
appends_more (Some old) (Some mid) (Some new) bs cs all first second same = rw (second, first, same) (append_assoc old bs cs)

-- one write more
pub written_more : (old mid new : Option (List ℕ)) (text rest : List ℕ) (written count : ℕ) →
    Appends old mid (take written text) → rest ≡ drop written text
    → Appends mid new (take count rest) → Appends old new (take (written + count) text)
written_more old mid new text rest written count first same second =
    appends_more old mid new (take written text) (take count (drop written text)) (take (written + count) text) first
    (rw (← same) second) (take_more written count text)

pub some_taken : {E : Type 0} (result : Result ℕ E) (count failures : ℕ) → result ≡ Ok count → 0 < count →
    after_write result failures ≡ failures
some_taken result zero failures same some = absurd (omega (arith, some))
some_taken result (suc count) failures same some = rw same refl

take_whole : (k : ℕ) (ys : List ℕ) → length ys ≤ k → take k ys ≡ ys
take_whole zero [] le = refl
take_whole zero (y ∷ ys) le = absurd (omega (arith, le))
take_whole (suc k) [] le = refl
take_whole (suc k) (y ∷ ys) le = ap (λ zs. y ∷ zs) (take_whole k ys (omega (arith, le)))

-- the rest of a text, as a slice of it
pub rest_of : (n : ℕ) (xs : List ℕ) → take (length xs - n) (drop n xs) ≡ drop n xs
rest_of n xs = take_whole (length xs - n) (drop n xs) (omega (arith, length-drop n xs))

-- the fault, where there is one
abbrev pub told_fault : {T : Type 0} → Result T SimFault → SimFault
told_fault (Ok x) = sim_fault.Memory
told_fault (Err e) = e
