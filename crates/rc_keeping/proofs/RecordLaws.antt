-- Each record is read back, and nothing else is.
use Rattle.std.proofs.Common.{◌≡◌, ℕ, zero, suc, ◌≤◌, Bool, true, false, cond, eqb, ltb, List, [], ◌∷◌, ◌++◌, length}
use Rattle.std.proofs.Common.{take, drop, Option, Some, None, refl, sym, ap, ◌∙◌, append_assoc, eq-eqb, arith}
use Rattle.std.proofs.lemmas.Bool.{ltb-false, le-ltb, eqb-true}
use Rattle.std.proofs.lemmas.List.{take_at, drop_at, take-append-drop, length-append, length-take, append-nil}
use Rattle.rc_codec.specs.Parts.{four_bytes, eight_bytes}
use Rattle.rc_codec.specs.Reading.{◌>>=◌, ◌⊗◌}
use Rattle.rc_codec.specs.Fields.{u32_at, u64_at}
use Rattle.rc_codec.proofs.Lawful.{IsBytes, Lawful, bind_some, some_is, parts, pair_lawful, number_lawful}
use Rattle.rc_types.specs.declared.events.NodeWork.{NodeWork}
use Rattle.rc_keeping.specs.Spelling.{coded_work, sum_of, sealed, record_of}
use Rattle.rc_keeping.specs.Readers.{coded_at, alone, alone_at, summed_at, sealed_at, record_at}
use Rattle.rc_keeping.proofs.WorkLaws.{coded_work_law}

-- ---- the work that bytes are

alone-again : (w : NodeWork) → alone_at (coded_work w) ≡ Some w
unfolding alone_at
alone-again w =
    ap (λ (xs : List ℕ). coded_at xs >>= alone) (sym (append-nil (coded_work w)))
    ∙ ap (λ (r : Option (NodeWork × List ℕ)). r >>= alone) (coded_work_law.again w [])

alone-is : (read : NodeWork × List ℕ) (w : NodeWork) → alone read ≡ Some w → read ≡ (w, [])
alone-is (v, []) w e = cc
alone-is (v, b ∷ rest) w e = absurd cc

alone-takes : (xs : List ℕ) (w : NodeWork) → IsBytes xs → alone_at xs ≡ Some w → xs ≡ coded_work w
unfolding alone_at
alone-takes xs w fits e =
    let b = bind_some (coded_at xs) alone w e in
    coded_work_law.takes xs w [] fits (b.1 ∙ ap (λ (p : NodeWork × List ℕ). Some p) (alone-is b.0 w b.2)) ∙ append-nil (coded_work w)

-- ---- with their sum

-- a test that did not fail
pub tested : {A : Type 0} (b : Bool) (read : Option A) (x : A) → cond b read None ≡ Some x → (b ≡ true) × (read ≡ Some x)
tested true read x e = (refl, e)
tested false read x e = absurd cc

pub passed : {A : Type 0} (b : Bool) (read : Option A) (x : A) → cond b None read ≡ Some x → (b ≡ false) × (read ≡ Some x)
passed true read x e = absurd cc
passed false read x e = (refl, e)

summed-again : (w : NodeWork) → summed_at (sum_of (coded_work w)) (coded_work w) ≡ Some w
unfolding summed_at
summed-again w =
    ap (λ (b : Bool). cond b (alone_at (coded_work w)) None) (eq-eqb (sum_of (coded_work w)) (sum_of (coded_work w)) refl) ∙ alone-again w

summed-takes : (sum : ℕ) (xs : List ℕ) (w : NodeWork) → IsBytes xs → summed_at sum xs ≡ Some w → (xs ≡ coded_work w) × (sum_of xs ≡ sum)
unfolding summed_at
summed-takes sum xs w fits e =
    let t = tested (eqb (sum_of xs) sum) (alone_at xs) w e in
    (alone-takes xs w fits t.1, eqb-true (sum_of xs) sum t.0)

-- ---- so many bytes

IsBytes-take : (n : ℕ) (xs : List ℕ) → IsBytes xs → IsBytes (take n xs)
IsBytes-take zero xs fits i = omega arith
IsBytes-take (suc n) [] fits i = fits i
IsBytes-take (suc n) (x ∷ xs) fits zero = fits zero
IsBytes-take (suc n) (x ∷ xs) fits (suc i) = IsBytes-take n xs (λ k. fits (suc k)) i

sealed-front : (code rest : List ℕ) (w : NodeWork) → summed_at (sum_of code) code ≡ Some w →
    sealed_at (length code) (sum_of code) (code ++ rest) ≡ Some (w, rest)
unfolding sealed_at
sealed-front code rest w is =
    let long : ltb (length (code ++ rest)) (length code) ≡ false = le-ltb _ _ (omega (arith, length-append code rest)) in
    rw (long, take_at code rest (length code) refl, drop_at code rest (length code) refl, is) refl

sealed-takes : (count sum : ℕ) (xs : List ℕ) (w : NodeWork) (rest : List ℕ) → IsBytes xs → sealed_at count sum xs ≡ Some (w, rest) →
    (xs ≡ coded_work w ++ rest) × (count ≡ length (coded_work w)) × (sum ≡ sum_of (coded_work w))
unfolding sealed_at
sealed-takes count sum xs w rest fits e =
    let p = passed (ltb (length xs) count) (summed_at sum (take count xs) >>= λ v. Some (v, drop count xs)) (w, rest) e in
    let b = bind_some (summed_at sum (take count xs)) (λ v. Some (v, drop count xs)) (w, rest) p.1 in
    let same = some_is (b.0, drop count xs) (w, rest) b.2 in
    let first : b.0 ≡ w = ap (λ (q : NodeWork × List ℕ). q.0) same in
    let after : drop count xs ≡ rest = ap (λ (q : NodeWork × List ℕ). q.1) same in
    let t = summed-takes sum (take count xs) b.0 (IsBytes-take count xs fits) b.1 in
    let code : take count xs ≡ coded_work w = t.0 ∙ ap coded_work first in
    let long : count ≤ length xs = ltb-false _ _ p.0 in
    let len : length (take count xs) ≡ count = omega (arith, length-take count xs) in (
      sym (take-append-drop count xs) ∙ ap (λ (ys : List ℕ). ys ++ drop count xs) code
          ∙ ap (λ (ys : List ℕ). coded_work w ++ ys) after,
      sym len ∙ ap length code,
      sym t.1 ∙ ap sum_of code,
    )

-- ---- behind their head

abbrev pub head_code : ℕ × ℕ → List ℕ
head_code p = eight_bytes p.0 ++ four_bytes p.1

pub head_law : Lawful head_code (u64_at ⊗ u32_at)
head_law = pair_lawful (number_lawful 7) (number_lawful 3)

abbrev behind : (ℕ × ℕ) × List ℕ → Option (NodeWork × List ℕ)
behind head = sealed_at head.0.0 head.0.1 head.1

abbrev pub head_of : List ℕ → ℕ × ℕ
head_of code = (length code, sum_of code)

record-front : (code rest : List ℕ) (w : NodeWork) → summed_at (sum_of code) code ≡ Some w →
    record_at (sealed code ++ rest) ≡ Some (w, rest)
unfolding record_at
record-front code rest w is =
    ap (λ (xs : List ℕ). (u64_at ⊗ u32_at) xs >>= behind) (append_assoc (head_code (head_of code)) code rest)
    ∙ ap (λ (r : Option ((ℕ × ℕ) × List ℕ)). r >>= behind) (head_law.again (head_of code) (code ++ rest)) ∙ sealed-front code rest w is

record_takes : (xs : List ℕ) (w : NodeWork) (rest : List ℕ) → IsBytes xs → record_at xs ≡ Some (w, rest) → xs ≡ record_of w ++ rest
unfolding record_at
record_takes xs w rest fits e =
    let b = bind_some ((u64_at ⊗ u32_at) xs) behind (w, rest) e in
    let p = parts head_law xs b.0 fits b.1 in
    let t = sealed-takes b.0.0.0 b.0.0.1 b.0.1 w rest p.1 b.2 in
    let head : eight_bytes b.0.0.0 ++ four_bytes b.0.0.1 ≡ head_code (head_of (coded_work w)) =
    ap (λ (n : ℕ). eight_bytes n ++ four_bytes b.0.0.1) t.1
    ∙ ap (λ (sum : ℕ). eight_bytes (length (coded_work w)) ++ four_bytes sum) t.2 in
    p.0 ∙ ap (λ (ys : List ℕ). ys ++ b.0.1) head ∙ ap (λ (ys : List ℕ). head_code (head_of (coded_work w)) ++ ys) t.0
    ∙ sym (append_assoc (head_code (head_of (coded_work w))) (coded_work w) rest)

pub record_law : Lawful record_of record_at
record_law = record { again = λ w rest. record-front (coded_work w) rest w (summed-again w); takes = record_takes }
