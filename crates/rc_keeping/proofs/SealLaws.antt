-- Bytes that were sealed are opened again, and no others are.
use Rattle.std.proofs.Common.{◌≡◌, ℕ, ◌≤◌, false, cond, eqb, ltb, List, ◌++◌, length}
use Rattle.std.proofs.Common.{take, drop, Option, Some, None, refl, sym, ap, ◌∙◌, append_assoc, eq-eqb, arith}
use Rattle.std.proofs.lemmas.Bool.{ltb-false, le-ltb, eqb-true}
use Rattle.std.proofs.lemmas.List.{take_at, drop_at, take-append-drop, length-append, length-take}
use Rattle.rc_codec.specs.Parts.{four_bytes, eight_bytes}
use Rattle.rc_codec.specs.Reading.{◌>>=◌, ◌⊗◌}
use Rattle.rc_codec.specs.Fields.{u32_at, u64_at}
use Rattle.rc_codec.proofs.Lawful.{IsBytes, Lawful, bind_some, some_is, parts}
use Rattle.rc_keeping.specs.Spelling.{sum_of, sealed}
use Rattle.rc_keeping.specs.Readers.{opened_with, opened_at}
use Rattle.rc_keeping.proofs.RecordLaws.{tested, passed, head_code, head_law, head_of}

-- ---- so many bytes

opened-front : (code rest : List ℕ) → opened_with (length code) (sum_of code) (code ++ rest) ≡ Some (code, rest)
unfolding opened_with
opened-front code rest =
    let long : ltb (length (code ++ rest)) (length code) ≡ false = le-ltb _ _ (omega (arith, length-append code rest)) in
    rw (long, take_at code rest (length code) refl, drop_at code rest (length code) refl, eq-eqb (sum_of code) (sum_of code) refl) refl

opened-takes : (count sum : ℕ) (xs code rest : List ℕ) → opened_with count sum xs ≡ Some (code, rest) →
    (xs ≡ code ++ rest) × (count ≡ length code) × (sum ≡ sum_of code)
unfolding opened_with
opened-takes count sum xs code rest e =
    let p = passed (ltb (length xs) count)
    (cond (eqb (sum_of (take count xs)) sum) (Some (take count xs, drop count xs)) None) (code, rest) e in
    let t = tested (eqb (sum_of (take count xs)) sum) (Some (take count xs, drop count xs)) (code, rest) p.1 in
    let same = some_is (take count xs, drop count xs) (code, rest) t.1 in
    let front : take count xs ≡ code = ap (λ (q : List ℕ × List ℕ). q.0) same in
    let after : drop count xs ≡ rest = ap (λ (q : List ℕ × List ℕ). q.1) same in
    let long : count ≤ length xs = ltb-false _ _ p.0 in
    let len : length (take count xs) ≡ count = omega (arith, length-take count xs) in (
      sym (take-append-drop count xs) ∙ ap (λ (ys : List ℕ). ys ++ drop count xs) front ∙ ap (λ (ys : List ℕ). code ++ ys) after,
      sym len ∙ ap length front,
      sym (eqb-true (sum_of (take count xs)) sum t.0) ∙ ap sum_of front,
    )

-- ---- behind their head

abbrev behind : (ℕ × ℕ) × List ℕ → Option (List ℕ × List ℕ)
behind head = opened_with head.0.0 head.0.1 head.1

sealed_again : (code rest : List ℕ) → opened_at (sealed code ++ rest) ≡ Some (code, rest)
unfolding opened_at
sealed_again code rest =
    ap (λ (xs : List ℕ). (u64_at ⊗ u32_at) xs >>= behind) (append_assoc (head_code (head_of code)) code rest)
    ∙ ap (λ (r : Option ((ℕ × ℕ) × List ℕ)). r >>= behind) (head_law.again (head_of code) (code ++ rest)) ∙ opened-front code rest

sealed_takes : (xs code rest : List ℕ) → IsBytes xs → opened_at xs ≡ Some (code, rest) → xs ≡ sealed code ++ rest
unfolding opened_at
sealed_takes xs code rest fits e =
    let b = bind_some ((u64_at ⊗ u32_at) xs) behind (code, rest) e in
    let p = parts head_law xs b.0 fits b.1 in
    let t = opened-takes b.0.0.0 b.0.0.1 b.0.1 code rest b.2 in
    let head : eight_bytes b.0.0.0 ++ four_bytes b.0.0.1 ≡ head_code (head_of code) =
    ap (λ (n : ℕ). eight_bytes n ++ four_bytes b.0.0.1) t.1
    ∙ ap (λ (sum : ℕ). eight_bytes (length code) ++ four_bytes sum) t.2 in
    p.0 ∙ ap (λ (ys : List ℕ). ys ++ b.0.1) head ∙ ap (λ (ys : List ℕ). head_code (head_of code) ++ ys) t.0
    ∙ sym (append_assoc (head_code (head_of code)) code rest)

pub sealed_law : Lawful sealed opened_at
sealed_law = record { again = sealed_again; takes = sealed_takes }
