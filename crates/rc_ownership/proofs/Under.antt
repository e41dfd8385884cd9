-- How many entries are under a term.
use Rattle.std.proofs.Common.{◌≡◌, ℕ, ◌+◌, ◌≤◌, Bool, true, false, cond, nat_eq, List, [], ◌∷◌, ◌++◌, length, take}
use Rattle.std.proofs.Common.{filter, ap, ◌∙◌, arith, zero, suc, length-append}
use Rattle.std.proofs.lemmas.List.Elements.{filter-append}
use Rattle.rc_model.specs.Model.{Entry, count_under}

cond_le : (b : Bool) (entry : Entry) (entries : List Entry) (n : ℕ) → length entries ≤ n → length (cond b (entry ∷ entries) entries) ≤ n + 1
cond_le true entry entries n h = omega arith
cond_le false entry entries n h = omega arith

-- at most as many of the first entries as there are
pub count_under-le : (term : ℕ) (entries : List Entry) (n : ℕ) → count_under term (take n entries) ≤ n
count_under-le term [] zero = omega arith
count_under-le term [] (suc n) = omega arith
count_under-le term (entry ∷ entries) zero = omega arith
count_under-le term (entry ∷ entries) (suc n) =
    omega (
      arith,
      cond_le (nat_eq entry.term term) entry (filter (λ e. nat_eq e.term term) (take n entries)) n
          (count_under-le term entries n),
    )

-- of two lists in a row, the sum
pub count_under-append : (term : ℕ) (one other : List Entry) →
    count_under term (one ++ other) ≡ count_under term one + count_under term other
count_under-append term one other =
    ap length (filter-append (λ entry. nat_eq entry.term term) one other)
    ∙ length-append (filter (λ entry. nat_eq entry.term term) one) (filter (λ entry. nat_eq entry.term term) other)
