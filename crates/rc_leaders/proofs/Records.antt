-- What stands in a store, one number after another.
use Rattle.std.proofs.Common.{◌≡◌, ◌≤◌, ◌+◌, ℕ, zero, suc, false, nat_eq, List, ◌++◌, length, take, drop}
use Rattle.std.proofs.Common.{refl, sym, ap, ◌∙◌, arith}
use Rattle.std.proofs.lemmas.List.{take-take, take-append-drop}
use Rattle.std.proofs.lemmas.Bool.{ne_eqb}
use Rattle.rc_model.specs.Nodes.{NodeWork}
use Rattle.rc_model.specs.Tables.{put}
use Rattle.rc_model.proofs.Tables.{put-same, put-other}
use Rattle.rc_leaders.specs.Store.{joined}

pub joined-next : (numbers : ℕ → List NodeWork) (count : ℕ) → joined numbers (count + 1) ≡ joined numbers count ++ numbers count
joined-next numbers count = let e : count + 1 ≡ suc count = omega arith in ap (joined numbers) e

-- what is put behind the first so many numbers does not change them
pub joined-put : (numbers : ℕ → List NodeWork) (key : ℕ) (works : List NodeWork) (count : ℕ) → count ≤ key →
    joined (put numbers key works) count ≡ joined numbers count
joined-put numbers key works zero within = refl
joined-put numbers key works (suc count) within =
    let other : nat_eq key count ≡ false = ne_eqb key count (λ e. omega arith) in
    ap (λ l. l ++ put numbers key works count) (joined-put numbers key works count (omega arith))
    ∙ ap (λ l. joined numbers count ++ l) (put-other numbers key works other)

-- and one number more is what is put there
pub joined-more : (numbers : ℕ → List NodeWork) (count : ℕ) (works : List NodeWork) →
    joined (put numbers count works) (count + 1) ≡ joined numbers count ++ works
joined-more numbers count works =
    joined-next (put numbers count works) count
    ∙ (ap (λ l. l ++ put numbers count works count) (joined-put numbers count works count (omega arith))
    ∙ ap (λ l. joined numbers count ++ l) (put-same numbers count {value = works}))

-- a beginning, and what comes behind it up to a count, is the beginning of so many
pub begins-more : {X : Type 0} (begins whole : List X) (count : ℕ) → length begins ≤ count → begins ≡ take (length begins) whole →
    begins ++ drop (length begins) (take count whole) ≡ take count whole
begins-more begins whole count within is =
    ap (λ l. l ++ drop (length begins) (take count whole)) (is ∙ sym (take-take (length begins) count whole within))
    ∙ take-append-drop (length begins) (take count whole)
