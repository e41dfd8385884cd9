-- Folds over the items of a list, to their end.
use Rattle.std.proofs.Common.{◌≡◌, ℕ, List, Option, Some, None, refl, sym, ap, ◌∙◌}
use Rattle.json.specs.Token.{Token}
use Rattle.serde_json.specs.Data.{Data}
use Rattle.rc_reading.specs.Ahead.{items_at, told, folds, taken_from}

told_none : {A B : Type 0} (f : A → B) (o : Option (A × List Token)) → told f o ≡ None → o ≡ None
told_none f None e = refl
told_none f (Some q) e = absurd (cc)

-- a list whose later items are refused is refused
pub folds_refused : {A : Type 0} (takes : A → Data → Option A) (now start : Option A) (depth : ℕ)
    (ts all : List Token) → folds takes now depth ts ≡ folds takes start depth all → items_at depth ts ≡ None →
    items_at depth all ≡ None
folds_refused takes now start depth ts all same none =
    told_none (taken_from takes start) (items_at depth all) (sym same ∙ ap (told (taken_from takes now)) none)
