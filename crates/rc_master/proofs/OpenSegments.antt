-- Below the first open segment none is open, so these have no fewest members.
use Rattle.std.proofs.Common.{◌≡◌, ℕ, zero, suc, ◌-◌, ◌∷◌, [], Bool, true, false, cond, not, find, Option, Some, None, refl}
use Rattle.std.proofs.Common.{sym, ◌∙◌, arith}
use Rattle.std.specs.Option.{option_or}
use Rattle.std.proofs.lemmas.List.Folds.{find-append}
use Rattle.rc_model.specs.Model.{Segment, numbers_to}
use Rattle.rc_master.specs.Looks.{fewest_to}

abbrev pub is_open : (ℕ → Segment) → ℕ → Bool
is_open segments seg = not (segments seg).shut

one-more : (segments : ℕ → Segment) (m : ℕ) (r : Option ℕ) (shut : Bool) → (segments (suc m)).shut ≡ shut →
    option_or r (cond (not shut) (Some (suc m)) None) ≡ None → (r ≡ None → fewest_to segments m ≡ None) →
    fewest_to segments (suc m) ≡ None
one-more segments m (Some t) shut is none before = absurd (cc)
one-more segments m None true is none before = rw (is, before refl) refl
one-more segments m None false is none before = absurd (cc)

-- where none of the first so many segments is open
pub none-open : (segments : ℕ → Segment) (n : ℕ) → find (is_open segments) (numbers_to n) ≡ None → fewest_to segments n ≡ None
none-open segments zero none = refl
none-open segments (suc m) none =
    one-more segments m (find (is_open segments) (numbers_to m)) (segments (suc m)).shut refl
    (sym (find-append (is_open segments) (numbers_to m) (suc m ∷ [])) ∙ none) (none-open segments m)

or-this : (segments : ℕ → Segment) (m s : ℕ) (r : Option ℕ) (unshut : Bool) →
    option_or r (cond unshut (Some (suc m)) None) ≡ Some s → (r ≡ None → fewest_to segments m ≡ None) →
    (r ≡ Some s → fewest_to segments (s - 1) ≡ None) → fewest_to segments (s - 1) ≡ None
or-this segments m s (Some t) unshut is none some = some is
or-this segments m s None true is none some =
    let e : suc m ≡ s = cc in
    let k : s - 1 ≡ m = omega (arith, e) in
    rw k (none refl)
or-this segments m s None false is none some = absurd (cc)

-- of the segments below the first open one
pub below-first : (segments : ℕ → Segment) (n s : ℕ) → find (is_open segments) (numbers_to n) ≡ Some s →
    fewest_to segments (s - 1) ≡ None
below-first segments zero s is = absurd (cc)
below-first segments (suc m) s is =
    or-this segments m s (find (is_open segments) (numbers_to m)) (is_open segments (suc m))
    (sym (find-append (is_open segments) (numbers_to m) (suc m ∷ [])) ∙ is) (none-open segments m)
    (below-first segments m s)
