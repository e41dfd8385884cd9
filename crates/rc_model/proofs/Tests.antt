-- Tests, over plain variables.
use Rattle.std.proofs.Common.{◌≡◌, Bool, true, false, cond, refl}

-- either result of a test
pub either : {X : Type 0} (P : X → Type 0) (b : Bool) (x y : X) → (b ≡ true → P x) → (b ≡ false → P y) → P (cond b x y)
either P true x y then_ else_ = then_ refl
either P false x y then_ else_ = else_ refl

-- true is not false
pub true_false : {P : Type 0} → true ≡ false → P
true_false e = cc
