-- Lists that begin with another.
use Rattle.std.proofs.Common.{◌≤◌, List, ◌++◌, length, ap, ◌∙◌, arith}
use Rattle.std.proofs.lemmas.List.{take-append-le, length-take}
use Rattle.rc_master.specs.Beginnings.{IsBeginning}

-- the beginning is no longer than the whole
fits : {X : Type 0} → (xs ys : List X) → IsBeginning xs ys → length xs ≤ length ys
fits xs ys h = omega (arith, ap length h, length-take (length xs) ys)

-- also with more at the end
pub begins-more : {X : Type 0} → (xs ys zs : List X) → IsBeginning xs ys → IsBeginning xs (ys ++ zs)
begins-more xs ys zs h = take-append-le (length xs) ys zs (fits xs ys h) ∙ h
