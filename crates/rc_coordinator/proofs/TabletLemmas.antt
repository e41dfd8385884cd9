-- Lists of tablets, and why one isn't changed.
use Rattle.std.proofs.Common.{◌≡◌, suc, ◌≤◌, Bool, true, false, cond, List, [], ◌∷◌, length, refl, ap, ◌∙◌, arith}
use Rattle.rc_model.specs.Model.{ServerId, Tablet, same_id, tablets_of, marked_crashed}

-- marking takes no tablet from its owner
pub tablets_of-marked : (owner : ServerId) (tablets : List Tablet) →
    length (tablets_of owner (marked_crashed owner tablets)) ≡ length (tablets_of owner tablets)
tablets_of-marked owner [] = refl
tablets_of-marked owner (tablet ∷ tablets) = by (same_id owner tablet.owner) refl (tablets_of-marked owner tablets)
  where
    by : (b : Bool) → same_id owner tablet.owner ≡ b → length (tablets_of owner (marked_crashed owner tablets)) ≡ length
        (tablets_of owner tablets)
        → length (tablets_of owner (cond b (record tablet { crashed = true }) tablet ∷ marked_crashed owner tablets)) ≡
        length (cond b (tablet ∷ tablets_of owner tablets) (tablets_of owner tablets))
    by true e rest = ap (λ b.
        length (cond b (record tablet { crashed = true } ∷ tablets_of owner (marked_crashed owner tablets))
        (tablets_of owner (marked_crashed owner tablets)))) e ∙ ap suc rest
    by false e rest = ap (λ b.
        length (cond b (tablet ∷ tablets_of owner (marked_crashed owner tablets))
        (tablets_of owner (marked_crashed owner tablets)))) e ∙ rest

-- an owner has no more tablets than there are
pub length-tablets_of : (owner : ServerId) (tablets : List Tablet) → length (tablets_of owner tablets) ≤ length tablets
length-tablets_of owner [] = omega arith
length-tablets_of owner (tablet ∷ tablets) = by (same_id owner tablet.owner) (length-tablets_of owner tablets)
  where
    by : (b : Bool) → length (tablets_of owner tablets) ≤ length tablets →
        length (cond b (tablet ∷ tablets_of owner tablets) (tablets_of owner tablets)) ≤ suc (length tablets)
    by true rest = omega arith
    by false rest = omega arith
