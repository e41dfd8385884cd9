-- The keys of a map that stands for a set.
use Rattle.std.proofs.Common.{◌≡◌, Bool, true, false, cond, ◌||◌, List, [], ◌∷◌, ◌++◌, refl, ap}
use Rattle.std.specs.List.{list_any}
use Rattle.std.specs.Map.{keys_of}
use Rattle.indexmap.specs.IndexMap.{insert_entry}
use Rattle.indexmap.specs.IndexSet.{insert_key}

module _ {K V : Type 0} (eq : K → K → Bool) where
  pub keys_of-insert_entry : (es : List (K × V)) (k : K) (v : V) →
      keys_of (insert_entry eq es k v) ≡ insert_key eq (keys_of es) k
  keys_of-insert_entry [] k v = refl
  keys_of-insert_entry (e ∷ es) k v =
      by (eq k e.0) (list_any (eq k) (keys_of es)) (keys_of-insert_entry es k v)
    where
      by : (same any : Bool) → keys_of (insert_entry eq es k v) ≡ cond any (keys_of es) (keys_of es ++ k ∷ []) →
          keys_of (cond same ((e.0, v) ∷ es) (e ∷ insert_entry eq es k v)) ≡
          cond (same || any) (e.0 ∷ keys_of es) (e.0 ∷ (keys_of es ++ k ∷ []))
      by true any rec = refl
      by false true rec = ap (λ ks. e.0 ∷ ks) rec
      by false false rec = ap (λ ks. e.0 ∷ ks) rec
