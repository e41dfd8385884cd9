-- What can not stand before keys that ascend.
use Rattle.std.proofs.Common.{◌≡◌, ℕ, ◌<◌, ◌≤◌, true, false, List, [], ◌∷◌, ◌++◌, ap, subst, ◌∙◌, sym, append_assoc, refl, arith}
use Rattle.std.specs.declared.cmp.Ordering.{Ordering}
use Rattle.std.specs.declared.cmp.Ordering.TheVariants.{Less}
use Rattle.std.specs.List.Sorted.{IsStrictlySortedBy}
use Rattle.std.specs.Map.{keys_of}
use Rattle.std.specs.Ordering.{nat_cmp, is_lt}
use Rattle.std.proofs.lemmas.Bool.{ltb-false}
use Rattle.std.proofs.lemmas.Map.Keys.{sorted_head, sorted_tail, below_from_sorted}
use Rattle.rc_model.specs.Model.{ServerId, Held}
use Rattle.rc_backup.specs.BackupView.{id_order}
use Rattle.rc_keeping.specs.Order.{IsHeldInOrder, AreHeldInOrder, IsInOrder, goes_first, goes_lowest}

pub not-first : {K X : Type 0} (cmp : K → K → Ordering) (key : K) (es : List (K × X)) → goes_first cmp key es ≡ false →
    IsStrictlySortedBy cmp (key ∷ keys_of es) → ⊥
not-first cmp key [] test s = cc
not-first cmp key (e ∷ es) test s =
    let less : cmp key e.0 ≡ Less = (sorted_head cmp key (keys_of (e ∷ es)) s).0 in
    let yes : is_lt (cmp key e.0) ≡ true = ap is_lt less in
    cc

pub not-lowest : (seg : ℕ) (keys : List ℕ) → goes_lowest seg keys ≡ false → IsStrictlySortedBy nat_cmp (seg ∷ keys) → ⊥
not-lowest seg [] test s = cc
not-lowest seg (k ∷ ks) test s =
    let less : seg < k = below_from_sorted (seg ∷ k ∷ ks) 0 1 0 s (omega arith) (omega arith) in
    let above : k ≤ seg = ltb-false seg k test in
    omega arith

-- where a list ascends, so does what it ends with
pub end-ascends : {K : Type 0} (cmp : K → K → Ordering) (front back : List K) → IsStrictlySortedBy cmp (front ++ back) →
    IsStrictlySortedBy cmp back
end-ascends cmp [] back s = s
end-ascends cmp (x ∷ front) back s = end-ascends cmp front back (sorted_tail cmp x (front ++ back) s)

pub end-of-keys : {K X : Type 0} (cmp : K → K → Ordering) (front back : List (K × X)) →
    IsStrictlySortedBy cmp (keys_of (front ++ back)) → IsStrictlySortedBy cmp (keys_of back)
end-of-keys cmp [] back s = s
end-of-keys cmp (e ∷ front) back s = end-of-keys cmp front back (sorted_tail cmp e.0 (keys_of (front ++ back)) s)

-- the last of a list goes to the front of what stands behind it
moved : {A : Type 0} (list front : List A) (x : A) (back all : List A) → list ≡ front ++ x ∷ [] → list ++ back ≡ all →
    front ++ x ∷ back ≡ all
moved list front x back all split whole =
    sym (append_assoc front (x ∷ []) back) ∙ ap (λ zs. zs ++ back) (sym split) ∙ whole

pub last-ascends : {K : Type 0} (cmp : K → K → Ordering) (list front : List K) (x : K) (back all : List K) → list ≡ front ++ x ∷ [] →
    list ++ back ≡ all → IsStrictlySortedBy cmp all → IsStrictlySortedBy cmp (x ∷ back)
last-ascends {K} cmp list front x back all split whole s =
    end-ascends cmp front (x ∷ back) (subst (λ (zs : List K). IsStrictlySortedBy cmp zs) (sym (moved list front x back all split whole)) s)

pub last-key-ascends : {K X : Type 0} (cmp : K → K → Ordering) (list front : List (K × X)) (e pair : K × X) (back all : List (K × X)) →
    list ≡ front ++ e ∷ [] → pair ≡ e → list ++ back ≡ all → IsStrictlySortedBy cmp (keys_of all) →
    IsStrictlySortedBy cmp (pair.0 ∷ keys_of back)
last-key-ascends {K} {X} cmp list front e pair back all split same whole s =
    subst (λ (p : K × X). IsStrictlySortedBy cmp (p.0 ∷ keys_of back)) (sym same)
    (end-of-keys cmp front (e ∷ back)
    (subst (λ (zs : List (K × X)). IsStrictlySortedBy cmp (keys_of zs)) (sym (moved list front e back all split whole)) s))

-- what holds of each master of a table holds of those that it ends with
end-held : (front back : List (ServerId × Held)) → AreHeldInOrder (front ++ back) → AreHeldInOrder back
end-held [] back all = all
end-held (e ∷ front) back all = end-held front back all.1

pub last-is-in-order : (list front : List (ServerId × Held)) (e : ServerId × Held) (back all : List (ServerId × Held)) →
    list ≡ front ++ e ∷ [] → list ++ back ≡ all → IsInOrder all →
    IsHeldInOrder e.1 × IsStrictlySortedBy id_order (e.0 ∷ keys_of back)
last-is-in-order list front e back all split whole order = (
  (end-held front (e ∷ back)
      (subst (λ (zs : List (ServerId × Held)). AreHeldInOrder zs) (sym (moved list front e back all split whole)) order.held)).0,
  last-key-ascends id_order list front e e back all split refl whole order.masters,
)
