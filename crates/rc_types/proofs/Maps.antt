-- Maps in order of their keys.
use Rattle.std.proofs.Common.{◌≡◌, List, [], ◌∷◌, ◌++◌, refl, sym, ap, subst}
use Rattle.std.proofs.lemmas.Map.Keys.{sorted_tail}
use Rattle.std.specs.BTreeMap.{insert_entry}
use Rattle.std.specs.List.Sorted.{IsStrictlySortedBy}
use Rattle.std.specs.Map.{keys_of}
use Rattle.std.specs.Ordering.{match_ordering}
use Rattle.std.specs.declared.cmp.Ordering.{Ordering}

-- where the keys ascend, an entry is inserted before those that follow it
insert_entry-before : {K X : Type 0} (cmp : K → K → Ordering) (e : K × X) (last : List (K × X))
    → IsStrictlySortedBy cmp (keys_of (e ∷ last)) → insert_entry cmp last e.0 e.1 ≡ e ∷ last
unfolding IsStrictlySortedBy
insert_entry-before cmp e [] sorted = refl
insert_entry-before cmp e (next ∷ last) sorted =
    ap (λ o. match_ordering o (e ∷ next ∷ last) ((next.0, e.1) ∷ last) (next ∷ insert_entry cmp last e.0 e.1)) (sorted.0.0)

sorted-end : {K X : Type 0} (cmp : K → K → Ordering) (before es : List (K × X))
    → IsStrictlySortedBy cmp (keys_of (before ++ es)) → IsStrictlySortedBy cmp (keys_of es)
sorted-end cmp [] es sorted = sorted
sorted-end cmp (one ∷ before) es sorted = sorted-end cmp before es (sorted_tail cmp one.0 (keys_of (before ++ es)) sorted)

pub insert_entry-first : {K X : Type 0} (cmp : K → K → Ordering) (before : List (K × X)) (e : K × X) (last all : List (K × X))
    → before ++ e ∷ last ≡ all → IsStrictlySortedBy cmp (keys_of all) → insert_entry cmp last e.0 e.1 ≡ e ∷ last
insert_entry-first cmp before e last all is sorted =
    insert_entry-before cmp e last (sorted-end cmp before (e ∷ last) (subst (λ es. IsStrictlySortedBy cmp (keys_of es)) (sym is) sorted))
