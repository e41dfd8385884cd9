-- Maps in order of their keys: a value written where a look-up finds one, an entry taken out, and what `retain` leaves.
use Rattle.std.proofs.Common.{◌≡◌, Bool, true, false, cond, not, List, [], ◌∷◌, Some, None, filter, refl, sym, ap, ◌∙◌}
use Rattle.std.proofs.lemmas.Map.{lookup-none, NonePasses}
use Rattle.std.proofs.lemmas.Map.Entries.{none_below_head}
use Rattle.std.proofs.lemmas.Map.Keys.{sorted_tail}
use Rattle.std.specs.BTreeMap.{is_at, insert_entry}
use Rattle.std.specs.Cmp.{IsTotalOrder}
use Rattle.std.specs.List.Sorted.{IsStrictlySortedBy}
use Rattle.std.specs.Map.{keys_of, lookup, remove_entry, set_value}
use Rattle.std.specs.Map.Calls.{RetainsPairs}
use Rattle.std.specs.Ordering.{is_eq, match_ordering}
use Rattle.std.specs.declared.cmp.Ordering.{Ordering}
use Rattle.std.specs.declared.cmp.Ordering.TheVariants.{Less, Equal, Greater}

-- a value that is written where a look-up finds one is inserted
pub set_value-inserted : {K X : Type 0} {cmp : K → K → Ordering} (total : IsTotalOrder cmp) (k : K) (found value : X)
    (es : List (K × X)) → IsStrictlySortedBy cmp (keys_of es)
    → Some found ≡ lookup (is_at (cmp k)) es → set_value (is_at (cmp k)) es value ≡ insert_entry cmp es k value
set_value-inserted total k found value [] sorted there = absurd (cc)
set_value-inserted {K} {X} {cmp} total k found value (e ∷ es) sorted there =
    by (cmp k e.0) refl there (set_value-inserted total k found value es (sorted_tail cmp e.0 (keys_of es) sorted))
  where
    by : (o : Ordering) → cmp k e.0 ≡ o → Some found ≡ cond (is_eq o) (Some e.1) (lookup (is_at (cmp k)) es)
        → (Some found ≡ lookup (is_at (cmp k)) es → set_value (is_at (cmp k)) es value ≡ insert_entry cmp es k value)
        → cond (is_eq o) ((e.0, value) ∷ es) (e ∷ set_value (is_at (cmp k)) es value)
        ≡ match_ordering o ((k, value) ∷ e ∷ es) ((e.0, value) ∷ es) (e ∷ insert_entry cmp es k value)
    by Less o at rest =
        let none : lookup (is_at (cmp k)) (e ∷ es) ≡ None = lookup-none (is_at (cmp k)) (e ∷ es) (none_below_head total k e es sorted o) in
        absurd (cc)
    by Equal o at rest = refl
    by Greater o at rest = ap (λ tail. e ∷ tail) (rest at)

-- nothing is left out where no key passes
filter-none : {K X : Type 0} (test : K → Bool) (es : List (K × X)) → NonePasses test es → filter (λ e. not (test e.0)) es ≡ es
filter-none test [] none = refl
filter-none test (e ∷ es) none = by (test e.0) none.0 (filter-none test es none.1)
  where
    by : (b : Bool) → b ≡ false → filter (λ one. not (test one.0)) es ≡ es →
        cond (not b) (e ∷ filter (λ one. not (test one.0)) es) (filter (λ one. not (test one.0)) es) ≡ e ∷ es
    by true is rest = absurd (cc)
    by false is rest = ap (λ tail. e ∷ tail) rest

-- taking the entry of a key out leaves those of the other keys, where it leaves none of that key
pub remove_entry-filter : {K X : Type 0} (test : K → Bool) (es : List (K × X)) →
    NonePasses test (remove_entry test es) → remove_entry test es ≡ filter (λ e. not (test e.0)) es
remove_entry-filter test [] none = refl
remove_entry-filter {K} {X} test (e ∷ es) none = by (test e.0) refl none (remove_entry-filter test es)
  where
    others : List (K × X)
    others = filter (λ one. not (test one.0)) es

    by : (b : Bool) → test e.0 ≡ b → NonePasses test (cond b es (e ∷ remove_entry test es)) →
        (NonePasses test (remove_entry test es) → remove_entry test es ≡ others)
        → cond b es (e ∷ remove_entry test es) ≡ cond (not b) (e ∷ others) others
    by true is none rest = sym (filter-none test es none)
    by false is none rest = ap (λ tail. e ∷ tail) (rest none.1)

-- the entries, each with what f makes of it as its value
abbrev pub with_each : {K X : Type 0} → (K → X → X) → List (K × X) → List (K × X)
with_each f [] = []
with_each f (e ∷ es) = (e.0, f e.0 e.1) ∷ with_each f es

-- a closure that keeps each entry and leaves f of it as its value; I holds of it from call to call
pub with_each-from_retain_pairs : {F K X : Type 0} (T : F → K → X → Bool → X → F → Type 0) (I : F → Type 0) (f : K → X → X)
    → ((g : F) (k : K) (v : X) (b : Bool) (w : X) (g' : F) → I g → T g k v b w g' → (b ≡ true) × (w ≡ f k v) × I g')
    → (g : F) (es kept : List (K × X)) → I g → RetainsPairs T g es kept → kept ≡ with_each f es
with_each-from_retain_pairs T I f step g [] kept i retains = retains
with_each-from_retain_pairs {F} {K} {X} T I f step g (e ∷ es) kept i retains =
    let did = step g e.0 e.1 retains.0 retains.1 retains.2 i retains.4 in
    let rest : List (K × X) = retains.3 in
    retains.6 ∙ ap (λ b. cond b ((e.0, retains.1) ∷ rest) rest) did.0 ∙ ap (λ w. (e.0, w) ∷ rest) did.1
    ∙ ap (λ tail. (e.0, f e.0 e.1) ∷ tail) (with_each-from_retain_pairs T I f step retains.2 es rest did.2 retains.5)

pub keys-with_each : {K X : Type 0} (f : K → X → X) (es : List (K × X)) → keys_of (with_each f es) ≡ keys_of es
keys-with_each f [] = refl
keys-with_each f (e ∷ es) = ap (λ keys. e.0 ∷ keys) (keys-with_each f es)
