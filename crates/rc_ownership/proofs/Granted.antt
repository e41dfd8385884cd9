-- Terms of points, with one more grant.
use Rattle.std.proofs.Common.{◌≡◌, ℕ, ◌+◌, ◌/◌, ◌%◌, ◌<◌, Bool, true, false, cond, ◌||◌, nat_eq, List, [], ◌∷◌, ◌++◌}
use Rattle.std.proofs.Common.{find, is_some, Option, Some, None, option_map, ap, ◌∙◌, refl, arith, true≢false}
use Rattle.std.proofs.lemmas.Bool.Decides.{nat_tests}
use Rattle.std.proofs.lemmas.List.Folds.{find-append}
use Rattle.std.proofs.lemmas.Nat.{div-add-mod', div-mul-add, mod-mul-add, mod_below}
use Rattle.std.specs.Option.{option_or}
use Rattle.std.specs.Map.{lookup}
use Rattle.indexmap.specs.IndexMap.{IndexMap, insert_entry}
use Rattle.indexmap.proofs.CallerLemmas.{insert_entry-new}
use Rattle.rc_model.specs.Model.{GrantedRange, KeyRange, in_range, term_of, owns_term, grant}
use Rattle.rc_ownership.specs.Bounds.{key_count, point_of, terms_of, or_term, is_within}
use Rattle.rc_ownership.specs.Grants.{granted_range, grants_in, owner_of}

-- a point of a range is within the numbers of its first and its last
in_range-within : (range : KeyRange) (table key : ℕ) → range.lo < key_count → range.hi < key_count → key < key_count →
    in_range range table key ≡ is_within (point_of range.table range.lo) (point_of range.table range.hi + 1) (point_of table key)
in_range-within range table key lo hi small = grind (arith, nat_tests)

pub in_range-at : (range : KeyRange) (point : ℕ) → range.lo < key_count → range.hi < key_count →
    in_range range (point / key_count) (point % key_count) ≡ is_within (point_of range.table range.lo)
    (point_of range.table range.hi + 1) point
in_range-at range point lo hi =
    in_range-within range (point / key_count) (point % key_count) lo hi (mod_below point key_count (omega arith))
    ∙ ap (is_within (point_of range.table range.lo) (point_of range.table range.hi + 1)) (div-add-mod' point key_count)

next_term : (range : KeyRange) (term : ℕ) (found : Option GrantedRange) (b : Bool) →
    option_map (λ grant. grant.term) (option_or found (cond b (Some (record { range = range; term = term })) None))
    ≡ cond b (or_term term (option_map (λ grant. grant.term) found)) (option_map (λ grant. grant.term) found)
next_term range term None true = refl
next_term range term None false = refl
next_term range term (Some grant) true = refl
next_term range term (Some grant) false = refl

-- one more grant gives its term where there was none
pub terms_of-push : (grants : List GrantedRange) (range : KeyRange) (term : ℕ) → range.lo < key_count → range.hi < key_count → (point : ℕ) →
    terms_of (grants ++ (record { range = range; term = term }) ∷ []) point
    ≡ cond (is_within (point_of range.table range.lo) (point_of range.table range.hi + 1) point)
    (or_term term (terms_of grants point)) (terms_of grants point)
terms_of-push grants range term lo hi point =
    ap (option_map (λ grant. grant.term))
    (find-append (λ grant. in_range grant.range (point / key_count) (point % key_count)) grants
    ((record { range = range; term = term }) ∷ []))
    ∙ next_term range term (find (λ grant. in_range grant.range (point / key_count) (point % key_count)) grants)
    (in_range range (point / key_count) (point % key_count))
    ∙ ap (λ b. cond b (or_term term (terms_of grants point)) (terms_of grants point)) (in_range-at range point lo hi)

-- the terms at a point of a table
pub terms_of-point : (grants : List GrantedRange) (table key : ℕ) → key < key_count →
    terms_of grants (point_of table key) ≡ term_of (owner_of grants) table key
terms_of-point grants table key small =
    ap (λ t. term_of (owner_of grants) t (point_of table key % key_count)) (div-mul-add table key_count key small)
    ∙ ap (λ k. term_of (owner_of grants) table k) (mod-mul-add table key_count key small)

flip : (one other : ℕ) → nat_eq one other ≡ nat_eq other one
flip one other = grind (arith, nat_tests)

-- a term that is in the table is owned
pub owns_term-lookup : (entries : List (ℕ × KeyRange)) (term : ℕ) →
    is_some (lookup (nat_eq term) entries) ≡ owns_term (owner_of (grants_in entries)) term
owns_term-lookup [] term = refl
owns_term-lookup (entry ∷ entries) term =
    by (nat_eq term entry.0) (lookup (nat_eq term) entries) (owns_term-lookup entries term)
    ∙ ap (λ b. b || owns_term (owner_of (grants_in entries)) term) (flip term entry.0)
  where
    by : (b : Bool) (found : Option KeyRange) → is_some found ≡ owns_term (owner_of (grants_in entries)) term →
        is_some (cond b (Some entry.1) found) ≡ (b || owns_term (owner_of (grants_in entries)) term)
    by true found later = refl
    by false found later = later

grants_in-push : (entries : List (ℕ × KeyRange)) (entry : ℕ × KeyRange) →
    grants_in (entries ++ entry ∷ []) ≡ grants_in entries ++ granted_range entry ∷ []
grants_in-push [] entry = refl
grants_in-push (first ∷ entries) entry = ap (λ grants. granted_range first ∷ grants) (grants_in-push entries entry)

none_found : (found : Option KeyRange) → is_some found ≡ false → found ≡ None
none_found None h = refl
none_found (Some range) h = absurd (true≢false h)

-- a term that isn't owned is not in the table, and a range under it goes last
pub grants_in-insert : {S : Type 0} (old new : IndexMap ℕ KeyRange S) (term : ℕ) (range : KeyRange) →
    owns_term (owner_of (grants_in old.entries)) term ≡ false → new.entries ≡ insert_entry nat_eq old.entries term range →
    grants_in new.entries ≡ grants_in old.entries ++ (record { range = range; term = term }) ∷ []
grants_in-insert old new term range unowned inserted =
    ap grants_in (inserted ∙ insert_entry-new nat_eq old term range
    (none_found (lookup (nat_eq term) old.entries) (owns_term-lookup old.entries term ∙ unowned)))
    ∙ grants_in-push old.entries (term, range)

-- a grant under a term that isn't owned
pub grant-unowned : (grants : List GrantedRange) (granted : GrantedRange) → owns_term (owner_of grants) granted.term ≡ false →
    (grant granted (owner_of grants)).grants ≡ grants ++ granted ∷ []
grant-unowned grants granted unowned =
    ap (λ b. (cond b (owner_of grants) (record (owner_of grants) { grants = grants ++ granted ∷ [] })).grants) unowned
