-- The greatest version so far, with one more entry, with one less, and what it tells of all entries.
use Rattle.std.proofs.Common.{◌≡◌, ◌∙◌, ◌↔◌, ℕ, ◌+◌, ◌<◌, Bool, true, false, cond, nat_lt, List, [], ◌∷◌, ◌++◌, length, take}
use Rattle.std.proofs.Common.{refl, sym, ap, arith, zero, suc, ◌-◌, slice_get, Some}
use Rattle.std.specs.List.{All}
use Rattle.std.proofs.lemmas.Bool.Decides.{nat_tests}
use Rattle.std.proofs.lemmas.List.{take-append-le, take_all}
use Rattle.std.proofs.lemmas.List.Elements.{All-cons, All-head, All-nil, All-tail}
use Rattle.rc_types.specs.declared.entries.Entry.{Entry}
use Rattle.rc_ownership.specs.Tops.{higher, tops_from, tops_of, top_or}

-- the last of them is the one at the last place of the list
top_or-at : (tops : List ℕ) (top place version : ℕ) → slice_get tops place ≡ Some version → place + 1 ≡ length tops →
    top_or top tops ≡ version
top_or-at [] top place version at end = absurd (omega arith)
top_or-at (first ∷ []) top zero version at end = cc
top_or-at (first ∷ []) top (suc place) version at end = absurd (omega arith)
top_or-at (first ∷ second ∷ tops) top zero version at end = absurd (omega arith)
top_or-at (first ∷ second ∷ tops) top (suc place) version at end =
    top_or-at (second ∷ tops) first place version at (omega arith)

pub top_or-last : (tops : List ℕ) (version : ℕ) → slice_get tops (length tops - 1) ≡ Some version → top_or 0 tops ≡ version
top_or-last [] version at = absurd (cc)
top_or-last (first ∷ tops) version at = top_or-at (first ∷ tops) 0 (length (first ∷ tops) - 1) version at (omega arith)

pub tops-push : (top : ℕ) (noted : List Entry) (entry : Entry) →
    tops_from top (noted ++ entry ∷ []) ≡ tops_from top noted ++ higher (top_or top (tops_from top noted)) entry.version ∷ []
tops-push top [] entry = refl
tops-push top (first ∷ noted) entry =
    ap (λ tops. higher top first.version ∷ tops) (tops-push (higher top first.version) noted entry)

pub tops-pushed : (noted after : List Entry) (entry : Entry) (tops left : List ℕ) (top greatest : ℕ) → tops ≡ tops_of noted →
    after ≡ noted ++ entry ∷ [] → left ≡ tops ++ top ∷ [] → top ≡ higher greatest entry.version →
    greatest ≡ top_or 0 (tops_of noted) → left ≡ tops_of after
tops-pushed noted after entry tops left top greatest tops_are after_is left_is top_is greatest_is =
    left_is
    ∙ ap (λ list. list ++ top ∷ []) tops_are
    ∙ ap (λ version. tops_of noted ++ version ∷ []) (top_is ∙ ap (λ version. higher version entry.version) greatest_is)
    ∙ sym (tops-push 0 noted entry)
    ∙ sym (ap tops_of after_is)

tops-length : (top : ℕ) (noted : List Entry) → length (tops_from top noted) ≡ length noted
tops-length top [] = refl
tops-length top (first ∷ noted) = ap suc (tops-length (higher top first.version) noted)

pub tops-drop : (noted rest : List Entry) (entry : Entry) → noted ≡ rest ++ entry ∷ [] →
    take (length rest) (tops_of noted) ≡ tops_of rest
tops-drop noted rest entry is =
    let last = higher (top_or 0 (tops_of rest)) entry.version in
    let many : length (tops_of rest) ≡ length rest = tops-length 0 rest in
    ap (λ entries. take (length rest) (tops_of entries)) is
    ∙ ap (take (length rest)) (tops-push 0 rest entry)
    ∙ take-append-le (length rest) (tops_of rest) (last ∷ []) (omega arith)
    ∙ take_all (length rest) (tops_of rest) (omega arith)

higher-below : (bound top version : ℕ) → top < bound → version < bound → higher top version < bound
higher-below bound top version t v = by (nat_lt top version)
  where
    by : (b : Bool) → cond b version top < bound
    by true = v
    by false = t

below-higher : (bound top version : ℕ) → higher top version < bound → (top < bound) × (version < bound)
below-higher bound top version h = by (nat_lt top version) refl
  where
    by : (b : Bool) → nat_lt top version ≡ b → (top < bound) × (version < bound)
    by true is = (grind (arith, nat_tests), grind (arith, nat_tests))
    by false is = (grind (arith, nat_tests), grind (arith, nat_tests))

pub all-below : (bound top : ℕ) (noted : List Entry) → top_or top (tops_from top noted) < bound →
    (top < bound) × All (λ entry. entry.version < bound) noted
all-below bound top [] h = (h, All-nil (λ (entry : Entry). entry.version < bound))
all-below bound top (first ∷ noted) h =
    let rest = all-below bound (higher top first.version) noted h in
    let here = below-higher bound top first.version rest.0 in
    (here.0, All-cons (λ (entry : Entry). entry.version < bound) first noted here.1 rest.1)

pub below-all : (bound top : ℕ) (noted : List Entry) → top < bound → All (λ entry. entry.version < bound) noted →
    top_or top (tops_from top noted) < bound
below-all bound top [] t all = t
below-all bound top (first ∷ noted) t all =
    below-all bound (higher top first.version) noted
    (higher-below bound top first.version t (All-head (λ (entry : Entry). entry.version < bound) first noted all))
    (All-tail (λ (entry : Entry). entry.version < bound) first noted all)

-- all leave room for one more where the greatest does
pub leaves-room : (bound greatest : ℕ) (noted : List Entry) → 0 < bound → greatest ≡ top_or 0 (tops_of noted) →
    (nat_lt greatest bound ≡ true) ↔ All (λ entry. entry.version < bound) noted
leaves-room bound greatest noted some is =
    (λ less. (all-below bound 0 noted (below less)).1, λ all. above (below-all bound 0 noted some all))
  where
    below : nat_lt greatest bound ≡ true → top_or 0 (tops_of noted) < bound
    below less = grind (arith, nat_tests)

    above : top_or 0 (tops_of noted) < bound → nat_lt greatest bound ≡ true
    above less = grind (arith, nat_tests)
