-- What bounds say, with one more bound that says what holds there already, and with a term given to a stretch of them.
use Rattle.std.proofs.Common.{◌≡◌, ℕ, ◌+◌, ◌<◌, ◌≤◌, ◌⊎◌, inl, inr, Bool, true, false, cond, Option, Some, None}
use Rattle.std.proofs.Common.{option_map, sym, ap, subst, ◌∙◌, refl, arith, max, nat_cmp, is_gt, is_lt, is_eq, Less}
use Rattle.std.specs.Option.{IsSome}
use Rattle.std.proofs.lemmas.Bool.{cases_eq, cases_lt}
use Rattle.std.proofs.lemmas.Bool.Decides.{nat_tests}
use Rattle.rc_ownership.specs.Bounds.{Bounds, NoneBetween, NoneUpTo, IsSaid, Say, or_term, is_within}

-- where the new bounds have none, the old ones had none, if only one was set where none was
still_none : (old new : Bounds) (point : ℕ) → old point ≡ None →
    ((other : ℕ) → (other ≡ point → ⊥) → new other ≡ old other) → (other : ℕ) → new other ≡ None → old other ≡ None
still_none old new point none apart other h = by (cases_eq other point)
  where
    by : (other ≡ point) ⊎ (other ≡ point → ⊥) → old other ≡ None
    by (inl e) = subst (λ o. old o ≡ None) (sym e) none
    by (inr ne) = sym (apart other ne) ∙ h

-- what is said at a point is said on, as long as no further bound comes
said_on : (old : Bounds) (point at : ℕ) (term : Option ℕ) → point ≤ at →
    ((other : ℕ) → point < other → other ≤ at → old other ≡ None) → IsSaid old point term → IsSaid old at term
said_on old point at term low none (inl v) = inl (v.0, omega arith, v.2, λ other above upto. by other above upto (cases_lt point other))
  where
    by : (other : ℕ) → v.0 < other → other ≤ at → (point < other) ⊎ (other ≤ point) → old other ≡ None
    by other above upto (inl h) = none other h upto
    by other above upto (inr h) = v.3 other above h
said_on old point at term low none (inr v) = inr ((λ other upto. by other upto (cases_lt point other)), v.1)
  where
    by : (other : ℕ) → other ≤ at → (point < other) ⊎ (other ≤ point) → old other ≡ None
    by other upto (inl h) = none other h upto
    by other upto (inr h) = v.0 other h

-- a bound set where there was none, which says what held there, changes nothing
pub Say-cut : (old new : Bounds) (point : ℕ) (term : Option ℕ) → IsSaid old point term → old point ≡ None → new point ≡ Some term →
    ((other : ℕ) → (other ≡ point → ⊥) → new other ≡ old other) → (terms : ℕ → Option ℕ) → Say old terms → Say new terms
Say-cut old new point term said none here apart terms say at held (inl w) = by (cases_eq w.0 point)
  where
    by : (w.0 ≡ point) ⊎ (w.0 ≡ point → ⊥) → held ≡ terms at
    by (inl e) =
        let at_point : new point ≡ Some held = subst (λ b. new b ≡ Some held) e w.2 in
        let same : held ≡ term = cc in
        same ∙ say at term (said_on old point at term (omega arith)
        (λ other above upto. still_none old new point none apart other (w.3 other (omega arith) upto)) said)
    by (inr ne) = say at held
        (inl (
          w.0,
          w.1,
          sym (apart w.0 ne) ∙ w.2,
          λ other above upto. still_none old new point none apart other
              (w.3 other above upto),
        ))
Say-cut old new point term said none here apart terms say at held (inr w) =
    say at held (inr ((λ other upto. still_none old new point none apart other (w.0 other upto)), w.1))

-- A term given to the bounds of a stretch

-- what a bound says once a term is given to it
abbrev pub given : ℕ → Bool → Option (Option ℕ) → Option (Option ℕ)
given term b said = cond b (option_map (or_term term) said) said

given-none : (term : ℕ) (b : Bool) (said : Option (Option ℕ)) → given term b said ≡ None → said ≡ None
given-none term true None h = refl
given-none term true (Some held) h = absurd (cc)
given-none term false said h = h

-- what it said before
given-some : (term : ℕ) (b : Bool) (said : Option (Option ℕ)) (held : Option ℕ) → given term b said ≡ Some held →
    (before : Option ℕ) × (said ≡ Some before) × (held ≡ cond b (or_term term before) before)
given-some term true None held h = absurd (cc)
given-some term true (Some before) held h = (before, refl, cc)
given-some term false None held h = absurd (cc)
given-some term false (Some before) held h = (before, refl, cc)

within-same : (first end bound at : ℕ) → bound ≤ at → (bound < first → at < first) → (bound < end → at < end) →
    is_within first end bound ≡ is_within first end at
within-same first end bound at low lower upper = grind (arith, nat_tests)

-- a bound that stands is not passed
not_passed : (bounds : Bounds) (bound at mark : ℕ) → NoneBetween bounds bound at → (bounds mark ≡ None → ⊥) → bound < mark → at < mark
not_passed bounds bound at mark none stands below = by (cases_lt at mark)
  where
    by : (at < mark) ⊎ (mark ≤ at) → at < mark
    by (inl h) = h
    by (inr h) = absurd (stands (none mark below h))

-- where bounds stand at the first point and at the end, a term given to those between is given to the points between
pub Say-given : (old new : Bounds) (first end term : ℕ) → (old first ≡ None → ⊥) → (old end ≡ None → ⊥) →
    ((other : ℕ) → new other ≡ given term (is_within first end other) (old other)) →
    (terms after : ℕ → Option ℕ) →
    ((at : ℕ) → after at ≡ cond (is_within first end at) (or_term term (terms at)) (terms at)) → Say old terms →
    Say new after
Say-given old new first end term at_first at_end gives terms after afterwards say at held (inl w) =
    let had = given-some term (is_within first end w.0) (old w.0) held (sym (gives w.0) ∙ w.2) in
    let none : NoneBetween old w.0 at = λ other above upto. given-none term (is_within first end other) (old other)
    (sym (gives other) ∙ w.3 other above upto) in
    let before : had.0 ≡ terms at = say at had.0 (inl (w.0, w.1, had.1, none)) in
    let same : is_within first end w.0 ≡ is_within first end at = within-same first end w.0 at w.1
    (not_passed old w.0 at first none at_first) (not_passed old w.0 at end none at_end) in
    had.2
    ∙ ap (λ b. cond b (or_term term had.0) had.0) same
    ∙ ap (λ h. cond (is_within first end at) (or_term term h) h) before
    ∙ sym (afterwards at)
Say-given old new first end term at_first at_end gives terms after afterwards say at held (inr w) =
    let none : NoneUpTo old at =
    λ other upto. given-none term (is_within first end other) (old other) (sym (gives other) ∙ w.0 other upto) in
    let before : None ≡ terms at = say at None (inr (none, refl)) in
    let outside : is_within first end at ≡ false = by none (cases_lt at first) in
    w.1 ∙ before ∙ ap (λ b. cond b (or_term term (terms at)) (terms at)) (sym outside) ∙ sym (afterwards at)
  where
    by : NoneUpTo old at → (at < first) ⊎ (first ≤ at) → is_within first end at ≡ false
    by none (inl h) = grind (arith, nat_tests)
    by none (inr h) = absurd (at_first (none first h))

-- What look-ups in an ordered table of bounds find

pub upto : (one other : ℕ) → is_gt (nat_cmp one other) ≡ false → one ≤ other
upto one other h = grind (arith, nat_tests)

pub upto-cmp : (one other : ℕ) → one ≤ other → is_gt (nat_cmp one other) ≡ false
upto-cmp one other h = grind (arith, nat_tests)

pub below-cmp : (one other : ℕ) → one < other → nat_cmp one other ≡ Less
below-cmp one other h = grind (arith, nat_tests)

pub below : (one other : ℕ) → nat_cmp one other ≡ Less → one < other
below one other h = grind (arith, nat_tests)

not_below : (one other : ℕ) → is_lt (nat_cmp one other) ≡ false → other ≤ one
not_below one other h = grind (arith, nat_tests)

pub apart-cmp : (one other : ℕ) → (other ≡ one → ⊥) → is_eq (nat_cmp one other) ≡ false
apart-cmp one other h = grind (arith, nat_tests)

pub none_unless : {X : Type 0} (said : Option X) → (IsSome said → ⊥) → said ≡ None
none_unless None h = refl
none_unless (Some x) h = absurd (h refl)

pub some_unless : {X : Type 0} (said : Option X) → IsSome said → said ≡ None → ⊥
some_unless None h e = cc
some_unless (Some x) h e = cc

-- the last of those up to a point is what is said there
pub IsSaid-last : (bounds : Bounds) (bound point : ℕ) (term : Option ℕ) → is_gt (nat_cmp bound point) ≡ false → bounds bound ≡ Some term →
    ((other : ℕ) → is_gt (nat_cmp other point) ≡ false → IsSome (bounds other) → is_lt (nat_cmp bound other) ≡ false) →
    IsSaid bounds point term
IsSaid-last bounds bound point term low is last =
    inl (
      bound,
      upto bound point low,
      is,
      λ other above high.
          none_unless (bounds other)
          (λ some. passed other above (not_below bound other (last other (upto-cmp other point high) some))),
    )
  where
    passed : (other : ℕ) → bound < other → other ≤ bound → ⊥
    passed other above low = omega arith

-- the first of those above a point has none before it
pub none_before : (bounds : Bounds) (point end bound : ℕ) → bound < end →
    ((other : ℕ) → is_gt (nat_cmp (point + 1) other) ≡ false → nat_cmp other end ≡ Less → IsSome (bounds other) →
    is_gt (nat_cmp bound other) ≡ false) →
    (other : ℕ) → point < other → other < bound → bounds other ≡ None
none_before bounds point end bound within first other above low =
    none_unless (bounds other)
    (λ some. passed (upto bound other (first other (upto-cmp (point + 1) other (omega arith))
    (below-cmp other end (omega arith)) some)))
  where
    passed : bound ≤ other → ⊥
    passed h = omega arith

-- a stretch that was gone through to its end
pub within_end : (first end point : ℕ) → first ≤ point → end ≤ point → point ≤ max first end → (other : ℕ) →
    is_within first point other ≡ is_within first end other
within_end first end point low past high other = grind (arith, nat_tests)
