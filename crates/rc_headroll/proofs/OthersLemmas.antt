-- What was kept of segments, with the places at which it stands noted under their numbers.
use Rattle.std.proofs.Common.{◌≡◌, ℕ, zero, suc, ◌<◌, ◌≤◌, true, cond, eqb, List, [], ◌∷◌, ◌++◌, length}
use Rattle.std.proofs.Common.{set, slice_get, Option, Some, None, is_some, Result, Ok, Err, refl, ap, sym, ◌∙◌, subst, arith}
use Rattle.std.specs.Option.{unwrap_or, option_map, option_to_list, IfSome}
use Rattle.std.specs.Result.{IsOk, is_ok}
use Rattle.std.proofs.lemmas.Bool.{cond-true, cond_both, eq-eqb, eqb-true, false≢true}
use Rattle.std.proofs.lemmas.List.{length_push, length-set}
use Rattle.std.proofs.lemmas.Map.Entries.{place_from_lookup}
use Rattle.std.proofs.lemmas.Option.{slice_get_within}
use Rattle.indexmap.proofs.IndexTableLemmas.Probe.{pigeonhole}
use Rattle.rc_model.specs.Segment.{Segment}
use Rattle.rc_config.specs.declared.state.SegmentState.{SegmentState}
use Rattle.rc_headroll.specs.Before.{other_of, ArePlaced}

-- Lists read at a place

some_is : {X : Type 0} (x y : X) → Some x ≡ Some y → x ≡ y
some_is x y e = ap (λ (o : Option _). unwrap_or o x) e

none-some : {X : Type 0} (x : X) → None ≡ Some x → ⊥
none-some x e = false≢true (ap is_some e)

got-push_cases : {X : Type 0} (xs : List X) (y x : X) (i : ℕ) → slice_get (xs ++ y ∷ []) i ≡ Some x →
    (P : Type 0) → (slice_get xs i ≡ Some x → P) → ((i ≡ length xs) × (y ≡ x) → P) → P
got-push_cases [] y x zero e P old new = new (refl, some_is y x e)
got-push_cases [] y x (suc i) e P old new = absurd (none-some x e)
got-push_cases (z ∷ xs) y x zero e P old new = old e
got-push_cases (z ∷ xs) y x (suc i) e P old new =
    got-push_cases xs y x i e P old (λ at. new (ap suc at.0, at.1))

got-push : {X : Type 0} (xs : List X) (y x : X) (i : ℕ) → slice_get xs i ≡ Some x → slice_get (xs ++ y ∷ []) i ≡ Some x
got-push [] y x i e = absurd (none-some x e)
got-push (z ∷ xs) y x zero e = e
got-push (z ∷ xs) y x (suc i) e = got-push xs y x i e

got-last : {X : Type 0} (xs : List X) (y : X) → slice_get (xs ++ y ∷ []) (length xs) ≡ Some y
got-last [] y = refl
got-last (x ∷ xs) y = got-last xs y

got-set : {X : Type 0} (xs : List X) (i : ℕ) (x : X) → i < length xs → slice_get (set xs i x) i ≡ Some x
got-set [] i x inside = absurd (omega arith)
got-set (y ∷ ys) zero x inside = refl
got-set (y ∷ ys) (suc i) x inside = got-set ys i x (omega arith)

got-set_other : {X : Type 0} (xs : List X) (i j : ℕ) (x : X) → (i ≡ j → ⊥) → slice_get (set xs i x) j ≡ slice_get xs j
got-set_other [] i j x apart = refl
got-set_other (y ∷ ys) zero zero x apart = absurd (apart refl)
got-set_other (y ∷ ys) zero (suc j) x apart = refl
got-set_other (y ∷ ys) (suc i) zero x apart = refl
got-set_other (y ∷ ys) (suc i) (suc j) x apart = got-set_other ys i j x (λ e. apart (ap suc e))

-- What stands at a place is found

some-there : (seg : ℕ) (kept : List (ℕ × SegmentState)) (place : ℕ) (state : SegmentState) →
    slice_get kept place ≡ Some (seg, state) → is_some (other_of kept seg) ≡ true
some-there seg [] place state e = absurd (none-some (seg, state) e)
some-there seg (x ∷ xs) zero state e =
    let same : seg ≡ x.0 = sym (ap (λ (y : ℕ × SegmentState). y.0) (some_is x (seg, state) e)) in
    ap is_some (cond-true (eqb seg x.0) (Some x.1) (other_of xs seg) (eq-eqb seg x.0 same))
some-there seg (x ∷ xs) (suc place) state e =
    cond_both (eqb seg x.0) (Some x.1) (other_of xs seg) (λ o. is_some o ≡ true) (λ here. refl)
    (λ further. some-there seg xs place state e)

module _ (places : List ℕ) (kept : List (ℕ × SegmentState)) (placed : ArePlaced places kept) where
  -- where two of these are of one segment, they are one
  one_place : (i j seg : ℕ) (s t : SegmentState) → slice_get kept i ≡ Some (seg, s) → slice_get kept j ≡ Some (seg, t) → i ≡ j
  one_place i j seg s t first second = some_is i j (sym (placed i seg s first) ∙ placed j seg t second)

  found : (place seg : ℕ) (state : SegmentState) (o : Option SegmentState) → other_of kept seg ≡ o →
      slice_get kept place ≡ Some (seg, state) → o ≡ Some state
  found place seg state None is at = absurd (false≢true (ap is_some (sym is) ∙ some-there seg kept place state at))
  found place seg state (Some other) is at =
      let there = place_from_lookup (eqb seg) kept other is in
      let same : seg ≡ there.1 = eqb-true seg there.1 there.3 in
      let there' : slice_get kept there.0 ≡ Some (seg, other) = there.2 ∙ ap (λ (n : ℕ). Some (n, other)) (sym same) in
      let once : there.0 ≡ place = one_place there.0 place seg other state there' at in
      ap (λ (y : ℕ × SegmentState). Some y.1)
      (some_is (seg, other) (seg, state) (sym there' ∙ ap (slice_get kept) once ∙ at))

  pub found-at : (place seg : ℕ) (state : SegmentState) → slice_get kept place ≡ Some (seg, state) →
      other_of kept seg ≡ Some state
  found-at place seg state at = found place seg state (other_of kept seg) refl at

  -- a segment of which nothing stands where it is noted was not kept
  absent : (seg : ℕ) (o : Option SegmentState) → other_of kept seg ≡ o →
      ((place : ℕ) (state : SegmentState) → slice_get places seg ≡ Some place → slice_get kept place ≡ Some (seg, state) → ⊥) →
      o ≡ None
  absent seg None is nowhere = refl
  absent seg (Some other) is nowhere =
      let there = place_from_lookup (eqb seg) kept other is in
      let same : seg ≡ there.1 = eqb-true seg there.1 there.3 in
      let there' : slice_get kept there.0 ≡ Some (seg, other) = there.2 ∙ ap (λ (n : ℕ). Some (n, other)) (sym same) in
      absurd (nowhere there.0 other (placed there.0 seg other there') there')

  pub not-found : (seg : ℕ) →
      ((place : ℕ) (state : SegmentState) → slice_get places seg ≡ Some place → slice_get kept place ≡ Some (seg, state) → ⊥) →
      other_of kept seg ≡ None
  not-found seg nowhere = absent seg (other_of kept seg) refl nowhere

  -- as many as there are places, at most

  number_at : ℕ → ℕ
  number_at i = unwrap_or (option_map (λ (e : ℕ × SegmentState). e.0) (slice_get kept i)) 0

  read_at : (xs : List (ℕ × SegmentState)) (i : ℕ) → i < length xs → (e : ℕ × SegmentState) × (slice_get xs i ≡ Some e)
  read_at [] i inside = absurd (omega arith)
  read_at (x ∷ xs) zero inside = (x, refl)
  read_at (x ∷ xs) (suc i) inside = read_at xs i (omega arith)

  number-is : (i : ℕ) (e : ℕ × SegmentState) → slice_get kept i ≡ Some e → number_at i ≡ e.0
  unfolding number_at
  number-is i e at = ap (λ (o : Option (ℕ × SegmentState)). unwrap_or (option_map (λ (y : ℕ × SegmentState). y.0) o) 0) at

  pub at-most : length kept ≤ length places
  at-most = pigeonhole (length kept) (length places) number_at
      (λ i inside.
      let e = read_at kept i inside in
      subst (λ (n : ℕ). n < length places) (sym (number-is i e.0 e.1))
      (slice_get_within places e.0.0 i (placed i e.0.0 e.0.1 e.1)))
      (λ i j in_i in_j same.
      let d = read_at kept i in_i in
      let e = read_at kept j in_j in
      let number : d.0.0 ≡ e.0.0 = sym (number-is i d.0 d.1) ∙ same ∙ number-is j e.0 e.1 in
      one_place i j d.0.0 d.0.1 e.0.1 d.1 (e.1 ∙ ap (λ (n : ℕ). Some (n, e.0.1)) (sym number)))

-- One more is kept

module _ (places : List ℕ) (kept : List (ℕ × SegmentState)) (placed : ArePlaced places kept) (seg : ℕ) (state : SegmentState)
    (none : other_of kept seg ≡ None) (inside : seg < length places) where
  not-there : (place : ℕ) (other : SegmentState) → slice_get kept place ≡ Some (seg, other) → ⊥
  not-there place other at = false≢true (ap is_some (sym none) ∙ some-there seg kept place other at)

  pub placed-push : ArePlaced (set places seg (length kept)) (kept ++ (seg, state) ∷ [])
  placed-push = λ place number other at.
      got-push_cases kept (seg, state) (number, other) place at (slice_get (set places seg (length kept)) number ≡ Some place)
      (λ old.
      got-set_other places seg number (length kept) (λ (same : seg ≡ number).
      not-there place other (old ∙ ap (λ (n : ℕ). Some (n, other)) (sym same)))
      ∙ placed place number other old)
      (λ last.
      let number_is : seg ≡ number = ap (λ (y : ℕ × SegmentState). y.0) last.1 in
      ap (slice_get (set places seg (length kept))) (sym number_is)
      ∙ got-set places seg (length kept) inside ∙ ap Some (sym last.0))

  pub room-left : length kept < length places
  room-left =
      let more = at-most (set places seg (length kept)) (kept ++ (seg, state) ∷ []) placed-push in
      omega (arith, more, length_push kept (seg, state), length-set places seg (length kept))

-- The last is taken out

module _ (places : List ℕ) (kept : List (ℕ × SegmentState)) (last : ℕ × SegmentState)
    (placed : ArePlaced places (kept ++ last ∷ [])) where
  pub placed-pop : ArePlaced places kept
  placed-pop = λ place seg state at. placed place seg state (got-push kept last (seg, state) place at)

  pub popped-none : other_of kept last.0 ≡ None
  popped-none = not-found places kept placed-pop last.0 (λ place state noted at.
      let once : place ≡ length kept =
      one_place places (kept ++ last ∷ []) placed place (length kept) last.0 state last.1
      (got-push kept last (last.0, state) place at) (got-last kept last) in
      let within : place < length kept = slice_get_within kept place (last.0, state) at in
      omega (arith, once, within))

-- There are more places

pub placed-more : (places more : List ℕ) (kept : List (ℕ × SegmentState)) → ArePlaced places kept →
    ((i place : ℕ) → slice_get places i ≡ Some place → slice_get more i ≡ Some place) → ArePlaced more kept
placed-more places more kept placed longer = λ place seg state at. longer seg place (placed place seg state at)

pub got-append : (xs ys : List ℕ) (i x : ℕ) → slice_get xs i ≡ Some x → slice_get (xs ++ ys) i ≡ Some x
got-append [] ys i x e = absurd (none-some x e)
got-append (z ∷ xs) ys zero x e = e
got-append (z ∷ xs) ys (suc i) x e = got-append xs ys i x e

pub placed-nil : (places : List ℕ) → ArePlaced places []
placed-nil places = λ place seg state at. absurd (none-some (seg, state) at)

-- A segment that is written leaves as much room
pub room-set : (segments : List Segment) (place : ℕ) (x : Segment) (room : ℕ) → length segments ≤ room →
    length (set segments place x) ≤ room
room-set segments place x room within = omega (arith, within, length-set segments place x)

-- What is found where a segment is noted

module _ (places read : List ℕ) (kept : List (ℕ × SegmentState)) (placed : ArePlaced places kept)
    (seg from : ℕ) (reads : read ≡ places) (is : from ≡ seg) where
  noted-at : (o : Option ℕ) → o ≡ slice_get read from → o ≡ slice_get places seg
  noted-at o e = e ∙ ap (λ (xs : List ℕ). slice_get xs from) reads ∙ ap (slice_get places) is

  pub none-noted : None ≡ slice_get read from → None ≡ other_of kept seg
  none-noted e = sym (not-found places kept placed seg (λ place state noted at.
      none-some place (noted-at None e ∙ noted)))

  module _ (place : ℕ) (there : Some place ≡ slice_get read from) (read_kept : List (ℕ × SegmentState))
      (reads_kept : read_kept ≡ kept) where
    kept-at : (o : Option (ℕ × SegmentState)) → o ≡ slice_get read_kept place → o ≡ slice_get kept place
    kept-at o e = e ∙ ap (λ (xs : List (ℕ × SegmentState)). slice_get xs place) reads_kept

    pub none-kept : None ≡ slice_get read_kept place → None ≡ other_of kept seg
    none-kept e = sym (not-found places kept placed seg (λ other state noted at.
        let same : other ≡ place = some_is other place (sym noted ∙ sym (noted-at (Some place) there)) in
        none-some (seg, state) (kept-at None e ∙ ap (slice_get kept) (sym same) ∙ at)))

    pub other-kept : (number : ℕ) (state : SegmentState) → Some (number, state) ≡ slice_get read_kept place →
        (number ≡ seg → ⊥) → None ≡ other_of kept seg
    other-kept number state e apart = sym (not-found places kept placed seg (λ other found noted at.
        let same : other ≡ place = some_is other place (sym noted ∙ sym (noted-at (Some place) there)) in
        apart (ap (λ (y : ℕ × SegmentState). y.0) (some_is (number, state) (seg, found)
        (kept-at (Some (number, state)) e ∙ ap (slice_get kept) (sym same) ∙ at)))))

    pub is-kept : (number : ℕ) (state : SegmentState) → Some (number, state) ≡ slice_get read_kept place →
        number ≡ seg → Some state ≡ other_of kept seg
    is-kept number state e same = sym (found-at places kept placed place seg state
        (sym (kept-at (Some (number, state)) e) ∙ ap (λ (n : ℕ). Some (n, state)) same))

-- What the code does when it takes one out, or adds one

pub popped-once : (places : List ℕ) (old new : List (ℕ × SegmentState)) (last : Option (ℕ × SegmentState)) →
    ArePlaced places old → old ≡ new ++ option_to_list last → IfSome last (λ one. other_of new one.0 ≡ None)
popped-once places old new None placed is = tt
popped-once places old new (Some one) placed is = popped-none places new one (subst (ArePlaced places) is placed)

pub pushed-ok : {T E X : Type 0} (r : Result T E) (new old more : X) → IsOk r → new ≡ cond (is_ok r) more old → new ≡ more
pushed-ok (Ok value) new old more ok is = is
pushed-ok (Err fault) new old more ok is = absurd (false≢true ok)
