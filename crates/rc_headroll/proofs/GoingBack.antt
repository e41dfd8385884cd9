-- What was kept of segments, and segments that are put back.
use Rattle.std.proofs.Common.{◌≡◌, ⊎_elim, ℕ, ◌+◌, ◌-◌, ◌<◌, ◌≤◌, Bool, true, false, cond, ◌&&◌, eqb, ltb, leb, List, [], ◌∷◌, ◌++◌}
use Rattle.std.proofs.Common.{length, get_or, set, Option, Some, None, refl, ap, sym, ◌∙◌, arith, is_some, is_none}
use Rattle.std.proofs.Math.Path.{fun_ext}
use Rattle.std.proofs.lemmas.Bool.{cond-true, cond-false, cases_eq, cases_lt, eq-eqb, ne_eqb, and_from, lt-ltb, le-ltb, false≢true}
use Rattle.std.proofs.lemmas.Bool.Decides.{nat_tests}
use Rattle.rc_model.specs.Model.{put, Segment, no_segment}
use Rattle.rc_config.specs.declared.state.SegmentState.{SegmentState}
use Rattle.rc_config.specs.Lists.{segment_at}
use Rattle.rc_config.specs.States.{with_state}
use Rattle.rc_headroll.specs.Before.{Mark, as_it_was, other_of, segments_before, with_kept, one_back, other_back, others_back}
use Rattle.rc_config.proofs.SegmentTables.{segment_at-set, segment_at-read, segment_at-zero, segment_at-past}

-- What was kept

none-parts : (b : Bool) (v : SegmentState) (rest : Option SegmentState) → cond b (Some v) rest ≡ None → (b ≡ false) × (rest ≡ None)
none-parts true v rest e = absurd cc
none-parts false v rest e = (refl, e)

pub other_of-push_same : (xs : List (ℕ × SegmentState)) (k : ℕ) (s : SegmentState) → other_of xs k ≡ None →
    other_of (xs ++ (k, s) ∷ []) k ≡ Some s
other_of-push_same [] k s none = cond-true (eqb k k) (Some s) None (eq-eqb k k refl)
other_of-push_same (e ∷ xs) k s none =
    let parts = none-parts (eqb k e.0) e.1 (other_of xs k) none in
    cond-false (eqb k e.0) (Some e.1) (other_of (xs ++ (k, s) ∷ []) k) parts.0 ∙ other_of-push_same xs k s parts.1

pub other_of-push_other : (xs : List (ℕ × SegmentState)) (k o : ℕ) (s : SegmentState) → (o ≡ k → ⊥) →
    other_of (xs ++ (k, s) ∷ []) o ≡ other_of xs o
other_of-push_other [] k o s apart = cond-false (eqb o k) (Some s) None (ne_eqb o k apart)
other_of-push_other (e ∷ xs) k o s apart =
    ap (λ (rest : Option SegmentState). cond (eqb o e.0) (Some e.1) rest) (other_of-push_other xs k o s apart)

pub none-from : (kept : Option SegmentState) → false ≡ is_some kept → kept ≡ None
none-from None e = refl
none-from (Some state) e = absurd (false≢true e)

pub kept-is : (mark : Mark) (seg : ℕ) (state : SegmentState) (entries : List (ℕ × SegmentState)) → seg + 1 < mark.head →
    other_of mark.others seg ≡ None →
    entries ≡ mark.others ++ (seg, state) ∷ [] → record mark { others = entries } ≡ with_kept seg state mark
kept-is mark seg state entries below none added =
    let more : Mark = record mark { others = mark.others ++ (seg, state) ∷ [] } in
    let guard : (ltb (seg + 1) mark.head && is_none (other_of mark.others seg)) ≡ true =
    and_from (ltb (seg + 1) mark.head) (is_none (other_of mark.others seg)) (lt-ltb (seg + 1) mark.head below) (ap is_none none) in
    ap (λ (others : List (ℕ × SegmentState)). record mark { others = others }) added
    ∙ sym (cond-true (ltb (seg + 1) mark.head && is_none (other_of mark.others seg)) more mark guard)

-- One segment is put back

pub one_back-put : (t : ℕ → Segment) (seg : ℕ) (s : SegmentState) → 0 < seg → put t seg (with_state s (t seg)) ≡ one_back seg (Some s) t
unfolding one_back
one_back-put t seg s above = fun_ext (λ o.
    let here : ltb 0 seg ≡ true = lt-ltb 0 seg above in
    ⊎_elim {C = put t seg (with_state s (t seg)) o ≡ one_back seg (Some s) t o}
    (λ (same : seg ≡ o). rw (here, eq-eqb seg o same, same) refl)
    (λ (apart : seg ≡ o → ⊥). rw (here, ne_eqb seg o apart) refl)
    (cases_eq seg o))

pub one_back-none : (t : ℕ → Segment) (seg : ℕ) → t ≡ one_back seg None t
unfolding one_back
one_back-none t seg = fun_ext (λ o. sym (cond_same (ltb 0 seg && eqb seg o) (t o)))
  where
    cond_same : (b : Bool) (x : Segment) → cond b x x ≡ x
    cond_same true x = refl
    cond_same false x = refl

pub one_back-zero : (t : ℕ → Segment) (seg : ℕ) (kept : Option SegmentState) → seg ≡ 0 → t ≡ one_back seg kept t
unfolding one_back
one_back-zero t seg kept zero' = rw zero' refl

pub put_back-is : (segments : List Segment) (seg place : ℕ) (s : SegmentState) (x was : Segment) → seg ≡ place + 1 →
    place < length segments → was ≡ get_or segments place was →
    x ≡ with_state s was → segment_at (set segments place x) ≡ one_back seg (Some s) (segment_at segments)
put_back-is segments seg place s x was e inside read is =
    segment_at-set segments place x seg e inside
    ∙ ap (put (segment_at segments) seg) (is ∙ ap (with_state s) (segment_at-read segments seg place was e inside read))
    ∙ one_back-put (segment_at segments) seg s (omega arith)

-- One that is not among the last two is put back

and-false_right : (a b : Bool) → b ≡ false → (a && b) ≡ false
and-false_right true b e = e
and-false_right false b e = refl

pub other_back-then : (t : ℕ → Segment) (head seg : ℕ) (s : SegmentState) → 0 < seg → seg + 1 < head →
    one_back seg (Some s) t ≡ other_back head seg s t
unfolding other_back
other_back-then t head seg s above below =
    let guard : (ltb 0 seg && ltb (seg + 1) head) ≡ true =
    and_from (ltb 0 seg) (ltb (seg + 1) head) (lt-ltb 0 seg above) (lt-ltb (seg + 1) head below) in
    fun_ext (λ o. sym (cond-true (ltb 0 seg && ltb (seg + 1) head) (one_back seg (Some s) t o) (t o) guard))

other_back-not : (t : ℕ → Segment) (head seg : ℕ) (s : SegmentState) → (ltb 0 seg && ltb (seg + 1) head) ≡ false →
    t ≡ other_back head seg s t
unfolding other_back
other_back-not t head seg s guard =
    fun_ext (λ o. sym (cond-false (ltb 0 seg && ltb (seg + 1) head) (one_back seg (Some s) t o) (t o) guard))

pub other_back-last : (t : ℕ → Segment) (head seg : ℕ) (s : SegmentState) → head ≤ seg + 1 → t ≡ other_back head seg s t
other_back-last t head seg s last =
    other_back-not t head seg s (and-false_right (ltb 0 seg) (ltb (seg + 1) head) (le-ltb (seg + 1) head last))

pub other_back-zero : (t : ℕ → Segment) (head seg : ℕ) (s : SegmentState) → seg ≤ 0 → t ≡ other_back head seg s t
other_back-zero t head seg s none =
    other_back-not t head seg s (ap (λ (b : Bool). b && ltb (seg + 1) head) (le-ltb 0 seg none))

-- All of the others are put back

others_back-push_at : (head : ℕ) (xs : List (ℕ × SegmentState)) (k : ℕ) (s : SegmentState) (t : ℕ → Segment) →
    other_of xs k ≡ None → (o : ℕ) →
    others_back head (xs ++ (k, s) ∷ []) t o ≡ others_back head xs (other_back head k s t) o
unfolding others_back other_back one_back
others_back-push_at head xs k s t none o = ⊎_elim
    {C = others_back head (xs ++ (k, s) ∷ []) t o ≡ others_back head xs (other_back head k s t) o}
    (λ (same : o ≡ k).
    let kept : other_of (xs ++ (k, s) ∷ []) o ≡ Some s = ap (other_of (xs ++ (k, s) ∷ [])) same ∙ other_of-push_same xs k s none in
    let empty : other_of xs o ≡ None = ap (other_of xs) same ∙ none in
    rw (kept, empty, ← same, eq-eqb o o refl)
    (guarded_twice (ltb 0 o) (ltb (o + 1) head) (with_state s (t o)) (t o)))
    (λ (apart : o ≡ k → ⊥).
    let kept : other_of (xs ++ (k, s) ∷ []) o ≡ other_of xs o = other_of-push_other xs k o s apart in
    let other : eqb k o ≡ false = ne_eqb k o (λ (e : k ≡ o). apart (sym e)) in
    rw (kept, other) (skips (ltb 0 o && ltb (o + 1) head) (ltb 0 k && ltb (k + 1) head) (ltb 0 k) (other_of xs o) (t o)))
    (cases_eq o k)
  where
    guarded_twice : (above below : Bool) (x y : Segment) →
        cond (above && below) x y ≡ cond (above && below) (cond (above && below) (cond (above && true) x y) y)
        (cond (above && below) (cond (above && true) x y) y)
    guarded_twice true true x y = refl
    guarded_twice true false x y = refl
    guarded_twice false below x y = refl

    skips : (g h above : Bool) (kept : Option SegmentState) (x : Segment) →
        cond g (as_it_was kept x) x ≡ cond g
        (as_it_was kept (cond h (cond (above && false) (as_it_was (Some s) x) x) x))
        (cond h (cond (above && false) (as_it_was (Some s) x) x) x)
    skips g true true kept x = refl
    skips g true false kept x = refl
    skips g false above kept x = refl

pub others_back-push : (head : ℕ) (xs ys : List (ℕ × SegmentState)) (k : ℕ) (s : SegmentState) (t u : ℕ → Segment) →
    ys ≡ xs ++ (k, s) ∷ [] → other_of xs k ≡ None →
    u ≡ other_back head k s t → others_back head xs u ≡ others_back head ys t
others_back-push head xs ys k s t u e none put' =
    ap (others_back head xs) put' ∙ sym (fun_ext (others_back-push_at head xs k s t none)) ∙ ap (λ zs. others_back head zs t) (sym e)

pub others_back-none : (head : ℕ) (t : ℕ → Segment) → others_back head [] t ≡ t
unfolding others_back
others_back-none head t = fun_ext (λ o. same (ltb 0 o && ltb (o + 1) head) (t o))
  where
    same : (b : Bool) (x : Segment) → cond b x x ≡ x
    same true x = refl
    same false x = refl

pub nothing-left : (xs : List (ℕ × SegmentState)) → false ≡ ltb 0 (length xs) → xs ≡ []
nothing-left [] none = refl
nothing-left (x ∷ xs) none = absurd (false≢true (none ∙ lt-ltb 0 (length (x ∷ xs)) (omega arith)))

-- All are put back

module _ (mark : Mark) (t : ℕ → Segment) (o : ℕ) where
  -- each segment is put back once
  IsBack : Type 0
  IsBack = one_back (mark.head - 1) mark.previous (one_back mark.head mark.newest (others_back mark.head mark.others t))
      o ≡ segments_before mark t o

  back-none : o ≡ 0 → t o ≡ no_segment o → IsBack
  unfolding IsBack others_back one_back segments_before
  back-none none empty =
      let g1 : (ltb 0 mark.head && eqb mark.head o) ≡ false = grind (arith, nat_tests) in
      let g2 : (ltb 0 (mark.head - 1) && eqb (mark.head - 1) o) ≡ false = grind (arith, nat_tests) in
      let g3 : (ltb 0 o && ltb (o + 1) mark.head) ≡ false = grind (arith, nat_tests) in
      let w : (ltb 0 o && leb o mark.head) ≡ false = grind (arith, nat_tests) in
      rw (g1, g2, g3, w) empty

  back-past : mark.head < o → t o ≡ no_segment o → IsBack
  unfolding IsBack others_back one_back segments_before
  back-past past empty =
      let g1 : (ltb 0 mark.head && eqb mark.head o) ≡ false = grind (arith, nat_tests) in
      let g2 : (ltb 0 (mark.head - 1) && eqb (mark.head - 1) o) ≡ false = grind (arith, nat_tests) in
      let g3 : (ltb 0 o && ltb (o + 1) mark.head) ≡ false = grind (arith, nat_tests) in
      let w : (ltb 0 o && leb o mark.head) ≡ false = grind (arith, nat_tests) in
      rw (g1, g2, g3, w) empty

  back-newest : 0 < o → o ≡ mark.head → IsBack
  unfolding IsBack others_back one_back segments_before
  back-newest some newest =
      let g1 : (ltb 0 mark.head && eqb mark.head o) ≡ true = grind (arith, nat_tests) in
      let g2 : (ltb 0 (mark.head - 1) && eqb (mark.head - 1) o) ≡ false = grind (arith, nat_tests) in
      let g3 : (ltb 0 o && ltb (o + 1) mark.head) ≡ false = grind (arith, nat_tests) in
      let w : (ltb 0 o && leb o mark.head) ≡ true = grind (arith, nat_tests) in
      let k1 : eqb o mark.head ≡ true = eq-eqb o mark.head newest in
      rw (g1, g2, g3, w, k1) refl

  back-previous : 0 < o → o + 1 ≡ mark.head → IsBack
  unfolding IsBack others_back one_back segments_before
  back-previous some previous =
      let g1 : (ltb 0 mark.head && eqb mark.head o) ≡ false = grind (arith, nat_tests) in
      let g2 : (ltb 0 (mark.head - 1) && eqb (mark.head - 1) o) ≡ true = grind (arith, nat_tests) in
      let g3 : (ltb 0 o && ltb (o + 1) mark.head) ≡ false = grind (arith, nat_tests) in
      let w : (ltb 0 o && leb o mark.head) ≡ true = grind (arith, nat_tests) in
      let k1 : eqb o mark.head ≡ false = ne_eqb o mark.head (λ (same : o ≡ mark.head). omega arith) in
      let k2 : eqb (o + 1) mark.head ≡ true = eq-eqb (o + 1) mark.head previous in
      rw (g1, g2, g3, w, k1, k2) refl

  back-other : 0 < o → o + 1 < mark.head → IsBack
  unfolding IsBack others_back one_back segments_before
  back-other some other =
      let g1 : (ltb 0 mark.head && eqb mark.head o) ≡ false = grind (arith, nat_tests) in
      let g2 : (ltb 0 (mark.head - 1) && eqb (mark.head - 1) o) ≡ false = grind (arith, nat_tests) in
      let g3 : (ltb 0 o && ltb (o + 1) mark.head) ≡ true = grind (arith, nat_tests) in
      let w : (ltb 0 o && leb o mark.head) ≡ true = grind (arith, nat_tests) in
      let k1 : eqb o mark.head ≡ false = ne_eqb o mark.head (λ (same : o ≡ mark.head). omega arith) in
      let k2 : eqb (o + 1) mark.head ≡ false = ne_eqb (o + 1) mark.head (λ (same : o + 1 ≡ mark.head). omega arith) in
      rw (g1, g2, g3, w, k1, k2) refl

  back-at : t 0 ≡ no_segment 0 → (mark.head < o → t o ≡ no_segment o) → IsBack
  back-at first past = ⊎_elim {C = IsBack}
      (λ (none : o ≡ 0). back-none none (ap t none ∙ first ∙ ap no_segment (sym none)))
      (λ (some : o ≡ 0 → ⊥). ⊎_elim {C = IsBack}
      (λ (further : mark.head < o). back-past further (past further))
      (λ (within : o ≤ mark.head). ⊎_elim {C = IsBack}
      (λ (newest : o ≡ mark.head). back-newest (omega arith) newest)
      (λ (older : o ≡ mark.head → ⊥). ⊎_elim {C = IsBack}
      (λ (previous : o + 1 ≡ mark.head). back-previous (omega arith) previous)
      (λ (other : o + 1 ≡ mark.head → ⊥). back-other (omega arith) (omega arith))
      (cases_eq (o + 1) mark.head))
      (cases_eq o mark.head))
      (cases_lt mark.head o))
      (cases_eq o 0)

pub put_back-all : (mark : Mark) (segments : List Segment) → length segments ≡ mark.head →
    one_back (mark.head - 1) mark.previous
    (one_back mark.head mark.newest (others_back mark.head mark.others (segment_at segments))) ≡ segments_before
    mark (segment_at segments)
unfolding IsBack
put_back-all mark segments len =
    fun_ext (λ o. back-at mark (segment_at segments) o (segment_at-zero segments)
    (λ past. segment_at-past segments o (omega arith)))
