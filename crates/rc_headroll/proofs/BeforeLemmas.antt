-- What a log goes back to: from now on, and whatever is done with the log.
use Rattle.std.proofs.Common.{◌≡◌, ◌⊎◌, ⊎_elim, inl, inr, ℕ, ◌+◌, ◌-◌, ◌<◌, ◌≤◌, Bool, true, false, cond, eqb, ltb, leb, List, length}
use Rattle.std.proofs.Common.{get_or, take, Option, Some, None, refl, ap, sym, ◌∙◌, arith, is_some, slice_get, option_map}
use Rattle.std.proofs.Math.Path.{fun_ext}
use Rattle.std.proofs.Math.Seq.{take-length}
use Rattle.std.proofs.lemmas.Option.{slice_get-get_or}
use Rattle.std.proofs.lemmas.Bool.{cond-true, cond-false, cond_both, cases_eq, eq-eqb, ne_eqb, and_parts, ltb-true}
use Rattle.std.proofs.lemmas.Bool.{leb-true, lt-ltb, le-ltb, false≢true}
use Rattle.std.proofs.lemmas.Bool.Decides.{nat_tests}
use Rattle.rc_model.specs.Model.{Phase, put, Segment, no_segment}
use Rattle.rc_config.specs.declared.state.SegmentState.{SegmentState}
use Rattle.rc_config.specs.Lists.{segment_at}
use Rattle.rc_config.specs.States.{state_of, with_state}
use Rattle.rc_headroll.specs.Before.{Mark, mark_of, state_at, as_it_was, kept_of, kept_len}
use Rattle.rc_headroll.specs.Before.{was_there, segments_before, IsKept, CanGoBack}
use Rattle.rc_config.proofs.SegmentTables.{put-other, put_each, segment_at-zero, segment_at-past, segment_at-within}

-- Segments as they were

-- of a choice only the first matters
only_if : {X : Type 0} (b : Bool) (x y z : X) → (b ≡ true → x ≡ y) → cond b x z ≡ cond b y z
only_if true x y z e = e refl
only_if false x y z e = refl

pub with_state-now : (x : Segment) → with_state (state_of x) x ≡ x
with_state-now x = ap (λ (entries : List (_)). record x { entries = entries }) (take-length x.entries)

-- a segment has the digest of another, and begins with its entries
pub record Extends (x old : Segment) : Type 0 where
  pub digest : x.digest ≡ old.digest
  pub longer : length old.entries ≤ length x.entries
  pub beginning : (n : ℕ) → n ≤ length old.entries → take n x.entries ≡ take n old.entries

with_state-same : (s : SegmentState) (x y : Segment) → x.digest ≡ y.digest →
    take s.len x.entries ≡ take s.len y.entries → with_state s x ≡ with_state s y
with_state-same s x y digest entries j = record {
  digest = digest j;
  entries = entries j;
  config = s.config;
  commit_sent = s.commit_sent;
  closes_sent = s.closes_sent;
  shut = s.shut;
  freed = s.freed;
}

as_it_was-same : (kept : Option SegmentState) (x old : Segment) → is_some kept ≡ true → Extends x old →
    kept_len kept ≤ length old.entries → as_it_was kept x ≡ as_it_was kept old
as_it_was-same None x old there more fits = absurd (false≢true there)
as_it_was-same (Some s) x old there more fits = with_state-same s x old more.digest (more.beginning s.len fits)

was_there-parts : (mark : Mark) (seg : ℕ) → was_there mark seg ≡ true → (0 < seg) × (seg ≤ mark.head)
was_there-parts mark seg e =
    let parts : (ltb 0 seg ≡ true) × (leb seg mark.head ≡ true) = and_parts (ltb 0 seg) (leb seg mark.head) e in
    (ltb-true 0 seg parts.0, leb-true seg mark.head parts.1)

-- One segment is changed that was kept, or that is newer

pub before-put : (mark : Mark) (t : ℕ → Segment) (k : ℕ) (x : Segment) → IsKept mark k → Extends x (t k) →
    kept_len (kept_of mark k) ≤ length (t k).entries →
    segments_before mark (put t k x) ≡ segments_before mark t
unfolding segments_before
before-put mark t k x kept more fits = fun_ext (λ o.
    only_if (was_there mark o) (as_it_was (kept_of mark o) (put t k x o)) (as_it_was (kept_of mark o) (t o)) (no_segment o) (λ there.
    put_each (λ o s. o ≤ mark.head → as_it_was (kept_of mark o) s ≡ as_it_was (kept_of mark o) (t o)) t k x
    (λ within. as_it_was-same (kept_of mark k) x (t k) (kept within) more fits) (λ o within. refl) o (was_there-parts mark o there).1))

pub before-new : (mark : Mark) (t : ℕ → Segment) (k : ℕ) (x : Segment) → mark.head < k →
    segments_before mark (put t k x) ≡ segments_before mark t
unfolding segments_before
before-new mark t k x newer = fun_ext (λ o.
    only_if (was_there mark o) (as_it_was (kept_of mark o) (put t k x o)) (as_it_was (kept_of mark o) (t o)) (no_segment o) (λ there.
    let within : o ≤ mark.head = (was_there-parts mark o there).1 in
    ap (as_it_was (kept_of mark o)) (put-other t k x o (λ (same : k ≡ o). omega arith))))

pub back-put : (mark : Mark) (head head' : ℕ) (t : ℕ → Segment) (k : ℕ) (x : Segment) → CanGoBack mark head t →
    head ≤ head' → length (t k).entries ≤ length x.entries →
    CanGoBack mark head' (put t k x)
back-put mark head head' t k x back grows longer = record {
  known = omega (arith, back.known);
  beginnings = put_each (λ o s. kept_len (kept_of mark o) ≤ length s.entries) t k x (omega (arith, back.beginnings k)) back.beginnings;
  last = back.last;
}

-- From now on

-- how a segment of the log is
state_at-is : (segments : List Segment) (back o : ℕ) → 0 < o → 0 < back → o + back ≡ length segments + 1 →
    state_at segments back ≡ Some (state_of (segment_at segments o))
state_at-is segments back o above some e =
    let inside : length segments - back < length segments = omega arith in
    let x : Segment = segment_at segments o in
    let read : x ≡ get_or segments (length segments - back) x =
    segment_at-within segments o (length segments - back) x (omega arith) inside in
    cond-false (ltb (length segments) back) None (option_map state_of (slice_get segments (length segments - back)))
    (le-ltb (length segments) back (omega arith))
    ∙ ap (option_map state_of) (slice_get-get_or segments (length segments - back) x inside)
    ∙ ap (λ (s : Segment). Some (state_of s)) (sym read)

state_at-none : (segments : List Segment) (back : ℕ) → length segments < back → state_at segments back ≡ None
state_at-none segments back few =
    cond-true (ltb (length segments) back) None (option_map state_of (slice_get segments (length segments - back)))
    (lt-ltb (length segments) back few)

module _ (segments : List Segment) (phase : Phase) (durable passed passed_entries : ℕ) where
  now : Mark
  now = mark_of segments phase durable passed passed_entries

  kept-newest : (o : ℕ) → o ≡ length segments → kept_of now o ≡ state_at segments 1
  unfolding now
  kept-newest o is = cond-true (eqb o (length segments)) (state_at segments 1) _ (eq-eqb o (length segments) is)

  kept-previous : (o : ℕ) → o + 1 ≡ length segments → kept_of now o ≡ state_at segments 2
  unfolding now
  kept-previous o is =
      cond-false (eqb o (length segments)) (state_at segments 1) _
      (ne_eqb o (length segments) (λ (same : o ≡ length segments). omega arith))
      ∙ cond-true (eqb (o + 1) (length segments)) (state_at segments 2) None (eq-eqb (o + 1) (length segments) is)

  kept-other : (o : ℕ) → (o ≡ length segments → ⊥) → (o + 1 ≡ length segments → ⊥) → kept_of now o ≡ None
  unfolding now
  kept-other o newest previous =
      cond-false (eqb o (length segments)) (state_at segments 1) _ (ne_eqb o (length segments) newest)
      ∙ cond-false (eqb (o + 1) (length segments)) (state_at segments 2) None (ne_eqb (o + 1) (length segments) previous)

  kept-last : (o : ℕ) → 0 < o → o ≤ length segments → length segments ≤ o + 1 → kept_of now o ≡ Some (state_of (segment_at segments o))
  kept-last o above within last = ⊎_elim {C = kept_of now o ≡ Some (state_of (segment_at segments o))}
      (λ (newest : o ≡ length segments). kept-newest o newest ∙ state_at-is segments 1 o above (omega arith) (omega arith))
      (λ (older : o ≡ length segments → ⊥).
      let previous : o + 1 ≡ length segments = omega (arith, older) in
      kept-previous o previous ∙ state_at-is segments 2 o above (omega arith) (omega arith))
      (cases_eq o (length segments))

  -- what is kept of a segment is how it is now
  kept-now : (o : ℕ) → (kept_of now o ≡ None) ⊎ (kept_of now o ≡ Some (state_of (segment_at segments o)))
  kept-now o = ⊎_elim {C = (kept_of now o ≡ None) ⊎ (kept_of now o ≡ Some (state_of (segment_at segments o)))}
      (λ (newest : o ≡ length segments). ⊎_elim {C = (kept_of now o ≡ None) ⊎ (kept_of now o ≡ Some (state_of (segment_at segments o)))}
      (λ (none : o ≡ 0). inl (kept-newest o newest ∙ state_at-none segments 1 (omega arith)))
      (λ (some : o ≡ 0 → ⊥). inr (kept-last o (omega (arith, some)) (omega arith) (omega arith)))
      (cases_eq o 0))
      (λ (older : o ≡ length segments → ⊥). ⊎_elim {C = (kept_of now o ≡ None) ⊎ (kept_of now o ≡ Some (state_of (segment_at segments o)))}
      (λ (previous : o + 1 ≡ length segments).
      ⊎_elim {C = (kept_of now o ≡ None) ⊎ (kept_of now o ≡ Some (state_of (segment_at segments o)))}
      (λ (none : o ≡ 0). inl (kept-previous o previous ∙ state_at-none segments 2 (omega arith)))
      (λ (some : o ≡ 0 → ⊥). inr (kept-last o (omega (arith, some)) (omega arith) (omega arith)))
      (cases_eq o 0))
      (λ (other : o + 1 ≡ length segments → ⊥). inl (kept-other o older other))
      (cases_eq (o + 1) (length segments)))
      (cases_eq o (length segments))

  -- as it is now
  pub begin-before : segments_before (mark_of segments phase durable passed passed_entries) (segment_at segments) ≡ segment_at segments
  unfolding segments_before now
  begin-before = fun_ext (λ o. cond_both (was_there now o) (as_it_was (kept_of now o) (segment_at segments o))
      (no_segment o) (λ s. s ≡ segment_at segments o)
      (λ there. ⊎_elim {C = as_it_was (kept_of now o) (segment_at segments o) ≡ segment_at segments o}
      (λ (none : kept_of now o ≡ None). ap (λ (kept : Option SegmentState). as_it_was kept (segment_at segments o)) none)
      (λ (some : kept_of now o ≡ Some (state_of (segment_at segments o))).
      ap (λ (kept : Option SegmentState). as_it_was kept (segment_at segments o)) some ∙ with_state-now (segment_at segments o))
      (kept-now o))
      (λ apart. ⊎_elim {C = no_segment o ≡ segment_at segments o}
      (λ (none : o ≡ 0). ap no_segment none ∙ sym (segment_at-zero segments) ∙ ap (segment_at segments) (sym none))
      (λ (some : o ≡ 0 → ⊥). sym (segment_at-past segments o (grind (arith, nat_tests))))
      (cases_eq o 0)))

  pub begin-back : CanGoBack (mark_of segments phase durable passed passed_entries) (length segments) (segment_at segments)
  unfolding now
  begin-back = record {
    known = omega arith;
    beginnings = λ o. ⊎_elim {C = kept_len (kept_of now o) ≤ length (segment_at segments o).entries}
        (λ (none : kept_of now o ≡ None). omega (arith, ap kept_len none))
        (λ (some : kept_of now o ≡ Some (state_of (segment_at segments o))). omega (arith, ap kept_len some))
        (kept-now o);
    last = λ o above last within. ap is_some (kept-last o above within last);
  }
