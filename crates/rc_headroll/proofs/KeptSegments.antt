-- One more segment is kept: the log still goes back to the same.
use Rattle.std.proofs.Common.{◌≡◌, ◌⊎◌, ⊎_elim, inl, inr, ℕ, ◌+◌, ◌<◌, ◌≤◌, Bool, true, false, cond, ◌&&◌, eqb, ltb}
use Rattle.std.proofs.Common.{[], ◌∷◌, ◌++◌, length, Option, Some, None, refl, ap, sym}
use Rattle.std.proofs.Common.{◌∙◌, subst, arith, is_some, is_none}
use Rattle.std.proofs.Math.Path.{fun_ext}
use Rattle.std.proofs.lemmas.Bool.{cond-true, cond-false, cond_both, cases_eq, cases_lt, ne_eqb, and_parts, ltb-true}
use Rattle.std.proofs.lemmas.Bool.{lt-ltb, le-ltb, false≢true}
use Rattle.rc_model.specs.Segment.{Segment, no_segment}
use Rattle.rc_config.specs.declared.state.SegmentState.{SegmentState}
use Rattle.rc_config.specs.Lists.{segment_at}
use Rattle.rc_headroll.specs.LogData.{LogData, before_of}
use Rattle.rc_headroll.specs.Soundness.{IsSoundLog}
use Rattle.rc_config.specs.States.{state_of}
use Rattle.rc_headroll.specs.Before.{Mark, as_it_was, other_of, kept_of, kept_len, was_there}
use Rattle.rc_headroll.specs.Before.{segments_before, with_kept, IsKept, CanGoBack}
use Rattle.rc_headroll.proofs.GoingBack.{other_of-push_same, other_of-push_other}
use Rattle.rc_headroll.proofs.BeforeLemmas.{with_state-now}

-- more is kept, and the log goes back to the same
pub record KeepsMore (old new : Mark) (head : ℕ) (t : ℕ → Segment) : Type 0 where
  pub scalars : (new.head ≡ old.head) × (new.phase ≡ old.phase) × (new.durable ≡ old.durable) ×
      (new.passed ≡ old.passed) × (new.passed_entries ≡ old.passed_entries)
  pub before : segments_before new t ≡ segments_before old t
  pub back : CanGoBack new head t
  pub others : (o : ℕ) → IsKept old o → IsKept new o

keeps-same : (mark : Mark) (head : ℕ) (t : ℕ → Segment) → CanGoBack mark head t → KeepsMore mark mark head t
keeps-same mark head t back = record {
  scalars = (refl, refl, refl, refl, refl);
  before = refl;
  back = back;
  others = λ o kept. kept;
}

from-none : (kept : Option SegmentState) → is_none kept ≡ true → kept ≡ None
from-none None e = refl
from-none (Some state) e = absurd (false≢true e)

module _ (mark : Mark) (seg : ℕ) (state : SegmentState) (below : seg + 1 < mark.head) (none : other_of mark.others seg ≡ None) where
  more : Mark
  more = record mark { others = mark.others ++ (seg, state) ∷ [] }

  kept-here : kept_of mark seg ≡ None
  kept-here =
      cond-false (eqb seg mark.head) mark.newest _ (ne_eqb seg mark.head (λ (same : seg ≡ mark.head). omega arith))
      ∙ cond-false (eqb (seg + 1) mark.head) mark.previous (other_of mark.others seg)
      (ne_eqb (seg + 1) mark.head (λ (same : seg + 1 ≡ mark.head). omega arith))
      ∙ none

  more-here : kept_of more seg ≡ Some state
  unfolding more
  more-here =
      cond-false (eqb seg mark.head) mark.newest _ (ne_eqb seg mark.head (λ (same : seg ≡ mark.head). omega arith))
      ∙ cond-false (eqb (seg + 1) mark.head) mark.previous (other_of (mark.others ++ (seg, state) ∷ []) seg)
      (ne_eqb (seg + 1) mark.head (λ (same : seg + 1 ≡ mark.head). omega arith))
      ∙ other_of-push_same mark.others seg state none

  more-other : (o : ℕ) → (o ≡ seg → ⊥) → kept_of more o ≡ kept_of mark o
  unfolding more
  more-other o apart = ap (λ (kept : Option SegmentState). cond (eqb o mark.head) mark.newest
      (cond (eqb (o + 1) mark.head) mark.previous kept)) (other_of-push_other mark.others seg o state apart)

  more-keeps : (head : ℕ) (t : ℕ → Segment) → CanGoBack mark head t → state ≡ state_of (t seg) →
      KeepsMore mark (record mark { others = mark.others ++ (seg, state) ∷ [] }) head t
  unfolding more segments_before
  more-keeps head t back is = record {
    scalars = (refl, refl, refl, refl, refl);
    before = fun_ext (λ o. ap (λ (s : Segment). cond (was_there mark o) s (no_segment o))
        (⊎_elim {C = as_it_was (kept_of more o) (t o) ≡ as_it_was (kept_of mark o) (t o)}
        (λ (here : o ≡ seg).
        ap (λ (p : ℕ). as_it_was (kept_of more p) (t p)) here
        ∙ ap (λ (kept : Option SegmentState). as_it_was kept (t seg)) (more-here ∙ ap Some is)
        ∙ with_state-now (t seg)
        ∙ sym (ap (λ (p : ℕ). as_it_was (kept_of mark p) (t p)) here ∙
        ap (λ (kept : Option SegmentState). as_it_was kept (t seg)) kept-here))
        (λ (apart : o ≡ seg → ⊥). ap (λ (kept : Option SegmentState). as_it_was kept (t o)) (more-other o apart))
        (cases_eq o seg)));
    back = record {
      known = back.known;
      beginnings = λ o. ⊎_elim {C = kept_len (kept_of more o) ≤ length (t o).entries}
          (λ (here : o ≡ seg).
          subst (λ (p : ℕ). kept_len (kept_of more p) ≤ length (t p).entries) (sym here)
          (omega (arith, ap kept_len (more-here ∙ ap Some is))))
          (λ (apart : o ≡ seg → ⊥). omega (arith, ap kept_len (more-other o apart), back.beginnings o))
          (cases_eq o seg);
      last = λ o above last within. still o (back.last o above last within);
    };
    others = λ o kept within. still o (kept within);
  }
    where
      still : (o : ℕ) → is_some (kept_of mark o) ≡ true → is_some (kept_of more o) ≡ true
      still o there = ⊎_elim {C = is_some (kept_of more o) ≡ true}
          (λ (here : o ≡ seg). ap (λ (p : ℕ). is_some (kept_of more p)) here ∙ ap is_some more-here)
          (λ (apart : o ≡ seg → ⊥). ap is_some (more-other o apart) ∙ there)
          (cases_eq o seg)

pub with_kept-keeps : (mark : Mark) (head : ℕ) (t : ℕ → Segment) (seg : ℕ) (state : SegmentState) →
    CanGoBack mark head t → state ≡ state_of (t seg) →
    KeepsMore mark (with_kept seg state mark) head t
with_kept-keeps mark head t seg state back is =
    cond_both (ltb (seg + 1) mark.head && is_none (other_of mark.others seg))
    (record mark { others = mark.others ++ (seg, state) ∷ [] }) mark
    (λ m. KeepsMore mark m head t)
    (λ guard.
    let parts = and_parts (ltb (seg + 1) mark.head) (is_none (other_of mark.others seg)) guard in
    more-keeps mark seg state (ltb-true (seg + 1) mark.head parts.0) (from-none (other_of mark.others seg) parts.1) head t back is)
    (λ other. keeps-same mark head t back)

there-or : (kept : Option SegmentState) → (kept ≡ None) ⊎ (is_some kept ≡ true)
there-or None = inl refl
there-or (Some state) = inr refl

pub with_kept-is : (mark : Mark) (head : ℕ) (t : ℕ → Segment) (seg : ℕ) (state : SegmentState) → CanGoBack mark head t →
    0 < seg → IsKept (with_kept seg state mark) seg
unfolding more
with_kept-is mark head t seg state back above = ⊎_elim {C = IsKept (with_kept seg state mark) seg}
    (λ (below : seg + 1 < mark.head). ⊎_elim {C = IsKept (with_kept seg state mark) seg}
    (λ (none : other_of mark.others seg ≡ None).
    let added : with_kept seg state mark ≡ record mark { others = mark.others ++ (seg, state) ∷ [] } =
    cond-true (ltb (seg + 1) mark.head && is_none (other_of mark.others seg))
    (record mark { others = mark.others ++ (seg, state) ∷ [] }) mark
    (ap (λ (b : Bool). b && is_none (other_of mark.others seg)) (lt-ltb (seg + 1) mark.head below) ∙ ap is_none none) in
    subst (λ (m : Mark). IsKept m seg) (sym added) (λ within. ap is_some (more-here mark seg state below none)))
    (λ (there : is_some (other_of mark.others seg) ≡ true).
    let same : with_kept seg state mark ≡ mark =
    cond-false (ltb (seg + 1) mark.head && is_none (other_of mark.others seg))
    (record mark { others = mark.others ++ (seg, state) ∷ [] }) mark
    (ap (λ (b : Bool). b && is_none (other_of mark.others seg)) (lt-ltb (seg + 1) mark.head below) ∙
    not-none (other_of mark.others seg) there) in
    let kept : kept_of mark seg ≡ other_of mark.others seg =
    cond-false (eqb seg mark.head) mark.newest _ (ne_eqb seg mark.head (λ (same : seg ≡ mark.head). omega arith))
    ∙ cond-false (eqb (seg + 1) mark.head) mark.previous (other_of mark.others seg)
    (ne_eqb (seg + 1) mark.head (λ (same : seg + 1 ≡ mark.head). omega arith)) in
    subst (λ (m : Mark). IsKept m seg) (sym same) (λ within. ap is_some kept ∙ there))
    (there-or (other_of mark.others seg)))
    (λ (last : mark.head ≤ seg + 1).
    let same : with_kept seg state mark ≡ mark =
    cond-false (ltb (seg + 1) mark.head && is_none (other_of mark.others seg))
    (record mark { others = mark.others ++ (seg, state) ∷ [] }) mark
    (ap (λ (b : Bool). b && is_none (other_of mark.others seg)) (le-ltb (seg + 1) mark.head last)) in
    subst (λ (m : Mark). IsKept m seg) (sym same) (back.last seg above last))
    (cases_lt (seg + 1) mark.head)
  where
    not-none : (kept : Option SegmentState) → is_some kept ≡ true → is_none kept ≡ false
    not-none None e = absurd (false≢true e)
    not-none (Some s) e = refl

-- What the code does when it keeps a segment

module _ (mark new : Mark) (head : ℕ) (t : ℕ → Segment) (seg : ℕ) (x : Segment)
    (back : CanGoBack mark head t) (read : x ≡ t seg) (is : new ≡ with_kept seg (state_of x) mark) where
  pub keep-keeps : KeepsMore mark new head t
  keep-keeps = subst (λ (m : Mark). KeepsMore mark m head t) (sym is)
      (with_kept-keeps mark head t seg (state_of x) back (ap state_of read))

  pub keep-kept : 0 < seg → IsKept new seg
  keep-kept above = subst (λ (m : Mark). IsKept m seg) (sym is) (with_kept-is mark head t seg (state_of x) back above)

pub before_of-kept : (kept : LogData) (new : Mark) →
    KeepsMore kept.mark new (length kept.segments) (segment_at kept.segments) →
    before_of (record kept { mark = new }) ≡ before_of kept
before_of-kept kept new keeps j = record {
  own = kept.own;
  factor = kept.factor;
  size = kept.size;
  head = keeps.scalars.0 j;
  segments = keeps.before j;
  phase = keeps.scalars.1 j;
  durable = keeps.scalars.2 j;
}

pub sound-kept : (kept : LogData) (passed entries : ℕ) (new : Mark) → IsSoundLog kept passed entries →
    KeepsMore kept.mark new (length kept.segments) (segment_at kept.segments) →
    IsSoundLog (record kept { mark = new }) passed entries
sound-kept kept passed entries new sound keeps = record {
  now = sound.now;
  before = rw (before_of-kept kept new keeps, keeps.scalars.3, keeps.scalars.4) sound.before;
  back = keeps.back;
}
