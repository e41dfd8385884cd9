-- Who was a member of a segment under its present epoch.
use Rattle.std.proofs.Common.{◌≡◌, ℕ, ◌<◌, ◌≤◌, Bool, true, ◌&&◌, ◌||◌, eqb, ltb, leb, List, [], ◌∷◌, Option, Some}
use Rattle.std.proofs.Common.{None, refl, ap, sym, ◌∙◌}
use Rattle.std.specs.List.{list_any}
use Rattle.std.proofs.lemmas.Bool.{cond-true, and_from, eq-eqb, lt-ltb, le-leb}
use Rattle.rc_model.specs.Model.{ServerId, Member, same_id, has_id, Segment, no_segment, ids_of, stood}
use Rattle.rc_config.specs.declared.state.SegmentState.{SegmentState}
use Rattle.rc_config.specs.Lists.{segment_at}
use Rattle.rc_headroll.specs.LogData.{LogData, log_of, before_of}
use Rattle.rc_headroll.specs.Before.{kept_of, was_there, as_it_was, segments_before}

has_id-any : (id : ServerId) (members : List Member) → list_any (λ member. same_id id member.id) members ≡ has_id id (ids_of members)
has_id-any id [] = refl
has_id-any id (member ∷ members) = ap (λ (b : Bool). same_id id member.id || b) (has_id-any id members)

-- a segment that was there
module _ (kept : LogData) (seg : ℕ) (id : ServerId) (above : 0 < seg) (within : seg ≤ kept.mark.head) (now : Segment)
    (is : now ≡ segment_at kept.segments seg) where
  there : was_there kept.mark seg ≡ true
  there = and_from (ltb 0 seg) (leb seg kept.mark.head) (lt-ltb 0 seg above) (le-leb seg kept.mark.head within)

  was : (before_of kept).segments seg ≡ as_it_was (kept_of kept.mark seg) now
  unfolding segments_before
  was =
      cond-true (was_there kept.mark seg) (as_it_was (kept_of kept.mark seg) (segment_at kept.segments seg)) (no_segment seg) there
      ∙ ap (as_it_was (kept_of kept.mark seg)) (sym is)

  stood-by : (before : Segment) → (before_of kept).segments seg ≡ before →
      (eqb before.config.epoch now.config.epoch && list_any (λ member. same_id id member.id) before.config.members) ≡
      stood (before_of kept) (log_of kept) seg id
  stood-by before e =
      ap (λ (b : Bool). eqb before.config.epoch now.config.epoch && b) (has_id-any id before.config.members)
      ∙ ap (λ (s : Segment). eqb s.config.epoch now.config.epoch && has_id id (ids_of s.config.members)) (sym e)
      ∙ ap (λ (s : Segment). eqb ((before_of kept).segments seg).config.epoch s.config.epoch &&
      has_id id (ids_of ((before_of kept).segments seg).config.members)) is
      ∙ ap (λ (b : Bool). b && (eqb ((before_of kept).segments seg).config.epoch ((log_of kept).segments seg).config.epoch
      && has_id id (ids_of ((before_of kept).segments seg).config.members))) (sym there)

  pub stood-same : (result : Bool) → None ≡ kept_of kept.mark seg →
      result ≡ list_any (λ member. same_id id member.id) now.config.members →
      result ≡ stood (before_of kept) (log_of kept) seg id
  stood-same result none e =
      let same : (before_of kept).segments seg ≡ now = was ∙ ap (λ (k : Option SegmentState). as_it_was k now) (sym none) in
      e ∙ ap (λ (b : Bool). b && list_any (λ member. same_id id member.id) now.config.members)
      (sym (eq-eqb now.config.epoch now.config.epoch refl))
      ∙ stood-by now same

  pub stood-kept : (result : Bool) (state : SegmentState) → Some state ≡ kept_of kept.mark seg →
      result ≡ (eqb state.config.epoch now.config.epoch && list_any (λ member. same_id id member.id)
      state.config.members) → result ≡ stood (before_of kept) (log_of kept) seg id
  stood-kept result state some e =
      let same : (before_of kept).segments seg ≡ as_it_was (Some state) now =
      was ∙ ap (λ (k : Option SegmentState). as_it_was k now) (sym some) in
      e ∙ stood-by (as_it_was (Some state) now) same
