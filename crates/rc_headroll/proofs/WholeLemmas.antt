-- That a head's digest leaves none out stays known while no digest changes.
use Rattle.std.proofs.Common.{◌≡◌, ℕ, ◌+◌, ◌-◌, ◌<◌, Bool, true, false, List, [], ◌∷◌, ◌++◌, length, set, get_or, filter, not, nat_eq}
use Rattle.std.proofs.Common.{refl, ap, ◌∙◌, arith}
use Rattle.std.specs.List.{list_any}
use Rattle.std.proofs.lemmas.Bool.{ne_eqb}
use Rattle.std.proofs.lemmas.List.{length-set, length_push}
use Rattle.rc_model.specs.Model.{put, Segment, has_segment}
use Rattle.rc_model.proofs.Tables.{put_each, put-same, put-other}
use Rattle.rc_config.specs.Lists.{segment_at, newest_of, previous_of}
use Rattle.rc_config.proofs.SegmentTables.{segment_at-read, segment_at-set, segment_at-push}
use Rattle.rc_headroll.specs.LogData.{LogData, log_of}
use Rattle.rc_headroll.specs.Soundness.{IsKnownWhole}
use Rattle.rc_headroll.proofs.LogChanges.{seg_place}

whole-agrees : (old new : List Segment) (whole : Bool) → length new ≡ length old →
    ((k : ℕ) → (segment_at new k).digest ≡ (segment_at old k).digest) → IsKnownWhole old whole → IsKnownWhole new whole
whole-agrees old new whole len same is = record {
  none_out = λ e.
      let newest : (newest_of new).digest ≡ (newest_of old).digest =
      same (length new) ∙ ap (λ (n : ℕ). (segment_at old n).digest) len in
      let previous : (previous_of new).digest ≡ (previous_of old).digest =
      same (length new - 1) ∙ ap (λ (n : ℕ). (segment_at old (n - 1)).digest) len in
      ap (λ (digest : List ℕ). filter (λ seg. not (list_any (nat_eq seg) digest)) (previous_of new).digest) newest
      ∙ ap (filter (λ seg. not (list_any (nat_eq seg) (newest_of old).digest))) previous ∙ is.none_out e;
}

pub whole-set : (segments : List Segment) (place seg : ℕ) (x was : Segment) (whole : Bool) → seg ≡ place + 1 →
    place < length segments → was ≡ get_or segments place was → x.digest ≡ was.digest →
    IsKnownWhole segments whole → IsKnownWhole (set segments place x) whole
whole-set segments place seg x was whole e inside read same is =
    let here : x.digest ≡ (segment_at segments seg).digest =
    same ∙ ap (λ (s : Segment). s.digest) (segment_at-read segments seg place was e inside read) in
    whole-agrees segments (set segments place x) whole (length-set segments place x)
    (λ k. ap (λ (table : ℕ → Segment). (table k).digest) (segment_at-set segments place x seg e inside)
    ∙ put_each (λ k (s : Segment). s.digest ≡ (segment_at segments k).digest) (segment_at segments) seg x here (λ k. refl) k)
    is

pub whole-written : (kept : LogData) (seg from : ℕ) (x was : Segment) (whole : Bool) → true ≡ has_segment (log_of kept) seg →
    from ≡ seg → was ≡ get_or kept.segments (from - 1) was → x.digest ≡ was.digest →
    IsKnownWhole kept.segments whole → IsKnownWhole (set kept.segments (from - 1) x) whole
whole-written kept seg from x was whole has at read same is =
    let parts = seg_place kept seg from has at in
    whole-set kept.segments (from - 1) seg x was whole parts.0 parts.1 read same is

pub whole-pushed : (segments pushed : List Segment) (x : Segment) (whole : Bool) → pushed ≡ segments ++ x ∷ [] →
    (whole ≡ true → filter (λ seg. not (list_any (nat_eq seg) x.digest)) (newest_of segments).digest ≡ []) →
    IsKnownWhole pushed whole
whole-pushed segments pushed x whole at none = rw at (record {
  none_out = λ e.
      let count : length (segments ++ x ∷ []) ≡ length segments + 1 = length_push segments x in
      let before : length (segments ++ x ∷ []) - 1 ≡ length segments = omega (arith, count) in
      let table : segment_at (segments ++ x ∷ []) ≡ put (segment_at segments) (length segments + 1) x =
      segment_at-push segments x (length segments + 1) refl in
      let newest : newest_of (segments ++ x ∷ []) ≡ x =
      ap (segment_at (segments ++ x ∷ [])) count ∙ ap (λ (t : ℕ → Segment). t (length segments + 1)) table
      ∙ put-same (segment_at segments) (length segments + 1) in
      let previous : previous_of (segments ++ x ∷ []) ≡ newest_of segments =
      ap (segment_at (segments ++ x ∷ [])) before ∙ ap (λ (t : ℕ → Segment). t (length segments)) table
      ∙ put-other (segment_at segments) (length segments + 1) x
      (ne_eqb (length segments + 1) (length segments) (λ same. omega (arith, same))) in
      ap (λ (s : Segment). filter (λ seg. not (list_any (nat_eq seg) s.digest)) (previous_of (segments ++ x ∷ [])).digest) newest
      ∙ ap (λ (s : Segment). filter (λ seg. not (list_any (nat_eq seg) x.digest)) s.digest) previous ∙ none e;
})

pub whole-unknown : (segments : List Segment) → IsKnownWhole segments false
whole-unknown segments = record { none_out = λ e. cc }
