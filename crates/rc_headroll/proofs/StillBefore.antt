-- Whatever is done with a log, it goes back to the same.
use Rattle.std.proofs.Common.{◌≡◌, ℕ, ◌+◌, ◌-◌, ◌<◌, ◌≤◌, Bool, true, None, List, [], ◌∷◌, ◌++◌, length, get_or}
use Rattle.std.proofs.Common.{set, take, refl, ap, sym, ◌∙◌, subst, arith}
use Rattle.std.proofs.lemmas.List.{take-append-le, length_push, length-set}
use Rattle.rc_model.specs.Model.{Entry, Phase, Segment, with_entry, has_segment, append_fault}
use Rattle.rc_config.specs.Lists.{segment_at}
use Rattle.rc_headroll.specs.LogData.{LogData, log_of, before_of}
use Rattle.rc_headroll.specs.Soundness.{IsSound, IsSoundLog}
use Rattle.rc_headroll.specs.Before.{segments_before, IsKept, CanGoBack}
use Rattle.rc_config.proofs.SegmentTables.{segment_at-set, segment_at-read, segment_at-push, segment_at-past}
use Rattle.rc_headroll.proofs.BeforeLemmas.{Extends, before-put, before-new, back-put}
use Rattle.rc_headroll.proofs.LogChanges.{Keeps, seg_place, sound-written, sound-pushed, append-possible}

pub before_of-same : (kept : LogData) (segments : List Segment) →
    segments_before kept.mark (segment_at segments) ≡ segments_before kept.mark (segment_at kept.segments) →
    before_of (record kept { segments = segments }) ≡ before_of kept
before_of-same kept segments same = ap (λ (t : ℕ → Segment). record (before_of kept) { segments = t }) same

pub sound_log-from : (kept : LogData) (segments : List Segment) (phase : Phase)
    (durable passed entries passed' entries' : ℕ) → IsSoundLog kept passed entries →
    segments_before kept.mark (segment_at segments) ≡ segments_before kept.mark (segment_at kept.segments) →
    CanGoBack kept.mark (length segments) (segment_at segments) →
    IsSound (log_of (record kept { segments = segments; phase = phase; durable = durable })) passed' entries' →
    IsSoundLog (record kept { segments = segments; phase = phase; durable = durable }) passed' entries'
sound_log-from kept segments phase durable passed entries passed' entries' sound same back now = record {
  now = now;
  before = rw same sound.before;
  back = back;
}

-- where no segment is changed
pub sound_log-same : (kept : LogData) (phase : Phase) (durable passed entries passed' entries' : ℕ) → IsSoundLog kept passed entries →
    IsSound (log_of (record kept { phase = phase; durable = durable })) passed' entries' →
    IsSoundLog (record kept { phase = phase; durable = durable }) passed' entries'
sound_log-same kept phase durable passed entries passed' entries' sound now =
    sound_log-from kept kept.segments phase durable passed entries passed' entries' sound refl sound.back now

-- One segment is written

pub extends-keeps : (x was : Segment) → Keeps x was → Extends x was
extends-keeps x was keeps = record {
  digest = keeps.digest;
  longer = omega (arith, ap length keeps.entries);
  beginning = λ n within. ap (take n) keeps.entries;
}

pub extends-entry : (entry : Entry) (client : _) (x was : Segment) → x ≡ with_entry entry client was → Extends x was
extends-entry entry client x was e =
    let more : x.entries ≡ was.entries ++ (entry, client) ∷ [] = ap (λ (s : Segment). s.entries) e in
    record {
      digest = ap (λ (s : Segment). s.digest) e;
      longer = omega (arith, ap length more, length_push was.entries (entry, client));
      beginning = λ n within. ap (take n) more ∙ take-append-le n was.entries ((entry, client) ∷ []) within;
    }

module _ (kept : LogData) (place seg : ℕ) (x was : Segment) (e : seg ≡ place + 1)
    (inside : place < length kept.segments) (read : was ≡ get_or kept.segments place was)
    (more : Extends x was) where
  at_seg : Extends x (segment_at kept.segments seg)
  at_seg = subst (Extends x) (segment_at-read kept.segments seg place was e inside read) more

  pub set-before : CanGoBack kept.mark (length kept.segments) (segment_at kept.segments) → IsKept kept.mark seg →
      segments_before kept.mark (segment_at (set kept.segments place x)) ≡ segments_before kept.mark (segment_at kept.segments)
  set-before back is_kept =
      ap (segments_before kept.mark) (segment_at-set kept.segments place x seg e inside)
      ∙ before-put kept.mark (segment_at kept.segments) seg x is_kept at_seg (back.beginnings seg)

  pub set-back : CanGoBack kept.mark (length kept.segments) (segment_at kept.segments) →
      CanGoBack kept.mark (length (set kept.segments place x)) (segment_at (set kept.segments place x))
  set-back back =
      rw (segment_at-set kept.segments place x seg e inside)
      (back-put kept.mark (length kept.segments) (length (set kept.segments place x)) (segment_at kept.segments) seg x back
      (omega (arith, length-set kept.segments place x)) at_seg.longer)

  pub set-sound : (passed entries : ℕ) → IsSoundLog kept passed entries → IsKept kept.mark seg →
      IsSound (log_of (record kept { segments = set kept.segments place x })) passed entries →
      IsSoundLog (record kept { segments = set kept.segments place x }) passed entries
  set-sound passed entries sound is_kept now =
      sound_log-from kept (set kept.segments place x) kept.phase kept.durable passed entries passed entries sound
      (set-before sound.back is_kept) (set-back sound.back) now

-- one of the last two is always kept
pub last-kept : (kept : LogData) (seg : ℕ) → CanGoBack kept.mark (length kept.segments) (segment_at kept.segments) →
    0 < seg → length kept.segments ≤ seg + 1 → IsKept kept.mark seg
last-kept kept seg back above last = back.last seg above (omega (arith, back.known))

-- a segment that is kept is written at its place

module _ (kept : LogData) (seg from passed entries : ℕ) (x was : Segment) (sound : IsSoundLog kept passed entries)
    (has : true ≡ has_segment (log_of kept) seg) (is : from ≡ seg)
    (read : was ≡ get_or kept.segments (from - 1) was) (keeps : Keeps x was) (is_kept : IsKept kept.mark seg) where
  pub written-sound : IsSoundLog (record kept { segments = set kept.segments (from - 1) x }) passed entries
  written-sound =
      let at = seg_place kept seg from has is in
      set-sound kept (from - 1) seg x was at.0 at.1 read (extends-keeps x was keeps) passed entries sound is_kept
      (sound-written kept seg from passed entries x was sound.now has is read keeps)

  pub written-before : before_of (record kept { segments = set kept.segments (from - 1) x }) ≡ before_of kept
  written-before =
      let at = seg_place kept seg from has is in
      before_of-same kept (set kept.segments (from - 1) x)
      (set-before kept (from - 1) seg x was at.0 at.1 read (extends-keeps x was keeps) sound.back is_kept)

-- The head is opened

pub opened-before : (kept : LogData) (x : Segment) (segments : List Segment) →
    CanGoBack kept.mark (length kept.segments) (segment_at kept.segments) → segments ≡ kept.segments ++ x ∷ [] →
    segments_before kept.mark (segment_at segments) ≡ segments_before kept.mark (segment_at kept.segments)
opened-before kept x segments back is =
    ap (λ (ss : List Segment). segments_before kept.mark (segment_at ss)) is
    ∙ ap (segments_before kept.mark) (segment_at-push kept.segments x (length kept.segments + 1) refl)
    ∙ before-new kept.mark (segment_at kept.segments) (length kept.segments + 1) x (omega (arith, back.known))

pub opened-back : (kept : LogData) (x : Segment) (segments : List Segment) →
    CanGoBack kept.mark (length kept.segments) (segment_at kept.segments) → segments ≡ kept.segments ++ x ∷ [] →
    CanGoBack kept.mark (length segments) (segment_at segments)
opened-back kept x segments back is =
    let past = segment_at-past kept.segments (length kept.segments + 1) (omega arith) in
    let none : length (segment_at kept.segments (length kept.segments + 1)).entries ≡ 0 = ap (λ (s : Segment). length s.entries) past in
    subst (λ (ss : List Segment). CanGoBack kept.mark (length ss) (segment_at ss)) (sym is)
    (rw (segment_at-push kept.segments x (length kept.segments + 1) refl)
    (back-put kept.mark (length kept.segments) (length (kept.segments ++ x ∷ [])) (segment_at kept.segments)
    (length kept.segments + 1) x back
    (omega (arith, length_push kept.segments x)) (omega (arith, none))))

-- The old head is written

module _ (kept : LogData) (place passed entries : ℕ) (x was : Segment) (sound : IsSoundLog kept passed entries)
    (more : 1 < length kept.segments)
    (is : place ≡ length kept.segments - 2) (read : was ≡ get_or kept.segments place was)
    (same_entries : x.entries ≡ was.entries) (same_digest : x.digest ≡ was.digest) where
  extends : Extends x was
  extends = record {
    digest = same_digest;
    longer = omega (arith, ap length same_entries);
    beginning = λ n within.
        ap (take n) same_entries;
  }

  old-kept : IsKept kept.mark (length kept.segments - 1)
  old-kept = last-kept kept (length kept.segments - 1) sound.back (omega arith) (omega arith)

  pub old_head-sound : IsSound (log_of (record kept { segments = set kept.segments place x })) passed entries →
      IsSoundLog (record kept { segments = set kept.segments place x }) passed entries
  old_head-sound now =
      set-sound kept place (length kept.segments - 1) x was (omega arith) (omega arith) read extends passed entries sound old-kept now

  pub old_head-before : before_of (record kept { segments = set kept.segments place x }) ≡ before_of kept
  old_head-before =
      before_of-same kept (set kept.segments place x)
      (set-before kept place (length kept.segments - 1) x was (omega arith) (omega arith) read extends sound.back old-kept)

-- An entry is appended

module _ (kept : LogData) (place passed entries : ℕ) (entry : Entry) (client : Bool) (x was : Segment)
    (sound : IsSoundLog kept passed entries)
    (possible : append_fault (log_of kept) ≡ None) (is : place ≡ length kept.segments - 1)
    (read : was ≡ get_or kept.segments place was) (e : x ≡ with_entry entry client was) where
  some : 0 < length kept.segments
  some = (append-possible (log_of kept) passed entries sound.now possible).0

  head-kept : IsKept kept.mark (length kept.segments)
  head-kept = last-kept kept (length kept.segments) sound.back some (omega arith)

  head-at : length kept.segments ≡ place + 1
  head-at = let above : 0 < length kept.segments = some in omega arith

  head-inside : place < length kept.segments
  head-inside = let above : 0 < length kept.segments = some in omega arith

  pub pushed-sound : IsSoundLog (record kept { segments = set kept.segments place x }) passed entries
  pushed-sound =
      set-sound kept place (length kept.segments) x was head-at head-inside read (extends-entry entry client x was e)
      passed entries sound head-kept
      (sound-pushed kept place passed entries entry client x was sound.now possible is read e)

  pub pushed-before : before_of (record kept { segments = set kept.segments place x }) ≡ before_of kept
  pushed-before =
      before_of-same kept (set kept.segments place x)
      (set-before kept place (length kept.segments) x was head-at head-inside read (extends-entry entry client x was e)
      sound.back head-kept)
