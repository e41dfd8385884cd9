-- A log that goes back to now, and one that has gone back.
use Rattle.std.proofs.Common.{◌≡◌, ℕ, ◌-◌, ◌<◌, ◌≤◌, Bool, true, false, cond, List, [], length, take, refl, ap, sym}
use Rattle.std.proofs.Common.{◌∙◌, subst, arith, length-take}
use Rattle.std.proofs.Math.Path.{fun_ext}
use Rattle.std.proofs.lemmas.Bool.{and_parts, leb-true, ltb-true}
use Rattle.std.proofs.lemmas.List.{get_or-take}
use Rattle.rc_model.specs.Model.{ServerId, Phase, Opening, MAX_FACTOR, MAX_SEGMENT, Segment, no_segment, new_log}
use Rattle.rc_config.specs.Lists.{segment_at}
use Rattle.rc_headroll.specs.LogData.{LogData, log_of, before_of}
use Rattle.rc_headroll.specs.Soundness.{IsSound, IsSoundLog}
use Rattle.rc_headroll.specs.Watching.{Watched}
use Rattle.rc_headroll.specs.declared.durable.Counted.{Counted}
use Rattle.rc_headroll.specs.Before.{Mark, first_mark, mark_of, as_it_was, kept_of, was_there, segments_before}
use Rattle.rc_config.proofs.SegmentTables.{segment_at-within, segment_at-nil}
use Rattle.rc_headroll.proofs.LogTables.{log_of-nil}
use Rattle.rc_headroll.proofs.SoundLogs.{sound-new}
use Rattle.rc_headroll.proofs.BeforeLemmas.{begin-before, begin-back}

pub before_of-begin : (kept : LogData) (passed entries : ℕ) (new : Mark) →
    new ≡ mark_of kept.segments kept.phase kept.durable passed entries →
    before_of (record kept { mark = new }) ≡ log_of kept
before_of-begin kept passed entries new is =
    ap (λ (m : Mark). before_of (record kept { mark = m })) is
    ∙ ap (λ (t : ℕ → Segment). record (log_of kept) { segments = t }) (begin-before kept.segments kept.phase kept.durable passed entries)

pub sound-begin : (kept : LogData) (passed entries : ℕ) (new : Mark) → IsSound (log_of kept) passed entries →
    new ≡ mark_of kept.segments kept.phase kept.durable passed entries →
    IsSoundLog (record kept { mark = new }) passed entries
sound-begin kept passed entries new sound is =
    subst (λ (m : Mark). IsSoundLog (record kept { mark = m }) passed entries) (sym is) (record {
      now = sound;
      before = rw (begin-before kept.segments kept.phase kept.durable passed entries) sound;
      back = begin-back kept.segments kept.phase kept.durable passed entries;
    })

-- A log with no segment

pub before_of-nil : (own : ServerId) (factor size : ℕ) (counted : Counted) (watch : Watched) →
    before_of (record {
      own = own;
      factor = factor;
      size = size;
      segments = [];
      phase = Opening;
      durable = 0;
      counted = counted;
      mark = first_mark;
      watch = watch;
    }) ≡ new_log own factor size
before_of-nil own factor size counted watch =
    ap (λ (t : ℕ → Segment). record (new_log own factor size) { segments = t }) (begin-before [] Opening 0 0 0 ∙ segment_at-nil)

pub sound_log-new : (own : ServerId) (factor size : ℕ) (counted : Counted) (watch : Watched) → factor ≤ MAX_FACTOR → size ≤ MAX_SEGMENT →
    IsSoundLog (record {
      own = own;
      factor = factor;
      size = size;
      segments = [];
      phase = Opening;
      durable = 0;
      counted = counted;
      mark = first_mark;
      watch = watch;
    }) 0 0
sound_log-new own factor size counted watch few small = record {
  now = rw (log_of-nil own factor size counted watch) (sound-new own factor size few small);
  before = rw (before_of-nil own factor size counted watch) (sound-new own factor size few small);
  back = begin-back [] Opening 0 0 0;
}

-- Gone back

segments_before-take : (mark : Mark) (segments : List Segment) → mark.head ≤ length segments →
    segments_before mark (segment_at (take mark.head segments)) ≡ segments_before mark (segment_at segments)
unfolding segments_before
segments_before-take mark segments known =
    fun_ext (λ o. within_only (was_there mark o) (as_it_was (kept_of mark o) (segment_at (take mark.head segments) o))
    (as_it_was (kept_of mark o) (segment_at segments o)) (no_segment o) (λ there.
    let parts = and_parts _ _ there in
    let above : 0 < o = ltb-true 0 o parts.0 in
    let within : o ≤ mark.head = leb-true o mark.head parts.1 in
    let d : Segment = no_segment 0 in
    ap (as_it_was (kept_of mark o))
    (segment_at-within (take mark.head segments) o (o - 1) d (omega arith) (omega (arith, length-take mark.head segments))
    ∙ get_or-take mark.head segments (o - 1) d (omega arith)
    ∙ sym (segment_at-within segments o (o - 1) d (omega arith) (omega arith)))))
  where
    within_only : (b : Bool) (x y z : Segment) → (b ≡ true → x ≡ y) → cond b x z ≡ cond b y z
    within_only true x y z e = e refl
    within_only false x y z e = refl

pub gone_back-is : (kept : LogData) (cut segments : List Segment) → kept.mark.head ≤ length kept.segments →
    cut ≡ take kept.mark.head kept.segments →
    length segments ≡ length cut → segment_at segments ≡ segments_before kept.mark (segment_at cut) →
    log_of (record kept { segments = segments; phase = kept.mark.phase; durable = kept.mark.durable }) ≡ before_of kept
gone_back-is kept cut segments known is len table =
    let head : length segments ≡ kept.mark.head = omega (arith, len, ap length is, length-take kept.mark.head kept.segments) in
    let all : segment_at segments ≡ segments_before kept.mark (segment_at kept.segments) =
    table ∙ ap (λ (ss : List Segment). segments_before kept.mark (segment_at ss)) is ∙ segments_before-take kept.mark kept.segments known in
    λ j. record {
      own = kept.own;
      factor = kept.factor;
      size = kept.size;
      head = head j;
      segments = all j;
      phase = kept.mark.phase;
      durable = kept.mark.durable;
    }

-- What the code makes when it goes back

module _ (kept : LogData) (cut segments all : List Segment) (phase : Phase) (durable passed entries : ℕ) (new : Mark)
    (known : kept.mark.head ≤ length kept.segments)
    (cut_is : cut ≡ take kept.mark.head kept.segments) (len : length segments ≡ length cut)
    (table : segment_at segments ≡ segments_before kept.mark (segment_at cut))
    (all_is : all ≡ segments) (phase_is : phase ≡ kept.mark.phase) (durable_is : durable ≡ kept.mark.durable)
    (passed_is : passed ≡ kept.mark.passed)
    (entries_is : entries ≡ kept.mark.passed_entries) where
  gone_back : log_of (record kept { segments = all; phase = phase; durable = durable }) ≡ before_of kept
  gone_back = rw (all_is, phase_is, durable_is) (gone_back-is kept cut segments known cut_is len table)

  pub restored-log : log_of (record kept { segments = all; phase = phase; durable = durable; mark = new }) ≡ before_of kept
  restored-log = gone_back

  pub restored-before : new ≡ mark_of all phase durable passed entries →
      before_of (record kept { segments = all; phase = phase; durable = durable; mark = new }) ≡ before_of kept
  restored-before is = before_of-begin (record kept { segments = all; phase = phase; durable = durable }) passed entries new is ∙ gone_back

  pub restored-sound : (passed' entries' : ℕ) → IsSoundLog kept passed' entries' → new ≡ mark_of all phase durable passed entries →
      IsSoundLog (record kept { segments = all; phase = phase; durable = durable; mark = new }) passed entries
  restored-sound passed' entries' sound is =
      sound-begin (record kept { segments = all; phase = phase; durable = durable }) passed entries new
      (rw (gone_back, passed_is, entries_is) sound.before) is
