-- A sound log stays sound, whatever is done with it.
use Rattle.std.proofs.Common.{◌≡◌, ⊎_elim, ℕ, ◌+◌, ◌-◌, ◌<◌, ◌≤◌, zero, suc, Bool, true, false, List, [], ◌∷◌, ◌++◌}
use Rattle.std.proofs.Common.{length, get_or, filter, refl, ap, sym, ◌∙◌, subst, arith}
use Rattle.std.specs.List.{All}
use Rattle.std.proofs.lemmas.Bool.{cases_eq, cases_lt, false≢true, cond-false}
use Rattle.std.proofs.lemmas.List.{length_push}
use Rattle.std.proofs.lemmas.List.Elements.{All-push, All-filter}
use Rattle.rc_model.specs.Model.{ServerId, Entry, LAST_SEGMENT, MAX_FACTOR, MAX_SEGMENT, put, Segment, new_segment, with_entry, Log}
use Rattle.rc_model.specs.Model.{new_log, head_of, old_head_of, with_segment, is_writing, opens_head, appends, starts}
use Rattle.rc_headroll.specs.Soundness.{IsKnown, IsSoundSegment, IsSound, all_shut_below, entries_to}
use Rattle.rc_config.proofs.SegmentTables.{put-at, put-other, put_each}

-- The entries of the first segments

-- two tables with equally many entries in each of the first segments
pub entries_to-same : (t u : ℕ → Segment) (n : ℕ) → ((seg : ℕ) → 0 < seg → seg ≤ n → length (t seg).entries ≡ length (u seg).entries) →
    entries_to t n ≡ entries_to u n
entries_to-same t u zero each = refl
entries_to-same t u (suc s) each =
    let earlier : entries_to t s ≡ entries_to u s = entries_to-same t u s (λ seg above below. each seg above (omega arith)) in
    let last : length (t (suc s)).entries ≡ length (u (suc s)).entries = each (suc s) (omega arith) (omega arith) in
    rw (earlier, last) refl

-- The head is not among the segments that were passed
pub passed_below : (log : Log) (passed entries : ℕ) → IsSound log passed entries → 0 < log.head → passed < log.head
passed_below log passed entries sound some = ⊎_elim {C = passed < log.head}
    (λ (less : passed < log.head). less)
    (λ (more : log.head ≤ passed).
    let shut : (head_of log).shut ≡ true = sound.passed_shut log.head some more in
    absurd (false≢true (sym sound.head_open ∙ shut)))
    (cases_lt passed log.head)

-- A new log
pub sound-new : (own : ServerId) (factor size : ℕ) → factor ≤ MAX_FACTOR → size ≤ MAX_SEGMENT → IsSound (new_log own factor size) 0 0
sound-new own factor size few small = record {
  few = omega arith;
  factor = few;
  size = small;
  opening = λ none. refl;
  shut = λ seg above below. absurd (omega arith);
  head_open = refl;
  each = λ seg above below. absurd (omega arith);
  passed_known = omega arith;
  passed_shut = λ seg above below. absurd (omega arith);
  passed_entries = refl;
  passed_durable = omega arith;
}

-- A segment that is changed in what soundness doesn't speak of
pub sound-put : (log : Log) (k : ℕ) (x : Segment) (passed entries : ℕ) → IsSound log passed entries →
    x.entries ≡ (log.segments k).entries → x.digest ≡ (log.segments k).digest → x.shut ≡ (log.segments k).shut →
    IsSound (with_segment k x log) passed entries
sound-put log k x passed entries sound same_entries same_digest same_shut = record {
  few = sound.few;
  factor = sound.factor;
  size = sound.size;
  opening = sound.opening;
  shut = put_each (λ o s. 0 < o → o < all_shut_below log → s.shut ≡ true) log.segments k x
      (λ above below. same_shut ∙ sound.shut k above below) sound.shut;
  head_open = (put_each (λ o s. o ≡ log.head → s.shut ≡ false) log.segments k x
      (λ here. same_shut ∙ ap (λ (o : ℕ). (log.segments o).shut) here ∙ sound.head_open)
      (λ o here. ap (λ (o : ℕ). (log.segments o).shut) here ∙ sound.head_open)) log.head refl;
  each = put_each (λ o s. 0 < o → o ≤ log.head → IsSoundSegment log.size log.head s) log.segments k x
      (λ above below. record {
        fits = subst (λ (es : List (Entry × Bool)). length es ≤ log.size) (sym same_entries) (sound.each k above below).fits;
        known = subst (λ (ds : List ℕ). All (IsKnown log.head) ds) (sym same_digest) (sound.each k above below).known;
      }) sound.each;
  passed_known = sound.passed_known;
  passed_shut = put_each (λ o s. 0 < o → o ≤ passed → s.shut ≡ true) log.segments k x
      (λ above below. same_shut ∙ sound.passed_shut k above below) sound.passed_shut;
  passed_entries = sound.passed_entries ∙ entries_to-same log.segments (put log.segments k x) passed
      (λ seg above below. put_each (λ o s. length (log.segments o).entries ≡ length s.entries) log.segments k x
      (ap length (sym same_entries)) (λ o. refl) seg);
  passed_durable = sound.passed_durable;
}

-- The old head is shut
pub sound-shut : (log : Log) (passed entries : ℕ) → IsSound log passed entries → 1 < log.head →
    IsSound (with_segment (log.head - 1) (record (old_head_of log) { shut = true }) log) passed entries
sound-shut log passed entries sound more =
    let k : ℕ = log.head - 1 in
    let x : Segment = record (old_head_of log) { shut = true } in
    record {
      few = sound.few;
      factor = sound.factor;
      size = sound.size;
      opening = sound.opening;
      shut = put_each (λ o s. 0 < o → o < all_shut_below log → s.shut ≡ true) log.segments k x (λ above below. refl) sound.shut;
      head_open =
          let apart : log.head - 1 ≡ log.head → ⊥ = λ (same : log.head - 1 ≡ log.head). omega arith in
          ap (λ (s : Segment). s.shut) (put-other log.segments (log.head - 1) x log.head apart) ∙ sound.head_open;
      each = put_each (λ o s. 0 < o → o ≤ log.head → IsSoundSegment log.size log.head s) log.segments k x
          (λ above below. record { fits = (sound.each k above below).fits; known = (sound.each k above below).known }) sound.each;
      passed_known = sound.passed_known;
      passed_shut = put_each (λ o s. 0 < o → o ≤ passed → s.shut ≡ true) log.segments k x (λ above below. refl) sound.passed_shut;
      passed_entries = sound.passed_entries ∙ entries_to-same log.segments (put log.segments k x) passed
          (λ seg above below. put_each (λ o s. length (log.segments o).entries ≡ length s.entries) log.segments k x refl (λ o. refl) seg);
      passed_durable = sound.passed_durable;
    }

-- An entry is appended to a head that isn't full
pub sound-appends : (log : Log) (entry : Entry) (client : Bool) (passed entries : ℕ) → IsSound log passed entries → 0 < log.head →
    length (head_of log).entries < log.size → IsSound (appends entry client log) passed entries
sound-appends log entry client passed entries sound some room =
    let x : Segment = with_entry entry client (head_of log) in
    let below : passed < log.head = passed_below log passed entries sound some in
    record {
      few = sound.few;
      factor = sound.factor;
      size = sound.size;
      opening = sound.opening;
      shut = put_each (λ o s. 0 < o → o < all_shut_below log → s.shut ≡ true) log.segments log.head x
          (λ above below. sound.shut log.head above below) sound.shut;
      head_open = ap (λ (s : Segment). s.shut) (put-at log.segments log.head x) ∙ sound.head_open;
      each = put_each (λ o s. 0 < o → o ≤ log.head → IsSoundSegment log.size log.head s) log.segments log.head x
          (λ above below. record {
            fits = omega (arith, room, length_push (head_of log).entries (entry, client));
            known = (sound.each log.head above below).known;
          }) sound.each;
      passed_known = sound.passed_known;
      passed_shut = put_each (λ o s. 0 < o → o ≤ passed → s.shut ≡ true) log.segments log.head x
          (λ above below. sound.passed_shut log.head above below) sound.passed_shut;
      passed_entries = sound.passed_entries ∙ entries_to-same log.segments (put log.segments log.head x) passed
          (λ seg above within. ap (λ (s : Segment). length s.entries)
          (sym (put-other log.segments log.head x seg (λ (same : log.head ≡ seg). omega arith))));
      passed_durable = sound.passed_durable;
    }

-- A head is opened

-- what is known stays known
known-more : (head : ℕ) (segs : List ℕ) → All (IsKnown head) segs → All (IsKnown (head + 1)) segs
known-more head segs known = λ k d inside. let was : IsKnown head (get_or segs k d) = known k d inside in (was.0, omega (arith, was.1))

pub sound-opens : (log : Log) (digest : List ℕ) (ids : List ServerId) (passed entries : ℕ) →
    IsSound log passed entries → log.head < LAST_SEGMENT →
    ((seg : ℕ) → 0 < seg → seg < log.head → (log.segments seg).shut ≡ true) → All (IsKnown (log.head + 1)) digest →
    IsSound (opens_head log digest ids) passed entries
sound-opens log digest ids passed entries sound room shut known =
    let k : ℕ = log.head + 1 in
    let x : Segment = new_segment (log.head + 1) digest ids in
    record {
      few = omega arith;
      factor = sound.factor;
      size = sound.size;
      opening = λ none. absurd (omega arith);
      shut = put_each (λ o s. 0 < o → o < log.head + 1 - 1 → s.shut ≡ true) log.segments k x
          (λ above below. absurd (omega arith)) (λ o above below. shut o above (omega arith));
      head_open = ap (λ (s : Segment). s.shut) (put-at log.segments (log.head + 1) x);
      each = λ seg above below. ⊎_elim {C = IsSoundSegment log.size (log.head + 1) (put log.segments k x seg)}
          (λ (here : seg ≡ k).
          subst (IsSoundSegment log.size (log.head + 1)) (sym (ap (put log.segments k x) here ∙ put-at log.segments k x))
          (record { fits = omega arith; known = known }))
          (λ (apart : seg ≡ k → ⊥).
          let older : seg ≤ log.head = omega (arith, apart) in
          subst (IsSoundSegment log.size (log.head + 1)) (sym (put-other log.segments k x seg (λ (same : k ≡ seg). apart (sym same))))
          (record {
            fits = (sound.each seg above older).fits;
            known = known-more log.head (log.segments seg).digest
                (sound.each seg above older).known;
          }))
          (cases_eq seg k);
      passed_known = omega (arith, sound.passed_known);
      passed_shut = put_each (λ o s. 0 < o → o ≤ passed → s.shut ≡ true) log.segments k x
          (λ above below. absurd (omega (arith, sound.passed_known))) sound.passed_shut;
      passed_entries = sound.passed_entries ∙ entries_to-same log.segments (put log.segments k x) passed
          (λ seg above within. ap (λ (s : Segment). length s.entries)
          (sym (put-other log.segments k x seg (λ (same : log.head + 1 ≡ seg). omega (arith, sound.passed_known)))));
      passed_durable = sound.passed_durable;
    }

-- The phase goes on

-- while the head doesn't write
shut_before : (log : Log) (passed entries seg : ℕ) → IsSound log passed entries → is_writing log.phase ≡ false →
    0 < seg → seg < log.head - 1 → (log.segments seg).shut ≡ true
shut_before log passed entries seg sound quiet above below =
    sound.shut seg above (subst (λ (n : ℕ). seg < n) (sym (cond-false (is_writing log.phase) log.head (log.head - 1) quiet)) below)

-- the old head is shut, and the new one writes
pub sound-writes : (log : Log) (passed entries : ℕ) → IsSound log passed entries → 0 < log.head →
    is_writing log.phase ≡ false → (old_head_of log).shut ≡ true → IsSound (starts log) passed entries
sound-writes log passed entries sound some quiet old_shut = record {
  few = sound.few;
  factor = sound.factor;
  size = sound.size;
  opening = λ none. absurd (omega arith);
  shut = λ seg above below. ⊎_elim {C = (log.segments seg).shut ≡ true}
      (λ (last : seg ≡ log.head - 1). ap (λ (o : ℕ). (log.segments o).shut) last ∙ old_shut)
      (λ (apart : seg ≡ log.head - 1 → ⊥). shut_before log passed entries seg sound quiet above (omega (arith, apart)))
      (cases_eq seg (log.head - 1));
  head_open = sound.head_open;
  each = sound.each;
  passed_known = sound.passed_known;
  passed_shut = sound.passed_shut;
  passed_entries = sound.passed_entries;
  passed_durable = sound.passed_durable;
}

-- more of it is durable, and more segments were passed
pub sound-durable : (log : Log) (passed entries durable passed' entries' : ℕ) → IsSound log passed entries →
    passed' ≤ log.head → ((seg : ℕ) → 0 < seg → seg ≤ passed' → (log.segments seg).shut ≡ true) →
    entries' ≡ entries_to log.segments passed' → entries' ≤ durable →
    IsSound (record log { durable = durable }) passed' entries'
sound-durable log passed entries durable passed' entries' sound known shut is below = record {
  few = sound.few;
  factor = sound.factor;
  size = sound.size;
  opening = sound.opening;
  shut = sound.shut;
  head_open = sound.head_open;
  each = sound.each;
  passed_known = known;
  passed_shut = shut;
  passed_entries = is;
  passed_durable = below;
}

-- the digest of the next head
pub known-next : (p : ℕ → Bool) (head : ℕ) (digest : List ℕ) → All (IsKnown head) digest →
    All (IsKnown (head + 1)) (filter p digest ++ (head + 1) ∷ [])
known-next p head digest known =
    All-push (IsKnown (head + 1)) (filter p digest) (head + 1)
    (All-filter p (IsKnown (head + 1)) digest (known-more head digest known)) (omega arith, omega arith)
