-- The log goes on: what the code does to the old head and to freed segments is done to the log.
use Rattle.std.proofs.Common.{◌≡◌, ℕ, ◌+◌, ◌-◌, ◌<◌, true, false, ◌&&◌, not, eqb, List, [], ◌∷◌, ◌++◌, length, get_or, set, take}
use Rattle.std.proofs.Common.{refl, ap, sym, ◌∙◌, arith, Bool, filter}
use Rattle.std.specs.List.{list_any}
use Rattle.std.proofs.Math.Seq.{take-length}
use Rattle.std.proofs.lemmas.Bool.{cond-true, cond-false, and_parts, ltb-true, false≢true, eqb-true}
use Rattle.std.proofs.lemmas.List.{take_more}
use Rattle.std.proofs.lemmas.List.Elements.{filter-append}
use Rattle.rc_model.specs.Model.{Phase, Opening, Closing, Writing, Segment, no_segment, is_all_closed, is_ready, has_unclosed}
use Rattle.rc_model.specs.Model.{with_closes_sent, Log, head_of, old_head_of, has_old_head, has_segment, with_segment, is_opening}
use Rattle.rc_model.specs.Model.{is_closing, is_writing, shuts, with_shut, may_start, may_write, starts, left_out, with_freed}
use Rattle.rc_model.specs.Model.{close_is_due, close_marked}
use Rattle.rc_config.specs.Lists.{segment_at}
use Rattle.rc_headroll.specs.LogData.{LogData, log_of}
use Rattle.rc_headroll.specs.Soundness.{IsSound}
use Rattle.rc_config.proofs.SegmentTables.{segment_at-zero, put_each}
use Rattle.rc_headroll.proofs.SoundLogs.{sound-shut, sound-writes}
use Rattle.rc_headroll.proofs.LogChanges.{log_of-change, seg_place}

-- What the tests say

pub shuts-parts : (log : Log) → shuts log ≡ true → 1 < log.head
shuts-parts log e = ltb-true 1 log.head (and_parts (has_old_head log) (is_all_closed (old_head_of log)) e).0

pub may_start-parts : (log : Log) → may_start log ≡ true → log.head ≡ 1
may_start-parts log e =
    eqb-true log.head 1 (and_parts (eqb log.head 1) (is_ready (head_of log))
    (and_parts (is_opening log.phase) (eqb log.head 1 && is_ready (head_of log)) e).1).0

pub close_is_due-parts : (log : Log) → close_is_due log ≡ true → 1 < log.head
close_is_due-parts log e =
    let due : Bool = (old_head_of log).config.committed && has_unclosed (old_head_of log) in
    ltb-true 1 log.head (and_parts (has_old_head log) due (and_parts (is_closing log.phase) (has_old_head log && due) e).1).0

-- where there is no old head, nothing is left out
pub left_out-none : (kept : LogData) → length kept.segments < 2 → left_out (log_of kept) ≡ []
left_out-none kept few =
    let none : length kept.segments - 1 ≡ 0 = omega arith in
    let old : segment_at kept.segments (length kept.segments - 1) ≡ no_segment 0 =
    ap (segment_at kept.segments) none ∙ segment_at-zero kept.segments in
    ap (λ (s : Segment). filter (λ seg. not (list_any (eqb seg) (head_of (log_of kept)).digest)) s.digest) old

not-writing_closing : (phase : Phase) → is_closing phase ≡ true → is_writing phase ≡ false
not-writing_closing Closing e = refl
not-writing_closing Opening e = absurd (false≢true e)
not-writing_closing Writing e = absurd (false≢true e)

-- The old head

pub close-marked : (kept : LogData) (place : ℕ) (x was : Segment) → 1 < length kept.segments →
    place ≡ length kept.segments - 2 → was ≡ get_or kept.segments place was →
    x ≡ with_closes_sent was → log_of (record kept { segments = set kept.segments place x }) ≡ close_marked (log_of kept)
close-marked kept place x was more is read e =
    log_of-change kept place (length kept.segments - 1) with_closes_sent x was (omega arith) (omega arith) read e

pub commit-marked : (kept : LogData) (seg from : ℕ) (x was : Segment) → true ≡ has_segment (log_of kept) seg →
    from ≡ seg → was ≡ get_or kept.segments (from - 1) was →
    x ≡ record was { commit_sent = true } →
    log_of (record kept { segments = set kept.segments (from - 1) x }) ≡ with_segment seg
    (record (segment_at kept.segments seg) { commit_sent = true }) (log_of kept)
commit-marked kept seg from x was has is read e =
    let at = seg_place kept seg from has is in
    log_of-change kept (from - 1) seg (λ s. record s { commit_sent = true }) x was at.0 at.1 read e

shut-is : (kept : LogData) (place : ℕ) (x was : Segment) → 1 < length kept.segments → place ≡ length kept.segments - 2 →
    was ≡ get_or kept.segments place was →
    x ≡ record was { shut = true } →
    log_of (record kept { segments = set kept.segments place x }) ≡ with_segment (length kept.segments - 1)
    (record (old_head_of (log_of kept)) { shut = true }) (log_of kept)
shut-is kept place x was more is read e =
    log_of-change kept place (length kept.segments - 1) (λ s. record s { shut = true }) x was (omega arith) (omega arith) read e

pub shut-marked : (kept : LogData) (place : ℕ) (x was : Segment) → true ≡ shuts (log_of kept) →
    place ≡ length kept.segments - 2 → was ≡ get_or kept.segments place was →
    x ≡ record was { shut = true } → log_of (record kept { segments = set kept.segments place x }) ≡ with_shut (log_of kept)
shut-marked kept place x was may is read e =
    shut-is kept place x was (shuts-parts (log_of kept) (sym may)) is read e
    ∙ sym (cond-true (shuts (log_of kept))
    (with_segment (length kept.segments - 1) (record (old_head_of (log_of kept)) { shut = true }) (log_of kept))
    (log_of kept) (sym may))

pub sound-shut_marked : (kept : LogData) (place passed entries : ℕ) (x was : Segment) →
    IsSound (log_of kept) passed entries → true ≡ shuts (log_of kept) →
    place ≡ length kept.segments - 2 → was ≡ get_or kept.segments place was → x ≡ record was { shut = true } →
    IsSound (log_of (record kept { segments = set kept.segments place x })) passed entries
sound-shut_marked kept place passed entries x was sound may is read e =
    let more : 1 < length kept.segments = shuts-parts (log_of kept) (sym may) in
    rw (shut-is kept place x was more is read e) (sound-shut (log_of kept) passed entries sound more)

-- Freed segments

may_write-parts : (log : Log) → may_write log ≡ true → (is_closing log.phase ≡ true) × (1 < log.head) × ((old_head_of log).shut ≡ true)
may_write-parts log e =
    let parts = and_parts (is_closing log.phase) (has_old_head log && ((old_head_of log).shut && is_ready (head_of log))) e in
    let further = and_parts (has_old_head log) ((old_head_of log).shut && is_ready (head_of log)) parts.1 in
    (parts.0, ltb-true 1 log.head further.0, (and_parts (old_head_of log).shut (is_ready (head_of log)) further.1).0)

pub may_write-more : (log : Log) → may_write log ≡ true → 1 < log.head
may_write-more log may = (may_write-parts log may).1

-- the new head writes
pub sound-writing : (log : Log) (passed entries : ℕ) → IsSound log passed entries → may_write log ≡ true →
    IsSound (starts log) passed entries
sound-writing log passed entries sound may =
    let parts = may_write-parts log may in
    sound-writes log passed entries sound (omega (arith, parts.1)) (not-writing_closing log.phase parts.0) parts.2

-- one segment is freed
pub freed-marked : (kept : LogData) (seg from : ℕ) (x was : Segment) → true ≡ has_segment (log_of kept) seg →
    from ≡ seg → was ≡ get_or kept.segments (from - 1) was →
    x ≡ record was { freed = true } →
    log_of (record kept { segments = set kept.segments (from - 1) x }) ≡ with_segment seg
    (record (segment_at kept.segments seg) { freed = true }) (log_of kept)
freed-marked kept seg from x was has is read e =
    let at = seg_place kept seg from has is in
    log_of-change kept (from - 1) seg (λ s. record s { freed = true }) x was at.0 at.1 read e

-- Those that a digest leaves out are freed, one after another

pub with_freed-append : (xs ys : List ℕ) (log : Log) → with_freed (xs ++ ys) log ≡ with_freed ys (with_freed xs log)
with_freed-append [] ys log = refl
with_freed-append (x ∷ xs) ys log = with_freed-append xs ys (with_segment x (record (log.segments x) { freed = true }) log)

freed-digest : (segs : List ℕ) (log : Log) (seg : ℕ) → ((with_freed segs log).segments seg).digest ≡ (log.segments seg).digest
freed-digest [] log seg = refl
freed-digest (x ∷ xs) log seg =
    freed-digest xs (with_segment x (record (log.segments x) { freed = true }) log) seg
    ∙ put_each (λ o s. s.digest ≡ (log.segments o).digest) log.segments x (record (log.segments x) { freed = true }) refl
    (λ o. refl) seg

freed-head : (segs : List ℕ) (log : Log) → (with_freed segs log).head ≡ log.head
freed-head [] log = refl
freed-head (x ∷ xs) log = freed-head xs (with_segment x (record (log.segments x) { freed = true }) log)

pub freed-heads : (segs : List ℕ) (log now : Log) → now ≡ with_freed segs log → now.head ≡ log.head
freed-heads segs log now is = ap (λ (l : Log). l.head) is ∙ freed-head segs log

-- the digests stay
pub freed-newest : (segs : List ℕ) (log now : Log) → now ≡ with_freed segs log → (head_of now).digest ≡ (head_of log).digest
freed-newest segs log now is =
    ap (λ (l : Log). (head_of l).digest) is
    ∙ freed-digest segs log (with_freed segs log).head ∙ ap (λ (n : ℕ). (log.segments n).digest) (freed-head segs log)

pub freed-previous : (segs : List ℕ) (log now : Log) → now ≡ with_freed segs log →
    (old_head_of now).digest ≡ (old_head_of log).digest
freed-previous segs log now is =
    ap (λ (l : Log). (old_head_of l).digest) is
    ∙ freed-digest segs log ((with_freed segs log).head - 1)
    ∙ ap (λ (n : ℕ). (log.segments (n - 1)).digest) (freed-head segs log)

-- those among the first so many of the old head's digest that the head's lacks
abbrev pub left_to : Log → ℕ → List ℕ
left_to log n = filter (λ seg. not (list_any (eqb seg) (head_of log).digest)) (take n (old_head_of log).digest)

left_to-more : (log : Log) (n : ℕ) → n < length (old_head_of log).digest →
    left_to log (n + 1) ≡ left_to log n ++
    filter (λ seg. not (list_any (eqb seg) (head_of log).digest)) (get_or (old_head_of log).digest n 0 ∷ [])
left_to-more log n inside =
    ap (filter (λ seg. not (list_any (eqb seg) (head_of log).digest))) (take_more (old_head_of log).digest n 0 inside)
    ∙ filter-append (λ seg. not (list_any (eqb seg) (head_of log).digest)) (take n (old_head_of log).digest)
    (get_or (old_head_of log).digest n 0 ∷ [])

-- one more is freed, if it is left out
pub freed-more : (log now next : Log) (n : ℕ) → now ≡ with_freed (left_to log n) log → n < length (old_head_of log).digest →
    next ≡ with_freed (filter (λ seg. not (list_any (eqb seg) (head_of now).digest))
    (get_or (old_head_of now).digest n 0 ∷ [])) now → next ≡ with_freed (left_to log (n + 1)) log
freed-more log now next n is inside more =
    let newest = freed-newest (left_to log n) log now is in
    let previous = freed-previous (left_to log n) log now is in
    more
    ∙ ap (λ (ds : List ℕ). with_freed (filter (λ seg. not (list_any (eqb seg) ds)) (get_or (old_head_of now).digest n 0 ∷ [])) now)
    newest
    ∙ ap (λ (ds : List ℕ). with_freed (filter (λ seg. not (list_any (eqb seg) (head_of log).digest)) (get_or ds n 0 ∷ [])) now)
    previous
    ∙ ap (with_freed (filter (λ seg. not (list_any (eqb seg) (head_of log).digest)) (get_or (old_head_of log).digest n 0 ∷ []))) is
    ∙ sym (with_freed-append (left_to log n) _ log)
    ∙ ap (λ (segs : List ℕ). with_freed segs log) (sym (left_to-more log n inside))

filter-out : (p : ℕ → Bool) (x : ℕ) → p x ≡ false → filter p (x ∷ []) ≡ []
filter-out p x e = cond-false (p x) (x ∷ []) [] e

-- one that stands in the head's digest is not left out
pub freed-not : (log now : Log) (n : ℕ) → now ≡ with_freed (left_to log n) log → n < length (old_head_of log).digest →
    list_any (eqb (get_or (old_head_of now).digest n 0)) (head_of now).digest ≡ true → now ≡ with_freed (left_to log (n + 1)) log
freed-not log now n is inside stands =
    freed-more log now now n is inside
    (ap (λ (segs : List ℕ). with_freed segs now)
    (sym (filter-out (λ seg. not (list_any (eqb seg) (head_of now).digest)) (get_or (old_head_of now).digest n 0) (ap not stands))))

-- all of them
pub freed-all : (log now : Log) (n : ℕ) → now ≡ with_freed (left_to log n) log → n ≡ length (old_head_of log).digest →
    now ≡ with_freed (left_out log) log
freed-all log now n is all =
    is ∙ ap (λ (segs : List ℕ). with_freed (filter (λ seg. not (list_any (eqb seg) (head_of log).digest)) segs) log)
    (ap (λ (m : ℕ). take m (old_head_of log).digest) all ∙ take-length (old_head_of log).digest)
