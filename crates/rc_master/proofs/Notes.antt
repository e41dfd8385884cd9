-- The notes of a log stay those of the log, whatever is done to it.
use Rattle.std.proofs.Common.{◌≡◌, ℕ, zero, suc, ◌+◌, ◌-◌, ◌<◌, ◌≤◌, Bool, true, false, cond, not, ◌&&◌}
use Rattle.std.proofs.Common.{nat_eq, nat_lt, List, [], ◌∷◌}
use Rattle.std.proofs.Common.{◌++◌, length, take, map, filter, Option, Some, None, Result, Ok, Err, is_err, refl, sym, ap, ◌∙◌}
use Rattle.std.proofs.Common.{subst}
use Rattle.std.proofs.Common.{arith}
use Rattle.std.proofs.lemmas.List.{append-nil, map-append, length-map}
use Rattle.std.proofs.lemmas.Bool.{and_parts, ltb-true, ne_eqb}
use Rattle.std.proofs.Math.Numerals.{add-one}
use Rattle.rc_model.specs.Heads.{opened_on}
use Rattle.rc_model.specs.Model.{ServerId, Entry, Fault, LogFull, Rolling, Writing, LAST_SEGMENT, put, ServerList, Config, choose, noted}
use Rattle.rc_model.specs.Model.{committed_at, lose, refill, Segment, new_segment, is_ready, with_closes_sent, Log, LogPlace, head_of}
use Rattle.rc_model.specs.Model.{old_head_of, has_old_head, has_segment, with_segment, places_in, places_to, places_of, entries_of}
use Rattle.rc_model.specs.Model.{numbers_to, durable_now, is_closing, is_writing, is_full, append_fault, opens_head, appends, next_digest}
use Rattle.rc_model.specs.Model.{begin_roll, with_config, stored, commit_noted, opens_change, refills, loses, shuts, with_shut, may_start}
use Rattle.rc_model.specs.Model.{may_write, left_out, starts, closes_old, writes_on, close_marked, PartState, Task, replayed_at}
use Rattle.rc_model.proofs.Tests.{either, true_false}
use Rattle.rc_model.proofs.Tables.{put_each, put-same, put-other}
use Rattle.rc_model.proofs.LogParts.{places_to-agrees, total, total-places, durable-within, marked, with_freed-marked, marked-alone}
use Rattle.rc_model.proofs.Numbering.{places-push}
use Rattle.rc_headroll.proofs.LogSteps.{may_start-parts}
use Rattle.rc_ownership.specs.Marks.{marked as marked_of}
use Rattle.rc_master.specs.Notes.{AreNotes}

-- the places are the same
pub record SamePlaces (old new : Log) : Type 0 where
  pub places : places_of new ≡ places_of old
  pub durable : new.durable ≡ old.durable
  pub opened : (is_writing old.phase ≡ true → 0 < old.head) → is_writing new.phase ≡ true → 0 < new.head
  pub factor : new.factor ≡ old.factor

pub notes-same : {replayed : List Bool} {handed : Option ℕ} {parts : List PartState} {tasks : List Task} (old new : Log)
    (notes : List Entry) (durable : ℕ) →
    SamePlaces old new → AreNotes old notes replayed handed durable parts tasks →
    AreNotes new notes replayed handed durable parts tasks
notes-same old new notes durable same are = record {
  entries = are.entries ∙ ap (map (λ (place : LogPlace). place.entry)) (sym same.places);
  replays = are.replays ∙ ap (map (λ (place : LogPlace). not place.client)) (sym same.places);
  none_handed = are.none_handed;
  durable_are = are.durable_are ∙ sym same.durable;
  opened = same.opened are.opened;
  replicas = subst (λ n. 0 < n) (sym same.factor) are.replicas;
  tasks_are = are.tasks_are;
}

pub same-log : (log : Log) → SamePlaces log log
same-log log = record { places = refl; durable = refl; opened = λ opened. opened; factor = refl }

-- a segment with the same entries is put into its place
pub same-put : (log : Log) (seg : ℕ) (segment : Segment) → segment.entries ≡ (log.segments seg).entries →
    SamePlaces log (with_segment seg segment log)
same-put log seg segment e = record {
  places = places_to-agrees log.segments (put log.segments seg segment) log.head
      (λ k _. put_each (λ j (s : Segment). s.entries ≡ (log.segments j).entries) log.segments seg segment e (λ j. refl) k);
  durable = refl;
  opened = λ opened. opened;
  factor = refl;
}

pub same-stored : (seg : ℕ) (from : ServerId) (epoch len : ℕ) (closed : Bool) (log : Log) →
    SamePlaces log (stored seg from epoch len closed log)
same-stored seg from epoch len closed log =
    either (SamePlaces log) (has_segment log seg) (with_config seg (noted from epoch len closed (log.segments seg).config) log) log
    (λ _. same-put log seg (record (log.segments seg) {
      config = noted from epoch len closed (log.segments seg).config;
    }) refl) (λ _. same-log log)

pub same-committed : (seg epoch : ℕ) (log : Log) → SamePlaces log (commit_noted seg epoch log)
same-committed seg epoch log =
    either (SamePlaces log) (has_segment log seg) (with_config seg (committed_at epoch (log.segments seg).config) log) log
    (λ _. same-put log seg (record (log.segments seg) { config = committed_at epoch (log.segments seg).config }) refl) (λ _. same-log log)

pub same-shut : (log : Log) → SamePlaces log (with_shut log)
same-shut log =
    either (SamePlaces log) (shuts log) (with_segment (log.head - 1) (record (old_head_of log) { shut = true }) log) log
    (λ _. same-put log (log.head - 1) (record (old_head_of log) { shut = true }) refl) (λ _. same-log log)

pub same-starts : (log : Log) → may_start log ≡ true → SamePlaces log (starts log)
same-starts log may = let first : log.head ≡ 1 =
    may_start-parts log may in record { places = refl; durable = refl; opened = λ _ _. omega arith; factor = refl }

pub same-closes : (log : Log) → SamePlaces log (closes_old log)
same-closes log = record { places = refl; durable = refl; opened = λ _ writing. true_false (sym writing); factor = refl }

pub same-close_marked : (log : Log) → SamePlaces log (close_marked log)
same-close_marked log = same-put log (log.head - 1) (with_closes_sent (old_head_of log)) refl

pub same-commit_sent : (log : Log) (seg : ℕ) → SamePlaces log (with_segment seg (record (log.segments seg) { commit_sent = true }) log)
same-commit_sent log seg = same-put log seg (record (log.segments seg) { commit_sent = true }) refl

pub may_write-head : (log : Log) → may_write log ≡ true → 1 < log.head
may_write-head log may =
    let rest : Bool = (old_head_of log).shut && is_ready (head_of log) in
    ltb-true 1 log.head (and_parts (has_old_head log) rest (and_parts (is_closing log.phase) (has_old_head log && rest) may).1).0

pub same-writes_on : (log : Log) → may_write log ≡ true → SamePlaces log (writes_on log)
same-writes_on log may =
    let segs : List ℕ = left_out log in
    let over : 1 < log.head = may_write-head log may in
    subst (SamePlaces log) (sym (with_freed-marked segs (record log { phase = Writing })))
    (record {
      places = places_to-agrees log.segments (marked segs log.segments) log.head (λ k _. (marked-alone segs log.segments k).parts.entries);
      durable = refl;
      opened = λ _ _. omega arith;
      factor = refl;
    })

-- Heads that are opened

not-after : (head k : ℕ) → k ≤ head → nat_eq (head + 1) k ≡ false
not-after head k most = ne_eqb (head + 1) k (λ same. omega arith)

pub same-opened : (log : Log) (digest : List ℕ) (ids : List ServerId) → SamePlaces log (opens_head log digest ids)
same-opened log digest ids = record { places = places; durable = refl; opened = λ _ writing. true_false (sym writing); factor = refl }
  where
    places : places_of (opens_head log digest ids) ≡ places_of log
    places =
        let fresh : Segment = new_segment (log.head + 1) digest ids in
        let new : ℕ → Segment = put log.segments (log.head + 1) fresh in
        let below : places_to new log.head ≡ places_to log.segments log.head =
        places_to-agrees log.segments new log.head (λ k most. ap (λ (s : Segment). s.entries)
        (put-other log.segments (log.head + 1) fresh (not-after log.head k most))) in
        let last : (new (suc log.head)).entries ≡ [] = ap (λ k. (new k).entries) (sym (add-one log.head)) ∙
        ap (λ (s : Segment). s.entries) (put-same log.segments (log.head + 1)) in
        ap (places_to new) (add-one log.head)
        ∙ (ap (λ entries. places_to new log.head ++ places_in (suc log.head) 0 entries) last
        ∙ (append-nil (places_to new log.head) ∙ below))

-- the log is one with a new head
pub record IsOpened (old new : Log) : Type 0 where
  pub same : SamePlaces old new
  pub head : new.head ≡ old.head + 1

err_ok : {P : Type 0} {A E : Type 0} {fault : E} {value : A} → ◌≡◌ {A = Result A E} (Err fault) (Ok value) → P
err_ok {P} {A} {E} e = true_false (ap (λ (r : Result A E). is_err r) e)

opened-is : (log : Log) (digest : List ℕ) (ids : List ServerId) → IsOpened log (opens_head log digest ids)
opened-is log digest ids = record { same = same-opened log digest ids; head = refl }

opened_on-is : (log new : Log) (dead : List ℕ) (chosen : Option (List ServerId)) (began : Bool) →
    opened_on log (next_digest log dead) chosen ≡ (new, Ok began) → IsOpened log new
opened_on-is log new dead None began e = err_ok (ap (λ (r : Log × Result Bool Fault). r.1) e)
opened_on-is log new dead (Some ids) began e =
    subst (IsOpened log) (ap (λ (r : Log × Result Bool Fault). r.0) e) (opened-is log (next_digest log dead) ids)

-- a roll that began
pub roll-is : (servers : ServerList) (dead : List ℕ) (log new : Log) (began : Bool) →
    begin_roll servers dead log ≡ (new, Ok began) → IsOpened log new
roll-is servers dead log new began =
    either (λ (r : Log × Result Bool Fault). r ≡ (new, Ok began) → IsOpened log new) (nat_lt log.head LAST_SEGMENT)
    (opened_on log (next_digest log dead) (choose (log.head + 1) log.own log.factor servers)) (log, Err LogFull)
    (λ _ e. opened_on-is log new dead (choose (log.head + 1) log.own log.factor servers) began e)
    (λ _ e. err_ok (ap (λ (r : Log × Result Bool Fault). r.1) e))

-- Lost members

abbrev SameHead : Log → Log → Type 0
SameHead old new = SamePlaces old new × (new.head ≡ old.head)

same-refills : (seg : ℕ) (log : Log) (done : Config × Result (List ServerId) Fault) → SameHead log (refills seg log done).0
same-refills seg log (config, answer) = (same-put log seg (record (log.segments seg) { config = config }) refl, refl)

same-change : (seg : ℕ) (log : Log) (done : Config × Result Bool Fault) → SameHead log (opens_change seg log done).0
same-change seg log (config, Ok true) =
    (same-put log seg (record (log.segments seg) { config = config; commit_sent = false; closes_sent = [] }) refl, refl)
same-change seg log (config, Ok false) = (same-put log seg (record (log.segments seg) { config = config }) refl, refl)
same-change seg log (config, Err fault) = (same-put log seg (record (log.segments seg) { config = config }) refl, refl)

lost-same : (servers : ServerList) (seg : ℕ) (log : Log) → SameHead log (loses servers seg log).0
lost-same servers seg log =
    either (λ (r : Log × Result (List ServerId) Fault). SameHead log r.0) (log.segments seg).shut
    (refills seg log (refill log.own servers (log.segments seg).config))
    (opens_change seg log (lose log.own servers (log.segments seg).config))
    (λ _. same-refills seg log (refill log.own servers (log.segments seg).config))
    (λ _. same-change seg log (lose log.own servers (log.segments seg).config))

pub loses-same : (servers : ServerList) (seg : ℕ) (log new : Log) (answer : Result (List ServerId) Fault) →
    loses servers seg log ≡ (new, answer) → SameHead log new
loses-same servers seg log new answer e =
    subst (SameHead log) (ap (λ (r : Log × Result (List ServerId) Fault). r.0) e) (lost-same servers seg log)

-- Entries and durable places

entries-appended : (log : Log) (entry : Entry) (client : Bool) → 0 < log.head →
    entries_of (appends entry client log) ≡ entries_of log ++ entry ∷ []
entries-appended log entry client some =
    let place : LogPlace = record { seg = log.head; offset = length (log.segments log.head).entries; entry = entry; client = client } in
    ap (map (λ (p : LogPlace). p.entry)) (places-push log.segments log.head entry client some)
    ∙ map-append (λ (p : LogPlace). p.entry) (places_of log) (place ∷ [])

marks-appended : (log : Log) (entry : Entry) (client : Bool) → 0 < log.head →
    map (λ place. not place.client) (places_of (appends entry client log))
    ≡ map (λ place. not place.client) (places_of log) ++ not client ∷ []
marks-appended log entry client some =
    let place : LogPlace = record { seg = log.head; offset = length (log.segments log.head).entries; entry = entry; client = client } in
    ap (map (λ (p : LogPlace). not p.client)) (places-push log.segments log.head entry client some)
    ∙ map-append (λ (p : LogPlace). not p.client) (places_of log) (place ∷ [])

-- an entry is appended and noted: marked where no client wrote it
pub notes-appended : {parts : List PartState} {tasks : List Task} (log : Log) (notes : List Entry) (replayed : List Bool)
    (durable : ℕ) (entry : Entry) (client mark : Bool) → 0 < log.head → mark ≡ not client →
    AreNotes log notes replayed None durable parts tasks →
    AreNotes (appends entry client log) (notes ++ entry ∷ []) (replayed ++ mark ∷ []) None durable parts tasks
notes-appended log notes replayed durable entry client mark some is are = record {
  entries = ap (λ (es : List Entry). es ++ entry ∷ []) are.entries ∙ sym (entries-appended log entry client some);
  replays = ap (λ (b : Bool). replayed ++ b ∷ []) is ∙ ap (λ (bs : List Bool). bs ++ not client ∷ []) are.replays
      ∙ sym (marks-appended log entry client some);
  none_handed = refl;
  durable_are = are.durable_are;
  opened = are.opened;
  replicas = are.replicas;
  tasks_are = are.tasks_are;
}

-- no more is durable than was noted
pub durable-fits : {replayed : List Bool} {handed : Option ℕ} {parts : List PartState} {tasks : List Task} (log : Log)
    (notes : List Entry) (durable : ℕ) →
    AreNotes log notes replayed handed durable parts tasks → durable_now log ≤ length notes
durable-fits log notes durable are =
    let most : durable_now log ≤ total (map log.segments (numbers_to log.head)) = durable-within (map log.segments (numbers_to log.head)) in
    let all : total (map log.segments (numbers_to log.head)) ≡ length (places_of log) = total-places log.segments log.head in
    let len : length notes ≡ length (places_of log) = ap length are.entries ∙ simp length-map in
    omega arith

-- what can be appended goes to a head that writes
pub possible-writes : (log : Log) → append_fault log ≡ None → is_writing log.phase ≡ true
possible-writes log e = by (is_writing log.phase) refl
  where
    by : (b : Bool) → is_writing log.phase ≡ b → is_writing log.phase ≡ true
    by true is = is
    by false is = let rolling : append_fault log ≡ Some Rolling = ap (λ b. cond (not b) (Some Rolling)
        (cond (not (is_full log)) None (cond (nat_lt log.head LAST_SEGMENT) (Some Rolling) (Some LogFull)))) is in cc

-- what was replayed, by the marks of its places
marked-places : (count : ℕ) (places : List LogPlace) →
    marked_of (take count (map (λ place. not place.client) places)) (take count (map (λ place. place.entry) places))
    ≡ replayed_at (take count places)
marked-places zero places = refl
marked-places (suc count) [] = refl
marked-places (suc count) (place ∷ places) = by place.client (marked-places count places)
  where
    by : (client : Bool) →
        marked_of (take count (map (λ one. not one.client) places)) (take count (map (λ one. one.entry) places))
        ≡ replayed_at (take count places) →
        cond (not client) (place.entry ∷ marked_of (take count (map (λ one. not one.client) places))
        (take count (map (λ one. one.entry) places)))
        (marked_of (take count (map (λ one. not one.client) places)) (take count (map (λ one. one.entry) places)))
        ≡ map (λ one. one.entry) (cond (not client) (place ∷ filter (λ one. not one.client) (take count places))
        (filter (λ one. not one.client) (take count places)))
    by true rest = rest
    by false rest = ap (λ (es : List Entry). place.entry ∷ es) rest

-- the durable entries that were replayed, by the notes
pub replayed-same : {handed : Option ℕ} {parts : List PartState} {tasks : List Task} (log : Log) (notes : List Entry)
    (replayed : List Bool) (durable : ℕ) → AreNotes log notes replayed handed durable parts tasks →
    marked_of (take durable replayed) (take durable notes) ≡ replayed_at (take log.durable (places_of log))
replayed-same log notes replayed durable are =
    ap (λ (n : ℕ). marked_of (take n replayed) (take n notes)) are.durable_are
    ∙ ap (λ (es : List Entry). marked_of (take log.durable replayed) (take log.durable es)) are.entries
    ∙ ap (λ (bs : List Bool). marked_of (take log.durable bs) (take log.durable (entries_of log))) are.replays
    ∙ marked-places log.durable (places_of log)
