-- The rules that follow up an input, one by one, and then until none applies.
use Rattle.std.proofs.Common.{◌≡◌, ◌⊎◌, ℕ, ◌+◌, ◌-◌, ◌<◌, Bool, true, false, not, nat_eq, ◌&&◌, List, [], ◌∷◌, ◌++◌, length, take, map}
use Rattle.std.proofs.Common.{filter, slice_get, Some, refl, sym, ap, ◌∙◌, subst, inl, inr, arith}
use Rattle.std.proofs.lemmas.Bool.{and_parts, eqb-true, ltb-true}
use Rattle.std.specs.List.{list_any}
use Rattle.std.proofs.lemmas.List.{length-map}
use Rattle.rc_model.specs.Model.{ServerId, Server, Entry, Member, Phase, Opening, Closing, Writing, Message, Body, Place, WriteOk, Close}
use Rattle.rc_model.specs.Model.{Commit, Ready, Recovered, between, to_coordinator, told_closed, is_closed, all_placed, all_closed}
use Rattle.rc_model.specs.Model.{Segment, is_ready, is_all_closed, is_unclosed, has_unclosed, Log, LogPlace, places_of}
use Rattle.rc_model.specs.Model.{head_of, old_head_of, has_old_head, with_segment, numbers_to, is_opening, is_closing, durable_now, shuts}
use Rattle.rc_model.specs.Model.{may_start, may_close, may_write, left_out, with_freed, starts, closes_old, writes_on, after_replay}
use Rattle.rc_model.specs.Model.{Master, with_log, to_ids, ids_of, appends_entry, close_is_due}
use Rattle.rc_model.specs.Model.{close_marked, frees_segments, first_open, commits, write_oks, new_durable, attempt_of, goes_on}
use Rattle.rc_model.specs.Model.{In}
use Rattle.rc_model.proofs.Members.{In-append, In-map, In-filter}
use Rattle.rc_step_laws.specs.All.{log_in, IsOpened, HasToldClosed, IsSafe, LogLater, OwnFine, MasterSays}
use Rattle.rc_step_laws.proofs.Lists.{begins-refl, get-drop, get-take}
use Rattle.rc_step_laws.proofs.LogViews.{Grown, safe-grown, told_closed-more}
use Rattle.rc_step_laws.proofs.Tests.{all-each, find-one}
use Rattle.rc_step_laws.proofs.LogMoves.{GoodSegment, GoodLog, LogMoved, more-left, segment-more, moved-log, log_moved-then}
use Rattle.rc_step_laws.proofs.Places.{numbers-In, places_to-are, place-logged, durable-within}
use Rattle.rc_step_laws.proofs.Safe.{durable-safe}
use Rattle.rc_step_laws.proofs.Segments.{log-later, later-refl, counted-still, within-still, put-moved, marked-moved}
use Rattle.rc_step_laws.proofs.Views.{GoodView, Moved, moved-quiet, AllQuiet, IsQuietOf, quiet-none, quiet-one, quiet-says}
use Rattle.rc_step_laws.proofs.Views.{quiet-no_place, quiet-moved, Kept, joined}
use Rattle.rc_step_laws.proofs.Rolling.{writing-is}
use Rattle.rc_model.proofs.Walk.{Followed, kept-goes_on}
use Rattle.rc_model.proofs.Sending.{each-frees, each-write_oks, each-to_ids}
use Rattle.rc_step_laws.proofs.Writing.{moved-appends, moved-opens_roll}
use Rattle.rc_model.proofs.Tables.{put-same}
use Rattle.rc_model.proofs.Tests.{true_false}

-- The phase

opening-is : (phase : Phase) → is_opening phase ≡ true → phase ≡ Opening
opening-is Opening e = refl
opening-is Closing e = true_false (sym e)
opening-is Writing e = true_false (sym e)

-- a change of phase: to Writing where all but the head are shut, or to another from one in which the head was empty
phase-moved : {sent : List Message} {m : ServerId} {log : Log} {phase : Phase} → GoodLog sent m log → OwnFine sent m log
    → (phase ≡ Writing → 0 < log.head) → (phase ≡ Writing → (s : ℕ) → 0 < s → s < log.head → (log.segments s).shut ≡ true)
    → ((phase ≡ Writing → ⊥) → log_in log log.head ≡ []) → LogMoved sent m log (record log { phase = phase }) []
phase-moved {sent} {m} {log} {phase} good fine opened shut empty = moved-log good fine (record {
  later = later;
  says = λ message at. absurd at;
  own = good.own;
  none_below = good.none_below;
  none_above = good.none_above;
  writing_opened = opened;
  empty = empty;
  each = λ s. each s (segment-more (more-left sent []) (good.each s));
  news = λ x s e digest entries at. absurd at;
  counted = counted-still sent (sent ++ []) m log (record log { phase = phase }) good later refl;
  digests = λ s over upto. absurd (omega arith);
  durable_within = within-still good later refl;
})
  where
    later : LogLater (sent ++ []) m log (record log { phase = phase })
    later = log-later (omega arith) (λ s. later-refl)

    each : (s : ℕ) → GoodSegment (sent ++ []) m log.phase log.head s (log.segments s) →
        GoodSegment (sent ++ []) m phase log.head s (log.segments s)
    each s p = search arith

-- quiet messages after a move that sends nothing
then-quiet : {sent : List Message} {m : ServerId} {old new : Log} {messages : List Message} → GoodLog sent m old →
    LogMoved sent m old new [] → AllQuiet m messages → LogMoved sent m old new messages
then-quiet good moved all = log_moved-then good moved (quiet-moved moved.good moved.fine all)

ready-quiet : {m own : ServerId} → own ≡ m → AllQuiet m (to_coordinator own Ready ∷ [])
ready-quiet is = quiet-one (record { from = ap Server is; quiet = λ _ _ _ _ _ _. tt })

moved-start : {m : ServerId} (master : Master) → may_start master.log ≡ true →
    Kept m master (with_log master (starts master.log), to_coordinator master.log.own Ready ∷ [])
moved-start master e sent view = (
    let both = and_parts (is_opening master.log.phase) (nat_eq master.log.head 1 && is_ready (head_of master.log)) e in
    let first : master.log.head ≡ 1 =
    eqb-true master.log.head 1 (and_parts (nat_eq master.log.head 1) (is_ready (head_of master.log)) both.1).0 in
    record {
      log = then-quiet view.log (phase-moved view.log view.fine (λ _. omega arith)
          (λ _ s above less. absurd (omega arith)) (λ quiet. absurd (quiet refl))) (ready-quiet view.log.own);
      known = view.known;
    })

moved-placed : {m : ServerId} (master : Master) → may_close master.log ≡ true → Kept m master (with_log master (closes_old master.log), [])
moved-placed master e sent view = (
    let was : master.log.phase ≡ Opening =
    opening-is master.log.phase
    (and_parts (is_opening master.log.phase) (has_old_head master.log && all_placed (head_of master.log).config)
    e).0 in
    record {
      log = phase-moved view.log view.fine (λ writing. closing_writing writing)
          (λ writing. closing_writing writing) (λ _. view.log.empty (λ writing. opening_writing (sym was ∙ writing)));
      known = view.known;
    })
  where
    closing_writing : {P : Type 0} → Closing ≡ Writing → P
    closing_writing e = cc

    opening_writing : {P : Type 0} → Opening ≡ Writing → P
    opening_writing e = cc

-- the old head
old_head-opened : (log : Log) → has_old_head log ≡ true → (0 < log.head - 1) × (log.head - 1 < log.head)
old_head-opened log e = (let over : 1 < log.head = ltb-true 1 log.head e in (omega arith, omega arith))

-- no Place is a Close
close-no_place : {P : Type 0} (m own : ServerId) (ids : List ServerId) (x : ServerId) (s e t len : ℕ) (digest : List ℕ)
    (entries : List Entry) (closed : Bool)
    → In (between m x (Place s e digest entries closed)) (to_ids own ids (Close t len)) → P
close-no_place m own ids x s e t len digest entries closed at =
    let found = In-map (λ (id : ServerId). between own id (Close t len)) (between m x (Place s e digest entries closed)) ids at in
    let body : ◌≡◌ {A = Body} (Place s e digest entries closed) (Close t len) = ap (λ (message : Message). message.body) found.2 in cc

moved-closing : {m : ServerId} (master : Master) → close_is_due master.log ≡ true → Kept m master (
  with_log master (close_marked master.log),
  to_ids master.log.own (ids_of (filter (is_unclosed (old_head_of master.log)) (old_head_of master.log).config.members))
      (Close (master.log.head - 1) (length (old_head_of master.log).entries)),
)
moved-closing {m} master e sent view = (
    let second = and_parts (is_closing log.phase)
    (has_old_head log && ((old_head_of log).config.committed && has_unclosed (old_head_of log))) e in
    let over = old_head-opened log
    (and_parts (has_old_head log) ((old_head_of log).config.committed && has_unclosed (old_head_of log)) second.1).0
    in
    record {
      log = marked-moved view.log view.fine
          (record { above = over.0; below = omega arith }) (record { entries = refl; digest = refl; shut = refl; config = refl })
          (each-to_ids (MasterSays sent (sent ++ messages) m log (close_marked log)) ids (λ x at. record {
            from = ap Server view.log.own;
            says = record {
              above = over.0;
              final = over.1;
              whole = sym (length-map (old_head_of log).entries (λ (one : Entry × Bool). one.0))
                  ∙ sym (ap (λ (segment : Segment). length (map (λ (one : Entry × Bool). one.0) segment.entries))
                  (put-same log.segments (log.head - 1)));
            };
          })) (λ x t f digest entries at. close-no_place m log.own ids x t f (log.head - 1)
          (length (old_head_of log).entries) digest entries false at);
      known = view.known;
    })
  where
    log : Log
    log = master.log

    ids : List ServerId
    ids = ids_of (filter (is_unclosed (old_head_of log)) (old_head_of log).config.members)

    messages : List Message
    messages = to_ids log.own ids (Close (log.head - 1) (length (old_head_of log).entries))

-- Writing in the new head

freed-moved : (segs : List ℕ) {sent : List Message} {m : ServerId} {log : Log} → GoodLog sent m log →
    OwnFine sent m log → ((s : ℕ) → In s segs → IsOpened log s) → LogMoved sent m log (with_freed segs log) []
freed-moved [] {m} good fine opened = quiet-moved good fine (quiet-none m)
freed-moved (s ∷ segs) {sent} {m} {log} good fine opened =
    let next : Log = with_segment s (record (log.segments s) { freed = true }) log in
    let first : LogMoved sent m log next [] =
    marked-moved good fine (opened s (inl refl))
    (record { entries = refl; digest = refl; shut = refl; config = refl }) (λ message at. absurd at)
    (λ x t e digest entries at. absurd at) in
    log_moved-then good first (freed-moved segs first.good first.fine
    (λ t at. (let was = opened t (inr at) in record { above = was.above; below = was.below })))

frees-quiet : {m : ServerId} (log : Log) (segs : List ℕ) → log.own ≡ m → AllQuiet m (frees_segments log segs)
frees-quiet {m} log segs own = each-frees (IsQuietOf m) log segs (λ seg id at. record { from = ap Server own; quiet = λ _ _ _ _ _ _. tt })

moved-shut : {m : ServerId} (master : Master) → may_write master.log ≡ true →
    Kept m master (with_log master (writes_on master.log), frees_segments master.log (left_out master.log))
moved-shut {m} master e sent view = (
    let second = and_parts (is_closing log.phase) (has_old_head log && ((old_head_of log).shut && is_ready (head_of log))) e in
    let third = and_parts (has_old_head log) ((old_head_of log).shut && is_ready (head_of log)) second.1 in
    let over = old_head-opened log third.0 in
    let shut : (log.segments (log.head - 1)).shut ≡ true = (and_parts (old_head_of log).shut (is_ready (head_of log)) third.1).0 in
    let first : LogMoved sent m log (starts log) [] = phase-moved view.log view.fine
    (λ _. omega arith) (λ _ s above less. all_shut shut s above less) (λ quiet. absurd (quiet refl)) in
    let freed : LogMoved (sent ++ []) m (starts log) (writes_on log) [] =
    freed-moved (left_out log) first.good first.fine (λ s at. (
    let there = (In-filter (λ seg. not (list_any (nat_eq seg) (head_of log).digest)) s (old_head_of log).digest at).0 in
    let p = (view.log.digests (log.head - 1) (record { above = over.0; below = omega arith })).upto s there in
    record { above = p.0; below = omega (arith, p.1) })) in
    record {
      log = then-quiet view.log (log_moved-then view.log first freed) (frees-quiet log (left_out log) view.log.own);
      known = view.known;
    })
  where
    log : Log
    log = master.log

    all_shut : (log.segments (log.head - 1)).shut ≡ true → (s : ℕ) → 0 < s → s < log.head → (log.segments s).shut ≡ true
    all_shut shut s above less = search (arith, log)

-- Commits

moved-commits : {sent : List Message} {m : ServerId} {master : Master} {s : ℕ} → GoodView sent m master →
    IsOpened master.log s → Moved sent m master (commits master s)
moved-commits {m} {master} {s} view opened =
    let log : Log = master.log in
    let one : Message = to_coordinator log.own (Commit s (log.segments s).config.epoch) in
    let quiet : AllQuiet m (one ∷ []) = quiet-one (record { from = ap Server view.log.own; quiet = λ _ _ _ _ _ _. tt }) in
    let new : Segment = record (log.segments s) { commit_sent = true } in
    record {
      log = marked-moved view.log view.fine opened
          (record { entries = refl; digest = refl; shut = refl; config = refl })
          (λ message at. quiet-says (quiet message at))
          (λ x t e digest entries at. quiet-no_place m x log t e digest entries false (one ∷ []) quiet at);
      known = view.known;
    }

moved-change : {m : ServerId} {master : Master} {s : ℕ} → first_open master.log ≡ Some s → Kept m master (commits master s)
moved-change {master} {s} e sent view =
    let there = (find-one (λ seg. not (master.log.segments seg).shut) (numbers_to master.log.head) e).0 in
    let p = numbers-In s master.log.head there in moved-commits view (record { above = p.0; below = p.1 })

-- Acknowledging

-- no Place is a WriteOk
write_ok-no_place : {P : Type 0} (m x own : ServerId) (s e : ℕ) (digest : List ℕ) (entries : List Entry) (closed : Bool)
    (places : List LogPlace) → In (between m x (Place s e digest entries closed)) (write_oks own places) → P
write_ok-no_place {P} m x own s e digest entries closed places at =
    each-write_oks (λ message. message ≡ between m x (Place s e digest entries closed) → P) places
    (λ place there client same. differ (ap (λ (message : Message). message.body) same))
    (between m x (Place s e digest entries closed)) at refl
  where
    differ : {t o term table key version : ℕ} → ◌≡◌ {A = Body} (WriteOk t o term table key version) (Place s e digest entries closed) → P
    differ same = cc

stored-moved : {sent : List Message} {m : ServerId} {log : Log} → GoodLog sent m log → OwnFine sent m log →
    LogMoved sent m log (record log { durable = durable_now log }) (write_oks log.own (new_durable log))
stored-moved {sent} {m} {log} good fine = moved-log good fine (record {
  later = later;
  says = says;
  own = good.own;
  none_below = good.none_below;
  none_above = good.none_above;
  writing_opened = good.writing_opened;
  empty = good.empty;
  each = λ s. segment-more (more-left sent messages) (good.each s);
  news = λ x s e digest entries at. write_ok-no_place m x log.own s e digest entries false (new_durable log) at;
  counted = λ k place less at. durable-safe sent m log k place good fine less at;
  digests = λ s over upto. absurd (omega arith);
  durable_within = durable-within log;
})
  where
    new : Log
    new = record log { durable = durable_now log }

    messages : List Message
    messages = write_oks log.own (new_durable log)

    later : LogLater (sent ++ messages) m log new
    later = log-later (omega arith) (λ s. later-refl)

    -- each of these is among the places that are durable now
    among : (place : LogPlace) → In place (new_durable log) → (k : ℕ) × (k < durable_now log) × (slice_get (places_of log) k ≡ Some place)
    among place at =
        let found = Rattle.rc_model.proofs.Members.place_of (new_durable log) place at in
        let taken = get-take (durable_now log) (places_of log) (log.durable + found.0)
        (sym (get-drop log.durable (take (durable_now log) (places_of log)) found.0) ∙ found.1) in
        (log.durable + found.0, taken.0, taken.1)

    no_place : {P : Type 0} (x : ServerId) (s e : ℕ) (digest : List ℕ) (entries : List Entry) (closed : Bool) →
        In (between m x (Place s e digest entries closed)) messages → P
    no_place x s e digest entries closed at = write_ok-no_place m x log.own s e digest entries closed (new_durable log) at

    grown : Grown sent (sent ++ messages) m log new
    grown = record {
      more = more-left sent messages;
      later = later;
      places = λ x s e digest entries closed at. either_place x s e digest entries closed
          (In-append (between m x (Place s e digest entries closed)) sent messages at);
      below = λ s is. (good.each s).shut_below is;
    }
      where
        either_place : (x : ServerId) (s e : ℕ) (digest : List ℕ) (entries : List Entry) (closed : Bool)
            → In (between m x (Place s e digest entries closed)) sent ⊎ In (between m x (Place s e digest entries closed)) messages
            → In (between m x (Place s e digest entries closed)) sent ⊎ Rattle.rc_step_laws.specs.Later.IsNewPlace sent m
            log x s e entries closed
        either_place x s e digest entries closed (inl there) = inl there
        either_place x s e digest entries closed (inr now) = no_place x s e digest entries closed now

    says : (message : Message) → In message messages → MasterSays sent (sent ++ messages) m log new message
    says = each-write_oks (MasterSays sent (sent ++ messages) m log new) (new_durable log) (λ place at client. (
        let p = among place at in
        let safe : IsSafe sent m log place.seg place.offset = durable-safe sent m log p.0 place good fine p.1 p.2 in
        record {
          from = ap Server good.own;
          says = record {
            safe = safe-grown grown safe;
            entry = place.entry;
            holds = place-logged log (places_to-are log.head p.0 p.2);
            term_is = refl;
            table_is = refl;
            key_is = refl;
            version_is = refl;
          };
        }))

-- A segment that has become shut

shut-moved : {sent : List Message} {m : ServerId} {log : Log} → GoodLog sent m log → OwnFine sent m log → shuts log ≡ true
    → LogMoved sent m log (with_segment (log.head - 1) (record (old_head_of log) { shut = true }) log) []
shut-moved {sent} {m} {log} good fine e = put-moved good fine (record {
  opened = record { above = over.0; below = omega arith };
  later = record {
    grows = begins-refl;
    final = λ below. refl;
    digest = λ upto. refl;
    epoch = λ upto. omega arith;
    shut = λ is. (refl, refl);
    joined = λ x upto shut same at. true_false shut;
    shuts = λ x upto before shut same at. told_closed-more (more-left sent []) (closed x at);
  };
  good = record {
    old_shut = λ above less. refl;
    writing_shut = λ writing above less. refl;
    shut_below = λ is. over;
    shut_committed = λ is. tests.0;
    complete = λ x above upto open_now at. true_false open_now;
    apart = λ open_now. true_false open_now;
    noted = now.noted;
    noted_closed = now.noted_closed;
    committed = now.committed;
  };
  quiet = λ _. refl;
  says = λ message at. absurd at;
  news = λ x t f digest entries at. absurd at;
})
  where
    s : ℕ
    s = log.head - 1

    over : (0 < log.head - 1) × (log.head - 1 < log.head)
    over = old_head-opened log (and_parts (has_old_head log) (is_all_closed (old_head_of log)) e).0

    tests : ((old_head_of log).config.committed ≡ true) × (all_closed (old_head_of log).config ≡ true)
    tests = and_parts (old_head_of log).config.committed (all_closed (old_head_of log).config)
        (and_parts (has_old_head log) (is_all_closed (old_head_of log)) e).1

    now : GoodSegment (sent ++ []) m log.phase log.head (log.head - 1) (log.segments (log.head - 1))
    now = segment-more (more-left sent []) (good.each (log.head - 1))

    closed : (x : ServerId) → In x (ids_of (old_head_of log).config.members) →
        HasToldClosed sent x m (log.head - 1) (old_head_of log).config.epoch
    closed x at =
        let found = In-map (λ (member : Member). member.id) x (old_head_of log).config.members at in
        let is : told_closed found.0.told ≡ true = (and_parts (not found.0.lost) (told_closed found.0.told)
        (all-each is_closed found.0 (old_head_of log).config.members tests.1 found.1)).1 in
        subst (λ y. HasToldClosed sent y m (log.head - 1) (old_head_of log).config.epoch) (sym found.2)
        ((good.each (log.head - 1)).noted_closed found.0 found.1 is)

-- All of them

by_rule : {m : ServerId} → Followed (Kept m)
by_rule {m} = record {
  marks = λ master e sent view. record { log = shut-moved view.log view.fine e; known = view.known };
  starts = moved-start;
  places = moved-placed;
  closes = moved-closing;
  shuts = moved-shut;
  commits = λ master seg e wants. moved-change e;
  counts = λ master more sent view. record { log = stored-moved view.log view.fine; known = view.known };
  rolls = λ master ids writing room chosen sent view.
      moved-opens_roll view (writing-is master.log.phase writing) chosen;
  replays = λ master entry entries is writing room sent view. (
      let next : Master = record master { ownership = after_replay master.ownership } in
      let done : Moved sent m next (appends_entry next entry false) = moved-appends entry false
      (record { log = view.log; fine = view.fine; known = view.known }) (writing-is master.log.phase writing) in
      record { log = done.log; known = done.known });
  answers = λ master term is sent view. (
      let one : Message = to_coordinator master.log.own (Recovered (attempt_of term master.tasks) term) in
      moved-quiet view refl refl (quiet-one (record { from = ap Server view.log.own; quiet = λ _ _ _ _ _ _. tt })));
}

pub moved-goes_on : {sent : List Message} {m : ServerId} {master : Master} → GoodView sent m master → Moved sent m master (goes_on master)
moved-goes_on {sent} {m} {master} = kept-goes_on (Kept m) (joined m) by_rule master sent
