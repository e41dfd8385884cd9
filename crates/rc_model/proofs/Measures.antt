-- Each follow-up lowers the measure, and none applies afterwards.
use Rattle.std.proofs.Common.{◌≡◌, ◌≢◌, ℕ, zero, suc, ◌+◌, ◌-◌, ◌≤◌, ◌<◌, Bool, true, false, cond, not}
use Rattle.std.proofs.Common.{◌&&◌, ◌||◌, nat_eq, nat_lt, List}
use Rattle.std.proofs.Common.{[], ◌∷◌, length, filter, find, Option, Some, None, option_map, Err, refl, sym}
use Rattle.std.proofs.Common.{ap, ◌∙◌}
use Rattle.std.proofs.Common.{subst, arith, option_and_then}
use Rattle.std.proofs.lemmas.List.{length-append, length-take-le, append-nil}
use Rattle.std.proofs.lemmas.List.Elements.{filter-append}
use Rattle.std.proofs.lemmas.Bool.{and_parts, ltb-true, ne_eqb}
use Rattle.std.proofs.lemmas.Bool.Decides.{nat_tests}
use Rattle.std.proofs.Math.Numerals.{add-one}
use Rattle.std.proofs.Math.Path.{fun_ext}
use Rattle.std.specs.List.{list_any}
use Rattle.std.specs.Option.{option_or}
use Rattle.rc_model.specs.Heads.{opened_on}
use Rattle.rc_model.specs.Model.{ServerId, Entry, Member, Phase, Opening, Closing, Writing, Message, Ready, LogFull, ServerList}
use Rattle.rc_model.specs.Model.{to_coordinator, LAST_SEGMENT, same_id, has_id, put, new_config, all_placed, choose}
use Rattle.rc_model.specs.Model.{Segment, new_segment, is_ready, has_unclosed, with_closes_sent, Log, head_of, with_segment}
use Rattle.rc_model.specs.Model.{old_head_of, has_old_head, places_to, places_of, numbers_to, durable_now, is_opening}
use Rattle.rc_model.specs.Model.{is_closing, is_writing, opens_head, next_digest, begin_roll, is_full, shuts, with_shut}
use Rattle.rc_model.specs.Model.{may_start, may_close, may_write, left_out, starts, closes_old, writes_on, PartState, after_replay}
use Rattle.rc_model.specs.Model.{is_to_answer, is_complete, answered_in, Master, ids_of, with_log, durable_replayed, dead_segments}
use Rattle.rc_model.specs.Model.{appends_entry, when, follow_up, follows_start, follows_placed, close_is_due, close_marked}
use Rattle.rc_model.specs.Model.{follows_closing, follows_shut, first_open, wants_commit, commits, follows_change}
use Rattle.rc_model.specs.Model.{follows_stored, rolls_for_replay, replays, follows_data, answers_part, follows_replay, marks_shut}
use Rattle.rc_model.specs.Model.{further, followed, rank, one_if, closes_unsent, commits_unsent, parts_unanswered, measure, enough}
use Rattle.rc_model.specs.Model.{goes_on}
use Rattle.rc_model.proofs.Ids.{same_id-refl}
use Rattle.rc_model.proofs.Tests.{either, true_false}
use Rattle.rc_model.proofs.Tables.{put_each, put-same, put-other}
use Rattle.rc_model.proofs.Counting.{Narrower, filter-lower, filter-agrees}
use Rattle.rc_model.proofs.LogParts.{AllSameParts, same_parts-put, length-places_in, places_to-agrees, total, total-places}
use Rattle.rc_model.proofs.LogParts.{durable-within, marked, with_freed-marked, MarkedAlone, marked-alone}

-- the later master has a lower measure, and as many replicas of each segment
pub record Lowers (old new : Master) : Type 0 where
  pub lower : measure new < measure old
  pub factor : new.log.factor ≡ old.log.factor

-- whatever the rule did lowers
abbrev pub AllLower : Master → Option (Master × List Message) → Type 0
AllLower old None = Unit {0}
AllLower old (Some done) = Lowers old done.0

lower-or : (old : Master) (one other : Option (Master × List Message)) → AllLower old one → AllLower old other →
    AllLower old (option_or one other)
lower-or old (Some done) other p q = p
lower-or old None other p q = q

lower-when : {old : Master} (b : Bool) (done : Master × List Message) → (b ≡ true → Lowers old done.0) → AllLower old (when b done)
lower-when true done p = p refl
lower-when false done p = tt

-- Ranks

rank-opening : (log : Log) (phase : Phase) → is_opening phase ≡ true → all_placed (head_of log).config ≡ true → rank log phase ≡ 3
rank-opening log Opening is placed = ap (λ b. cond b 3 0) placed
rank-opening log Closing is placed = cc
rank-opening log Writing is placed = cc

rank-closing : (log : Log) (phase : Phase) → is_closing phase ≡ true → rank log phase ≡ 2
rank-closing log Closing is = refl
rank-closing log Opening is = cc
rank-closing log Writing is = cc

rank-writing : (log : Log) (phase : Phase) → is_writing phase ≡ true → rank log phase ≡ 1
rank-writing log Writing is = refl
rank-writing log Opening is = cc
rank-writing log Closing is = cc

-- the rank is by the head's config
rank-same : (old new : Log) (phase : Phase) → (head_of new).config ≡ (head_of old).config → rank new phase ≡ rank old phase
rank-same old new Opening same = ap (λ config. cond (all_placed config) 3 0) same
rank-same old new Closing same = refl
rank-same old new Writing same = refl

-- The parts that others leave

-- neither committed nor sent a Commit
abbrev pub unsent : (ℕ → Segment) → ℕ → Bool
unsent segments seg = not (segments seg).config.committed && not (segments seg).commit_sent

-- no Close was sent of it, where it is an old head
abbrev pub unclosed : ℕ → Segment → ℕ
unclosed head segment = one_if (nat_lt 1 head && has_unclosed segment)

places-same : {old new : ℕ → Segment} (n : ℕ) → AllSameParts old new → length (places_to new n) ≡ length (places_to old n)
places-same {old} {new} n same = ap length (places_to-agrees old new n (λ k _. (same k).entries))

commits-same : {old new : ℕ → Segment} (n : ℕ) → AllSameParts old new →
    length (filter (unsent new) (numbers_to n)) ≡ length (filter (unsent old) (numbers_to n))
commits-same {old} {new} n same = search (arith, filter-agrees)

closes-same : (head : ℕ) (old new : Segment) → new.config ≡ old.config → new.closes_sent ≡ old.closes_sent →
    unclosed head new ≡ unclosed head old
closes-same head old new config sent = search (arith, nat_lt)

-- none is left once Close was sent to all
all-in : (members others : List Member) → ((id : ServerId) → has_id id (ids_of members) ≡ true → has_id id (ids_of others) ≡ true) →
    list_any (λ (member : Member). not (has_id member.id (ids_of others))) members ≡ false
all-in [] others within = refl
all-in (member ∷ members) others within =
    ap (λ b. not b || list_any (λ (one : Member). not (has_id one.id (ids_of others))) members)
    (within member.id (ap (λ b. b || has_id member.id (ids_of members)) (same_id-refl member.id)))
    ∙ all-in members others (λ id e. within id (ap (λ b. same_id id member.id || b) e ∙ or_true (same_id id member.id)))
  where
    or_true : (b : Bool) → b || true ≡ true
    or_true true = refl
    or_true false = refl

closes-none : (segment : Segment) → has_unclosed (with_closes_sent segment) ≡ false
closes-none segment = all-in segment.config.members segment.config.members (λ id e. e)

unclosed-most : (head : ℕ) (segment : Segment) → unclosed head segment ≤ 1
unclosed-most head segment = search (arith, nat_lt)

-- The rules, one by one

lowers-start : {master : Master} → may_start master.log ≡ true → Lowers master (with_log master (starts master.log))
lowers-start {master} may = search (arith, nat_eq, and_parts, rank-opening)

lowers-placed : {master : Master} → may_close master.log ≡ true → Lowers master (with_log master (closes_old master.log))
lowers-placed {master} may = search (arith, and_parts, rank-opening)

lowers-closing : (master : Master) → close_is_due master.log ≡ true → Lowers master (with_log master (close_marked master.log))
lowers-closing master due =
    let log : Log = master.log in
    let old : ℕ → Segment = master.log.segments in
    let told : Segment = with_closes_sent (old_head_of master.log) in
    let new : ℕ → Segment = put old (master.log.head - 1) told in
    let parts : (is_closing master.log.phase ≡ true) ×
    (has_old_head master.log && ((old_head_of master.log).config.committed && has_unclosed (old_head_of master.log))
    ≡ true) =
    and_parts (is_closing master.log.phase) (has_old_head master.log &&
    ((old_head_of master.log).config.committed && has_unclosed (old_head_of master.log))) due in
    let tests : (has_old_head master.log ≡ true) ×
    ((old_head_of master.log).config.committed && has_unclosed (old_head_of master.log) ≡ true) =
    and_parts (has_old_head master.log) ((old_head_of master.log).config.committed && has_unclosed (old_head_of master.log)) parts.1 in
    let unsent_yet : has_unclosed (old_head_of master.log) ≡ true =
    (and_parts (old_head_of master.log).config.committed (has_unclosed (old_head_of master.log)) tests.1).1 in
    let same : AllSameParts old new =
    same_parts-put old (record { entries = refl; config = refl; commit_sent = refl }) in
    let places : length (places_to new master.log.head) ≡ length (places_to old master.log.head) =
    places-same master.log.head same in
    let commits : length (filter (unsent new) (numbers_to master.log.head)) ≡ length
    (filter (unsent old) (numbers_to master.log.head)) = commits-same master.log.head same in
    let before : rank master.log master.log.phase ≡ 2 = rank-closing master.log master.log.phase parts.0 in
    let after : rank (close_marked master.log) master.log.phase ≡ 2 = rank-closing (close_marked master.log) master.log.phase parts.0 in
    let one : unclosed master.log.head (old (master.log.head - 1)) ≡ 1 =
    ap (λ b. one_if (b && has_unclosed (old_head_of master.log))) tests.0 ∙ ap one_if unsent_yet in
    let none : unclosed master.log.head (new (master.log.head - 1)) ≡ 0 =
    ap (λ s. unclosed master.log.head s) (put-same old (master.log.head - 1)) ∙
    (ap (λ b. one_if (b && has_unclosed told)) tests.0 ∙ ap one_if (closes-none (old_head_of master.log))) in
    record { lower = omega arith; factor = refl }

lowers-shut : (master : Master) → may_write master.log ≡ true → Lowers master (with_log master (writes_on master.log))
lowers-shut master may = subst (λ log. Lowers master (with_log master log))
    (sym (with_freed-marked (left_out master.log) (record master.log { phase = Writing })))
    (lower (left_out master.log))
  where
    lower : (segs : List ℕ) → Lowers master (with_log master
        (record master.log { phase = Writing; segments = marked segs master.log.segments }))
    lower segs =
        let old : ℕ → Segment = master.log.segments in
        let new : ℕ → Segment = marked segs master.log.segments in
        let alone : (k : ℕ) → MarkedAlone (old k) (new k) = marked-alone segs master.log.segments in
        let same : AllSameParts old new = λ k. (alone k).parts in
        let places : length (places_to new master.log.head) ≡ length (places_to old master.log.head) =
        places-same master.log.head same in
        let commits : length (filter (unsent new) (numbers_to master.log.head)) ≡ length
        (filter (unsent old) (numbers_to master.log.head)) = commits-same master.log.head same in
        let closes : unclosed master.log.head (new (master.log.head - 1)) ≡ unclosed master.log.head (old (master.log.head - 1)) =
        closes-same master.log.head (old (master.log.head - 1)) (new (master.log.head - 1))
        (same (master.log.head - 1)).config (alone (master.log.head - 1)).closes_sent in
        let before : rank master.log master.log.phase ≡ 2 =
        rank-closing master.log master.log.phase (and_parts (is_closing master.log.phase) (has_old_head master.log &&
        ((old_head_of master.log).shut && is_ready (head_of master.log))) may).0 in
        record { lower = omega arith; factor = refl }

and_false : (b : Bool) → b && false ≡ false
and_false true = refl
and_false false = refl

lowers-commit : (master : Master) (seg : ℕ) → first_open master.log ≡ Some seg → wants_commit (master.log.segments seg) ≡ true →
    Lowers master (commits master seg).0
lowers-commit master seg found wants =
    let old : ℕ → Segment = master.log.segments in
    let told : Segment = record (master.log.segments seg) { commit_sent = true } in
    let new : ℕ → Segment = put old seg told in
    let entries : (k : ℕ) → (new k).entries ≡ (old k).entries =
    put_each (λ k (s : Segment). s.entries ≡ (old k).entries) old seg told refl (λ k. refl) in
    let config : (k : ℕ) → (new k).config ≡ (old k).config =
    put_each (λ k (s : Segment). s.config ≡ (old k).config) old seg told refl (λ k. refl) in
    let closes_sent : (new (master.log.head - 1)).closes_sent ≡ (old (master.log.head - 1)).closes_sent =
    put_each (λ k (s : Segment). s.closes_sent ≡ (old k).closes_sent) old seg told refl (λ k. refl) (master.log.head - 1) in
    let narrower : Narrower (unsent old) (unsent new) =
    put_each (λ k (s : Segment). not s.config.committed && not s.commit_sent ≡ true → unsent old k ≡ true) old seg told
    (λ e. true_false (sym e ∙ and_false (not (old seg).config.committed))) (λ k e. e) in
    let parts : (not (old seg).config.committed ≡ true) × (all_placed (old seg).config && not (old seg).commit_sent ≡ true) =
    and_parts (not (old seg).config.committed) (all_placed (old seg).config && not (old seg).commit_sent) wants in
    let not_sent : not (old seg).commit_sent ≡ true = (and_parts (all_placed (old seg).config) (not (old seg).commit_sent) parts.1).1 in
    let was : unsent old seg ≡ true = ap (λ b. b && not (old seg).commit_sent) parts.0 ∙ not_sent in
    let isn't : unsent new seg ≡ false =
    ap (λ (s : Segment). not s.config.committed && not s.commit_sent) (put-same old seg) ∙
    and_false (not (old seg).config.committed) in
    let commits_lower : length (filter (unsent new) (numbers_to master.log.head)) < length
    (filter (unsent old) (numbers_to master.log.head)) =
    filter-lower (λ k. not (old k).shut) (numbers_to master.log.head) narrower was isn't found in
    let places : length (places_to new master.log.head) ≡ length (places_to old master.log.head) =
    ap length (places_to-agrees old new master.log.head (λ k _. entries k)) in
    let closes : unclosed master.log.head (new (master.log.head - 1)) ≡ unclosed master.log.head (old (master.log.head - 1)) =
    closes-same master.log.head (old (master.log.head - 1)) (new (master.log.head - 1)) (config (master.log.head - 1)) closes_sent in
    let ranks : rank (commits master seg).0.log master.log.phase ≡ rank master.log master.log.phase =
    rank-same master.log (commits master seg).0.log master.log.phase (config master.log.head) in
    record { lower = omega arith; factor = refl }

lowers-open : (master : Master) (open_one : Option ℕ) → first_open master.log ≡ open_one → AllLower master
    (option_and_then (λ one. when (wants_commit (master.log.segments one)) (commits master one)) open_one)
lowers-open master None found = tt
lowers-open master (Some seg) found =
    lower-when (wants_commit (master.log.segments seg)) (commits master seg) (lowers-commit master seg found)

lowers-stored : {master : Master} → nat_lt master.log.durable (durable_now master.log) ≡ true →
    Lowers master (with_log master (record master.log { durable = durable_now master.log }))
lowers-stored {master} more = search (arith, ltb-true, total, durable-within, total-places, rank-same)

-- a number up to the head isn't the next one
apart : {head k : ℕ} → k ≤ head → nat_eq (head + 1) k ≡ false
apart {head} {k} most = ne_eqb (head + 1) k (λ same. omega arith)

-- a head on at least one member isn't placed yet
fresh-unplaced : (seg : ℕ) (ids : List ServerId) → 0 < length ids → all_placed (new_config seg ids) ≡ false
fresh-unplaced seg [] some = absurd (omega arith)
fresh-unplaced seg (id ∷ ids) some = refl

-- the commits that a fresh head leaves unsent are those before
fresh-commits : (old : ℕ → Segment) (head : ℕ) (digest : List ℕ) (ids : List ServerId) →
    length (filter (unsent (put old (head + 1) (new_segment (head + 1) digest ids))) (numbers_to (head + 1))) ≡ length
    (filter (unsent old) (numbers_to head))
fresh-commits old head digest ids =
    search (arith, suc, add-one, put-same, filter-agrees, put-other, apart, filter-append, append-nil)

-- and the places are those before
fresh-places : (old : ℕ → Segment) (head : ℕ) (digest : List ℕ) (ids : List ServerId) →
    length (places_to (put old (head + 1) (new_segment (head + 1) digest ids)) (head + 1)) ≡ length (places_to old head)
fresh-places old head digest ids =
    search (arith, places_to-agrees, put-other, apart, suc, add-one, put-same, append-nil)

-- a roll of a log whose segments have replicas
lowers-opened : {master : Master} (digest : List ℕ) (ids : List ServerId) → 0 < length ids → is_writing master.log.phase ≡ true →
    Lowers master (with_log master (opens_head master.log digest ids))
lowers-opened {master} digest ids some writes =
    let log : Log = opens_head master.log digest ids in
    let fresh : Segment = new_segment (master.log.head + 1) digest ids in
    let before : rank master.log master.log.phase ≡ 1 = rank-writing master.log master.log.phase writes in
    let head_is : head_of log ≡ fresh = put-same master.log.segments (master.log.head + 1) in
    let after : rank log Opening ≡ 0 =
    ap (λ (s : Segment). cond (all_placed s.config) 3 0) head_is ∙ ap (λ b. cond b 3 0) (fresh-unplaced (master.log.head + 1) ids some) in
    let places : length (places_of log) ≡ length (places_of master.log) = fresh-places master.log.segments master.log.head digest ids in
    let commits : commits_unsent log ≡ commits_unsent master.log = fresh-commits master.log.segments master.log.head digest ids in
    let closes : closes_unsent log ≤ 1 = unclosed-most log.head (old_head_of log) in
    record { lower = omega arith; factor = refl }

lowers-chosen : (master : Master) (chosen : Option (List ServerId)) → is_writing master.log.phase ≡ true →
    ((ids : List ServerId) → chosen ≡ Some ids → 0 < length ids) →
    AllLower master (rolls_for_replay master (opened_on master.log (next_digest master.log (dead_segments master)) chosen))
lowers-chosen master None writes some = tt
lowers-chosen master (Some ids) writes some =
    lowers-opened (next_digest master.log (dead_segments master)) ids (some ids refl) writes

-- as many members are chosen as a segment has replicas
pub choose-length : (seg : ℕ) (own : ServerId) {factor : ℕ} (servers : ServerList) {ids : List ServerId} →
    choose seg own factor servers ≡ Some ids → length ids ≡ factor
choose-length seg own {factor} servers {ids} e = search (arith, nat_lt, nat_tests, length-take-le)

lowers-roll : (master : Master) → master.log.factor ≢ 0 → is_writing master.log.phase ≡ true →
    AllLower master (rolls_for_replay master (begin_roll master.known (dead_segments master) master.log))
lowers-roll master factor writes =
    either (λ answer. AllLower master (rolls_for_replay master answer)) (nat_lt master.log.head LAST_SEGMENT)
    (opened_on master.log (next_digest master.log (dead_segments master))
    (choose (master.log.head + 1) master.log.own master.log.factor master.known)) (master.log, Err LogFull)
    (λ _. lowers-chosen master (choose (master.log.head + 1) master.log.own master.log.factor master.known) writes
    (λ ids e. let n : length ids ≡ master.log.factor = choose-length (master.log.head + 1) master.log.own master.known e in omega arith))
    (λ _. tt)

-- an entry more at the end of the head
one-more : (old : ℕ → Segment) (head : ℕ) (segment : Segment) → length segment.entries ≤ length (old head).entries + 1 →
    length (places_to (put old head segment) head) ≤ length (places_to old head) + 1
one-more old zero segment more = omega arith
one-more old (suc n) segment more =
    search (arith, places_to-agrees, put-other, ne_eqb, put-same, length-append, length-places_in)

lowers-append : (master : Master) (entry : Entry) (entries : List Entry) → master.ownership.replay ≡ entry ∷ entries →
    is_writing master.log.phase ≡ true →
    Lowers master (appends_entry (record master { ownership = after_replay master.ownership }) entry false).0
lowers-append master entry entries waits writes =
    search (arith, rank-writing, put_each, filter-agrees, closes-same, length-append, one-more)

lowers-replay : (master : Master) (replay : List Entry) → master.ownership.replay ≡ replay → master.log.factor ≢ 0 →
    is_writing master.log.phase ≡ true →
    AllLower master (replays master replay)
lowers-replay master [] waits factor writes = tt
lowers-replay master (entry ∷ entries) waits factor writes =
    either (AllLower master) (is_full master.log) (rolls_for_replay master (begin_roll master.known (dead_segments master) master.log))
    (Some (appends_entry (record master { ownership = after_replay master.ownership }) entry false))
    (λ _. lowers-roll master factor writes) (λ _. lowers-append master entry entries waits writes)

lowers-data : (master : Master) → master.log.factor ≢ 0 → AllLower master (follows_data master)
lowers-data master factor = search (arith, either, lowers-replay)

-- one part fewer waits for its answer
answered-lower : (durable : List Entry) (states : List PartState) {state : PartState} →
    find (is_to_answer durable) states ≡ Some state →
    parts_unanswered (answered_in durable states) < parts_unanswered states
answered-lower durable [] e = cc
answered-lower durable (one ∷ others) {state} e = by (is_to_answer durable one) refl one.answered refl (answered-lower durable others) e
  where
    by : (b : Bool) → is_to_answer durable one ≡ b → (a : Bool) → one.answered ≡ a →
        (find (is_to_answer durable) others ≡ Some state → parts_unanswered (answered_in durable others) < parts_unanswered others) →
        cond b (Some one) (find (is_to_answer durable) others) ≡ Some state →
        parts_unanswered (cond b (record one { answered = true } ∷ others) (one ∷ answered_in durable others))
        < length (cond (not a) (one ∷ filter (λ (s : PartState). not s.answered) others)
        (filter (λ (s : PartState). not s.answered) others))
    by true is true told rec e = true_false (sym (and_parts (is_complete durable one) (not one.answered) is).1 ∙ ap not told)
    by true is false told rec e = omega arith
    by false isn't true told rec e = search arith
    by false isn't false told rec e = search arith

lowers-answer : (master : Master) (found : Option PartState) →
    find (is_to_answer (durable_replayed master)) master.ownership.parts ≡ found →
    AllLower master (answers_part master (option_map (λ state. state.part.term) found))
lowers-answer master None found = tt
lowers-answer master (Some state) found = search (arith, answered-lower)

-- Every rule that applies lowers the measure.
pub lowers : (master : Master) → master.log.factor ≢ 0 → AllLower master (follow_up master)
lowers master factor =
    let start : AllLower master (follows_start master) =
    lower-when (may_start master.log) (
      with_log master (starts master.log),
      to_coordinator master.log.own Ready ∷ [],
    ) lowers-start in
    let placed : AllLower master (follows_placed master) =
    lower-when (may_close master.log) (with_log master (closes_old master.log), []) lowers-placed in
    let closing : AllLower master (follows_closing master) =
    lower-when (close_is_due master.log) (_, _) (lowers-closing master) in
    let shut : AllLower master (follows_shut master) = lower-when (may_write master.log) (_, _) (lowers-shut master) in
    let change : AllLower master (follows_change master) = lowers-open master (first_open master.log) refl in
    let stored : AllLower master (follows_stored master) =
    lower-when (nat_lt master.log.durable (durable_now master.log)) (_, _) lowers-stored in
    let data_ : AllLower master (follows_data master) = lowers-data master factor in
    let replay : AllLower master (follows_replay master) =
    lowers-answer master (find (is_to_answer (durable_replayed master)) master.ownership.parts) refl in
    lower-or master _ _ start (lower-or master _ _ placed (lower-or master _ _ closing (lower-or master _ _ shut
    (lower-or master _ _ change (lower-or master _ _ stored (lower-or master _ _ data_ replay))))))

-- Marking what is shut

-- the old head is marked shut
abbrev shut_marked : Log → Log
shut_marked log = with_segment (log.head - 1) (record (old_head_of log) { shut = true }) log

measure-shut_marked : (master : Master) → measure (with_log master (shut_marked master.log)) ≡ measure master
measure-shut_marked master =
    search (arith, same_parts-put, put_each, places-same, commits-same, closes-same, rank-same)

-- marking changes neither the measure nor how many replicas there are
pub measure-marks_shut : (master : Master) → measure (marks_shut master) ≡ measure master
measure-marks_shut master = search (arith, either, measure-shut_marked)

factor-marks_shut : (master : Master) → (marks_shut master).log.factor ≡ master.log.factor
factor-marks_shut master =
    either (λ (log : Log). log.factor ≡ master.log.factor) (shuts master.log) (shut_marked master.log) master.log (λ _. refl) (λ _. refl)

-- what is marked once stays marked
shut_marked-twice : (log : Log) → shut_marked (shut_marked log) ≡ shut_marked log
shut_marked-twice log = search (arith, fun_ext, nat_eq, put-same)

pub with_shut-twice : (log : Log) → with_shut (with_shut log) ≡ with_shut log
with_shut-twice log = search (arith, either, shut_marked-twice)

-- How often is enough

filter-short : {X : Type 0} (test : X → Bool) (xs : List X) → length (filter test xs) ≤ length xs
filter-short test [] = omega arith
filter-short {X = X} test (x ∷ xs) = by (test x) (filter-short test xs)
  where
    by : (b : Bool) → length (filter test xs) ≤ length xs →
        length (cond b (x ∷ filter test xs) (filter test xs)) ≤ length (x ∷ xs)
    by true short = omega (arith, short)
    by false short = omega (arith, short)

numbers-long : (n : ℕ) → length (numbers_to n) ≡ n
numbers-long zero = refl
numbers-long (suc n) =
    length-append (numbers_to n) (suc n ∷ []) ∙ (let before : length (numbers_to n) ≡ n = numbers-long n in omega (arith, before))

rank-most : (log : Log) (phase : Phase) → rank log phase ≤ 3
rank-most log Opening = either (λ n. n ≤ 3) (all_placed (head_of log).config) 3 0 (λ _. omega arith) (λ _. omega arith)
rank-most log Closing = omega arith
rank-most log Writing = omega arith

one_if-most : (b : Bool) → one_if b ≤ 1
one_if-most true = omega arith
one_if-most false = omega arith

pub measure-enough : (master : Master) → measure master ≤ enough master
measure-enough master = search (arith, rank-most, one_if-most, numbers-long, filter-short)

-- Following up to the end

-- a master whose measure is this at the most is settled by so many rules
pub settles : (times : ℕ) (master : Master) → master.log.factor ≢ 0 → measure master ≤ times → follow_up (followed times master).0 ≡ None
settles zero master factor most =
    by (follow_up (marks_shut master)) (lowers (marks_shut master) (λ e. factor (sym (factor-marks_shut master) ∙ e)))
  where
    by : (done : Option (Master × List Message)) → AllLower (marks_shut master) done → done ≡ None
    by None less = refl
    by (Some done) less = let same : measure (marks_shut master) ≡ measure master =
        measure-marks_shut master in absurd (omega (arith, less.lower))
settles (suc times) master factor most =
    by (follow_up (marks_shut master)) refl (lowers (marks_shut master) (λ e. factor (sym (factor-marks_shut master) ∙ e))) (settles times)
  where
    by : (done : Option (Master × List Message)) → follow_up (marks_shut master) ≡ done → AllLower (marks_shut master) done →
        ((next : Master) → next.log.factor ≢ 0 → measure next ≤ times → follow_up (followed times next).0 ≡ None) →
        follow_up (further done (marks_shut master) (λ next. followed times next)).0 ≡ None
    by None e less rec = e
    by (Some done) e less rec = search (arith, measure-marks_shut, factor-marks_shut)

-- and what is shut is marked then
pub ends-marked : (times : ℕ) (master : Master) → marks_shut (followed times master).0 ≡ (followed times master).0
ends-marked zero master = ap (with_log master) (with_shut-twice master.log)
ends-marked (suc times) master = by (follow_up (marks_shut master)) (ends-marked times)
  where
    by : (done : Option (Master × List Message)) →
        ((next : Master) → marks_shut (followed times next).0 ≡ (followed times next).0) →
        marks_shut (further done (marks_shut master) (λ next. followed times next)).0 ≡
        (further done (marks_shut master) (λ next. followed times next)).0
    by None rec = ap (with_log master) (with_shut-twice master.log)
    by (Some done) rec = rec done.0

-- a master that isn't deposed goes on by the rules
pub goes_on-up : (master : Master) → master.deposed ≡ false → goes_on master ≡ followed (enough master) master
goes_on-up master up = ap (λ b. cond b (master, []) (followed (enough master) master)) up

-- and none applies afterwards
pub goes_on-settles : (master : Master) → master.log.factor ≢ 0 → master.deposed ≡ false → follow_up (goes_on master).0 ≡ None
goes_on-settles master factor up = ap (λ (after : Master × List Message). follow_up after.0) (goes_on-up master up)
    ∙ settles (enough master) master factor (measure-enough master)

pub goes_on-marked : (master : Master) → master.deposed ≡ false → marks_shut (goes_on master).0 ≡ (goes_on master).0
goes_on-marked master up = search (arith, goes_on-up, ends-marked)
