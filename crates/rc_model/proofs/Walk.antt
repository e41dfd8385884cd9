-- One walk over the rules of a master: a relation that each single rule keeps is kept by its whole steps.
use Rattle.std.proofs.Common.{◌≡◌, ℕ, zero, suc, ◌+◌, ◌-◌, ◌<◌, not}
use Rattle.std.proofs.Common.{Bool, true, false, cond, nat_lt, nat_eq, List, [], ◌∷◌}
use Rattle.std.proofs.Common.{◌++◌, map, filter, length, Option, Some, None, Result, Ok, Err, refl, inl, inr, option_and_then, arith}
use Rattle.std.proofs.lemmas.Bool.{and_parts, eqb-true, ltb-true}
use Rattle.rc_model.specs.Heads.{opened_on}
use Rattle.rc_model.specs.Model.{ServerId, Addr, Server, Entry, Part, PlanRow, Fault, NotOwner, Rolling, ValueTooLong, Deposed}
use Rattle.rc_model.specs.Model.{Message, Body, Write, Read, Stored, CommitOk, Refused, Data, Own, Close, Ready, Enlist}
use Rattle.rc_model.specs.Model.{KeyRange, Recovered, LAST_SEGMENT, to_coordinator, ServerList, newer_than, is_up, from_rows, choose}
use Rattle.rc_model.specs.Model.{is_unclosed}
use Rattle.rc_model.specs.Model.{Log, with_segment, old_head_of, numbers_to, is_writing, durable_now, opens_head}
use Rattle.rc_model.specs.Model.{is_full, appends, next_digest, begin_roll, stored, commit_noted, loses, shuts}
use Rattle.rc_model.specs.Model.{may_start, may_close, may_write, left_out, starts, closes_old, writes_on, knows_term, term_of}
use Rattle.rc_model.specs.Model.{begin_part, put_data, grant, after_replay, to_answer, after_answer, Master, Task, with_log}
use Rattle.rc_model.specs.Model.{durable_replayed, to_ids, ids_of, place_of, places_head, appends_entry, dead_segments, refused}
use Rattle.rc_model.specs.Model.{is_too_long, written, rolls_for_write, writes_under, writes, then_does}
use Rattle.rc_model.specs.Model.{places_segment, replaces_lost, replaces_lost_of, opens_first, tries_first, obeys_list, takes_list}
use Rattle.rc_model.specs.Model.{close_is_due, close_marked, frees_segments, first_open, wants_commit, commits, write_oks}
use Rattle.rc_model.specs.Model.{new_durable, rolls_for_replay, replays, attempt_of, answers_part, follow_up, marks_shut, further}
use Rattle.rc_model.specs.Model.{followed, enough, goes_on, fetch_of, reminds, ticks, task_of, takes_plan}
use Rattle.rc_model.specs.Model.{master_takes_first, deposed_takes, master_takes, master_ticks, In, reads_under, if_owned, when}
use Rattle.rc_types.specs.declared.ids.Addr.TheVariants.{Coordinator}
use Rattle.rc_types.specs.declared.messages.Body.TheVariants.{Plan, List as ServersOf}
use Rattle.rc_model.proofs.Tests.{either}
use Rattle.rc_model.proofs.Rules.{AllDone, done-or, done-when}
use Rattle.std.specs.Option.{option_map_or}

-- What has to hold: the relation goes from a master to what a rule leaves, with what it sends

-- where nothing is done, and of two steps one after another
pub record Joined (R : Master → Master × List Message → Type 0) : Type 0 where
  pub still : (master : Master) → R master (master, [])
  pub both : (one two : Master) (first : List Message) (after : Master × List Message) → R one (two, first) →
      R two after → R one (after.0, first ++ after.1)

-- of the list rules: lost members of a segment are replaced, and a first head is opened
pub record Listed (R : Master → Master × List Message → Type 0) : Type 0 where
  pub replaces : (master : Master) (seg : ℕ) (ids : List ServerId) → (master.log.segments seg).freed ≡ false →
      let log : Log = (loses master.known seg master.log).0 in
      R master (with_log master log, to_ids log.own ids (place_of log seg (log.segments seg).shut))
  pub opens : (master : Master) (ids : List ServerId) → master.log.head ≡ 0 →
      choose 1 master.log.own master.log.factor master.known ≡ Some ids →
      R master (with_log master (opens_head master.log (1 ∷ []) ids), places_head (opens_head master.log (1 ∷ []) ids))

-- a roll begins
abbrev pub Rolls : (Master → Master × List Message → Type 0) → Master → Type 0
Rolls R master = (ids : List ServerId) → is_writing master.log.phase ≡ true → master.log.head < LAST_SEGMENT →
    choose (master.log.head + 1) master.log.own master.log.factor master.known ≡ Some ids →
    let log : Log = opens_head master.log (next_digest master.log (dead_segments master)) ids in
    R master (with_log master log, places_head log)

abbrev pub begun : Task → Master → Master
begun task master = record master {
  ownership = begin_part task.part (map (λ row. (row.seg, row.holder)) task.rows) master.ownership;
  tasks = master.tasks ++ task ∷ [];
}

-- of what this message does to this master
pub record Taken (R : Master → Master × List Message → Type 0) (master : Master) (from : Addr) (body : Body) : Type 0 where
  pub refuses : (one : Master) (fault : Fault) → R one (refused one fault)
  pub rolls : Rolls R master
  pub writes : (term table key : ℕ) (value : Option (List ℕ)) → body ≡ Write table key value →
      term_of master.ownership table key ≡ Some term → is_writing master.log.phase ≡ true → is_full master.log ≡ false →
      R master (appends_entry master (written master term table key value) true)
  pub reads : (term table key : ℕ) → body ≡ Read table key → term_of master.ownership table key ≡ Some term →
      R master (reads_under master term table key)
  pub lists : (version : ℕ) (rows : List (ServerId × Bool)) → body ≡ ServersOf version rows →
      newer_than (from_rows version rows) master.known ≡ true →
      R master (record master { known = from_rows version rows }, [])
  pub stores : (teller : ServerId) (seg epoch len : ℕ) (closed : Bool) → from ≡ Server teller →
      body ≡ Stored seg epoch len closed →
      R master (with_log master (stored seg teller epoch len closed master.log), [])
  pub commits : (seg epoch : ℕ) → body ≡ CommitOk seg epoch →
      R master (with_log master (commit_noted seg epoch master.log), [])
  pub deposes : R master (record master { deposed = true }, [])
  -- a part of a plan, when others may have been begun before it
  pub begins : (one : Master) (attempt : ℕ) (crashed : ServerId) (head : ℕ) (rows : List PlanRow) (parts : List Part) (part : Part) →
      body ≡ Plan head attempt crashed rows parts → In part parts → knows_term one.ownership part.term ≡ false →
      R one (begun (task_of attempt crashed rows part) one, map (fetch_of one.log.own (task_of attempt crashed rows part)) rows)
  pub comes : (holder : ServerId) (attempt seg term : ℕ) (entries : List Entry) → from ≡ Server holder →
      body ≡ Data attempt seg term entries →
      R master (record master { ownership = put_data term seg holder entries master.ownership }, [])
  pub owns : (range : KeyRange) (term previous attempt : ℕ) → body ≡ Own range term previous attempt → R master (
    record master {
      ownership = grant (record { range = range; term = term }) master.ownership;
    },
    [],
  )

-- of what a timer does
pub record Ticked (R : Master → Master × List Message → Type 0) : Type 0 where
  pub enlists : (master : Master) → R master (master, to_coordinator master.log.own Enlist ∷ [])
  pub reminds : (before : Log) (master : Master) → R master (reminds before master)

-- of the rules that follow up
pub record Followed (R : Master → Master × List Message → Type 0) : Type 0 where
  pub marks : (master : Master) → shuts master.log ≡ true → R master (
    with_log master (with_segment (master.log.head - 1)
        (record (old_head_of master.log) { shut = true }) master.log),
    [],
  )
  pub starts : (master : Master) → may_start master.log ≡ true →
      R master (with_log master (starts master.log), to_coordinator master.log.own Ready ∷ [])
  pub places : (master : Master) → may_close master.log ≡ true → R master (with_log master (closes_old master.log), [])
  pub closes : (master : Master) → close_is_due master.log ≡ true → R master (
    with_log master (close_marked master.log),
    to_ids master.log.own (ids_of (filter (is_unclosed (old_head_of master.log)) (old_head_of master.log).config.members))
        (Close (master.log.head - 1) (length (old_head_of master.log).entries)),
  )
  pub shuts : (master : Master) → may_write master.log ≡ true →
      R master (with_log master (writes_on master.log), frees_segments master.log (left_out master.log))
  pub commits : (master : Master) (seg : ℕ) → first_open master.log ≡ Some seg →
      wants_commit (master.log.segments seg) ≡ true → R master (commits master seg)
  pub counts : (master : Master) → nat_lt master.log.durable (durable_now master.log) ≡ true → R master (
    with_log master (record master.log { durable = durable_now master.log }),
    write_oks master.log.own (new_durable master.log),
  )
  pub rolls : (master : Master) → Rolls R master
  pub replays : (master : Master) (entry : Entry) (entries : List Entry) → master.ownership.replay ≡ entry ∷ entries →
      is_writing master.log.phase ≡ true → is_full master.log ≡ false →
      R master (appends_entry (record master { ownership = after_replay master.ownership }) entry false)
  pub answers : (master : Master) (term : ℕ) → to_answer (durable_replayed master) master.ownership ≡ Some term → R master (
    record master { ownership = after_answer (durable_replayed master) master.ownership },
    to_coordinator master.log.own (Recovered (attempt_of term master.tasks) term) ∷ [],
  )

-- a deposed master stays as it is
pub same-deposed : {master : Master} (body : Body) → (deposed_takes master body).0 ≡ master
same-deposed (Write table key value) = refl
same-deposed (Read table key) = refl
same-deposed _ = refl

-- a full head: a roll, or nothing
roll-cases : (master : Master) (P : Log × Result Bool Fault → Type 0) → ((fault : Fault) → P (master.log, Err fault)) →
    ((ids : List ServerId) → master.log.head < LAST_SEGMENT →
    choose (master.log.head + 1) master.log.own master.log.factor master.known ≡ Some ids →
    P (opens_head master.log (next_digest master.log (dead_segments master)) ids, Ok true)) →
    P (begin_roll master.known (dead_segments master) master.log)
roll-cases master P none opened = search (arith, either, nat_lt, ltb-true)

-- The rules that follow up, one by one

module _ (R : Master → Master × List Message → Type 0) (f : Followed R) where
  kept-commits : (master : Master) (seg : Option ℕ) → first_open master.log ≡ seg → AllDone (R master)
      (option_and_then (λ one. when (wants_commit (master.log.segments one)) (commits master one)) seg)
  kept-commits master None e = tt
  kept-commits master (Some seg) e =
      done-when (R master) (wants_commit (master.log.segments seg)) (λ wants. f.commits master seg e wants)

  kept-replays : (master : Master) (entries : List Entry) → master.ownership.replay ≡ entries →
      is_writing master.log.phase ≡ true → AllDone (R master) (replays master entries)
  kept-replays master [] e writing = tt
  kept-replays master (entry ∷ entries) e writing = either (AllDone (R master)) (is_full master.log)
      (rolls_for_replay master (begin_roll master.known (dead_segments master) master.log))
      (Some (appends_entry (record master { ownership = after_replay master.ownership }) entry false))
      (λ _. roll-cases master (λ done. AllDone (R master) (rolls_for_replay master done)) (λ fault. tt)
      (λ ids room chosen. f.rolls master ids writing room chosen))
      (λ room. f.replays master entry entries e writing room)

  kept-answers : (master : Master) (term : Option ℕ) → to_answer (durable_replayed master) master.ownership ≡ term →
      AllDone (R master) (answers_part master term)
  kept-answers master None e = tt
  kept-answers master (Some term) e = f.answers master term e

  pub kept-follow_up : (master : Master) → AllDone (R master) (follow_up master)
  kept-follow_up master = search (arith, done-or, done-when, kept-commits, nat_lt, either, kept-replays, kept-answers)

module _ (R : Master → Master × List Message → Type 0) (joined : Joined R) where
  pub kept-then : {master : Master} {first : Master × List Message} {rule : Master → Master × List Message} →
      R master first → ((after : Master) → R after (rule after)) → R master (then_does first rule)
  kept-then {master} {first} {rule} p q = joined.both master first.0 first.1 (rule first.0) p (q first.0)

  -- All that follow up

  kept-marks : Followed R → {master : Master} → R master (marks_shut master, [])
  kept-marks f {master} = either (λ (log : Log). R master (with_log master log, [])) (shuts master.log)
      (with_segment (master.log.head - 1) (record (old_head_of master.log) { shut = true }) master.log) master.log
      (f.marks master) (λ _. joined.still master)

  kept-further : (found : Option (Master × List Message)) {master : Master} {others : Master → Master × List Message} →
      AllDone (R master) found → ((next : Master) → R next (others next)) → R master (further found master others)
  kept-further None {master} p q = joined.still master
  kept-further (Some (next, messages)) {master} {others} p q = joined.both master next messages (others next) p (q next)

  kept-followed : Followed R → (times : ℕ) (master : Master) → R master (followed times master)
  kept-followed f zero master = kept-marks f
  kept-followed f (suc times) master = joined.both master (marks_shut master) []
      (further (follow_up (marks_shut master)) (marks_shut master) (followed times)) (kept-marks f)
      (kept-further (follow_up (marks_shut master)) (kept-follow_up R f (marks_shut master)) (kept-followed f times))

  pub kept-goes_on : Followed R → (master : Master) → R master (goes_on master)
  kept-goes_on f master = either (R master) master.deposed (master, []) (followed (enough master) master)
      (λ _. joined.still master) (λ _. kept-followed f (enough master) master)

  -- The list rules

  kept-segment : {seg : ℕ} {master : Master} (done : Log × Result (List ServerId) Fault) →
      ((ids : List ServerId) → R master
      (with_log master done.0, to_ids done.0.own ids (place_of done.0 seg (done.0.segments seg).shut))) →
      R master (places_segment seg master done)
  kept-segment (log, Ok ids) p = p ids
  kept-segment (log, Err fault) p = p []

  kept-lost : Listed R → {master : Master} (seg : ℕ) → R master (replaces_lost master seg)
  kept-lost l {master} seg =
      either (R master) (master.log.segments seg).freed (master, []) (places_segment seg master (loses master.known seg master.log))
      (λ _. joined.still master)
      (λ isn't. kept-segment (loses master.known seg master.log) (λ ids. l.replaces master seg ids isn't))

  kept-lost_of : Listed R → (segs : List ℕ) (master : Master) → R master (replaces_lost_of segs master)
  kept-lost_of l [] master = joined.still master
  kept-lost_of l (seg ∷ segs) master = kept-then (kept-lost l seg) (kept-lost_of l segs)

  kept-first : Listed R → {master : Master} (chosen : Option (List ServerId)) → master.log.head ≡ 0 →
      choose 1 master.log.own master.log.factor master.known ≡ chosen →
      R master (opens_first master (opened_on master.log (1 ∷ []) chosen))
  kept-first l {master} None none e = joined.still master
  kept-first l {master} (Some ids) none e = l.opens master ids none e

  kept-tries : Listed R → (master : Master) → R master (tries_first master)
  kept-tries l master = search (arith, either, nat_eq, kept-first, eqb-true, and_parts)

  pub kept-obeys : Listed R → (master : Master) → R master (obeys_list master)
  kept-obeys l master = kept-then (kept-lost_of l (numbers_to master.log.head) master) (kept-tries l)

  pub kept-list : Listed R → {master : Master} {servers : ServerList} →
      (newer_than servers master.known ≡ true → R master (record master { known = servers }, [])) →
      R master (takes_list master servers)
  kept-list l {master} {servers} p =
      either (R master) (newer_than servers master.known) (obeys_list (record master { known = servers })) (master, [])
      (λ newer. joined.both master (record master { known = servers }) [] (obeys_list (record master { known = servers }))
      (p newer) (kept-obeys l (record master { known = servers }))) (λ _. joined.still master)

  -- Writes and reads

  module _ (refuses : (master : Master) (fault : Fault) → R master (refused master fault)) where
    kept-rolls : {master : Master} → Rolls R master → is_writing master.log.phase ≡ true →
        R master (rolls_for_write master (begin_roll master.known (dead_segments master) master.log))
    kept-rolls {master} rolls writing =
        roll-cases master (λ done. R master (rolls_for_write master done)) (λ fault. refuses master fault)
        (λ ids room chosen. (let log : Log = opens_head master.log (next_digest master.log (dead_segments master)) ids in
        joined.both master (with_log master log) (places_head log) (refused (with_log master log) Rolling)
        (rolls ids writing room chosen) (refuses (with_log master log) Rolling)))

    kept-under : {master : Master} (term table key : ℕ) (value : Option (List ℕ)) → Rolls R master →
        (is_writing master.log.phase ≡ true → is_full master.log ≡ false →
        R master (appends_entry master (written master term table key value) true)) →
        R master (writes_under master term table key value)
    kept-under {master} term table key value rolls p = by (is_writing master.log.phase) refl
      where
        by : (b : Bool) → is_writing master.log.phase ≡ b → R master (cond (not b) (refused master Rolling)
            (cond (is_full master.log) (rolls_for_write master (begin_roll master.known (dead_segments master) master.log))
            (appends_entry master (written master term table key value) true)))
        by false e = refuses master Rolling
        by true e = search (arith, either, kept-rolls)

    kept-owned : {master : Master} (term : Option ℕ) (table key : ℕ) (value : Option (List ℕ)) → Rolls R master →
        ((one : ℕ) → term ≡ Some one → is_writing master.log.phase ≡ true → is_full master.log ≡ false →
        R master (appends_entry master (written master one table key value) true)) →
        R master (option_map_or (λ one. writes_under master one table key value) term (refused master NotOwner))
    kept-owned {master} None table key value rolls p = refuses master NotOwner
    kept-owned (Some term) table key value rolls p = kept-under term table key value rolls (p term refl)

    pub kept-writes : {master : Master} (table key : ℕ) (value : Option (List ℕ)) → Rolls R master →
        ((term : ℕ) → term_of master.ownership table key ≡ Some term → is_writing master.log.phase ≡ true →
        is_full master.log ≡ false → R master (appends_entry master (written master term table key value) true)) →
        R master (writes master table key value)
    kept-writes {master} table key value rolls p = either (R master) (is_too_long value) (refused master ValueTooLong)
        (if_owned master table key (λ one. writes_under master one table key value))
        (λ _. refuses master ValueTooLong)
        (λ _. kept-owned (term_of master.ownership table key) table key value rolls p)

    pub kept-reads : {master : Master} (term : Option ℕ) {table key : ℕ} →
        ((one : ℕ) → term ≡ Some one → R master (reads_under master one table key)) →
        R master (option_map_or (λ one. reads_under master one table key) term (refused master NotOwner))
    kept-reads {master} None p = refuses master NotOwner
    kept-reads (Some term) p = p term refl

    pub kept-deposed : {master : Master} (body : Body) → R master (deposed_takes master body)
    kept-deposed {master} (Write table key value) = refuses master Deposed
    kept-deposed {master} (Read table key) = refuses master Deposed
    kept-deposed {master} body = joined.still master

  -- Plans

  pub kept-plan : {attempt : ℕ} {crashed : ServerId} {rows : List PlanRow} (parts : List Part) →
      ((master : Master) (part : Part) → In part parts → knows_term master.ownership part.term ≡ false →
      R master (begun (task_of attempt crashed rows part) master, map (fetch_of master.log.own (task_of attempt crashed rows part)) rows)) →
      (master : Master) → R master (takes_plan attempt crashed rows parts master)
  kept-plan [] p master = joined.still master
  kept-plan (part ∷ parts) p master = kept-then
      (either (R master) (knows_term master.ownership part.term) (master, []) (_, _)
      (λ _. joined.still master) (λ new. p master part (inl refl) new))
      (kept-plan parts (λ one other at. p one other (inr at)))

  -- Messages

  pub kept-takes_first : Listed R → {master : Master} (from : Addr) (body : Body) → Taken R master from body →
      R master (master_takes_first master from body)
  kept-takes_first l from (Write table key value) t =
      kept-writes t.refuses table key value t.rolls (λ term. t.writes term table key value refl)
  kept-takes_first l {master} from (Read table key) t =
      kept-reads t.refuses (term_of master.ownership table key) (λ term. t.reads term table key refl)
  kept-takes_first l from (ServersOf version rows) t = kept-list l (t.lists version rows refl)
  kept-takes_first l (Server teller) (Stored seg epoch len closed) t = t.stores teller seg epoch len closed refl refl
  kept-takes_first l from (CommitOk seg epoch) t = t.commits seg epoch refl
  kept-takes_first l {master} Coordinator (Refused reason) t = search (arith, either)
  kept-takes_first l {master} from (Plan head attempt crashed rows parts) t =
      kept-plan parts (λ one part. t.begins one attempt crashed head rows parts part refl) master
  kept-takes_first l (Server holder) (Data attempt seg term entries) t = t.comes holder attempt seg term entries refl refl
  kept-takes_first l from (Own range term previous attempt) t = t.owns range term previous attempt refl
  kept-takes_first l {master} from body t = joined.still master

  -- The timer

  pub kept-ticks_first : Listed R → Ticked R → (master : Master) → R master (ticks master)
  kept-ticks_first l t master =
      either (R master) (is_up master.known master.log.own) (then_does (obeys_list master) (reminds master.log))
      (master, to_coordinator master.log.own Enlist ∷ [])
      (λ _. kept-then (kept-obeys l master) (t.reminds master.log)) (λ _. t.enlists master)

  -- Whole steps

  pub kept-takes : Listed R → Followed R → {master : Master} {from : Addr} {body : Body} → Taken R master from body →
      R master (master_takes master from body)
  kept-takes l f {master} {from} {body} t =
      either (R master) master.deposed (deposed_takes master body) (then_does (master_takes_first master from body) goes_on)
      (λ _. kept-deposed t.refuses body) (λ _. kept-then (kept-takes_first l from body t) (kept-goes_on f))

  pub kept-ticks : Listed R → Followed R → Ticked R → (master : Master) → R master (master_ticks master)
  kept-ticks l f t master =
      either (R master) master.deposed (master, []) (then_does (ticks master) goes_on) (λ _. joined.still master)
      (λ _. kept-then (kept-ticks_first l t master) (kept-goes_on f))

-- Relations of the log alone

-- from the log before to the log after
abbrev pub OfLog : (Log → Log → Type 0) → Master → Master × List Message → Type 0
OfLog L master after = L master.log after.0.log

pub record LogJoined (L : Log → Log → Type 0) : Type 0 where
  pub still : (log : Log) → L log log
  pub both : (one two three : Log) → L one two → L two three → L one three

-- what inputs do
pub record LogListed (L : Log → Log → Type 0) : Type 0 where
  pub replaces : (servers : ServerList) (seg : ℕ) (log : Log) → L log (loses servers seg log).0
  pub opens : (servers : ServerList) (log : Log) (ids : List ServerId) → log.head ≡ 0 →
      choose 1 log.own log.factor servers ≡ Some ids → L log (opens_head log (1 ∷ []) ids)

-- an entry is appended, or a roll begins
pub record LogWritten (L : Log → Log → Type 0) : Type 0 where
  pub rolls : (servers : ServerList) (log : Log) (digest : List ℕ) (ids : List ServerId) → is_writing log.phase ≡ true →
      log.head < LAST_SEGMENT → choose (log.head + 1) log.own log.factor servers ≡ Some ids → L log (opens_head log digest ids)
  pub writes : (log : Log) (entry : Entry) (client : Bool) → is_writing log.phase ≡ true → is_full log ≡ false →
      L log (appends entry client log)

-- what the rules that follow up do
pub record LogFollowed (L : Log → Log → Type 0) : Type 0 where
  pub marks : (log : Log) → shuts log ≡ true →
      L log (with_segment (log.head - 1) (record (old_head_of log) { shut = true }) log)
  pub starts : (log : Log) → may_start log ≡ true → L log (starts log)
  pub places : (log : Log) → may_close log ≡ true → L log (closes_old log)
  pub closes : (log : Log) → close_is_due log ≡ true → L log (close_marked log)
  pub shuts : (log : Log) → may_write log ≡ true → L log (writes_on log)
  pub commits : (log : Log) (seg : ℕ) → L log (with_segment seg (record (log.segments seg) { commit_sent = true }) log)
  pub counts : (log : Log) → nat_lt log.durable (durable_now log) ≡ true → L log (record log { durable = durable_now log })

module _ (L : Log → Log → Type 0) (joined : LogJoined L) where
  pub of_log-joined : Joined (OfLog L)
  of_log-joined = search arith

  pub of_log-listed : LogListed L → Listed (OfLog L)
  of_log-listed l = search arith

  -- but for what is told as stored, and as committed
  pub of_log-taken : LogWritten L → {master : Master} {from : Addr} {body : Body} →
      ((teller : ServerId) (seg epoch len : ℕ) (closed : Bool) → from ≡ Server teller → body ≡ Stored seg epoch len closed →
      L master.log (stored seg teller epoch len closed master.log)) →
      ((seg epoch : ℕ) → body ≡ CommitOk seg epoch → L master.log (commit_noted seg epoch master.log)) →
      Taken (OfLog L) master from body
  of_log-taken w {master} stores commits = search arith

  pub of_log-ticked : Ticked (OfLog L)
  of_log-ticked = record { enlists = λ master. joined.still master.log; reminds = λ before master. joined.still master.log }

  pub of_log-followed : LogWritten L → LogFollowed L → Followed (OfLog L)
  of_log-followed w f = search arith
