-- The rules that a master follows up each input with: the first that applies is made, and the search begins anew. They
-- are numbered as in docs/PROTOCOL.md, 10.3.
use Rattle.std.specs.Prelude.{ℕ, ◌+◌, ◌*◌, ◌-◌, Bool, true, false, not, nat_eq, nat_lt, ◌&&◌, if◌then◌else◌, List}
use Rattle.std.specs.Prelude.{[], ◌∷◌, length, drop, take, find, filter, Option, Some, None, zero, suc, Result}
use Rattle.std.specs.Prelude.{Ok, Err, option_and_then}
use Rattle.std.specs.List.{flat_map}
use Rattle.std.specs.Option.{option_or, option_map_or}
-- the rule applies, and does this
pub use Rattle.std.specs.Bool.{then_some as when}
use Rattle.rc_types.specs.declared.ids.ServerId.{ServerId}
use Rattle.rc_types.specs.declared.entries.Entry.{Entry}
use Rattle.rc_types.specs.declared.faults.Fault.{Fault}
use Rattle.rc_types.specs.declared.messages.Message.{Message}
use Rattle.rc_types.specs.declared.messages.Body.TheVariants.{WriteOk, Close, Commit, Free, Ready, Recovered}
use Rattle.rc_model.specs.Messages.{to_coordinator, to_outside}
use Rattle.rc_model.specs.Config.{all_placed}
use Rattle.rc_model.specs.Segment.{Segment, is_unclosed, has_unclosed, with_closes_sent}
use Rattle.rc_model.specs.Log.{Log, LogPlace, places_of, old_head_of, has_old_head, with_segment}
use Rattle.rc_model.specs.Log.{numbers_to, is_closing, is_writing, durable_now}
use Rattle.rc_model.specs.Heads.{is_full, begin_roll, with_shut, may_start, may_close, may_write, left_out, starts}
use Rattle.rc_model.specs.Heads.{closes_old, writes_on}
use Rattle.rc_model.specs.Ownership.{after_replay, to_answer, after_answer}
use Rattle.rc_model.specs.Master.{Master, Task, with_log, durable_replayed, to_ids, ids_of, to_unlost, places_head}
use Rattle.rc_model.specs.Master.{appends_entry, dead_segments}
use Rattle.rc_model.specs.ListRules.{then_does}

-- Starting, closing the old head, writing in the new one

-- rule 1: the first head writes, and Ready goes to the coordinator
abbrev pub follows_start : Master → Option (Master × List Message)
follows_start master = when (may_start master.log)
    (with_log master (starts master.log), to_coordinator master.log.own Ready ∷ [])

-- rule 2: the new head is placed on all, and the old one is to be closed
abbrev pub follows_placed : Master → Option (Master × List Message)
follows_placed master = when (may_close master.log) (with_log master (closes_old master.log), [])

-- the old head's epoch is committed, and to some member no Close was sent under it
abbrev pub close_is_due : Log → Bool
close_is_due log =
    is_closing log.phase && (has_old_head log && ((old_head_of log).config.committed && has_unclosed (old_head_of log)))

abbrev pub close_marked : Log → Log
close_marked log = with_segment (log.head - 1) (with_closes_sent (old_head_of log)) log

-- rule 3: Close goes with the final length to each of these, lost or not: also to one that has since taken a lost one's
-- place
abbrev pub follows_closing : Master → Option (Master × List Message)
follows_closing master = when (close_is_due master.log) (
  with_log master (close_marked master.log),
  to_ids master.log.own (ids_of (filter (is_unclosed (old_head_of master.log)) (old_head_of master.log).config.members))
      (Close (master.log.head - 1) (length (old_head_of master.log).entries)),
)

-- Free of each of these segments goes to each of its members that isn't lost
abbrev pub frees_segments : Log → List ℕ → List Message
frees_segments log segs = flat_map (λ seg. to_unlost log seg (Free seg)) segs

-- rule 4: the old head is shut and the new one ready, so it writes; and what its digest leaves out is freed
abbrev pub follows_shut : Master → Option (Master × List Message)
follows_shut master = when (may_write master.log)
    (with_log master (writes_on master.log), frees_segments master.log (left_out master.log))

-- Commits

-- the first segment that isn't shut
abbrev pub first_open : Log → Option ℕ
first_open log = find (λ seg. not (log.segments seg).shut) (numbers_to log.head)

-- placed on all, under an epoch that isn't committed, and no Commit of it was sent
abbrev pub wants_commit : Segment → Bool
wants_commit segment = not segment.config.committed && (all_placed segment.config && not segment.commit_sent)

abbrev pub commits : Master → ℕ → Master × List Message
commits master seg =
    let log = with_segment seg (record (master.log.segments seg) { commit_sent = true }) master.log in
    (with_log master log, to_coordinator master.log.own (Commit seg (master.log.segments seg).config.epoch) ∷ [])

-- rule 5: Commit of a segment, where no earlier one is open
abbrev pub follows_change : Master → Option (Master × List Message)
follows_change master =
    option_and_then (λ seg. when (wants_commit (master.log.segments seg)) (commits master seg)) (first_open master.log)

-- Acknowledging

-- the WriteOks of the clients' writes at these places, in order
abbrev pub write_oks : ServerId → List LogPlace → List Message
write_oks own [] = []
write_oks own (place ∷ places) =
    if place.client
    then to_outside own
    (WriteOk place.seg place.offset place.entry.term place.entry.table place.entry.key place.entry.version)
    ∷ write_oks own places
    else write_oks own places

-- the places that have become durable
abbrev pub new_durable : Log → List LogPlace
new_durable log = drop log.durable (take (durable_now log) (places_of log))

-- rule 6: they are durable for good, and each client's write among them is acknowledged
abbrev pub follows_stored : Master → Option (Master × List Message)
follows_stored master = when (nat_lt master.log.durable (durable_now master.log)) (
  with_log master (record master.log { durable = durable_now master.log }),
  write_oks master.log.own (new_durable master.log),
)

-- Replaying

-- a full head means a roll to a replay, where one can begin
abbrev pub rolls_for_replay : Master → Log × Result Bool Fault → Option (Master × List Message)
rolls_for_replay master (log, Ok began) = Some (with_log master log, places_head log)
rolls_for_replay master (log, Err fault) = None

abbrev pub replays : Master → List Entry → Option (Master × List Message)
replays master [] = None
replays master (entry ∷ entries) =
    if is_full master.log then rolls_for_replay master (begin_roll master.known (dead_segments master) master.log)
    else Some (appends_entry (record master { ownership = after_replay master.ownership }) entry false)

-- rule 7: in Writing the first entry of the replay is appended, or a full head rolled
abbrev pub follows_data : Master → Option (Master × List Message)
follows_data master = if is_writing master.log.phase then replays master master.ownership.replay else None

-- the attempt in which the part of this term was given
abbrev pub attempt_of : ℕ → List Task → ℕ
attempt_of term [] = 0
attempt_of term (task ∷ tasks) = if nat_eq task.part.term term then task.attempt else attempt_of term tasks

abbrev pub answers_part : Master → Option ℕ → Option (Master × List Message)
answers_part master None = None
answers_part master (Some term) = Some (
  record master { ownership = after_answer (durable_replayed master) master.ownership },
  to_coordinator master.log.own (Recovered (attempt_of term master.tasks) term) ∷ [],
)

-- rule 8: the first part that is complete is told of, once
abbrev pub follows_replay : Master → Option (Master × List Message)
follows_replay master = answers_part master (to_answer (durable_replayed master) master.ownership)

-- All of them

-- the first rule that applies, if one does
abbrev pub follow_up : Master → Option (Master × List Message)
follow_up master =
    option_or (follows_start master) (option_or (follows_placed master) (option_or (follows_closing master)
    (option_or (follows_shut master) (option_or (follows_change master) (option_or (follows_stored master)
    (option_or (follows_data master) (follows_replay master)))))))

-- a segment that has become shut is marked before each search
abbrev pub marks_shut : Master → Master
marks_shut master = with_log master (with_shut master.log)

-- what one rule did, and then the others
abbrev pub further : Option (Master × List Message) → Master → (Master → Master × List Message) → Master × List Message
further done master others = option_map_or (λ one. then_does one others) done (master, [])

-- the rules, at most so many times: from the first on again after each
abbrev pub followed : ℕ → Master → Master × List Message
followed zero master = (marks_shut master, [])
followed (suc times) master = further (follow_up (marks_shut master)) (marks_shut master) (λ next. followed times next)

-- no more rules than this are made: for each entry that waits a roll and an append, for each place that it becomes
-- durable, for each segment a Commit, for each part an answer; and 7 for the phases of the heads, and the Closes
abbrev pub enough : Master → ℕ
enough master =
    7 + 2 * length master.ownership.replay + length (places_of master.log) + master.log.head
    + length master.ownership.parts

-- the rules, until none applies; a deposed master follows none
abbrev pub goes_on : Master → Master × List Message
goes_on master = if master.deposed then (master, []) else followed (enough master) master
