-- What the timer's messages depend on: the log, the ownership and the tasks of a master.
use Rattle.std.proofs.Common.{◌≡◌, List, [], ◌∷◌, ◌++◌, ◌&&◌, not, map, filter, take, ap, ◌∙◌, refl}
use Rattle.std.proofs.lemmas.Simd.{map-map}
use Rattle.rc_model.specs.Model.{Entry, Recovered, to_coordinator, Log, places_of, replayed_at, numbers_to, Ownership}
use Rattle.rc_model.specs.Model.{PartState, is_complete}
use Rattle.rc_model.specs.Model.{owns_term, Master, Task, attempt_of, fetch_of, has_not_come, reminds_open, reminds_shut, commits_again}
use Rattle.rc_model.specs.Model.{fetches_again, recovered_again, ready_again, reminds}
use Rattle.rc_ownership.specs.Parts.{awaiting_grant}
use Rattle.rc_master.specs.Reminders.{recovered_of}
use Rattle.rc_master.specs.Sender.{sender}

pub fetches-sender : (m : Master) (tasks : List Task) →
    fetches_again m tasks ≡ fetches_again (sender m.log m.ownership m.tasks) tasks
fetches-sender m [] = refl
fetches-sender m (task ∷ tasks) =
    ap (λ l. map (fetch_of m.log.own task) (filter (has_not_come m.ownership task) task.rows) ++ l) (fetches-sender m tasks)

-- all that the timer says again
pub reminds-sender : (before : Log) (m : Master) →
    (reminds before m).1 ≡ (reminds before (sender m.log m.ownership m.tasks)).1
reminds-sender before m =
    ap (λ l. reminds_open before m.log (numbers_to m.log.head) ++ reminds_shut before m.log (numbers_to m.log.head)
    ++ commits_again m.log ++ l ++ recovered_again m ++ ready_again m) (fetches-sender m m.tasks)

-- the parts that are told of again, by their terms
pub recovered-again : (log : Log) (own : Ownership) (tasks : List Task) (replayed : List Entry) →
    replayed ≡ replayed_at (take log.durable (places_of log)) →
    recovered_of log.own tasks (awaiting_grant replayed own own.parts) ≡ recovered_again (sender log own tasks)
recovered-again log own tasks replayed is =
    map-map (λ term. to_coordinator log.own (Recovered (attempt_of term tasks) term)) (λ state. state.part.term)
    (filter (λ state. is_complete replayed state && not (owns_term own state.part.term)) own.parts)
    ∙ ap (λ entries. map (λ (state : PartState). to_coordinator log.own (Recovered (attempt_of state.part.term tasks) state.part.term))
    (filter (λ state. is_complete entries state && not (owns_term own state.part.term)) own.parts)) is
