-- The task of a part stands at the part's place.
use Rattle.std.proofs.Common.{◌≡◌, ℕ, ◌+◌, Bool, true, false, cond, nat_eq, inl, inr, List, [], ◌∷◌, ◌++◌, map, filter, Some}
use Rattle.std.proofs.Common.{sym, ap, ◌∙◌, refl}
use Rattle.std.proofs.lemmas.Iterator.Adapters.{position_from-zero}
use Rattle.std.specs.Prelude.{slice_get}
use Rattle.std.specs.Option.{option_map_or}
use Rattle.std.specs.List.{position, position_from}
use Rattle.rc_model.specs.Model.{PlanRow, Log, Ownership, PartState, awaits_data, Task, attempt_of, fetch_of, has_not_come}
use Rattle.rc_model.specs.Model.{fetches_again}
use Rattle.rc_ownership.specs.Unfinished.{HoldOthers, IsDone}
use Rattle.rc_ownership.proofs.Places.{Stand, stand-first, stand-rest, stand-all}
use Rattle.rc_master.specs.Sender.{sender}
use Rattle.rc_master.specs.Tasks.{AreTasksOf, fetches_of, fetches_at}

-- The first, and the others

first-of : (state : PartState) (parts : List PartState) (task : Task) (tasks : List Task) →
    AreTasksOf (state ∷ parts) (task ∷ tasks) → (task.part.term ≡ state.part.term) × AreTasksOf parts tasks
first-of state parts task tasks are = (cc, cc)

no-part : {P : Type 0} (task : Task) (tasks : List Task) → AreTasksOf [] (task ∷ tasks) → P
no-part task tasks are = absurd (cc)

no-task : {P : Type 0} (state : PartState) (parts : List PartState) → AreTasksOf (state ∷ parts) [] → P
no-task state parts are = absurd (cc)

-- Fetches

none-left : (own : Ownership) (task : Task) → ((row : PlanRow) → has_not_come own task row ≡ false) → (rows : List PlanRow) →
    filter (has_not_come own task) rows ≡ []
none-left own task none [] = refl
none-left own task none (row ∷ rows) =
    ap (λ b. cond b (row ∷ filter (has_not_come own task) rows) (filter (has_not_come own task) rows)) (none row)
    ∙ none-left own task none rows

fetches-from : (log : Log) (own : Ownership) (all : List Task) (at : ℕ) (places : List ℕ) (parts : List PartState)
    (tasks : List Task) → Stand all at tasks → AreTasksOf parts tasks → HoldOthers (IsDone own) at places parts →
    fetches_at log.own own all places ≡ fetches_again (sender log own all) tasks
fetches-from log own all at places [] [] stand are none = ap (fetches_at log.own own all) none
fetches-from log own all at places [] (task ∷ tasks) stand are none = no-part task tasks are
fetches-from log own all at places (state ∷ parts) [] stand are hold = no-task state parts are
fetches-from log own all at places (state ∷ parts) (task ∷ tasks) stand are (inl (done, rest)) =
    let named = first-of state parts task tasks are in
    fetches-from log own all (at + 1) places parts tasks (stand-rest all tasks task at stand) named.1 rest
    ∙ ap (λ rows. map (fetch_of log.own task) rows ++ fetches_again (sender log own all) tasks)
    (sym (none-left own task
    (λ row. ap (λ term. awaits_data term row.seg row.holder own) named.0 ∙ done.awaits_none row.seg row.holder) task.rows))
fetches-from log own all at places (state ∷ parts) (task ∷ tasks) stand are (inr (others, is, rest)) =
    let named = first-of state parts task tasks are in
    ap (fetches_at log.own own all) is
    ∙ ap (λ found. option_map_or (fetches_of log.own own) found [] ++ fetches_at log.own own all others)
    (stand-first all tasks task at stand)
    ∙ ap (λ more. fetches_of log.own own task ++ more)
    (fetches-from log own all (at + 1) others parts tasks (stand-rest all tasks task at stand) named.1 rest)

-- what is fetched again for the parts that may be unfinished is all that is fetched again
pub fetches-unfinished : (log : Log) (own : Ownership) (tasks : List Task) (places : List ℕ) → AreTasksOf own.parts tasks →
    HoldOthers (IsDone own) 0 places own.parts →
    fetches_at log.own own tasks places ≡ fetches_again (sender log own tasks) tasks
fetches-unfinished log own tasks places are hold =
    fetches-from log own tasks 0 places own.parts tasks (stand-all tasks) are hold

-- Attempts

attempt-from : (term : ℕ) (all : List Task) (at : ℕ) (parts : List PartState) (tasks : List Task) → Stand all at tasks →
    AreTasksOf parts tasks →
    option_map_or (λ place. option_map_or (λ (task : Task). task.attempt) (slice_get all place) 0)
    (position_from (λ state. nat_eq state.part.term term) at parts) 0 ≡ attempt_of term tasks
attempt-from term all at [] [] stand are = refl
attempt-from term all at [] (task ∷ tasks) stand are = no-part task tasks are
attempt-from term all at (state ∷ parts) [] stand are = no-task state parts are
attempt-from term all at (state ∷ parts) (task ∷ tasks) stand are =
    let named = first-of state parts task tasks are in
    by (nat_eq state.part.term term) (attempt-from term all (at + 1) parts tasks (stand-rest all tasks task at stand) named.1)
    ∙ ap (λ own. cond (nat_eq own term) task.attempt (attempt_of term tasks)) (sym named.0)
  where
    by : (b : Bool) →
        option_map_or (λ place. option_map_or (λ (task : Task). task.attempt) (slice_get all place) 0)
        (position_from (λ state. nat_eq state.part.term term) (at + 1) parts) 0 ≡ attempt_of term tasks →
        option_map_or (λ place. option_map_or (λ (task : Task). task.attempt) (slice_get all place) 0)
        (cond b (Some at) (position_from (λ state. nat_eq state.part.term term) (at + 1) parts)) 0
        ≡ cond b task.attempt (attempt_of term tasks)
    by true later = ap (λ found. option_map_or (λ (one : Task). one.attempt) found 0) (stand-first all tasks task at stand)
    by false later = later

-- the attempt of a term is that of the task at the place of its part
pub attempt-placed : (term : ℕ) (parts : List PartState) (tasks : List Task) → AreTasksOf parts tasks →
    option_map_or (λ place. option_map_or (λ (task : Task). task.attempt) (slice_get tasks place) 0)
    (position (λ state. nat_eq state.part.term term) parts) 0 ≡ attempt_of term tasks
attempt-placed term parts tasks are =
    ap (λ found. option_map_or (λ place. option_map_or (λ (task : Task). task.attempt) (slice_get tasks place) 0) found 0)
    (position_from-zero (λ (state : PartState). nat_eq state.part.term term) parts)
    ∙ attempt-from term tasks 0 parts tasks (stand-all tasks) are
