-- What a recovery master has of a part is the log of the crashed master, cut to it; once its end was told, all of it is safe.
use Rattle.std.proofs.Common.{◌≡◌, ◌⊎◌, ℕ, ◌≤◌, Bool, true, false, List, ◌++◌, length, map, filter, take, drop}
use Rattle.std.proofs.Common.{Some, refl, sym, ap, ◌∙◌, subst, inl, inr, arith}
use Rattle.std.proofs.lemmas.List.{take-append-drop, length-map}
use Rattle.rc_model.specs.Model.{ServerId, Addr, Server, Entry, Part, PlanRow, Grant, Message, to_coordinator, is_in_part}
use Rattle.rc_model.specs.Model.{places_of, PartState, owns_term, under_term, count_under, Master, Task, Attempt, Decision}
use Rattle.rc_model.specs.Model.{GivenPart, HostNode, In, WasAccepted}
use Rattle.rc_types.specs.declared.messages.Body.TheVariants as body
use Rattle.rc_model.specs.Coordinator.{Coordinator}
use Rattle.rc_model.proofs.Members.{In-left}
use Rattle.rc_step_laws.specs.Words.{Begins, log_in}
use Rattle.rc_step_laws.proofs.Tests.{In-take, get-map}
use Rattle.rc_step_laws.proofs.Places.{IsOf, places_to-are, place-logged}
use Rattle.rc_model.proofs.Ascending.{IsAscending}
use Rattle.rc_owner_laws.specs.Grants.{IsDecided, IsPlanOf, own_said}
use Rattle.rc_owner_laws.specs.Terms.{IsGivenBy}
use Rattle.rc_owner_laws.specs.Parts.{part_view, logged, under, durable_under, HasSent, WasPlanned, IsWaiting, HasJoined, IsPart}
use Rattle.rc_owner_laws.specs.PartMoves.{HasEnded}
use Rattle.rc_owner_laws.proofs.PartLists.{under-append, under-In, begins-within, nothing-more}
use Rattle.rc_owner_laws.specs.Worlds.{AllHold}
use Rattle.rc_owner_laws.specs.Words.{IsSafelyLogged}
use Rattle.rc_owner_laws.proofs.Rows.{segs_of, rows-ascend, one-row}
use Rattle.rc_step_laws.proofs.Attempting.{numbered-same}

-- what a row of a task is to bring: the log of its master below the row's length, cut to the part
abbrev pub cut_of : (ServerId → Master) → Task → PlanRow → List Entry
cut_of masters task row = filter (is_in_part task.part) (take row.len (log_in (masters task.master).log row.seg))

pub decided-same : {attempts : List Attempt} {number : ℕ} {m k : ServerId} {one other : Decision} →
    IsDecided attempts number m one → IsDecided attempts number k other → (m ≡ k) × (one ≡ other)
decided-same {one} {other} p q = search (arith, numbered-same)

-- a task is of a decision that was sent
pub record IsTaskOf (sent : List Message) (c : Coordinator) (x : ServerId) (task : Task) : Type 0 where
  pub decision : Decision
  pub decided : IsDecided c.attempts task.attempt task.master decision
  pub rows_are : task.rows ≡ decision.plan.rows
  pub given : In (record { to = x; part = task.part }) decision.parts
  pub accepted : WasAccepted sent (record { attempt = task.attempt; master = task.master; rows = task.rows })

-- two tasks are one
pub record SameTask (task other : Task) : Type 0 where
  pub attempt : other.attempt ≡ task.attempt
  pub master : other.master ≡ task.master
  pub rows : other.rows ≡ task.rows
  pub part : other.part ≡ task.part

module _ (sent : List Message) (masters : ServerId → Master) (hosts : ℕ → HostNode) (c : Coordinator)
    (all : AllHold sent masters hosts c) where
  -- Tasks

  pub task-of : (x : ServerId) (task : Task) → In task (masters x).tasks → IsTaskOf sent c x task
  task-of x task at = record {
    decision = is.decision;
    decided = is.decided;
    rows_are = is.rows_are;
    given = subst (λ id. In (record { to = id; part = task.part }) is.decision.parts) (sym (to-same x is.id is.to_is))
        (is.given task.part plan.part);
    accepted = record { message = plan.message; among = plan.among; head = plan.head; parts = plan.parts; says = plan.says };
  }
    where
      plan : WasPlanned sent x task
      plan = (all.parts.each x).planned task at

      is : IsPlanOf c (Server x) task.attempt task.master task.rows plan.parts
      is = subst (λ (to : Addr). own_said c to (body.Plan plan.head task.attempt task.master task.rows plan.parts)) plan.to
          (subst (own_said c plan.message.to) plan.says (all.kept.known plan.message plan.among))

      to-same : (a b : ServerId) → ◌≡◌ {A = Addr} (Server a) (Server b) → a ≡ b
      to-same a b e = cc

  pub same-task : (x : ServerId) (task other : Task) → In task (masters x).tasks → In other (masters x).tasks →
      other.part.term ≡ task.part.term → SameTask task other
  same-task x task other at there e =
      let p : IsTaskOf sent c x task = task-of x task at in
      let q : IsTaskOf sent c x other = task-of x other there in
      let once = all.terms.part_once other.attempt task.attempt other.master task.master q.decision p.decision
      (record { to = x; part = other.part }) (record { to = x; part = task.part }) q.decided q.given p.decided
      p.given e in
      let same = decided-same
      (subst (λ n. IsDecided c.attempts n other.master q.decision) once.0 q.decided) p.decided in
      record {
        attempt = once.0;
        master = same.0;
        rows = q.rows_are ∙ (ap (λ (decision : Decision). decision.plan.rows) same.1 ∙ sym p.rows_are);
        part = ap (λ (given : GivenPart). given.part) once.1;
      }

  -- a task's rows ascend
  pub task-ascends : (x : ServerId) (task : Task) → In task (masters x).tasks → IsAscending (segs_of task.rows)
  task-ascends x task at =
      let p : IsTaskOf sent c x task = task-of x task at in
      subst (λ rows. IsAscending (segs_of rows)) (sym p.rows_are)
      (rows-ascend (c.least p.decided.attempt.master) p.decided.attempt.replies
      ((all.good.coordinator.attempts task.attempt p.decided.attempt p.decided.numbered).picked p.decision p.decided.decided))

  -- Data

  -- what a row's holder has sent for a task is the cut
  pub row-cut : (x : ServerId) (task : Task) (row : PlanRow) (entries : List Entry) → In task (masters x).tasks →
      In row task.rows → HasSent sent x row.holder task.part.term row.seg entries →
      (entries ≡ cut_of masters task row) × (row.len ≤ length (log_in (masters task.master).log row.seg))
  row-cut x task row entries at there was = search (arith, same-task, one-row, task-ascends)

  -- The base of a grant

  -- a grant of a recovery: its part has joined at its owner, and all of it is durable
  pub record IsStarted (grant : Grant) (given : IsGivenBy sent c grant) : Type 0 where
    pub state : PartState
    pub among : In state (masters grant.owner).ownership.parts
    pub task : Task
    pub task_among : In task (masters grant.owner).tasks
    pub part_is : task.part ≡ state.part
    pub given_is : task.part ≡ given.part
    pub master_is : task.master ≡ given.master
    pub attempt_is : task.attempt ≡ grant.attempt
    pub joined : HasJoined sent grant.owner (part_view (masters grant.owner)) task state
    pub durable : state.size ≤ durable_under state.part.term (part_view (masters grant.owner))

  pub started : (grant : Grant) (given : IsGivenBy sent c grant) → IsStarted grant given
  started grant given = record {
    state = told.complete.state;
    among = told.complete.among;
    task = part.task;
    task_among = part.among;
    part_is = part.part_is;
    given_is = ap (λ (one : GivenPart). one.part) once.1;
    master_is = (decided-same
        (subst (λ n. IsDecided c.attempts n part.task.master of_task.decision) once.0 of_task.decided) given.decided).0;
    attempt_is = once.0;
    joined = has_joined part.how;
    durable = subst (λ t. told.complete.state.size ≤ durable_under t (part_view (masters grant.owner)))
        (sym told.complete.term_is) told.complete.durable;
  }
    where
      told : HasEnded (part_view (masters grant.owner)) grant.attempt grant.term
      told = all.parts.said (to_coordinator grant.owner (body.Recovered grant.attempt grant.term)) given.asked

      part : IsPart sent grant.owner (part_view (masters grant.owner)) told.complete.state
      part = (all.parts.each grant.owner).parts_are told.complete.state told.complete.among

      of_task : IsTaskOf sent c grant.owner part.task
      of_task = task-of grant.owner part.task part.among

      once : (part.task.attempt ≡ grant.attempt) ×
          (◌≡◌ {A = GivenPart} (record { to = grant.owner; part = part.task.part })
          (record { to = grant.owner; part = given.part }))
      once = all.terms.part_once part.task.attempt grant.attempt part.task.master given.master of_task.decision
          given.decision (record { to = grant.owner; part = part.task.part })
          (record { to = grant.owner; part = given.part })
          of_task.decided of_task.given given.decided given.among (ap (λ (one : Part). one.term) part.part_is ∙
          told.complete.term_is ∙ given.term_is)

      has_joined : IsWaiting sent grant.owner (part_view (masters grant.owner)) part.task told.complete.state ⊎
          HasJoined sent grant.owner (part_view (masters grant.owner)) part.task told.complete.state →
          HasJoined sent grant.owner (part_view (masters grant.owner)) part.task told.complete.state
      has_joined (inl p) = absurd (p.some told.complete.rows)
      has_joined (inr p) = p

  -- where a joined part is durable, its entries are the first of its term in the log
  pub joined-begins : (x : ServerId) (task : Task) (state : PartState) →
      (p : HasJoined sent x (part_view (masters x)) task state) →
      state.size ≤ durable_under state.part.term (part_view (masters x)) →
      Begins (map (under_term state.part.term) p.entries)
      (under state.part.term (take (masters x).log.durable (logged (places_of (masters x).log))))
  joined-begins x task state p durable = begins-within base (under T (take d entries)) (under T (drop d entries))
      (subst (Begins base) parted (by (owns_term (masters x).ownership T) refl)) (let a = long in let b = p.size in
      omega arith)
    where
      T : ℕ
      T = state.part.term

      d : ℕ
      d = (masters x).log.durable

      entries : List Entry
      entries = logged (places_of (masters x).log)

      base : List Entry
      base = map (under_term state.part.term) p.entries

      long : length (map (under_term state.part.term) p.entries) ≡ length p.entries
      long = length-map p.entries (under_term state.part.term)

      parted : under T entries ≡ under T (take d entries) ++ under T (drop d entries)
      parted = ap (under T) (sym (take-append-drop d entries)) ∙ under-append T (take d entries) (drop d entries)

      by : (b : Bool) → owns_term (masters x).ownership T ≡ b → Begins base (under T entries)
      by true e = (p.owned e).0
      by false e =
          let taken : durable_under T (part_view (masters x)) ≤ count_under T entries =
          Rattle.rc_owner_laws.proofs.PartLists.count-take T d entries in
          let rest = nothing-more {xs = base} {ys = (under T entries)} (under T (masters x).ownership.replay) (p.fresh e)
          (let a = long in let b = p.size in let f = durable in omega arith) in
          subst (Begins base) (sym rest.1) (Rattle.rc_step_laws.proofs.Lists.begins-refl)

  -- and each of them stands at a safe place
  pub base-safe : (x : ServerId) (task : Task) (state : PartState) →
      (p : HasJoined sent x (part_view (masters x)) task state) →
      state.size ≤ durable_under state.part.term (part_view (masters x)) →
      (entry : Entry) → In entry (map (under_term state.part.term) p.entries) → IsSafelyLogged sent x (masters x).log entry
  base-safe x task state p durable entry at =
      let begins = joined-begins x task state p durable in
      let there : In entry (under state.part.term (take (masters x).log.durable (logged (places_of (masters x).log)))) =
      subst (In entry) begins.1 (In-left entry (map (under_term state.part.term) p.entries) begins.0 at) in
      let found = In-take (masters x).log.durable (logged (places_of (masters x).log)) entry
      (under-In state.part.term entry (take (masters x).log.durable (logged (places_of (masters x).log))) there).0
      in
      let place = get-map (places_of (masters x).log) found.0 found.2 in
      let is : IsOf (masters x).log.segments (masters x).log.head place.0 =
      places_to-are (masters x).log.head found.0 place.1 in
      record {
        seg = place.0.seg;
        offset = place.0.offset;
        safe = (all.good.masters_are x).counted found.0 place.0 found.1 place.1;
        holds = place-logged (masters x).log is ∙ ap Some place.2;
        counted = record { index = found.0; place = place.0; below = found.1; at = place.1; seg_is = refl; offset_is = refl };
      }
