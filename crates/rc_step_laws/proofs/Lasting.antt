-- What holds of a message, of a host and of a master in a good world holds of it in a later one.
use Rattle.std.proofs.Common.{◌≡◌, ◌⊎◌, ℕ, Bool, true, List, length, Some, None, sym, ◌∙◌, inl, inr, arith}
use Rattle.rc_model.specs.Model.{ServerId, Addr, Server, Outside, Row, PlanRow, Message, Body, between, from_coordinator, is_up, Replica}
use Rattle.rc_model.specs.Model.{Held, is_freed, Master, HostNode, In}
use Rattle.rc_types.specs.declared.ids.Addr.TheVariants.{Coordinator as AtCoordinator}
use Rattle.rc_types.specs.declared.messages.Body.TheVariants as body
use Rattle.rc_model.specs.Coordinator.{Coordinator}
use Rattle.rc_step_laws.specs.All.{held_at, IsOf, GoodMaster, IsStored, StillStands, IsAnswer, IsPlan, GoodReplica, GoodHeld, Good}
use Rattle.rc_step_laws.specs.All.{body_fine, HeldLater, HostLater, AttemptLater, IsNewStored, OwnFine, CoordinatorLater}
use Rattle.rc_step_laws.proofs.Lists.{begins-trans}
use Rattle.rc_step_laws.proofs.Copies.{More, CopyLives, NoneNewUpTo, copy-later, grows-log}
use Rattle.rc_step_laws.proofs.LogViews.{Grown, append-grown, close-grown, write_ok-grown}
use Rattle.rc_step_laws.proofs.Attempting.{below-trans}
use Rattle.rc_step_laws.proofs.Backups.{own-fine}

-- A later world

-- the facts of a world's masters, and what has been added since an earlier one
pub record Onward (sent : List Message) (masters : ServerId → Master) (hosts : ℕ → HostNode) (c : Coordinator)
    (sent_now : List Message) (masters_now : ServerId → Master) (hosts_now : ℕ → HostNode) (c_now : Coordinator) : Type
    0 where
  pub more : More sent sent_now
  pub grown : (m : ServerId) → Grown sent sent_now m (masters m).log (masters_now m).log
  pub masters_are : (m : ServerId) → GoodMaster sent_now m (masters_now m)
  pub own : (m : ServerId) → OwnFine sent_now m (masters_now m).log
  pub hosts_later : (i : ℕ) → HostLater (hosts i) (hosts_now i)
  pub c_later : CoordinatorLater c c_now
  pub stored : (x m : ServerId) (s e len : ℕ) (closed : Bool) → In (between x m (body.Stored s e len closed)) sent_now →
      In (between x m (body.Stored s e len closed)) sent ⊎ IsNewStored hosts x m
  -- what is newly granted goes to a server that is up
  pub granted : (m : ServerId) (s e : ℕ) → In (from_coordinator m (body.CommitOk s e)) sent_now →
      In (from_coordinator m (body.CommitOk s e)) sent ⊎ (is_up c.servers m ≡ true)

-- what was told and stands, stands
stands-later : {old new : Held} {s e len : ℕ} {closed : Bool} → HeldLater old new →
    StillStands old s e len closed ⊎ (is_freed s old ≡ true) → StillStands new s e len closed ⊎ (is_freed s new ≡ true)
stands-later {s} later (inr freed) = inr (later.freed s freed)
stands-later {new} {s} {e} {len} {closed} later (inl p) = by (later.replicas s p.replica p.kept)
  where
    by : StillStands new s p.replica.epoch (length p.replica.entries) p.replica.closed ⊎ (is_freed s new ≡ true) →
        StillStands new s e len closed ⊎ (is_freed s new ≡ true)
    by (inr freed) = inr freed
    by (inl q) = search arith

-- an attempt is for its master, for good
of-later : {c c_now : Coordinator} {number : ℕ} {m : ServerId} → CoordinatorLater c c_now → IsOf c.attempts number m →
    IsOf c_now.attempts number m
of-later {c_now} {number} later p =
    let l : AttemptLater c_now.attempts number p.attempt = later.attempts number p.attempt p.numbered in
    record { attempt = l.now; numbered = l.numbered; master_is = l.master ∙ p.master_is }

plan-later : {c c_now : Coordinator} {number : ℕ} {m : ServerId} {head : ℕ} {rows : List PlanRow} →
    CoordinatorLater c c_now → IsPlan c number m head rows → IsPlan c_now number m head rows
plan-later {c_now} {number} later p = record {
  attempt = l.now;
  numbered = l.numbered;
  master_is = l.master ∙ p.master_is;
  decision = p.decision;
  decided = by l.decided;
  plan_is = p.plan_is;
}
  where
    l : AttemptLater c_now.attempts number p.attempt
    l = later.attempts number p.attempt p.numbered

    by : (p.attempt.decided ≡ (later.attempts number p.attempt p.numbered).now.decided) ⊎ (p.attempt.decided ≡ None) →
        (later.attempts number p.attempt p.numbered).now.decided ≡ Some p.decision
    by (inl same) = sym same ∙ p.decided
    by (inr none) = search arith

module _ (sent : List Message) (masters : ServerId → Master) (hosts : ℕ → HostNode) (c : Coordinator)
    (sent_now : List Message) (masters_now : ServerId → Master) (hosts_now : ℕ → HostNode) (c_now : Coordinator)
    (good : Good sent masters hosts c) (w : Onward sent masters hosts c sent_now masters_now hosts_now c_now) where
  -- copies of a host of which no more is told, up to this generation
  pub lives : {m : ServerId} {index generation : ℕ} → NoneNewUpTo sent sent_now m index generation →
      CopyLives sent sent_now m (masters m).log (masters_now m).log index generation
  lives {m} none = record {
    more = w.more;
    later = (w.grown m).later;
    old_fine = own-fine good;
    new_fine = w.own m;
    places = (w.grown m).places;
    one_a_host = (w.masters_are m).one_a_host;
    none = none;
  }

  -- who has answered about a master tells it no more
  silent : (y : ServerId) (number : ℕ) (rows : List Row) → (answer : IsAnswer sent masters hosts c y number rows) →
      NoneNewUpTo sent sent_now answer.master y.index y.generation
  silent y number rows answer x s e len closed on at = search arith

  answer-later : {y : ServerId} {number : ℕ} {rows : List Row} → IsAnswer sent masters hosts c y number rows →
      IsAnswer sent_now masters_now hosts_now c_now y number rows
  answer-later {y} {number} {rows} answer = record {
    master = answer.master;
    attempt = of-later w.c_later answer.attempt;
    since = omega (arith, answer.since, (w.hosts_later y.index).generation);
    fenced = λ same. fenced same;
    rows_are = λ row at. copy-later (lives (silent y number rows answer)) (answer.rows_are row at);
  }
    where
      fenced : y.generation ≡ (hosts_now y.index).generation → (held_at hosts_now y.index answer.master).fenced ≡ true
      fenced same = search arith

  stored-later : (x m : ServerId) (s e len : ℕ) (closed : Bool) → In (between x m (body.Stored s e len closed)) sent →
      IsStored sent hosts m (masters m).log x s e len closed →
      IsStored sent_now hosts_now m (masters_now m).log x s e len closed
  stored-later x m s e len closed at stored = search (arith, stands-later)

  -- each message, by what it says
  pub fine-later : (from to : Addr) (says : Body) → In (record { from = from; to = to; body = says }) sent →
      body_fine sent masters hosts c from to says → body_fine sent_now masters_now hosts_now c_now from to says
  fine-later (Server m) (Server x) (body.Place s e digest entries closed) at fine =
      (w.own m).places x s e digest entries closed (w.more (between m x (body.Place s e digest entries closed)) at)
  fine-later (Server m) AtCoordinator (body.Place s e digest entries closed) at fine = absurd fine
  fine-later (Server m) Outside (body.Place s e digest entries closed) at fine = absurd fine
  fine-later AtCoordinator to (body.Place s e digest entries closed) at fine = absurd fine
  fine-later Outside to (body.Place s e digest entries closed) at fine = absurd fine
  fine-later (Server m) to (body.Append s offset entries) at fine = append-grown (w.grown m) fine
  fine-later AtCoordinator to (body.Append s offset entries) at fine = absurd fine
  fine-later Outside to (body.Append s offset entries) at fine = absurd fine
  fine-later (Server m) to (body.Close s len) at fine = close-grown (w.grown m) fine
  fine-later AtCoordinator to (body.Close s len) at fine = absurd fine
  fine-later Outside to (body.Close s len) at fine = absurd fine
  fine-later (Server m) to (body.WriteOk s o term table key version) at fine = write_ok-grown (w.grown m) fine
  fine-later AtCoordinator to (body.WriteOk s o term table key version) at fine = absurd fine
  fine-later Outside to (body.WriteOk s o term table key version) at fine = absurd fine
  fine-later (Server x) (Server m) (body.Stored s e len closed) at fine = stored-later x m s e len closed at fine
  fine-later (Server x) AtCoordinator (body.Stored s e len closed) at fine = absurd fine
  fine-later (Server x) Outside (body.Stored s e len closed) at fine = absurd fine
  fine-later AtCoordinator to (body.Stored s e len closed) at fine = absurd fine
  fine-later Outside to (body.Stored s e len closed) at fine = absurd fine
  fine-later (Server y) to (body.Replicas number rows) at fine = answer-later fine
  fine-later AtCoordinator to (body.Replicas number rows) at fine = absurd fine
  fine-later Outside to (body.Replicas number rows) at fine = absurd fine
  fine-later AtCoordinator (Server m) (body.CommitOk s e) at fine =
      below-trans (record { seg = s; epoch = e }) (c.least m) (c_now.least m) fine (w.c_later.least m)
  fine-later AtCoordinator AtCoordinator (body.CommitOk s e) at fine = absurd fine
  fine-later AtCoordinator Outside (body.CommitOk s e) at fine = absurd fine
  fine-later (Server m) to (body.CommitOk s e) at fine = absurd fine
  fine-later Outside to (body.CommitOk s e) at fine = absurd fine
  fine-later from to (body.Gather number master) at fine = of-later w.c_later fine
  fine-later from to (body.Plan head number master rows parts) at fine = plan-later w.c_later fine
  fine-later from to (body.List version rows) at fine = fine
  fine-later from to _ at fine = tt

  -- what a host keeps of a master, where it tells nothing new
  pub held-later : {m : ServerId} {index generation : ℕ} {held : Held} → NoneNewUpTo sent sent_now m index generation →
      GoodHeld sent m (masters m).log index generation held →
      GoodHeld sent_now m (masters_now m).log index generation held
  held-later {m} {index} {generation} none p =
      record { ascending = p.ascending; each = λ s replica at. each s replica (p.each s replica at) }
    where
      each : (s : ℕ) (replica : Replica) → GoodReplica sent m (masters m).log index generation s replica →
          GoodReplica sent_now m (masters_now m).log index generation s replica
      each s replica q = record {
        begins = begins-trans replica.entries q.begins (grows-log (w.grown m).later s);
        copy = copy-later (lives none) q.copy;
      }
