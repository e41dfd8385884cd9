-- What a server has answered about a master is what its host's backup has of it, as long as it is the host's last.
use Rattle.std.proofs.Common.{◌≡◌, ◌⊎◌, ℕ, Bool, true, false, List, [], ◌∷◌, ◌++◌, Option, Some, None}
use Rattle.std.proofs.Common.{refl, sym, ap, ◌∙◌, subst, inl, inr, arith}
use Rattle.std.proofs.lemmas.List.{append-nil, append_assoc}
use Rattle.rc_model.specs.Model.{ServerId, Addr, Server, Row, Part, Setup, Event, Message, Body, Place, Append, Close, Gather, Fetch}
use Rattle.rc_model.specs.Model.{Replicas, Data, Enlist, to_coordinator, between, Replica, Backup, backup_takes, keeps, stores}
use Rattle.rc_model.specs.Model.{stored_of, rows_of_replicas, data_of, answers_fetch, Attempt, World}
use Rattle.rc_model.specs.Model.{server_of, opening, step}
use Rattle.rc_model.specs.Model.{replay, In}
use Rattle.rc_types.specs.declared.ids.Addr.TheVariants.{Coordinator as AtCoordinator}
use Rattle.rc_model.proofs.Replays.{replay_from-push}
use Rattle.rc_model.proofs.Sending.{Each, each-none, each-one, each-if}
use Rattle.rc_model.proofs.Tables.{put_id-same}
use Rattle.rc_model.proofs.Tests.{true_false}
use Rattle.rc_step_laws.specs.All.{IsOf, IsAnswer, AttemptLater, held_at}
use Rattle.rc_step_laws.proofs.Attempting.{numbered-same}
use Rattle.rc_step_laws.proofs.Replays.{GoodWorld, GoodStep, led-step, good-world}
use Rattle.rc_step_laws.proofs.Staying.{StaysFenced, stays-step}
use Rattle.rc_owner_laws.proofs.Hosts.{IsSaid, said-stands}

-- A backup answers a Gather, and nothing else

is_answer : Body → Bool
is_answer (Replicas number rows) = true
is_answer _ = false

abbrev NoAnswer : Message → Type 0
NoAnswer message = is_answer message.body ≡ false

none-keeps : (backup : Backup) (m : ServerId) (seg : ℕ) (found : Option Replica) → Each NoAnswer (keeps backup m seg found).1
unfolding is_answer
none-keeps backup m seg None = each-none NoAnswer
none-keeps backup m seg (Some replica) = each-one NoAnswer refl

none-stores : (backup : Backup) (m : ServerId) (seg : ℕ) (body : Body) → Each NoAnswer (stores backup m seg body).1
none-stores backup m seg body = search (arith, each-none, none-keeps)

none-data : (attempt seg len : ℕ) (part : Part) (found : Option Replica) → Each (λ (body : Body). is_answer body ≡ false)
    (data_of attempt seg len part found)
unfolding is_answer
none-data attempt seg len part None = each-none _
none-data attempt seg len part (Some replica) = each-if _ (Data attempt seg part.term _ ∷ []) (λ _. each-one _ refl)

none-fetch : (backup : Backup) (asker m : ServerId) (bodies : List Body) → Each (λ (body : Body). is_answer body ≡ false) bodies →
    Each NoAnswer (answers_fetch backup asker m bodies)
none-fetch backup asker m [] none = each-none NoAnswer
none-fetch backup asker m (body ∷ bodies) none = search (arith, each-if, each-one)

-- the Gather that it answers, and the rows that it has then
record Answers (x : ServerId) (number : ℕ) (rows : List Row) (heard : Body) (after : Backup) : Type 0 where
  master : ServerId
  asked : heard ≡ Gather number master
  rows_are : rows ≡ rows_of_replicas (after.held master).replicas

no-answer : (x : ServerId) (number : ℕ) (rows : List Row) (heard : Body) (after : Backup) (messages : List Message) →
    Each NoAnswer messages → In (to_coordinator x (Replicas number rows)) messages → Answers x number rows heard after
unfolding is_answer
no-answer x number rows heard after messages none at = true_false (none (to_coordinator x (Replicas number rows)) at)

answers-are : (backup : Backup) (x : ServerId) (number : ℕ) (rows : List Row) (from : Addr) (heard : Body) →
    In (to_coordinator x (Replicas number rows)) (backup_takes backup from heard).1 →
    Answers x number rows heard (backup_takes backup from heard).0
answers-are backup x number rows (Server m) (Place seg epoch digest entries closed) at =
    no-answer x number rows _ _ _ (none-stores backup m seg (Place seg epoch digest entries closed)) at
answers-are backup x number rows (Server m) (Append seg offset entries) at =
    no-answer x number rows _ _ _ (none-stores backup m seg (Append seg offset entries)) at
answers-are backup x number rows (Server m) (Close seg len) at =
    no-answer x number rows _ _ _ (none-stores backup m seg (Close seg len)) at
answers-are backup x number rows (Server asker) (Fetch attempt m seg len part) at =
    search (arith, no-answer, none-fetch, none-data)
answers-are backup x number rows from (Gather attempt master) (inl same) = search (arith, put_id-same)
answers-are backup x number rows from (Gather attempt master) (inr never) = absurd never
answers-are backup x number rows _ _ at = absurd at

-- A world

abbrev pub AllNow : World → Type 0
AllNow world = (y m : ServerId) (number : ℕ) (rows : List Row) → IsOf world.coordinator.attempts number m →
    In (to_coordinator y (Replicas number rows)) world.sent → y.generation ≡ (world.hosts y.index).generation →
    rows ≡ rows_of_replicas (held_at world.hosts y.index m).replicas

-- one attempt has one master
one-master : {attempts : List Attempt} {number : ℕ} {a b : ServerId} → IsOf attempts number a → IsOf attempts number b → a ≡ b
one-master p q = sym p.master_is ∙ (ap (λ (one : Attempt). one.master) (numbered-same p.numbered q.numbered) ∙
    q.master_is)

-- what a backup has just answered
record Answered (attempts : List Attempt) (number : ℕ) (rows : List Row) (backup : Backup) : Type 0 where
  master : ServerId
  of : IsOf attempts number master
  rows_are : rows ≡ rows_of_replicas (backup.held master).replicas

answer-said : {world : World} → GoodWorld world → {y : ServerId} {number : ℕ} {rows : List Row} →
    IsSaid world y AtCoordinator (Replicas number rows) (Answered world.coordinator.attempts number rows)
answer-said {world} good {y} {number} {rows} = record {
  not_enlist = λ never. differs never;
  no_master = λ sent sent_now n old log said. said;
  by_backup = λ i from heard given at. by i from heard given (answers-are (world.hosts i).backup y number rows from heard at);
}
  where
    differs : Replicas number rows ≡ Enlist → ⊥
    differs never = cc

    by : (i : ℕ) (from : Addr) (heard : Body) → In (record {
      from = from;
      to = Server (server_of (world.hosts i));
      body = heard;
    }) world.sent → Answers y number rows heard (backup_takes (world.hosts i).backup from heard).0 →
        Answered world.coordinator.attempts number rows (backup_takes (world.hosts i).backup from heard).0
    by i from heard given a = record {
      master = a.master;
      of = good.messages (record { from = from; to = Server (server_of (world.hosts i)); body = Gather number a.master })
          (subst (λ (body : Body). In (record {
            from = from;
            to = Server (server_of (world.hosts i));
            body = body;
          }) world.sent) a.asked given);
      rows_are = a.rows_are;
    }

now-step : (world : World) (one : Event) → GoodWorld world → AllNow world → AllNow (step world one)
now-step world one good p y m number rows is_of at same =
    by (said-stands world one good y AtCoordinator (Replicas number rows) (Answered world.coordinator.attempts number rows)
    (answer-said good) at)
  where
    led : GoodStep world (step world one)
    led = led-step world one good

    -- the attempt is still of that master
    later : (n : ServerId) → IsOf world.coordinator.attempts number n → n ≡ m
    later n q = let up : AttemptLater (step world one).coordinator.attempts number q.attempt =
        led.onward.c_later.attempts number q.attempt q.numbered in
        one-master (record { attempt = up.now; numbered = up.numbered; master_is = up.master ∙ q.master_is }) is_of

    old : In (to_coordinator y (Replicas number rows)) world.sent → rows ≡ rows_of_replicas (held_at
        (step world one).hosts y.index m).replicas
    old there =
        let answer : IsAnswer world.sent world.masters world.hosts world.coordinator y number rows =
        good.messages (to_coordinator y (Replicas number rows)) there in
        of_answer answer
      where
        of_answer : IsAnswer world.sent world.masters world.hosts world.coordinator y number rows →
            rows ≡ rows_of_replicas (held_at (step world one).hosts y.index m).replicas
        of_answer answer =
            let up = (led.onward.hosts_later y.index).generation in
            let since = answer.since in
            let was : y.generation ≡ (world.hosts y.index).generation = omega (arith, up, since, same) in
            let still : ((step world one).hosts y.index).generation ≡ (world.hosts y.index).generation = sym same ∙ was in
            let stays : StaysFenced (world.hosts y.index) ((step world one).hosts y.index) = stays-step world one in
            let kept = stays.kept still answer.master (answer.fenced was) in
            subst (λ (n : ServerId). rows ≡ rows_of_replicas (held_at (step world one).hosts y.index n).replicas)
            (later answer.master answer.attempt)
            (p y answer.master number rows answer.attempt there was ∙ ap rows_of_replicas (sym kept.1))

    by : In (to_coordinator y (Replicas number rows)) world.sent ⊎
        Answered world.coordinator.attempts number rows ((step world one).hosts y.index).backup →
        rows ≡ rows_of_replicas (held_at (step world one).hosts y.index m).replicas
    by (inl there) = old there
    by (inr a) = subst (λ (n : ServerId). rows ≡ rows_of_replicas (held_at (step world one).hosts y.index n).replicas)
        (later a.master a.of) a.rows_are

now-from : (setup : Setup) (past events : List Event) → AllNow (replay setup past) → AllNow (replay setup (past ++ events))
now-from setup past [] p = subst (λ (all : List Event). AllNow (replay setup all)) (sym (append-nil past)) p
now-from setup past (one ∷ events) p =
    subst (λ (all : List Event). AllNow (replay setup all)) (append_assoc past (one ∷ []) events)
    (now-from setup (past ++ one ∷ []) events
    (subst AllNow (sym (replay_from-push (opening setup) past one)) (now-step (replay setup past) one (good-world setup past) p)))

pub answers-are-now : (setup : Setup) (events : List Event) → AllNow (replay setup events)
answers-are-now setup events = now-from setup [] events (λ y m number rows is_of at. absurd at)
