-- What is sent in one event, by the views of its sender: the laws of single steps, in every world.
use Rattle.std.proofs.Common.{◌≡◌, ◌⊎◌, ℕ, ◌<◌, ◌≤◌, Bool, true, false, List, [], ◌∷◌, ◌++◌, length, drop, map, cond, Some}
use Rattle.std.proofs.Common.{refl, sym, ap, ◌∙◌, subst, inl, inr, arith}
use Rattle.rc_model.specs.Model.{to_outside, WriteOk}
use Rattle.rc_model.specs.Model.{ServerId, Addr, Server, Outside, Setup, Event, Deposed, Entry, Message, Body, Enlist, Replicas, Data}
use Rattle.rc_model.specs.Model.{refuses, is_up, Log, Segment, Master, master_takes, master_ticks, Backup, backup_takes}
use Rattle.rc_model.specs.Model.{server_of, is_for_clients, World, opening, step, replay_from}
use Rattle.rc_model.specs.Model.{replay, In, CommitOk, Own, Write, Read, next_server}
use Rattle.rc_step_laws.specs.Moves.{body_said}
use Rattle.rc_types.specs.declared.ids.Addr.TheVariants.{Coordinator as AtCoordinator}
use Rattle.rc_model.specs.HeadClaims.{OfEachStep, WritesWhereItMay, AppendsWhereItWrites, HasItsEntries, IsWritingIn, MayTakeData}
use Rattle.rc_model.specs.SendClaims.{OfEachMessage, CommitsAreDue, ClosesAreDue}
use Rattle.rc_model.specs.BackupClaims.{is_telling, IsToldOfFenced}
use Rattle.rc_model.specs.CoordinatorClaims.{is_granting}
use Rattle.rc_model.proofs.Tests.{true_false}
use Rattle.rc_model.proofs.Ids.{server-same}
use Rattle.rc_model.proofs.Replays.{replay_from-push}
use Rattle.rc_model.proofs.LogSteps.{upto_or}
use Rattle.rc_model.proofs.StepSends.{commits-are-due, closes-are-due, writes-where-it-may, appends-where-it-writes}
use Rattle.rc_model.proofs.StepSends.{deposed-only-refuse, deposed-do-not-tick}
use Rattle.rc_model.proofs.Telling.{each-told, tells-only-of-fenced}
use Rattle.rc_model.proofs.GrantsUp.{grants-go-only-to-the-up}
use Rattle.rc_step_laws.specs.Words.{log_in}
use Rattle.rc_step_laws.proofs.MasterSteps.{master_takes_keeps, master_ticks_keeps}
use Rattle.rc_step_laws.specs.WordClaims.{sent_after, log_of}
use Rattle.rc_step_laws.specs.SendClaims.{newly_sent, OfEachSent, OfEachEvent, KeepsUnlessWritten, is_backups, RefusesClient}
use Rattle.rc_step_laws.specs.SendClaims.{DeposedRefuseClients, DeposedAcknowledgeNothing, DeposedStay, AnswersOfFenced, TheFencedAreTold}
use Rattle.rc_step_laws.specs.SendClaims.{GrantsGoToTheUpAlone}
use Rattle.rc_step_laws.proofs.Replays.{GoodWorld, good-world, good-step, led-step, is-good, is-fine, hears}
use Rattle.rc_step_laws.proofs.EachMaster.{IsLed, led-by, is_others, coordinator-from}
use Rattle.rc_step_laws.proofs.Since.{replay_from-append}
use Rattle.rc_step_laws.proofs.Senders.{EachSender, each-sent}

-- an event more is a step more
pushed : (setup : Setup) (events : List Event) (one : Event) → replay setup (events ++ one ∷ []) ≡ step (replay setup events) one
pushed setup events one = replay_from-push (opening setup) events one

-- Logs

-- what each step of a master leads to, in each event
module _ (L : Log → Log → Type 0) (still : (log : Log) → L log log)
    (takes : (master : Master) (from : Addr) (body : Body) → L master.log (master_takes master from body).0.log)
    (ticks : (master : Master) → L master.log (master_ticks master).0.log) (world : World) where
  abbrev Before : List Message → ServerId → Master → Type 0
  Before sent m master = master ≡ world.masters m

  abbrev After : List Message → ServerId → Master → Type 0
  After sent m master = L (world.masters m).log master.log

  from : (m : ServerId) (master : Master) (after : Master) → master ≡ world.masters m → L master.log after.log →
      L (world.masters m).log after.log
  from m master after same p = subst (λ (old : Master). L old.log after.log) same p

  led : IsLed Before After
  led = search (arith, from)

  each-event : (one : Event) → GoodWorld world → {m : ServerId} → L (world.masters m).log ((step world one).masters m).log
  each-event one good {m} = led-by Before After led world one good (λ k. refl) m

of-events : (L : Log → Log → Type 0) → ((log : Log) → L log log) → OfEachStep L → OfEachEvent L
of-events L still steps setup events one m =
    subst (λ (after : World). L ((replay setup events).masters m).log (after.masters m).log) (sym (pushed setup events one))
    (each-event L still steps.0 steps.1 (replay setup events) one (good-world setup events))

pub writes-where-it-may-each : OfEachEvent WritesWhereItMay
writes-where-it-may-each = of-events WritesWhereItMay (λ log s is. inl is) writes-where-it-may

appends-each : OfEachEvent AppendsWhereItWrites
appends-each = of-events AppendsWhereItWrites
    (λ log s upto. inl (record { still = λ _. refl; none = λ above. absurd (omega (arith, upto, above)) })) appends-where-it-writes

none-above : (setup : Setup) (events : List Event) (m : ServerId) {s : ℕ} → (log_of setup events m).head < s →
    log_in (log_of setup events m) s ≡ []
none-above setup events m {s} above =
    ap (λ (segment : Segment). map (λ one. one.0) segment.entries) (((good-world setup events).masters_are m).none_above s above)

heads-rise : (setup : Setup) (events : List Event) (one : Event) (m : ServerId) →
    (log_of setup events m).head ≤ (log_of setup (events ++ one ∷ []) m).head
heads-rise setup events one m =
    subst (λ (after : World). (log_of setup events m).head ≤ (after.masters m).log.head) (sym (pushed setup events one))
    (((led-step (replay setup events) one (good-world setup events)).onward.grown m).later.head)

pub keeps-unless-written : OfEachEvent KeepsUnlessWritten
keeps-unless-written setup events one m s = by upto_or
  where
    old : Log
    old = log_of setup events m

    new : Log
    new = log_of setup (events ++ one ∷ []) m

    same : HasItsEntries old new s → (s ≤ old.head) ⊎ (old.head < s) → log_in new s ≡ log_in old s
    same has (inl upto) = ap (λ (entries : List (Entry × Bool)). map (λ one. one.0) entries) (has.still upto)
    same has (inr above) = ap (λ (entries : List (Entry × Bool)). map (λ one. one.0) entries) (has.none above) ∙
        sym (none-above setup events m above)

    known : HasItsEntries old new s ⊎ (IsWritingIn old s ⊎ MayTakeData new s) →
        (log_in new s ≡ log_in old s) ⊎ (IsWritingIn old s ⊎ MayTakeData new s)
    known (inl has) = inl (same has upto_or)
    known (inr other) = inr other

    by : (s ≤ new.head) ⊎ (new.head < s) → (log_in new s ≡ log_in old s) ⊎ (IsWritingIn old s ⊎ MayTakeData new s)
    by (inl upto) = known (appends-each setup events one m s upto)
    by (inr above) = inl (none-above setup (events ++ one ∷ []) m above ∙
        sym (none-above setup events m (omega (arith, above, heads-rise setup events one m))))

-- Messages

-- what is sent in an event, in the world after it
sent-of : (setup : Setup) (events : List Event) (one : Event) (message : Message) → In message (newly_sent setup events one) →
    In message (drop (length (replay setup events).sent) (step (replay setup events) one).sent)
sent-of setup events one message at =
    subst (λ (after : World). In message (drop (length (replay setup events).sent) after.sent)) (pushed setup events one) at

-- who is no server's
not-coordinator : {X : Type 0} {m : ServerId} → AtCoordinator ≡ Server m → X
not-coordinator e = cc

not-outside : {X : Type 0} {m : ServerId} → Outside ≡ Server m → X
not-outside e = cc

module _ (world : World) (one : Event) (good : GoodWorld world) where
  -- what a master says is in its server's name
  takes-from : (i : ℕ) (master : Master) (given message : Message) → (world.hosts i).master ≡ Some master → In given world.sent →
      given.to ≡ Server (server_of (world.hosts i)) → In message (master_takes master given.from given.body).1 →
      message.from ≡ Server (server_of (world.hosts i))
  takes-from i master given message e among to at =
      ((master_takes_keeps world.sent (server_of (world.hosts i)) master given.from given.body
      (is-good world one i good e) (is-fine world one i good e) (hears world one i good given.from given.body
      (subst (λ (to : Addr). In (record { from = given.from; to = to; body = given.body }) world.sent) to among))).says message at).from

  ticks-from : (i : ℕ) (master : Master) (message : Message) → (world.hosts i).master ≡ Some master →
      In message (master_ticks master).1 → message.from ≡ Server (server_of (world.hosts i))
  ticks-from i master message e at =
      ((master_ticks_keeps world.sent (server_of (world.hosts i)) master (is-good world one i good e)
      (is-fine world one i good e)).says message at).from

  -- the view of the running master
  view-of : {i : ℕ} {master : Master} {m : ServerId} → (world.hosts i).master ≡ Some master →
      Server (server_of (world.hosts i)) ≡ Server m → world.masters m ≡ master
  view-of {i} {master} {m} e same = ap world.masters (sym (server-same same)) ∙ (good.hosts_are i).runs master e

  said-takes : (i : ℕ) (master : Master) (given message : Message) → (world.hosts i).master ≡ Some master → In given world.sent →
      given.to ≡ Server (server_of (world.hosts i)) → (at : In message (master_takes master given.from given.body).1) →
      body_said world.sent (world.sent ++ (master_takes master given.from given.body).1) (server_of (world.hosts i)) master.log
      (master_takes master given.from given.body).0.log message.to message.body
  said-takes i master given message e among to at =
      ((master_takes_keeps world.sent (server_of (world.hosts i)) master given.from given.body
      (is-good world one i good e) (is-fine world one i good e) (hears world one i good given.from given.body
      (subst (λ (to : Addr). In (record { from = given.from; to = to; body = given.body }) world.sent) to among))).says message at).says

  said-ticks : (i : ℕ) (master : Master) (message : Message) → (world.hosts i).master ≡ Some master →
      In message (master_ticks master).1 →
      body_said world.sent (world.sent ++ (master_ticks master).1) (server_of (world.hosts i)) master.log
      (master_ticks master).0.log message.to message.body
  said-ticks i master message e at =
      ((master_ticks_keeps world.sent (server_of (world.hosts i)) master (is-good world one i good e)
      (is-fine world one i good e)).says message at).says

  -- what a backup says is in its server's name
  backup-from : (i : ℕ) (given message : Message) →
      In message (backup_takes (world.hosts i).backup given.from given.body).1 → message.from ≡ Server (server_of (world.hosts i))
  backup-from i given message at = search (arith, each-told)

  -- Masters

  module _ (Says : Log → Log → Body → Type 0)
      (soft : (old new : Log) (body : Body) → is_others body ≡ true → Says old new body)
      (takes : (master : Master) (from : Addr) (body : Body) (message : Message) → In message (master_takes master from body).1 →
      Says master.log (master_takes master from body).0.log message.body)
      (ticks : (master : Master) (message : Message) → In message (master_ticks master).1 →
      Says master.log (master_ticks master).0.log message.body) (m : ServerId) where
    abbrev SaysOf : World → Message → Type 0
    SaysOf after message = message.from ≡ Server m → Says (world.masters m).log (after.masters m).log message.body

    by_view : {i : ℕ} {master : Master} (after : World) (message : Message) {now : Master} → (world.hosts i).master ≡ Some master →
        message.from ≡ Server (server_of (world.hosts i)) → after.masters (server_of (world.hosts i)) ≡ now →
        Says master.log now.log message.body → SaysOf after message
    by_view {i} {master} after message e sender view says from = search (arith, server-same)

    says-sender : EachSender world SaysOf
    says-sender = record {
      outside = λ after to asked clients from. not-outside from;
      coordinator = λ after work message given at from. not-coordinator
          (sym (coordinator-from world work good given message at) ∙ from);
      backup = λ after i given message among to view at from. soft (world.masters m).log (after.masters m).log message.body
          (each-told (λ (message : Message). is_others message.body ≡ true) (world.hosts i).backup (λ x s e len closed. refl)
          (λ attempt rows. refl) (λ x attempt seg term entries. refl) given.from given.body message at);
      starts = λ after i from. soft (world.masters m).log (after.masters m).log Enlist refl;
      takes = λ after i master given message e among to view at. by_view after message e
          (takes-from i master given message e among to at) view (takes master given.from given.body message at);
      ticks = λ after i master message e view at. by_view after message e
          (ticks-from i master message e at) view (ticks master message at);
    }

    says-in : (message : Message) → In message (drop (length world.sent) (step world one).sent) → SaysOf (step world one) message
    says-in = each-sent world one good SaysOf says-sender

  -- a deposed one
  abbrev Silent : ServerId → World → Message → Type 0
  Silent m after message = (world.masters m).deposed ≡ true → message.from ≡ Server m →
      (is_backups message.body ≡ true) ⊎ RefusesClient world.sent m message

  answer-is : (b : Bool) (refusal message : Message) → In message (cond b (refusal ∷ []) []) → (b ≡ true) × (message ≡ refusal)
  answer-is true refusal message (inl same) = (refl, same)
  answer-is true refusal message (inr never) = absurd never
  answer-is false refusal message at = absurd at

  silent-sender : {m : ServerId} → EachSender world (Silent m)
  silent-sender {m} = record {
    outside = λ after to asked clients is from. not-outside from;
    coordinator = λ after work message given at is from. not-coordinator
        (sym (coordinator-from world work good given message at) ∙ from);
    backup = λ after i given message among to view at is from. inl
        (each-told (λ (message : Message). is_backups message.body ≡ true) (world.hosts i).backup (λ x s e len closed. refl)
        (λ attempt rows. refl) (λ x attempt seg term entries. refl) given.from given.body message at);
    starts = λ after i is from. true_false (sym is ∙ began i (server-same from));
    takes = λ after i master given message e among to view at is from. answers i master given message e among to at is
        (sym (takes-from i master given message e among to at) ∙ from);
    ticks = λ after i master message e view at is from. absurd (subst (In message) (ap (λ (done : Master × List Message). done.1)
        (deposed-do-not-tick master (mine i master e is (sym (ticks-from i master message e at) ∙ from)))) at);
  }
    where
      mine : (i : ℕ) (master : Master) → (world.hosts i).master ≡ Some master → (world.masters m).deposed ≡ true →
          Server (server_of (world.hosts i)) ≡ Server m → master.deposed ≡ true
      mine i master e is same = ap (λ (one : Master). one.deposed) (sym (view-of e same)) ∙ is

      began : (i : ℕ) → next_server (world.hosts i) ≡ m → (world.masters m).deposed ≡ false
      began i same = search arith

      answers : (i : ℕ) (master : Master) (given message : Message) → (world.hosts i).master ≡ Some master → In given world.sent →
          given.to ≡ Server (server_of (world.hosts i)) → In message (master_takes master given.from given.body).1 →
          (world.masters m).deposed ≡ true → Server (server_of (world.hosts i)) ≡ Server m →
          (is_backups message.body ≡ true) ⊎ RefusesClient world.sent m message
      answers i master given message e among to at is same =
          search (arith, answer-is, deposed-only-refuse, mine, is-good, server-same)

  silent-in : {m : ServerId} (message : Message) → In message (drop (length world.sent) (step world one).sent) →
      Silent m (step world one) message
  silent-in {m} = each-sent world one good (Silent m) silent-sender

  -- Backups

  abbrev Tells : World → Message → Type 0
  Tells after message = (y : ServerId) → message.from ≡ Server y → is_telling message.body ≡ true →
      (asked : Message) × (In asked world.sent) × (asked.to ≡ Server y) ×
      IsToldOfFenced (after.hosts y.index).backup asked.body message.body

  no-telling : (sent sent_now : List Message) (m : ServerId) (old log : Log) (to : Addr) (body : Body) →
      is_telling body ≡ true → body_said sent sent_now m old log to body → ⊥
  no-telling sent sent_now m old log to (Replicas attempt rows) is said = said
  no-telling sent sent_now m old log to (Data attempt seg term entries) is said = said
  no-telling sent sent_now m old log to _ is said = true_false (sym is)

  tells-sender : EachSender world Tells
  tells-sender = record {
    outside = λ after to asked clients y from. not-outside from;
    coordinator = λ after work message given at y from. not-coordinator
        (sym (coordinator-from world work good given message at) ∙ from);
    backup = λ after i given message among to view at y from is. told i after given message among to view at y
        (server-same (sym (backup-from i given message at) ∙ from)) is;
    starts = λ after i y from is. true_false (sym is);
    takes = λ after i master given message e among to view at y from is. absurd (no-telling _ _ _ _ _ message.to message.body is
        (said-takes i master given message e among to at));
    ticks = λ after i master message e view at y from is. absurd (no-telling _ _ _ _ _ message.to message.body is
        (said-ticks i master message e at));
  }
    where
      told : (i : ℕ) (after : World) (given message : Message) → In given world.sent → given.to ≡ Server (server_of (world.hosts i)) →
          (after.hosts i).backup ≡ (backup_takes (world.hosts i).backup given.from given.body).0 →
          In message (backup_takes (world.hosts i).backup given.from given.body).1 → (y : ServerId) →
          server_of (world.hosts i) ≡ y → is_telling message.body ≡ true →
          (asked : Message) × (In asked world.sent) × (asked.to ≡ Server y) ×
          IsToldOfFenced (after.hosts y.index).backup asked.body message.body
      told i after given message among to view at y same is =
          let on : i ≡ y.index = sym (good.hosts_are i).index ∙ ap (λ (id : ServerId). id.index) same in (
            given,
            among,
            to ∙ ap Server same,
            subst (λ n. IsToldOfFenced (after.hosts n).backup given.body message.body) on
                (subst (λ (backup : Backup). IsToldOfFenced backup given.body message.body) (sym view)
                (tells-only-of-fenced (world.hosts i).backup given.from given.body message at is)),
          )

  tells-in : (message : Message) → In message (drop (length world.sent) (step world one).sent) → Tells (step world one) message
  tells-in = each-sent world one good Tells tells-sender

  -- The coordinator

  abbrev GrantsTo : World → Message → Type 0
  GrantsTo after message = is_granting message.body ≡ true → (m : ServerId) → message.to ≡ Server m →
      (message.from ≡ AtCoordinator) × (is_up world.coordinator.servers m ≡ true)

  no-granting : (sent sent_now : List Message) (m : ServerId) (old log : Log) (to : Addr) (body : Body) →
      is_granting body ≡ true → body_said sent sent_now m old log to body → ⊥
  no-granting sent sent_now m old log to (CommitOk s e) is said = said
  no-granting sent sent_now m old log to (Own range term previous attempt) is said = said
  no-granting sent sent_now m old log to _ is said = true_false (sym is)

  no-client : (body : Body) → is_for_clients body ≡ true → is_granting body ≡ false
  no-client (Write table key value) is = refl
  no-client (Read table key) is = refl
  no-client _ is = true_false (sym is)

  grants-sender : EachSender world GrantsTo
  grants-sender = record {
    outside = λ after to asked clients is m at. true_false (sym is ∙ no-client asked clients);
    coordinator = λ after work message given at is m to. (
      coordinator-from world work good given message at,
      grants-go-only-to-the-up world.coordinator work message m at is to,
    );
    backup = λ after i given message among to view at is m at_whom. true_false (sym is ∙
        each-told (λ (message : Message). is_granting message.body ≡ false) (world.hosts i).backup (λ x s e len closed. refl)
        (λ attempt rows. refl) (λ x attempt seg term entries. refl) given.from given.body message at);
    starts = λ after i is m to. true_false (sym is);
    takes = λ after i master given message e among to view at is m at_whom. absurd (no-granting _ _ _ _ _ message.to message.body is
        (said-takes i master given message e among to at));
    ticks = λ after i master message e view at is m at_whom. absurd (no-granting _ _ _ _ _ message.to message.body is
        (said-ticks i master message e at));
  }

  grants-in : (message : Message) → In message (drop (length world.sent) (step world one).sent) → GrantsTo (step world one) message
  grants-in = each-sent world one good GrantsTo grants-sender

-- The laws

of-sent : (Says : Log → Log → Body → Type 0) → ((old new : Log) (body : Body) → is_others body ≡ true → Says old new body) →
    OfEachMessage Says → OfEachSent Says
of-sent Says soft each setup events one m message at from =
    subst (λ (after : World). Says (log_of setup events m) (after.masters m).log message.body) (sym (pushed setup events one))
    (says-in (replay setup events) one (good-world setup events) Says soft each.0 each.1 m message
    (sent-of setup events one message at) from)

soft-commits : (old new : Log) (body : Body) → is_others body ≡ true → CommitsAreDue old new body
soft-commits old new body is s e same = true_false (sym is ∙ ap is_others same)

soft-closes : (old new : Log) (body : Body) → is_others body ≡ true → ClosesAreDue old new body
soft-closes old new body is s len same = true_false (sym is ∙ ap is_others same)

pub commits-are-due-each : OfEachSent CommitsAreDue
commits-are-due-each = of-sent CommitsAreDue soft-commits commits-are-due

pub closes-are-due-each : OfEachSent ClosesAreDue
closes-are-due-each = of-sent ClosesAreDue soft-closes closes-are-due

pub deposed-refuse-clients : DeposedRefuseClients
deposed-refuse-clients setup events one m message is at from =
    silent-in (replay setup events) one (good-world setup events) message (sent-of setup events one message at) is from

pub deposed-acknowledge-nothing : DeposedAcknowledgeNothing
deposed-acknowledge-nothing setup events one m s o term table key version is at =
    by (deposed-refuse-clients setup events one m (to_outside m (WriteOk s o term table key version)) is at refl)
  where
    by : (false ≡ true) ⊎ RefusesClient (sent_after setup events) m (to_outside m (WriteOk s o term table key version)) → ⊥
    by (inl e) = true_false (sym e)
    by (inr p) = let bodies : WriteOk s o term table key version ≡ (refuses m Deposed).body =
        ap (λ (message : Message). message.body) p.refusal in cc

pub the-fenced-are-told : TheFencedAreTold
the-fenced-are-told setup events one y message at from is =
    by (tells-in (replay setup events) one (good-world setup events) message (sent-of setup events one message at) y from is)
  where
    by : (asked : Message) × (In asked (replay setup events).sent) × (asked.to ≡ Server y) ×
        IsToldOfFenced ((step (replay setup events) one).hosts y.index).backup asked.body message.body →
        AnswersOfFenced setup events one y message
    by (asked, among, to, told) = search (arith, pushed)

pub grants-go-to-the-up-alone : GrantsGoToTheUpAlone
grants-go-to-the-up-alone setup events one message m at is to =
    grants-in (replay setup events) one (good-world setup events) message (sent-of setup events one message at) is m to

-- A deposed master stays as it is
module _ (world : World) where
  abbrev WasSo : List Message → ServerId → Master → Type 0
  WasSo sent m master = master ≡ world.masters m

  abbrev Stays : List Message → ServerId → Master → Type 0
  Stays sent m master = (world.masters m).deposed ≡ true → master ≡ world.masters m

  stays-by : {m : ServerId} {master after : Master} → master ≡ world.masters m → (master.deposed ≡ true → after ≡ master) →
      (world.masters m).deposed ≡ true → after ≡ world.masters m
  stays-by same stays is = stays (ap (λ (one : Master). one.deposed) same ∙ is) ∙ same

  stays-led : IsLed WasSo Stays
  stays-led = search (arith, stays-by, deposed-only-refuse, deposed-do-not-tick)

  stays-on : (one : Event) → GoodWorld world → {m : ServerId} → (world.masters m).deposed ≡ true →
      (step world one).masters m ≡ world.masters m
  stays-on one good {m} is = led-by WasSo Stays stays-led world one good (λ k. refl) m is

deposed-from : (world : World) (more : List Event) {m : ServerId} → GoodWorld world → (world.masters m).deposed ≡ true →
    (replay_from world more).masters m ≡ world.masters m
deposed-from world [] good is = refl
deposed-from world (one ∷ more) {m} good is =
    let same : (step world one).masters m ≡ world.masters m = stays-on world one good is in
    deposed-from (step world one) more (good-step world one good) (ap (λ (master : Master). master.deposed) same ∙ is) ∙ same

pub deposed-stay : DeposedStay
deposed-stay setup events more m is = search (arith, replay_from-append, deposed-from, good-world)
