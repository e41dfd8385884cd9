-- What each event newly sends: a Write is sent by the outside alone, and a ReadOk is what its master read just then.
use Rattle.std.proofs.Common.{arith}
use Rattle.std.proofs.Common.{◌≡◌, ◌⊎◌, ℕ, false, List, [], ◌∷◌, ◌++◌, Option, Some, None, refl, sym, ap, ◌∙◌, subst, inl, inr}
use Rattle.std.proofs.lemmas.List.{append-nil, append_assoc}
use Rattle.rc_model.specs.Model.{ServerId, Addr, Server, Outside, Setup, Event, Message, Body, Write, Read, ReadOk, put}
use Rattle.rc_model.specs.Model.{to_outside, Found, read_of, Backup, term_of, Master, durable_entries}
use Rattle.rc_model.specs.Model.{then_does, goes_on, master_takes_first, deposed_takes, master_takes, NodeWork}
use Rattle.rc_model.specs.Model.{HostNode, outside_sends, server_of, host_step, starts_host, next_server, World, opening}
use Rattle.rc_model.specs.Model.{NodeName, TheOutside, TheCoordinator, TheHost, Job, job_of, node_done, job_done, step}
use Rattle.rc_model.specs.Model.{replay, In, reads_under, refused, NotOwner}
use Rattle.rc_types.specs.declared.ids.Addr.TheVariants.{Coordinator as AtCoordinator}
use Rattle.rc_model.specs.Coordinator.{Coordinator}
use Rattle.rc_model.specs.Nodes.{Ask}
use Rattle.rc_model.proofs.Members.{In-right, In-append}
use Rattle.rc_step_laws.specs.Moves.{MasterMoved, body_said, BackupMoved, backup_body_said, CoordinatorMoved, coordinator_body_said}
use Rattle.rc_step_laws.proofs.NodeWalk.{walked-host}
use Rattle.rc_step_laws.proofs.Replays.{GoodWorld, IsGiven, job_of-given, coordinator-moved, good-world}
use Rattle.rc_step_laws.proofs.Since.{replay_from-append}
use Rattle.rc_promises.proofs.Hushed.{is_read_ok, Hushed, Hush, hush-then, hush-takes_first, hush-deposed, hush-goes, hush-master_ticks}
use Rattle.rc_model.proofs.Tests.{true_false, either}
use Rattle.rc_model.proofs.Ids.{server-same}
use Rattle.std.specs.Option.{option_map_or}

-- Lists

-- in two lists one after the other a member stands in the first one, or in the second
pub record StandsFirst {X : Type 0} (xs before : List X) (x : X) : Type 0 where
  pub after : List X
  pub whole : xs ≡ before ++ x ∷ after

pub record StandsSecond {X : Type 0} (xs ys before : List X) (x : X) (after : List X) : Type 0 where
  pub between : List X
  pub before_is : before ≡ xs ++ between
  pub whole : ys ≡ between ++ x ∷ after

pub stands-where : {X : Type 0} (xs : List X) {ys : List X} (before : List X) {x : X} {after : List X}
    → xs ++ ys ≡ before ++ x ∷ after → StandsFirst xs before x ⊎ StandsSecond xs ys before x after
stands-where [] before e = inr (record { between = before; before_is = refl; whole = e })
stands-where {X} (z ∷ xs) [] {x} {after} e = search arith
stands-where {X} (z ∷ xs) {ys} (y ∷ before) {x} {after} e = by
    (stands-where xs before (let tails : xs ++ ys ≡ before ++ x ∷ after = cc in tails))
  where
    heads : z ≡ y
    heads = cc

    by : StandsFirst xs before x ⊎ StandsSecond xs ys before x after → StandsFirst (z ∷ xs) (y ∷ before) x
        ⊎ StandsSecond (z ∷ xs) ys (y ∷ before) x after
    by (inl p) = inl (record { after = p.after; whole = ap (λ l. z ∷ l) p.whole ∙ ap (λ (one : X). one ∷ before ++ x ∷ p.after) heads })
    by (inr p) = search (arith, heads)

-- A read

-- the first message is the answer to a read of the master
pub record Reads (master : Master) (before : List Message) (table key version : ℕ) (value : Option (List ℕ)) : Type 0 where
  pub first : before ≡ []
  pub term : ℕ
  pub owned : term_of master.ownership table key ≡ Some term
  pub found : ◌≡◌ {A = Found} (read_of term table key (durable_entries master)) (record { version = version; value = value })

hushed-no : {P : Type 0} {messages : List Message} (before : List Message) (message : Message) (after : List Message) → Hushed messages →
    messages ≡ before ++ message ∷ after → {table key version : ℕ} {value : Option (List ℕ)} →
    message.body ≡ ReadOk table key version value → P
hushed-no before message after hushed e says = true_false (sym (ap is_read_ok says) ∙ hushed message
    (subst (In message) (sym e) (In-right message before (message ∷ after) (inl refl))))

abbrev ReadsBy : Master → Master × List Message → Type 0
ReadsBy master done = (before : List Message) (message : Message) (after : List Message) → done.1 ≡ before ++ message ∷ after →
    (table key version : ℕ) (value : Option (List ℕ)) → message.body ≡ ReadOk table key version value →
    Reads master before table key version value

reads-hushed : {master : Master} {done : Master × List Message} → Hush done → ReadsBy master done
reads-hushed hushed before message after e table key version value says =
    hushed-no before message after hushed.hushed e says

-- the answer, and what follows up
answer-first : {master : Master} {term table key : ℕ} → term_of master.ownership table key ≡ Some term → {rest : List Message} →
    Hushed rest → (before : List Message) (message : Message) (after : List Message) →
    to_outside master.log.own
    (ReadOk table key (read_of term table key (durable_entries master)).version (read_of term table key (durable_entries master)).value)
    ∷ rest ≡ before ++ message ∷ after →
    {t k version : ℕ} {value : Option (List ℕ)} → message.body ≡ ReadOk t k version value → Reads master before t k version value
answer-first owned {rest} hushed (one ∷ before) message after e says =
    hushed-no before message after hushed (let tails : rest ≡ before ++ message ∷ after = cc in tails) says
answer-first {master} {term} {table} {key} owned hushed [] message after e {t} {k} {version} {value} says =
    search arith

reads-answered : {master : Master} (found : Option ℕ) (table key : ℕ) → term_of master.ownership table key ≡ found →
    ReadsBy master (then_does (option_map_or (λ term. reads_under master term table key) found (refused master NotOwner)) goes_on)
reads-answered {master} None table key e before message after same t k version value says = refusal before same
  where
    refusal : (before : List Message) → (then_does (refused master NotOwner) goes_on).1 ≡ before ++ message ∷ after →
        Reads master before t k version value
    refusal [] whole = search (arith, is_read_ok)
    refusal (one ∷ rest) whole = hushed-no rest message after (hush-goes master).hushed
        (let tails : (goes_on master).1 ≡ rest ++ message ∷ after = cc in tails) says
reads-answered {master} (Some term) table key e before message after same t k version value says =
    answer-first e (hush-goes master).hushed before message after same says

takes-first : {master : Master} (from : Addr) (body : Body) → ReadsBy master (then_does (master_takes_first master from body) goes_on)
takes-first {master} from (Read table key) = reads-answered (term_of master.ownership table key) table key refl
takes-first {master} from body = reads-hushed (hush-then (hush-takes_first master from body refl) hush-goes)

reads-takes : {master : Master} (from : Addr) (body : Body) → ReadsBy master (master_takes master from body)
reads-takes {master} from body =
    either (ReadsBy master) master.deposed (deposed_takes master body) (then_does (master_takes_first master from body) goes_on)
    (λ e. reads-hushed (hush-deposed master body)) (λ e. takes-first from body)

-- What an event newly sends

pub record IsNews (world : World) (messages : List Message) : Type 0 where
  pub asked : (message : Message) → In message messages → (table key : ℕ) (value : Option (List ℕ)) → message.body ≡ Write table key value →
      message.from ≡ Outside
  pub reads : (m : ServerId) (before : List Message) (message : Message) (after : List Message) → messages ≡ before ++ message ∷ after →
      message.from ≡ Server m →
      (table key version : ℕ) (value : Option (List ℕ)) → message.body ≡ ReadOk table key version value →
      Reads (world.masters m) before table key version value

among : {X : Type 0} (x : X) {xs : List X} (before after : List X) → xs ≡ before ++ x ∷ after → In x xs
among x before after e = subst (In x) (sym e) (In-right x before (x ∷ after) (inl refl))

-- what answers no read
news-quiet : {world : World} {messages : List Message} →
    ((message : Message) → In message messages → (table key : ℕ) (value : Option (List ℕ)) → message.body ≡ Write table key value →
    message.from ≡ Outside) →
    ((message : Message) → In message messages → (m : ServerId) → message.from ≡ Server m → is_read_ok message.body ≡ false) →
    IsNews world messages
news-quiet asked quiet = record {
  asked = asked;
  reads = λ m before message after e from table key version value says.
      true_false (sym (ap is_read_ok says) ∙ quiet message (among message before after e) m from);
}

news-none : {world : World} → IsNews world []
news-none = news-quiet (λ message at. absurd at) (λ message at. absurd at)

news-outside : {world : World} (work : NodeWork) → IsNews world (outside_sends work)
news-outside (Ask to body) = search (arith, news-quiet)
news-outside _ = news-none

news-coordinator : {world : World} {after : Coordinator × List Message} → CoordinatorMoved world.sent world.coordinator after →
    IsNews world after.1
news-coordinator {after} moved = news-quiet (λ message at table key value says. absurd
    (never table key value message.to
    (subst (λ (body : Body). coordinator_body_said after.0 message.to body) says (moved.says message at))))
    (λ message at m server. not_server m (sym (moved.from message at) ∙ server))
  where
    never : (table key : ℕ) (value : Option (List ℕ)) (to : Addr) → coordinator_body_said after.0 to (Write table key value) → ⊥
    never table key value to p = p

    not_server : {P : Type 0} (m : ServerId) → AtCoordinator ≡ Server m → P
    not_server m e = cc

module _ (world : World) (one : Event) (i : ℕ) (good : GoodWorld world) where
  news-backup : {after : Backup × List Message} →
      BackupMoved world.sent world.masters (put world.hosts i (record (world.hosts i) { backup = after.0 })) world.coordinator
      (world.hosts i) after → IsNews world after.1
  news-backup {after} moved = news-quiet (λ message at table key value says. absurd
      (no-write table key value message.to
      (subst (λ (body : Body). backup_body_said (world.sent ++ after.1) world.masters
      (put world.hosts i (record (world.hosts i) { backup = after.0 })) world.coordinator (world.hosts i) after.0 message.to body) says
      (moved.says message at)))) (λ message at m server. no-read message.to message.body (moved.says message at))
    where
      no-write : (table key : ℕ) (value : Option (List ℕ)) (to : Addr) →
          backup_body_said (world.sent ++ after.1) world.masters (put world.hosts i (record (world.hosts i) { backup = after.0 }))
          world.coordinator (world.hosts i) after.0 to (Write table key value) → ⊥
      no-write table key value to p = p

      no-read : (to : Addr) (body : Body) →
          backup_body_said (world.sent ++ after.1) world.masters (put world.hosts i (record (world.hosts i) { backup = after.0 }))
          world.coordinator (world.hosts i) after.0 to body → is_read_ok body ≡ false
      no-read to (ReadOk table key version value) p = absurd p
      no-read to _ p = refl

  news-master : {master : Master} → (world.hosts i).master ≡ Some master → {after : Master × List Message} →
      MasterMoved world.sent (server_of (world.hosts i)) master after → ReadsBy master after → IsNews world after.1
  news-master {master} e {after} moved reads = record {
    asked = λ message at table key value says. absurd (no-write table key value message.to
        (subst (λ (body : Body). body_said world.sent (world.sent ++ after.1) (server_of (world.hosts i)) master.log after.0.log message.to
        body) says (moved.says message at).says));
    reads = λ m before message rest whole from table key version value says.
        subst (λ (view : Master). Reads view before table key version value) (sym ((good.hosts_are i).runs master e)
        ∙ ap world.masters (server-same (sym (moved.says message (among message before rest whole)).from ∙ from)))
        (reads before message rest whole table key version value says);
  }
    where
      no-write : (table key : ℕ) (value : Option (List ℕ)) (to : Addr) →
          body_said world.sent (world.sent ++ after.1) (server_of (world.hosts i)) master.log after.0.log to (Write table key value) → ⊥
      no-write table key value to p = p

  abbrev News : HostNode × List Message → Type 0
  News after = IsNews world after.1

  news-starts : (kept : List (ServerId × ℕ)) → News (starts_host (world.hosts i) (next_server (world.hosts i)) kept)
  news-starts kept = search (arith, news-quiet, is_read_ok)

  news-host : (work : NodeWork) → IsGiven world.sent (TheHost i) work → News (host_step (world.hosts i) work)
  news-host work given = walked-host world one i good News (record {
    still = news-none;
    backs = λ master e from says at moved. news-backup moved;
    takes = λ master e from says at moved. news-master e moved (reads-takes from says);
    ticks = λ master e moved. news-master e moved (reads-hushed (hush-master_ticks master));
    stops = news-none;
    starts = news-starts;
  }) work given

-- Events

-- an event adds these messages to those sent
pub record Adds (world after : World) : Type 0 where
  pub messages : List Message
  pub grows : after.sent ≡ world.sent ++ messages
  pub news : IsNews world messages

adds-node : {world : World} (one : Event) (node : NodeName) (work : NodeWork) → GoodWorld world → IsGiven world.sent node work →
    Adds world (node_done world one node work)
adds-node one TheOutside work good given = record { messages = outside_sends work; grows = refl; news = news-outside work }
adds-node {world} one TheCoordinator work good given = search (arith, news-coordinator, coordinator-moved)
adds-node {world} one (TheHost i) work good given = record
    { messages = (host_step (world.hosts i) work).1; grows = refl; news = news-host world one i good work given }

adds-none : {world : World} → Adds world world
adds-none {world} = record { messages = []; grows = sym (append-nil world.sent); news = news-none }

adds-job : {world : World} (one : Event) (found : Option Job) → job_of world.sent one ≡ found → GoodWorld world →
    Adds world (job_done world one found)
adds-job one None is good = adds-none
adds-job {world} one (Some job) is good = adds-node one job.node job.work good (job_of-given world.sent one is)

pub adds-step : {world : World} (one : Event) → GoodWorld world → Adds world (step world one)
adds-step {world} one good = search (arith, adds-job, adds-none)

-- In every world

-- the master read so at some moment, when these messages had been sent
pub record WasRead (setup : Setup) (events : List Event) (m : ServerId) (before : List Message) (table key version : ℕ)
    (value : Option (List ℕ)) : Type 0 where
  pub past : List Event
  pub rest : List Event
  pub whole : past ++ rest ≡ events
  pub sent_is : before ≡ (replay setup past).sent
  pub term : ℕ
  pub owned : term_of ((replay setup past).masters m).ownership table key ≡ Some term
  pub found : ◌≡◌ {A = Found} (read_of term table key (durable_entries ((replay setup past).masters m)))
      (record { version = version; value = value })

pub record ClientsAreHeard (setup : Setup) (events : List Event) : Type 0 where
  pub asked : (message : Message) → In message (replay setup events).sent → (table key : ℕ) (value : Option (List ℕ)) →
      message.body ≡ Write table key value → message.from ≡ Outside
  pub reads : (m : ServerId) (before : List Message) (message : Message) (after : List Message) →
      (replay setup events).sent ≡ before ++ message ∷ after → message.from ≡ Server m →
      (table key version : ℕ) (value : Option (List ℕ)) → message.body ≡ ReadOk table key version value →
      WasRead setup events m before table key version value

heard-none : {setup : Setup} → ClientsAreHeard setup []
heard-none = record {
  asked = λ message at. absurd at;
  reads = λ m before message after e. absurd (among message before after e);
}

heard-one : {setup : Setup} {past : List Event} (one : Event) → ClientsAreHeard setup past → ClientsAreHeard setup (past ++ one ∷ [])
heard-one {setup} {past} one p = record {
  asked = λ message at table key value says. asked message
      (In-append message (replay setup past).sent new.messages (subst (In message) grows at)) table key value says;
  reads = λ m before message after e from table key version value says.
      reads m before message after (stands-where (replay setup past).sent before (sym grows ∙ e)) from table key
      version value says;
}
  where
    new : Adds (replay setup past) (step (replay setup past) one)
    new = adds-step one (good-world setup past)

    grows : (replay setup (past ++ one ∷ [])).sent ≡ (replay setup past).sent ++ new.messages
    grows = ap (λ (world : World). world.sent) (replay_from-append (opening setup) past (one ∷ [])) ∙ new.grows

    asked : (message : Message) → In message (replay setup past).sent ⊎ In message new.messages →
        (table key : ℕ) (value : Option (List ℕ)) → message.body ≡ Write table key value → message.from ≡ Outside
    asked message (inl old) table key value says = p.asked message old table key value says
    asked message (inr there) table key value says = new.news.asked message there table key value says

    reads : (m : ServerId) (before : List Message) (message : Message) (after : List Message) →
        StandsFirst (replay setup past).sent before message ⊎ StandsSecond (replay setup past).sent new.messages before message after →
        message.from ≡ Server m →
        (table key version : ℕ) (value : Option (List ℕ)) → message.body ≡ ReadOk table key version value →
        WasRead setup (past ++ one ∷ []) m before table key version value
    reads m before message after (inl s) from table key version value says =
        let was : WasRead setup past m before table key version value = p.reads m before message s.after s.whole from table key version
        value says in
        record {
          past = was.past;
          rest = was.rest ++ one ∷ [];
          whole = sym (append_assoc was.past was.rest (one ∷ [])) ∙ ap (λ l. l ++ one ∷ []) was.whole;
          sent_is = was.sent_is;
          term = was.term;
          owned = was.owned;
          found = was.found;
        }
    reads m before message after (inr s) from table key version value says =
        let was : Reads ((replay setup past).masters m) s.between table key version value = new.news.reads m s.between message after s.whole
        from table key version value says in
        record {
          past = past;
          rest = one ∷ [];
          whole = refl;
          sent_is = s.before_is ∙ ap (λ l. (replay setup past).sent ++ l) was.first ∙ append-nil (replay setup past).sent;
          term = was.term;
          owned = was.owned;
          found = was.found;
        }

heard-more : {setup : Setup} {past : List Event} (events : List Event) → ClientsAreHeard setup past → ClientsAreHeard setup (past ++ events)
heard-more {setup} {past} [] p = subst (ClientsAreHeard setup) (sym (append-nil past)) p
heard-more {setup} {past} (one ∷ events) p = subst (ClientsAreHeard setup) (append_assoc past (one ∷ []) events)
    (heard-more events (heard-one one p))

pub clients-are-heard : (setup : Setup) (events : List Event) → ClientsAreHeard setup events
clients-are-heard setup events = heard-more events heard-none
