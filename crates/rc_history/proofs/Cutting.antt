-- Of a node's works those are left that rest on no more than so many works of its journal: that is a life too.
use Rattle.std.proofs.Common.{◌≡◌, ◌≤◌, ◌<◌, ◌+◌, ℕ, Bool, true, false, cond, not, ◌&&◌, List, [], ◌∷◌}
use Rattle.std.proofs.Common.{◌++◌, length, filter, take}
use Rattle.std.proofs.Common.{nat_le, nat_lt, Option, Some, None, refl, sym, ap, ◌∙◌, subst, arith, length-append}
use Rattle.std.proofs.lemmas.List.{take_at, take_all, take-append-le}
use Rattle.std.proofs.lemmas.Bool.{leb-true, leb-false, le-leb, lt-leb, and_parts, and_right}
use Rattle.std.specs.Prelude.{is_some}
use Rattle.rc_types.specs.declared.messages.Message.{Message}
use Rattle.rc_types.specs.declared.messages.Body.{Body}
use Rattle.rc_types.specs.declared.limits.TheConstants.{MAX_HOSTS}
use Rattle.rc_model.specs.MasterStep.{master_ticks}
use Rattle.rc_model.specs.Model.{Backup, Master, master_takes, backup_takes, is_server, NodeWork, Deliver, HostNode, host_step}
use Rattle.rc_model.specs.Model.{host_can, is_for_backup, with_backup, with_master, server_takes, server_of, Fetch, takes_if_running}
use Rattle.rc_model.specs.Nodes.{Tick, Stop, Start, runs, is_running_at}
use Rattle.rc_model.specs.World.{NodeName, TheHost}
use Rattle.rc_model.proofs.Tests.{either, true_false}
use Rattle.rc_history.specs.Nodes.{Node, node_can, node_step, with_host, name_of}
use Rattle.rc_history.specs.Nodes as node
use Rattle.rc_history.specs.Remade.{changes_backup, host_keeps}
use Rattle.rc_history.specs.Lives.{Life, keeps, is_masters, life_next, rests_on, journal_next, started_next}
use Rattle.rc_history.specs.Processes.{Deed}
use Rattle.rc_history.proofs.Names.{host_step-index}
use Rattle.rc_history.proofs.OwnLife.{Lives, IsLived, life_of}

abbrev pub node_runs : Node → Bool
node_runs (node.TheHost host) = runs host
node_runs _ = false

abbrev pub are_left : ℕ → List Deed → List Deed
are_left k deeds = filter (λ (deed : Deed). nat_le deed.rests k) deeds

abbrev is_start : NodeWork → Bool
is_start (Start kept) = true
is_start _ = false

-- Nothing but a start makes a host run

takes-runs : (host : HostNode) (running : Option Master) (message : Message) → host.master ≡ running →
    runs (takes_if_running host running message).0 ≡ true → runs host ≡ true
takes-runs host None message is so = so
takes-runs host (Some m) message is so = ap is_some is

runs-before : (host : HostNode) (work : NodeWork) → is_start work ≡ false → runs (host_step host work).0 ≡ true → runs host ≡ true
runs-before host (Deliver message) plain so = takes-runs host host.master message refl so
runs-before host Tick plain so = by host.master refl so
  where
    by : (running : Option Master) → host.master ≡ running → runs (host_step (record host { master = running }) Tick).0
        ≡ true → runs host ≡ true
    by None is so = true_false (sym so)
    by (Some m) is so = ap is_some is
runs-before host Stop plain so = true_false (sym so)
runs-before host (Start kept) plain so = true_false plain
runs-before host _ plain so = so

node-runs-before : (n : Node) (work : NodeWork) → is_start work ≡ false → node_runs (node_step n work).0 ≡ true → node_runs n ≡ true
node-runs-before node.TheOutside work plain so = so
node-runs-before (node.TheCoordinator c) work plain so = true_false (sym so)
node-runs-before (node.TheHost host) work plain so = runs-before host work plain so

-- a stop leaves no host running
stop-ends : (n : Node) → node_runs (node_step n Stop).0 ≡ true → ⊥
stop-ends node.TheOutside so = true_false (sym so)
stop-ends (node.TheCoordinator c) so = true_false (sym so)
stop-ends (node.TheHost host) so = true_false (sym so)

-- a master's work is given where one runs
masters-run : (n : Node) (work : NodeWork) → is_masters n work ≡ true → node_runs n ≡ true
masters-run (node.TheHost host) (Deliver message) so = (and_parts (runs host) (is_server (server_of host) message.to)
    (and_parts (is_running_at host message.to) (not (is_for_backup message.body)) so).0).0
masters-run (node.TheHost host) Tick so = so
masters-run (node.TheHost host) _ so = true_false (sym so)
masters-run node.TheOutside work so = true_false (sym so)
masters-run (node.TheCoordinator c) work so = true_false (sym so)

-- Journals grow

longer : (name : NodeName) (life : Life) (work : NodeWork) → length life.journal ≤ length (journal_next name life work)
longer name life work = by (keeps name work)
  where
    by : (b : Bool) → length life.journal ≤ length (cond b (life.journal ++ work ∷ []) life.journal)
    by true = rw (length-append life.journal (work ∷ [])) (omega arith)
    by false = omega arith

-- Nothing is left of what comes after all that is left of the journal, once the server was started after that too

record Gone (k : ℕ) (life : Life) : Type 0 where
  long : k < length life.journal
  late : node_runs life.node ≡ true → k < life.started

gone-rests : (name : NodeName) {k : ℕ} {life : Life} (work : NodeWork) → Gone k life → k < rests_on name life work
gone-rests name {k} {life} work gone = by (keeps name work) (is_masters life.node work) refl
  where
    by : (b c : Bool) → is_masters life.node work ≡ c → k < cond b (length life.journal + 1) (cond c life.started (length life.journal))
    by true c is = let l = gone.long in omega arith
    by false true is = gone.late (masters-run life.node work is)
    by false false is = gone.long

late-next : (name : NodeName) {k : ℕ} {life : Life} (work : NodeWork) → Gone k life →
    node_runs (node_step life.node work).0 ≡ true → k < started_next life work
late-next name (Start kept) gone so = let l = gone.long in omega arith
late-next name {life} Stop gone so = absurd (stop-ends life.node so)
late-next name {life} given gone so = gone.late (node-runs-before life.node given refl so)

gone-next : (name : NodeName) {k : ℕ} {life : Life} (work : NodeWork) → Gone k life → Gone k (life_next name life work)
gone-next name {life} work gone = record {
  long = let l = gone.long in let m = longer name life work in omega arith;
  late = late-next name work gone;
}

gone-left : (name : NodeName) {k : ℕ} {life : Life} (deeds : List Deed) → Gone k life → IsLived name life deeds → are_left k deeds ≡ []
gone-left name [] gone lived = refl
gone-left name {k} {life} (deed ∷ deeds) gone lived =
    let over : k < deed.rests = subst (λ n. k < n) (sym lived.0.rests) (gone-rests name {k = k} {life = life} deed.work gone) in
    ap (λ b. cond b (deed ∷ are_left k deeds) (are_left k deeds)) (lt-leb deed.rests k over)
    ∙ gone-left name {k = k} {life = (life_next name life deed.work)} deeds (gone-next name {k = k} {life = life} deed.work gone) lived.1

-- What is left of a life's deeds, and of its journal

pub record IsCut (name : NodeName) (k : ℕ) (long short : Life) (deeds remaining : List Deed) : Type 0 where
  pub lived : IsLived name short remaining
  pub journal : (life_of name short remaining).journal ≡ take k (life_of name long deeds).journal

take-next : (name : NodeName) {k : ℕ} (life : Life) (work : NodeWork) → k ≤ length life.journal →
    take k (journal_next name life work) ≡ take k life.journal
take-next name {k} life work in' = by (keeps name work)
  where
    by : (b : Bool) → take k (cond b (life.journal ++ work ∷ []) life.journal) ≡ take k life.journal
    by true = take-append-le k life.journal (work ∷ []) in'
    by false = refl

gone-cut : {name : NodeName} {k : ℕ} {long short : Life} {deeds : List Deed} → Gone k long → short.journal ≡ take k long.journal →
    IsLived name long deeds → IsCut name k long short deeds (are_left k deeds)
gone-cut {name} {k} {long} {short} {deeds} gone same lived =
    let none : are_left k deeds ≡ [] = gone-left name deeds gone lived in
    subst (IsCut name k long short deeds) (sym none) (record {
      lived = tt;
      journal = same ∙ later deeds long gone.long;
    })
  where
    later : (deeds : List Deed) (life : Life) → k < length life.journal → take k life.journal ≡ take k (life_of name life deeds).journal
    later [] life in' = refl
    later (deed ∷ deeds) life in' =
        let more = longer name life deed.work in
        sym (take-next name life deed.work (omega arith)) ∙ later deeds (life_next name life deed.work) (omega arith)

-- While the master runs on that ran when the journal ended

abbrev running : HostNode → Backup → Master → HostNode
running base backup m = record base { backup = backup; master = Some m }

-- what is not for a backup doesn't change it
unchanging : (body : Body) → is_for_backup body ≡ false → changes_backup body ≡ false
unchanging (Fetch attempt master seg len part) e = refl
unchanging body e = e

skip : {name : NodeName} {k : ℕ} {long short : Life} {deed : Deed} {deeds : List Deed} → k < deed.rests →
    IsCut name k (life_next name long deed.work) short deeds (are_left k deeds) →
    IsCut name k long short (deed ∷ deeds) (are_left k (deed ∷ deeds))
skip {name} {k} {long} {short} {deed} {deeds} over cut =
    let same : are_left k (deed ∷ deeds) ≡ are_left k deeds =
    ap (λ b. cond b (deed ∷ are_left k deeds) (are_left k deeds)) (lt-leb deed.rests k over) in
    subst (IsCut name k long short (deed ∷ deeds)) (sym same) (record { lived = cut.lived; journal = cut.journal })

stay : {name : NodeName} {k : ℕ} {long short : Life} {deed : Deed} {deeds : List Deed} → deed.rests ≤ k → Lives name short deed →
    IsCut name k (life_next name long deed.work) (life_next name short deed.work) deeds (are_left k deeds) →
    IsCut name k long short (deed ∷ deeds) (are_left k (deed ∷ deeds))
stay {name} {k} {long} {short} {deed} {deeds} within lives cut =
    let same : are_left k (deed ∷ deeds) ≡ deed ∷ are_left k deeds =
    ap (λ b. cond b (deed ∷ are_left k deeds) (are_left k deeds)) (le-leb deed.rests k within) in
    subst (IsCut name k long short (deed ∷ deeds)) (sym same) (record { lived = (lives, cut.lived); journal = cut.journal })

abbrev life_at : HostNode → Backup → Master → List NodeWork → ℕ → Life
life_at base backup m journal started =
    record { node = node.TheHost (running base backup m); journal = journal; started = started }

record Facts (k : ℕ) (long short : List NodeWork) (started : ℕ) : Type 0 where
  over : k < length long
  full : length short ≡ k
  same : short ≡ take k long
  early : started ≤ k

facts-more : {k : ℕ} {long short : List NodeWork} {started : ℕ} (work : NodeWork) → Facts k long short started →
    Facts k (long ++ work ∷ []) short started
facts-more {k} {long} work facts = record {
  over = let o = facts.over in rw (length-append long (work ∷ [])) (omega arith);
  full = facts.full;
  same = let o : k ≤ length long = let p = facts.over in omega arith in facts.same ∙ sym (take-append-le k long (work ∷ []) o);
  early = facts.early;
}

abbrev AllCut : ℕ → ℕ → HostNode → ℕ → List Deed → Type 0
AllCut index k base started deeds = (one other : Backup) (m : Master) (long short : List NodeWork) → Facts k long short started →
    IsLived (TheHost index) (life_at base one m long started) deeds →
    IsCut (TheHost index) k (life_at base one m long started) (life_at base other m short started) deeds (are_left k deeds)

-- a message that is taken: whether it is for the server that runs, for its backup, and to be kept
abbrev taking : HostNode → Backup → Master → Message → Bool → Bool → HostNode × List Message
taking base backup m message b c =
    cond b (cond c (with_backup (running base backup m) (backup_takes backup message.from message.body))
    (with_master (running base backup m) (master_takes m message.from message.body))) (running base backup m, [])

abbrev taken_life : HostNode → Backup → Master → List NodeWork → ℕ → Message → Bool → Bool → Bool → Life
taken_life base backup m journal started message b c d = record {
  node = (with_host (taking base backup m message b c)).0;
  journal = cond d (journal ++ Deliver message ∷ []) journal;
  started = started;
}

-- a host that runs isn't started
and-off : (base : HostNode) → (nat_lt base.index MAX_HOSTS && false) ≡ false
and-off base = and_right (nat_lt base.index MAX_HOSTS) false refl

-- either the deed is lost, or it stays and is the same
data Outcome (name : NodeName) (k rests again : ℕ) (sent said : List Message) (long short next : Life) (deeds : List Deed) : Type 0 where
  Lost : k < rests → IsCut name k long short deeds (are_left k deeds) → Outcome name k rests again sent said long short next deeds
  Stays : rests ≤ k → rests ≡ again → sent ≡ said → IsCut name k long next deeds (are_left k deeds) →
      Outcome name k rests again sent said long short next deeds

take-outcome : {index k : ℕ} (base : HostNode) (one : Backup) {other : Backup} {m : Master} {long short : List NodeWork} {started rests : ℕ}
    {sent : List Message} (message : Message) {deeds : List Deed} → AllCut index k base started deeds → Facts k long short started →
    (b c d : Bool) → (c ≡ false → d ≡ false) → sent ≡ (with_host (taking base one m message b c)).1 →
    rests ≡ cond d (length long + 1) (cond (b && not c) started (length long)) →
    IsLived (TheHost index) (taken_life base one m long started message b c d) deeds →
    Outcome (TheHost index) k rests (cond d (length short + 1) (cond (b && not c) started (length short))) sent
    (with_host (taking base other m message b c)).1
    (taken_life base one m long started message b c d) (life_at base other m short started)
    (taken_life base other m short started message b c d) deeds
take-outcome base one message rest facts b false true follows sends is lived = true_false (follows refl)
take-outcome base one {other} {m} {long} {short} message rest facts true true true follows sends is lived =
    Lost (let o = facts.over in omega arith)
    (rest (backup_takes one message.from message.body).0 other m (long ++ Deliver message ∷ []) short
    (facts-more (Deliver message) facts) lived)
take-outcome base one {other} {m} {long} {short} message rest facts false true true follows sends is lived =
    Lost (let o = facts.over in omega arith)
    (rest one other m (long ++ Deliver message ∷ []) short (facts-more (Deliver message) facts) lived)
take-outcome base one {other} {m} {long} {short} message rest facts true true false follows sends is lived =
    Lost (let o = facts.over in omega arith)
    (rest (backup_takes one message.from message.body).0 other m long short facts lived)
take-outcome base one {other} {m} {long} {short} message rest facts false c false follows sends is lived =
    Lost (let o = facts.over in omega arith) (rest one other m long short facts lived)
take-outcome base one {other} {m} {long} {short} message rest facts true false false follows sends is lived =
    Stays (let o = facts.early in omega arith) is sends
    (rest one other (master_takes m message.from message.body).0 long short facts lived)

same-next : {index k : ℕ} (base : HostNode) {one other : Backup} {m : Master} {long short : List NodeWork} {started : ℕ}
    {named : NodeName} (work : NodeWork) {sent : List Message} {rests : ℕ} {deeds : List Deed} →
    AllCut index k base started deeds → Facts k long short started →
    IsLived (TheHost index) (life_at base one m long started) (record { node = named; work = work; sent = sent; rests = rests } ∷ deeds) →
    IsCut (TheHost index) k (life_at base one m long started) (life_at base other m short started)
    (record { node = named; work = work; sent = sent; rests = rests } ∷ deeds)
    (are_left k (record { node = named; work = work; sent = sent; rests = rests } ∷ deeds))
same-next base {one} {m} (Deliver message) {rests} rest facts lived =
    elim (take-outcome base one message rest facts
    (is_server (server_of (running base one m)) message.to) (is_for_backup message.body) (changes_backup message.body)
    (unchanging message.body) lived.0.sends lived.0.rests lived.1) [
      | Lost over cut ↦ skip over cut
      | Stays within again says cut ↦ stay within (record { can = refl; sends = says; rests = again }) cut
    ]
same-next base {one} {other} {m} {long} {short} {started} Tick {rests} rest facts lived = stay
    (let e = facts.early in let r : rests ≡ started = lived.0.rests in omega arith)
    (record { can = lived.0.can; sends = lived.0.sends; rests = lived.0.rests })
    (rest one other (master_ticks m).0 long short facts lived.1)
same-next base {long} Stop {rests} rest facts lived = skip
    (let o = facts.over in let r : rests ≡ length long + 1 = lived.0.rests in omega arith) (gone-cut
    (record {
      long = let o = facts.over in rw (length-append long (Stop ∷ [])) (omega arith);
      late = λ e. true_false (sym e);
    }) (facts-more Stop facts).same lived.1)
same-next base (Start kept) rest facts lived = true_false (sym (sym (and-off base) ∙ lived.0.can))
same-next base _ rest facts lived = true_false (sym lived.0.can)

same-cut : {index k : ℕ} (base : HostNode) {started : ℕ} (deeds : List Deed) → AllCut index k base started deeds
same-cut base [] one other m long short facts lived = record { lived = tt; journal = facts.same }
same-cut base (deed ∷ deeds) one other m long short facts lived = same-next base deed.work
    (same-cut base deeds) facts lived

-- The whole of a life

-- a kept work that is one too many
gone-here : {name : NodeName} {k : ℕ} {life : Life} (work : NodeWork) {deeds : List Deed} → keeps name work ≡ true →
    length life.journal ≡ k →
    (node_runs (node_step life.node work).0 ≡ true → k < started_next life work) → IsLived name (life_next name life work) deeds →
    IsCut name k (life_next name life work) life deeds (are_left k deeds)
gone-here {name} {k} {life} work kept full late lived =
    let grown : journal_next name life work ≡ life.journal ++ work ∷ [] =
    ap (λ b. cond b (life.journal ++ work ∷ []) life.journal) kept in
    let longer : length (life.journal ++ work ∷ []) ≡ length life.journal + 1 = length-append life.journal (work ∷ []) in
    gone-cut
    (record {
      long = subst (λ l. k < length l) (sym grown) (omega arith);
      late = late;
    }) (sym (ap (take k) grown ∙ take_at life.journal (work ∷ []) k full)) lived

facts-here : {k : ℕ} {journal : List NodeWork} {started : ℕ} (work : NodeWork) → length journal ≡ k → started ≤ k →
    Facts k (journal ++ work ∷ []) journal started
facts-here {k} {journal} work full early = record {
  over = rw (length-append journal (work ∷ [])) (omega arith);
  full = full;
  same = sym (take_at journal (work ∷ []) k full);
  early = early;
}

kept-message : {index k : ℕ} (base : HostNode) {backup : Backup} {m : Master} {journal : List NodeWork} {started : ℕ} (message : Message)
    {deeds : List Deed} → length journal ≡ k → started ≤ k → (b c d : Bool) → (c ≡ false → d ≡ false) → d ≡ true →
    IsLived (TheHost index) (taken_life base backup m journal started message b c d) deeds →
    IsCut (TheHost index) k (taken_life base backup m journal started message b c d) (life_at base backup m journal started) deeds
    (are_left k deeds)
kept-message base message full early b c false follows kept lived = true_false (sym kept)
kept-message base message full early b false true follows kept lived = true_false (follows refl)
kept-message base {backup} {m} {journal} message {deeds} full early true true true follows kept lived =
    same-cut base deeds (backup_takes backup message.from message.body).0 backup m (journal ++ Deliver message ∷ []) journal
    (facts-here (Deliver message) full early) lived
kept-message base {backup} {m} {journal} message {deeds} full early false true true follows kept lived =
    same-cut base deeds backup backup m (journal ++ Deliver message ∷ []) journal
    (facts-here (Deliver message) full early) lived

abbrev life_with : HostNode → Option Master → List NodeWork → ℕ → Life
life_with host running journal started = record
    { node = node.TheHost (record host { master = running }); journal = journal; started = started }

message-next : {k : ℕ} (host : HostNode) (running : Option Master) {journal : List NodeWork} {started : ℕ} (message : Message)
    {deeds : List Deed} →
    changes_backup message.body ≡ true → length journal ≡ k → started ≤ k →
    IsLived (TheHost host.index) (life_next (TheHost host.index) (life_with host running journal started) (Deliver message)) deeds →
    IsCut (TheHost host.index) k (life_next (TheHost host.index) (life_with host running journal started) (Deliver message))
    (life_with host running journal started) deeds (are_left k deeds)
message-next host None message kept full early lived =
    gone-here (Deliver message) kept full (λ e. true_false (sym e)) lived
message-next host (Some m) message kept full early lived = kept-message host message full early
    (is_server (server_of host) message.to) (is_for_backup message.body) (changes_backup message.body) (unchanging message.body) kept
    lived

host-next : {k : ℕ} {host : HostNode} {journal : List NodeWork} {started : ℕ} (work : NodeWork) {deeds : List Deed} →
    host_keeps work ≡ true → length journal ≡ k → started ≤ k →
    IsLived (TheHost host.index)
    (life_next (TheHost host.index) (record { node = node.TheHost host; journal = journal; started = started }) work) deeds →
    IsCut (TheHost host.index) k
    (life_next (TheHost host.index) (record { node = node.TheHost host; journal = journal; started = started }) work)
    (record { node = node.TheHost host; journal = journal; started = started }) deeds (are_left k deeds)
host-next {host} (Deliver message) kept full early lived = message-next host host.master message kept full early lived
host-next (Start names) kept full early lived = gone-here (Start names) kept full (λ _. omega arith) lived
host-next Stop kept full early lived = gone-here Stop kept full (λ e. true_false (sym e)) lived
host-next _ kept full early lived = true_false (sym kept)

over-next : {name : NodeName} {k : ℕ} (n : Node) {journal : List NodeWork} {started : ℕ} (work : NodeWork) {deeds : List Deed} → name_of n
    ≡ name →
    keeps name work ≡ true → length journal ≡ k → started ≤ k →
    IsLived name (life_next name (record { node = n; journal = journal; started = started }) work) deeds →
    IsCut name k (life_next name (record { node = n; journal = journal; started = started }) work)
    (record { node = n; journal = journal; started = started }) deeds (are_left k deeds)
over-next node.TheOutside work named kept full early lived = gone-here work kept full (λ e. true_false (sym e)) lived
over-next (node.TheCoordinator c) work named kept full early lived = gone-here work kept full
    (λ e. true_false (sym e)) lived
over-next {k} (node.TheHost host) {journal} {started} work {deeds} named kept full early lived =
    subst (λ (n : NodeName). keeps n work ≡ true →
    IsLived n (life_next n (record { node = node.TheHost host; journal = journal; started = started }) work) deeds →
    IsCut n k (life_next n (record { node = node.TheHost host; journal = journal; started = started }) work)
    (record { node = node.TheHost host; journal = journal; started = started }) deeds (are_left k deeds)) named
    (λ its l. host-next work its full early l) kept lived

pub name-next : (n : Node) (work : NodeWork) → name_of (node_step n work).0 ≡ name_of n
name-next node.TheOutside work = refl
name-next (node.TheCoordinator c) work = refl
name-next (node.TheHost host) work = ap TheHost (host_step-index host work)

started-host : (life : Life) (host : HostNode) (work : NodeWork) → host_can host work ≡ true → life.started ≤ length life.journal →
    started_next life work ≤ length (journal_next (TheHost host.index) life work)
started-host life host (Start kept) can early = rw (length-append life.journal (Start kept ∷ [])) (omega arith)
started-host life host Stop can early = omega arith
started-host life host (Deliver message) can early = let l = longer (TheHost host.index) life (Deliver message) in omega arith
started-host life host _ can early = early

started-other : (name : NodeName) (life : Life) (work : NodeWork) → is_start work ≡ false → life.started ≤ length life.journal →
    started_next life work ≤ length (journal_next name life work)
started-other name life (Start kept) plain early = true_false plain
started-other name life Stop plain early = omega arith
started-other name life given plain early = let l = longer name life given in omega arith

no-start : (c : _) (work : NodeWork) → node_can (node.TheCoordinator c) work ≡ true → is_start work ≡ false
no-start c (Start kept) can = sym can
no-start c work can = refl

no-start-outside : (work : NodeWork) → node_can node.TheOutside work ≡ true → is_start work ≡ false
no-start-outside (Start kept) can = sym can
no-start-outside work can = refl

pub started-next : {name : NodeName} (n : Node) (life : Life) (work : NodeWork) → name_of n ≡ name → node_can n work ≡ true →
    life.started ≤ length life.journal → started_next life work ≤ length (journal_next name life work)
started-next {name} node.TheOutside life work named can early = started-other name life work (no-start-outside work can) early
started-next {name} (node.TheCoordinator c) life work named can early = started-other name life work (no-start c work can) early
started-next (node.TheHost host) life work named can early =
    subst (λ n. started_next life work ≤ length (journal_next n life work)) named (started-host life host work can early)

-- what stays is within what is left of the journal
within-next : (name : NodeName) {k : ℕ} (life : Life) (work : NodeWork) {rests : ℕ} → rests ≡ rests_on name life work → rests ≤ k →
    length life.journal ≤ k → length (journal_next name life work) ≤ k
within-next name {k} life work {rests} is in' within = by (keeps name work) is
  where
    by : (b : Bool) → rests ≡ cond b (length life.journal + 1) (cond (is_masters life.node work) life.started (length life.journal)) →
        length (cond b (life.journal ++ work ∷ []) life.journal) ≤ k
    by true e = rw (length-append life.journal (work ∷ [])) (omega arith)
    by false e = within

-- what is lost and nothing before it is the first kept work that is too many
over-here : (name : NodeName) {k : ℕ} (life : Life) (work : NodeWork) {rests : ℕ} → rests ≡ rests_on name life work → k < rests →
    length life.journal ≤ k → life.started ≤ length life.journal → (keeps name work ≡ true) × (length life.journal ≡ k)
over-here name {k} life work {rests} is over within early = by (keeps name work) (is_masters life.node work) is
  where
    by : (b c : Bool) → rests ≡ cond b (length life.journal + 1) (cond c life.started (length life.journal)) →
        (b ≡ true) × (length life.journal ≡ k)
    by true c e = (refl, omega arith)
    by false true e = let none : ⊥ = omega arith in absurd none
    by false false e = let none : ⊥ = omega arith in absurd none

-- What is left of a life where no more than so many works of its journal are left is a life, and has just these
pub first-cut : {name : NodeName} {k : ℕ} {life : Life} (deeds : List Deed) → name_of life.node ≡ name → length life.journal ≤ k →
    life.started ≤ length life.journal → IsLived name life deeds → IsCut name k life life deeds (are_left k deeds)
first-cut {k} {life} [] named within early lived = record { lived = tt; journal = sym (take_all k life.journal within) }
first-cut {name} {k} {life} (deed ∷ deeds) named within early lived =
    by (nat_le deed.rests k) refl (λ in'. first-cut {name = name} {k = k} {life = (life_next name life deed.work)} deeds
    (name-next life.node deed.work ∙ named) in' (started-next {name = name} life.node life deed.work named lived.0.can early) lived.1)
  where
    by : (b : Bool) → nat_le deed.rests k ≡ b → (length (journal_next name life deed.work) ≤ k →
        IsCut name k (life_next name life deed.work) (life_next name life deed.work) deeds (are_left k deeds)) →
        IsCut name k life life (deed ∷ deeds) (are_left k (deed ∷ deeds))
    by true e rest =
        stay {name = name} {k = k} {long = life} {short = life} {deed = deed} {deeds = deeds} (leb-true deed.rests k e) lived.0
        (rest (within-next name {k = k} life deed.work {rests = deed.rests} lived.0.rests (leb-true deed.rests k e) within))
    by false e rest =
        let here = over-here name {k = k} life deed.work {rests = deed.rests} lived.0.rests (leb-false deed.rests k e) within early in
        skip {name = name} {k = k} {long = life} {short = life} {deed = deed} {deeds = deeds} (leb-false deed.rests k e)
        (over-next {name = name} {k = k} life.node {journal = life.journal} {started = life.started} deed.work
        {deeds = deeds} named here.0 here.1 (omega arith) lived.1)
