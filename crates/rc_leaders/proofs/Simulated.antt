-- Leaders and their store on the one side, one life on the other.
use Rattle.std.proofs.Common.{◌≡◌, ◌≤◌, ◌+◌, ℕ, List, length, take, refl, false}
use Rattle.std.proofs.Common.{nat_eq, arith}
use Rattle.std.proofs.lemmas.Bool.{eqb-true}
use Rattle.rc_model.specs.Tables.{put}
use Rattle.rc_model.proofs.Tests.{either}
use Rattle.rc_types.specs.declared.events.Setup.{Setup}
use Rattle.rc_model.specs.Headline.{In}
use Rattle.rc_model.specs.Nodes.{NodeWork}
use Rattle.rc_model.specs.World.{NodeName, TheOutside, TheCoordinator, TheHost, same_node}
use Rattle.rc_history.specs.Processes.{Deed, Process, Processes, after_all, MayAll}
use Rattle.rc_leaders.specs.Store.{joined, journal_in}
use Rattle.rc_leaders.specs.Leaders.{Leader, Cluster, IsOther, Event, come}
use Rattle.rc_leaders.specs.Claims.{in_lives}

-- The process that leads has the coordinator's life, whose safe works are the store's journal; what it has done is
-- done; and its save is what stands under the next epoch.
pub record Leads (journal : List NodeWork) (next : ℕ → List NodeWork) (p : Process) (done : List Deed) (leader : Leader) : Type 0 where
  pub life : p.life ≡ leader.life
  pub safe : p.safe ≡ length journal
  pub within : length journal ≤ length leader.life.journal
  pub stored : journal ≡ take (length journal) leader.life.journal
  pub held : (deed : Deed) → In deed leader.done → In deed done × (deed.node ≡ TheCoordinator)
  pub saving : joined next leader.pieces ≡ leader.save

-- what may leave of what was done is done still, and what it rests on is safe
abbrev pub IsBehind : ℕ → List Deed → Leader → Type 0
IsBehind count done leader = (deed : Deed) → In deed leader.behind →
    In deed done × (deed.node ≡ TheCoordinator) × (deed.rests ≤ count)

pub record Simulated (cluster : Cluster) (lives : Processes) : Type 0 where
  pub left : lives.left ≡ cluster.nodes.left
  pub others : (name : NodeName) → IsOther name → lives.at name ≡ cluster.nodes.at name
  pub done : (deed : Deed) → In deed cluster.nodes.done → In deed lives.done × IsOther deed.node
  pub leads : Leads (journal_in cluster.store) (cluster.store.under (cluster.store.epoch + 1)) (lives.at TheCoordinator) lives.done
      (cluster.at cluster.store.leader)
  pub behind : (term : ℕ) → IsBehind (length (journal_in cluster.store)) lives.done (cluster.at term)

-- an event in these lives
pub record Comes (setup : Setup) (cluster : Cluster) (lives : Processes) (event : Event) : Type 0 where
  pub may : MayAll setup lives (in_lives cluster event)
  pub goes : Simulated (come setup cluster event) (after_all setup lives (in_lives cluster event))

-- Tables

pub put-by : {V : Type 0} (P : V → Type 0) (table : ℕ → V) (key : ℕ) {value : V} (other : ℕ) → (key ≡ other → P value) →
    (nat_eq key other ≡ false → P (table other)) → P (put table key value other)
put-by P table key {value} other here there =
    either P (nat_eq key other) value (table other) (λ e. here (eqb-true key other e)) there

-- Names

pub turned : (name : NodeName) → IsOther name → same_node name TheCoordinator ≡ false
turned TheOutside other = refl
turned TheCoordinator other = other
turned (TheHost index) other = refl

-- Lists

pub behind-more : (count more : ℕ) (done later : List Deed) (leader : Leader) → count ≤ more →
    ((deed : Deed) → In deed done → deed.node ≡ TheCoordinator → deed.rests ≤ count → In deed later) →
    IsBehind count done leader → IsBehind more later leader
behind-more count more done later leader rises stays is deed at =
    let found : In deed done × (deed.node ≡ TheCoordinator) × (deed.rests ≤ count) = is deed at in
    let few : deed.rests ≤ count = found.2 in
    (stays deed found.0 found.1 found.2, found.1, omega arith)

-- the one process has the same life, and what was done is done still
pub leads-more : {journal : List NodeWork} {next : ℕ → List NodeWork} {p : Process} {done : List Deed} {leader : Leader}
    (later : List Deed) → Leads journal next p done leader →
    ((deed : Deed) → In deed done → deed.node ≡ TheCoordinator → In deed later) → Leads journal next p later leader
leads-more {done = done} {leader = leader} later is stays = record {
  life = is.life;
  safe = is.safe;
  within = is.within;
  stored = is.stored;
  held = still;
  saving = is.saving;
}
  where
    still : (deed : Deed) → In deed leader.done → In deed later × (deed.node ≡ TheCoordinator)
    still deed at =
        let found : In deed done × (deed.node ≡ TheCoordinator) = is.held deed at in
        (stays deed found.0 found.1, found.1)
