-- Coordinators that take over from one another. Whoever takes the lead makes its node anew of the journal in the store,
-- and only who leads adds to that. Who led before may go on for ever, and not know it. Hosts and clients have processes
-- as ever.
use Rattle.std.specs.Prelude.{◌≡◌, ◌≤◌, ◌<◌, ℕ, ◌+◌, true, false, nat_le, Bool, List, [], ◌∷◌, ◌++◌, length, take, drop}
use Rattle.std.specs.Prelude.{filter}
use Rattle.rc_types.specs.declared.events.Setup.{Setup}
use Rattle.rc_types.specs.declared.messages.Message.{Message}
use Rattle.rc_model.specs.Nodes.{NodeWork}
use Rattle.rc_model.specs.Tables.{put}
use Rattle.rc_model.specs.World.{NodeName, TheCoordinator, same_node}
use Rattle.rc_history.specs.Nodes.{node_can}
use Rattle.rc_history.specs.Events.{StartsWith}
use Rattle.rc_history.specs.Lives.{Life, new_life, life_next, remade}
use Rattle.rc_history.specs.Processes.{Deed, Processes, Happening, Takes, Syncs, Leaves, Falls}
use Rattle.rc_history.specs.Processes.{IsAddressed, IsBrought, May, after, deed_of, new_processes}
use Rattle.rc_history.specs.LifeClaims.{WasDone}
use Rattle.rc_leaders.specs.Store.{Store, new_store, journal_in, taken_over, with_record, with_piece, swapped}
use Rattle.rc_leaders.specs.Store.{without_epoch}

-- The process that leads under a term, or led: the life of its node; what it has done; which of these deeds may leave;
-- and of the save that it makes, how many pieces it has put under the next epoch, and for which works they stand.
pub record Leader : Type 0 where
  pub life : Life
  pub done : List Deed
  pub behind : List Deed
  pub pieces : ℕ
  pub save : List NodeWork

-- All other nodes, in processes of their own, and all messages that have ever left; the store; and the process of each
-- term
pub record Cluster : Type 0 where
  pub nodes : Processes
  pub store : Store
  pub at : ℕ → Leader

abbrev pub leader_with : Life → Leader
leader_with life = record { life = life; done = []; behind = []; pieces = 0; save = [] }

abbrev pub new_cluster : Setup → Cluster
new_cluster setup = record {
  nodes = new_processes setup;
  store = new_store;
  at = λ term. leader_with (new_life setup TheCoordinator);
}

-- What may happen

pub data Event : Type 0 where
  -- something happens to the process of another node, or what that has sent leaves
  Others : (one : Happening) → Event
  -- a process takes the lead, in the transaction that reads `head`
  TakesLead : Event
  -- the process of a term gives its node a work, whether it leads or not
  Gives : (term : ℕ) → (work : NodeWork) → Event
  -- a transaction of a term: so many works of its journal are in the store
  Appends : (term : ℕ) → (count : ℕ) → Event
  -- a transaction of a term that only reads
  Confirms : (term : ℕ) → Event
  -- a process begins a save
  BeginsSave : (term : ℕ) → Event
  -- a transaction of a term: the next piece of its save is in the store
  PutsPiece : (term : ℕ) → (works : List NodeWork) → Event
  -- a transaction of a term: `head` names its save
  Swaps : (term : ℕ) → Event
  -- an epoch is deleted that `head` does not name any more
  Deletes : (epoch : ℕ) → Event
  -- a message leaves the process of a term, whether it leads or not
  Sends : (term : ℕ) → (message : Message) → Event

-- When it may happen

-- the guard of a transaction: it compares `leader`, and does nothing where another term leads
abbrev pub IsLeading : Cluster → ℕ → Type 0
IsLeading cluster term = cluster.store.leader ≡ term

abbrev pub IsOther : NodeName → Type 0
IsOther name = same_node TheCoordinator name ≡ false

-- it happens to another node; what leaves there was done by one
abbrev pub IsOfOthers : Happening → Type 0
IsOfOthers (Takes name work) = IsOther name
IsOfOthers (Syncs name count) = IsOther name
IsOfOthers (Leaves message) = Unit {0}
IsOfOthers (Falls name count) = IsOther name

-- the coordinator of the process can be given the work, and a message that is brought has left
pub record MayGive (cluster : Cluster) (term : ℕ) (work : NodeWork) : Type 0 where
  pub can : node_can (cluster.at term).life.node work ≡ true
  pub addressed : IsAddressed TheCoordinator work
  pub brought : IsBrought cluster.nodes.left work

-- what it adds are works of its journal, behind those that the store has
pub record MayAppend (cluster : Cluster) (term count : ℕ) : Type 0 where
  pub no_less : length (journal_in cluster.store) ≤ count
  pub no_more : count ≤ length (cluster.at term).life.journal

-- its save stands for a beginning of its journal, and for all that the store has
pub record MaySwap (cluster : Cluster) (term : ℕ) : Type 0 where
  pub its : StartsWith (cluster.at term).life.journal (cluster.at term).save
  pub no_less : length (journal_in cluster.store) ≤ length (cluster.at term).save

abbrev pub MayCome : Cluster → Event → Type 0
MayCome cluster (Others one) = IsOfOthers one × May cluster.nodes one
MayCome cluster TakesLead = Unit {0}
MayCome cluster (Gives term work) = MayGive cluster term work
MayCome cluster (Appends term count) = IsLeading cluster term × MayAppend cluster term count
MayCome cluster (Confirms term) = IsLeading cluster term
MayCome cluster (BeginsSave term) = Unit {0}
MayCome cluster (PutsPiece term works) = IsLeading cluster term
MayCome cluster (Swaps term) = IsLeading cluster term × MaySwap cluster term
MayCome cluster (Deletes epoch) = epoch < cluster.store.epoch
MayCome cluster (Sends term message) = WasDone (cluster.at term).behind message

-- What it changes

abbrev pub rests_within : ℕ → Deed → Bool
rests_within count deed = nat_le deed.rests count

-- a transaction of its term stands behind all that it has done so far and that rests on what the store has then
abbrev pub confirmed : Leader → ℕ → Leader
confirmed leader count = record leader { behind = filter (rests_within count) leader.done }

abbrev pub given : Leader → NodeWork → Leader
given leader work = record leader {
  life = life_next TheCoordinator leader.life work;
  done = leader.done ++ deed_of TheCoordinator leader.life work ∷ [];
}

-- the works of its journal from what the store has up to this count
abbrev pub next_works : Store → Leader → ℕ → List NodeWork
next_works store leader count = drop (length (journal_in store)) (take count leader.life.journal)

-- the process of this term is so
abbrev pub with_leader : Cluster → ℕ → Leader → Cluster
with_leader cluster term leader = record cluster { at = put cluster.at term leader }

abbrev pub with_store : Cluster → Store → Cluster
with_store cluster store = record cluster { store = store }

abbrev pub come : Setup → Cluster → Event → Cluster
come setup cluster (Others one) = record cluster { nodes = after setup cluster.nodes one }
come setup cluster TakesLead =
    with_leader (with_store cluster (taken_over cluster.store)) (cluster.store.leader + 1)
    (leader_with (remade setup TheCoordinator (journal_in cluster.store)))
come setup cluster (Gives term work) = with_leader cluster term (given (cluster.at term) work)
come setup cluster (Appends term count) =
    with_leader (with_store cluster (with_record cluster.store (next_works cluster.store (cluster.at term) count))) term
    (confirmed (cluster.at term) count)
come setup cluster (Confirms term) =
    with_leader cluster term (confirmed (cluster.at term) (length (journal_in cluster.store)))
come setup cluster (BeginsSave term) = with_leader cluster term (record (cluster.at term) { pieces = 0; save = [] })
come setup cluster (PutsPiece term works) =
    with_leader (with_store cluster (with_piece cluster.store (cluster.at term).pieces works)) term
    (record (cluster.at term) { pieces = (cluster.at term).pieces + 1; save = (cluster.at term).save ++ works })
come setup cluster (Swaps term) =
    with_leader (with_store cluster (swapped cluster.store (cluster.at term).pieces)) term
    (record (cluster.at term) { pieces = 0; save = [] })
come setup cluster (Deletes epoch) = with_store cluster (without_epoch cluster.store epoch)
come setup cluster (Sends term message) =
    record cluster { nodes = record cluster.nodes { left = cluster.nodes.left ++ message ∷ [] } }

-- One after another

abbrev pub MayComeAll : Setup → Cluster → List Event → Type 0
MayComeAll setup cluster [] = Unit {0}
MayComeAll setup cluster (event ∷ events) = MayCome cluster event × MayComeAll setup (come setup cluster event) events

abbrev pub come_all : Setup → Cluster → List Event → Cluster
come_all setup cluster [] = cluster
come_all setup cluster (event ∷ events) = come_all setup (come setup cluster event) events
