-- Leaders one after another, each fenced by the next, are one life of one process.
use Rattle.std.specs.Prelude.{◌≡◌, nat_eq, if◌then◌else◌, List, [], ◌∷◌, ◌++◌, length, take}
use Rattle.rc_types.specs.declared.events.Setup.{Setup}
use Rattle.rc_model.specs.World.{NodeName, TheCoordinator}
use Rattle.rc_history.specs.Processes.{Processes, Happening, Takes, Syncs, Leaves, Falls, new_processes, MayAll}
use Rattle.rc_history.specs.Processes.{after_all}
use Rattle.rc_leaders.specs.Store.{journal_in}
use Rattle.rc_leaders.specs.Leaders.{Leader, Cluster, new_cluster, IsOther, MayComeAll, come, come_all, Event, Others}
use Rattle.rc_leaders.specs.Leaders.{TakesLead, Gives, Appends, Confirms, BeginsSave, PutsPiece, Swaps, Deletes, Sends}

-- What an event is in the life of one process: whoever takes the lead is this process, that ends and comes back from
-- what is safe; what the store has is safe; and what others do that do not lead any more does not happen to it.
abbrev pub in_lives : Cluster → Event → List Happening
in_lives cluster (Others one) = one ∷ []
in_lives cluster TakesLead = Falls TheCoordinator (length (journal_in cluster.store)) ∷ []
in_lives cluster (Gives term work) =
    if nat_eq term cluster.store.leader then Takes TheCoordinator work ∷ [] else []
in_lives cluster (Appends term count) = Syncs TheCoordinator count ∷ []
in_lives cluster (Confirms term) = []
in_lives cluster (BeginsSave term) = []
in_lives cluster (PutsPiece term works) = []
in_lives cluster (Swaps term) = Syncs TheCoordinator (length (cluster.at term).save) ∷ []
in_lives cluster (Deletes epoch) = []
in_lives cluster (Sends term message) = Leaves message ∷ []

abbrev pub all_in_lives : Setup → Cluster → List Event → List Happening
all_in_lives setup cluster [] = []
all_in_lives setup cluster (event ∷ events) =
    in_lives cluster event ++ all_in_lives setup (come setup cluster event) events

-- Of these events

abbrev pub cluster_of : Setup → List Event → Cluster
cluster_of setup events = come_all setup (new_cluster setup) events

abbrev pub happenings_of : Setup → List Event → List Happening
happenings_of setup events = all_in_lives setup (new_cluster setup) events

abbrev pub lives_of : Setup → List Event → Processes
lives_of setup events = after_all setup (new_processes setup) (happenings_of setup events)

abbrev pub leading : Cluster → Leader
leading cluster = cluster.at cluster.store.leader

-- They are what happens to processes, one for each node: the same messages have left, each other node is the same, the
-- coordinator is that of the process that leads, and what is safe of its journal is what the store has.
pub record AreLives (setup : Setup) (events : List Event) : Type 0 where
  pub may : MayAll setup (new_processes setup) (happenings_of setup events)
  pub left : (lives_of setup events).left ≡ (cluster_of setup events).nodes.left
  pub others : (name : NodeName) → IsOther name →
      (lives_of setup events).at name ≡ (cluster_of setup events).nodes.at name
  pub life : ((lives_of setup events).at TheCoordinator).life ≡ (leading (cluster_of setup events)).life
  pub stored : journal_in (cluster_of setup events).store
      ≡ take ((lives_of setup events).at TheCoordinator).safe (leading (cluster_of setup events)).life.journal

-- whatever happens
abbrev pub LeadersAreOneLife : Type 0
LeadersAreOneLife = (setup : Setup) (events : List Event) → MayComeAll setup (new_cluster setup) events →
    AreLives setup events

-- and what happens later comes later in these lives
abbrev pub LivesGoOn : Type 0
LivesGoOn = (setup : Setup) (events more : List Event) →
    happenings_of setup (events ++ more)
    ≡ happenings_of setup events ++ all_in_lives setup (cluster_of setup events) more
