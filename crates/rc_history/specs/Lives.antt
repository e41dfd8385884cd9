-- The life of one node: where its works have led it, which of them were written down, and what each of its steps rests
-- on.
use Rattle.std.specs.Prelude.{◌≡◌, ℕ, ◌+◌, Bool, false, not, ◌&&◌, if◌then◌else◌, List, [], ◌∷◌, ◌++◌, length}
use Rattle.rc_types.specs.declared.events.Setup.{Setup}
use Rattle.rc_model.specs.Nodes.{NodeWork, Deliver, Tick, Stop, Start, runs, is_running_at, is_for_backup}
use Rattle.rc_model.specs.World.{NodeName}
use Rattle.rc_history.specs.Nodes.{Node, node_step, new_node}
use Rattle.rc_history.specs.Nodes as node
use Rattle.rc_history.specs.Remade.{SameButMaster}
-- what a node writes down: as much of its works as it can be made anew from
pub use Rattle.rc_history.specs.Remade.{keeps}

-- the work is one for the master that runs on the node, and for nothing else of it
abbrev pub is_masters : Node → NodeWork → Bool
is_masters (node.TheHost host) (Deliver message) = is_running_at host message.to && not (is_for_backup message.body)
is_masters (node.TheHost host) Tick = runs host
is_masters _ work = false

-- where the node is, its journal, which has the works that were written down, and how long that was once the server was
-- started that runs (0 where none does)
pub record Life : Type 0 where
  pub node : Node
  pub journal : List NodeWork
  pub started : ℕ

abbrev pub new_life : Setup → NodeName → Life
new_life setup name = record { node = new_node setup name; journal = []; started = 0 }

-- What the work sends may leave once so many works of the journal are safe: where it is written down itself, all up to
-- it; where it is the master's, those up to the start of its server; else all that were written down before it.
abbrev pub rests_on : NodeName → Life → NodeWork → ℕ
rests_on name life work =
    if keeps name work then length life.journal + 1
    else (if is_masters life.node work then life.started else length life.journal)

-- One work more

abbrev pub journal_next : NodeName → Life → NodeWork → List NodeWork
journal_next name life work = if keeps name work then life.journal ++ work ∷ [] else life.journal

abbrev pub started_next : Life → NodeWork → ℕ
started_next life (Start kept) = length life.journal + 1
started_next life Stop = 0
started_next life _ = life.started

abbrev pub life_next : NodeName → Life → NodeWork → Life
life_next name life work = record {
  node = (node_step life.node work).0;
  journal = journal_next name life work;
  started = started_next life work;
}

abbrev pub life_after : NodeName → Life → List NodeWork → Life
life_after name life [] = life
life_after name life (work ∷ works) = life_after name (life_next name life work) works

-- Made anew

abbrev pub node_after : Node → List NodeWork → Node
node_after n [] = n
node_after n (work ∷ works) = node_after (node_step n work).0 works

-- what a node is given first whose process has ended: a host is stopped, if it ran
abbrev pub stops : Node → List NodeWork
stops (node.TheHost host) = if runs host then Stop ∷ [] else []
stops _ = []

-- the life of a node that is made anew of these works, which are its journal: before it is stopped, and after
abbrev pub replayed : Setup → NodeName → List NodeWork → Life
replayed setup name kept = record { node = node_after (new_node setup name) kept; journal = kept; started = 0 }

abbrev pub remade : Setup → NodeName → List NodeWork → Life
remade setup name kept = life_after name (replayed setup name kept) (stops (replayed setup name kept).node)

-- the nodes are the same, hosts but for their masters
abbrev pub SameNode : Node → Node → Type 0
SameNode node.TheOutside node.TheOutside = Unit {0}
SameNode (node.TheCoordinator one) (node.TheCoordinator other) = one ≡ other
SameNode (node.TheHost one) (node.TheHost other) = SameButMaster one other
SameNode _ _ = ⊥
