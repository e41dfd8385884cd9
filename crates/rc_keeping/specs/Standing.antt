-- For which works of a life a file stands, and what is made of it.
use Rattle.std.specs.Prelude.{◌≡◌, ◌≤◌, ◌+◌, ℕ, true, List, [], ◌∷◌, ◌++◌, length, take, if◌then◌else◌, Some}
use Rattle.rc_types.specs.declared.events.Setup.{Setup}
use Rattle.rc_types.specs.declared.events.NodeWork.{NodeWork}
use Rattle.rc_model.specs.World.{NodeName}
use Rattle.rc_history.specs.Nodes.{Node, new_node, node_can, node_step}
use Rattle.rc_world.specs.NodeView.{NodeData, node_seen}
use Rattle.rc_history.specs.Lives.{keeps, node_after, stops, SameNode}
use Rattle.rc_keeping.specs.Saved.{Saved, saved_of, node_from}

-- all of them are kept, and were possible
abbrev pub AllWritten : NodeName → Node → List NodeWork → Type 0
AllWritten name node [] = Unit {0}
AllWritten name node (given ∷ works) =
    (keeps name given ≡ true) × (node_can node given ≡ true) × AllWritten name (node_step node given).0 works

-- a node after these works, where what it can't be given changes nothing
abbrev pub node_next : Node → NodeWork → Node
node_next node given = if node_can node given then (node_step node given).0 else node

abbrev pub node_given : Node → List NodeWork → Node
node_given node [] = node
node_given node (given ∷ works) = node_given (node_next node given) works

-- the save stands for the first works of the journal, and those behind it for the others
pub record StandsFor (setup : Setup) (name : NodeName) (saved : Saved) (before : List NodeWork) (works : List NodeWork)
    (journal : List NodeWork) : Type 0 where
  pub loaded : SameNode (node_from saved) (node_after (new_node setup name) before)
  pub written : AllWritten name (node_after (new_node setup name) before) works
  pub same : journal ≡ before ++ works

-- whoever has the node that was saved, and gives it the first so many works, has the node that is made anew of what is
-- left of the journal
abbrev pub FilesMakeAnew : Type 0
FilesMakeAnew = (setup : Setup) (name : NodeName) (saved : Saved) (before : List NodeWork) (works : List NodeWork)
    (journal : List NodeWork) (count : ℕ) → StandsFor setup name saved before works journal → count ≤ length works →
    SameNode (node_given (node_from saved) (take count works))
    (node_after (new_node setup name) (take (length before + count) journal))

-- One work more is written down, by a node that is the one that its journal makes, but for its master.
abbrev pub OneMoreIsWritten : Type 0
OneMoreIsWritten = (setup : Setup) (name : NodeName) (saved : Saved) (before : List NodeWork) (works : List NodeWork)
    (journal : List NodeWork) (node : Node) (given : NodeWork) → StandsFor setup name saved before works journal →
    SameNode (node_after (new_node setup name) journal) node → keeps name given ≡ true → node_can node given ≡ true →
    StandsFor setup name saved before (works ++ given ∷ []) (journal ++ given ∷ [])

-- what a crash leaves of the works of a file stands for what it leaves of the journal
abbrev pub FewerStandForFewer : Type 0
FewerStandForFewer = (setup : Setup) (name : NodeName) (saved : Saved) (before : List NodeWork) (works : List NodeWork)
    (journal : List NodeWork) (count : ℕ) → StandsFor setup name saved before works journal → count ≤ length works →
    StandsFor setup name saved before (take count works) (take (length before + count) journal)

-- a file may begin anew with a save of the node, and no works behind it
abbrev pub SavesStandForAll : Type 0
SavesStandForAll = (setup : Setup) (name : NodeName) (node : NodeData) (saved : Saved) (journal : List NodeWork) →
    saved_of node ≡ Some saved → SameNode (node_after (new_node setup name) journal) (node_seen node) →
    StandsFor setup name saved journal [] journal

-- after a stop, nodes that are the same but for their masters are equal
abbrev pub StopsMakeEqual : Type 0
StopsMakeEqual = (one other : Node) → SameNode one other → node_after one (stops one) ≡ node_after other (stops other)
