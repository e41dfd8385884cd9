-- Processes that keep a node each and end at any moment, and the messages that leave them.
use Rattle.std.specs.Prelude.{◌≡◌, ◌≤◌, ℕ, Bool, true, nat_le, if◌then◌else◌, List, [], ◌∷◌, ◌++◌, length, map, filter}
use Rattle.std.specs.Prelude.{take}
use Rattle.rc_types.specs.declared.events.Setup.{Setup}
use Rattle.rc_types.specs.declared.messages.Message.{Message}
use Rattle.rc_model.specs.Headline.{In}
use Rattle.rc_model.specs.Nodes.{NodeWork, Deliver}
use Rattle.rc_model.specs.World.{NodeName, same_node, node_of}
use Rattle.rc_history.specs.Nodes.{node_can, node_step}
use Rattle.rc_history.specs.Lives.{Life, new_life, life_next, rests_on, replayed, remade, stops}

-- what a node has done: a work, what it sends, and how many works of its journal that rests on
pub record Deed : Type 0 where
  pub node : NodeName
  pub work : NodeWork
  pub sent : List Message
  pub rests : ℕ

-- the life of the node in the process, and how many works of its journal are safe: these are there again after any
-- crash
pub record Process : Type 0 where
  pub life : Life
  pub safe : ℕ

-- all processes; what was done and is not forgotten, in order; and all messages that have ever left
pub record Processes : Type 0 where
  pub at : NodeName → Process
  pub done : List Deed
  pub left : List Message

abbrev pub new_process : Setup → NodeName → Process
new_process setup name = record { life = new_life setup name; safe = 0 }

abbrev pub new_processes : Setup → Processes
new_processes setup = record { at = new_process setup; done = []; left = [] }

-- what may happen
pub data Happening : Type 0 where
  -- a process gives its node a work, and holds back what that sends
  Takes : (name : NodeName) → (work : NodeWork) → Happening
  -- so many works of a journal are safe
  Syncs : (name : NodeName) → (count : ℕ) → Happening
  -- a message leaves
  Leaves : (message : Message) → Happening
  -- A process ends. So many works are left of its journal, of which its node is made anew; a host is stopped
  Falls : (name : NodeName) → (count : ℕ) → Happening

-- When it may happen

-- a message is brought to the node that it names
abbrev pub IsAddressed : NodeName → NodeWork → Type 0
IsAddressed name (Deliver message) = node_of message.to ≡ name
IsAddressed name _ = Unit {0}

-- a message that is brought has left
abbrev pub IsBrought : List Message → NodeWork → Type 0
IsBrought left (Deliver message) = In message left
IsBrought left _ = Unit {0}

-- the node can be given the work
pub record MayTake (all : Processes) (name : NodeName) (work : NodeWork) : Type 0 where
  pub can : node_can (all.at name).life.node work ≡ true
  pub addressed : IsAddressed name work
  pub brought : IsBrought all.left work

-- something that was done has sent the message, and all that this rests on is safe
pub record MayLeave (safe : NodeName → ℕ) (done : List Deed) (message : Message) : Type 0 where
  pub deed : Deed
  pub done_before : In deed done
  pub its : In message deed.sent
  pub safe_by_now : deed.rests ≤ safe deed.node

-- any beginning of the journal that has at least what is safe
pub record MayBeLeft (process : Process) (count : ℕ) : Type 0 where
  pub no_less : process.safe ≤ count
  pub no_more : count ≤ length process.life.journal

abbrev pub safe_at : Processes → NodeName → ℕ
safe_at all name = (all.at name).safe

abbrev pub May : Processes → Happening → Type 0
May all (Takes name work) = MayTake all name work
May all (Syncs name count) = MayBeLeft (all.at name) count
May all (Leaves message) = MayLeave (safe_at all) all.done message
May all (Falls name count) = MayBeLeft (all.at name) count

-- What it changes

abbrev pub with_process : (NodeName → Process) → NodeName → Process → NodeName → Process
with_process at name process other = if same_node name other then process else at other

abbrev pub deed_of : NodeName → Life → NodeWork → Deed
deed_of name life work =
    record { node = name; work = work; sent = (node_step life.node work).1; rests = rests_on name life work }

-- a process of whose journal so many works are left has forgotten what rests on more
abbrev pub is_left : NodeName → ℕ → Deed → Bool
is_left name count deed = if same_node deed.node name then nat_le deed.rests count else true

abbrev pub stop_deeds : NodeName → Life → List NodeWork → List Deed
stop_deeds name life works = map (deed_of name life) works

abbrev pub fallen : Setup → NodeName → ℕ → Processes → Processes
fallen setup name count all =
    let kept = take count (all.at name).life.journal in
    record {
      at = with_process all.at name (record { life = remade setup name kept; safe = (all.at name).safe });
      done = filter (is_left name count) all.done
          ++ stop_deeds name (replayed setup name kept) (stops (replayed setup name kept).node);
      left = all.left;
    }

abbrev pub after : Setup → Processes → Happening → Processes
after setup all (Takes name work) = record {
  at = with_process all.at name (record {
    life = life_next name (all.at name).life work;
    safe = (all.at name).safe;
  });
  done = all.done ++ deed_of name (all.at name).life work ∷ [];
  left = all.left;
}
after setup all (Syncs name count) =
    record all { at = with_process all.at name (record { life = (all.at name).life; safe = count }) }
after setup all (Leaves message) = record all { left = all.left ++ message ∷ [] }
after setup all (Falls name count) = fallen setup name count all

-- One after another

abbrev pub MayAll : Setup → Processes → List Happening → Type 0
MayAll setup all [] = Unit {0}
MayAll setup all (one ∷ more) = May all one × MayAll setup (after setup all one) more

abbrev pub after_all : Setup → Processes → List Happening → Processes
after_all setup all [] = all
after_all setup all (one ∷ more) = after_all setup (after setup all one) more
