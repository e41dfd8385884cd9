-- A process as its contracts see it, and what becomes of it in each call.
use Rattle.std.specs.Prelude.{◌≡◌, ℕ, ◌+◌, ◌-◌, ◌^◌, ◌≤◌, ◌<◌, if◌then◌else◌, List, [], ◌∷◌, ◌++◌, length, map, drop}
use Rattle.std.specs.Prelude.{take}
use Rattle.std.specs.Prelude.{min, nat_le, Option, Some, None}
use Rattle.std.specs.Option.{option_map}
use Rattle.rc_types.specs.declared.events.NodeWork.{NodeWork}
use Rattle.rc_types.specs.declared.events.NodeWork.TheVariants as work
use Rattle.rc_types.specs.declared.messages.Message.{Message}
use Rattle.rc_codec.specs.Bodies.{coded_message}
use Rattle.rc_model.specs.Backup.{open_names}
use Rattle.rc_model.specs.Headline.{In}
use Rattle.rc_history.specs.Nodes.{Node, TheHost, name_of, node_step}
use Rattle.rc_world.specs.NodeView.{NodeData, node_seen, node_runs, NodeHasRoom}
use Rattle.rc_keeping.specs.Spelling.{record_of}
use Rattle.rc_keeping.specs.Claims.{AreReadFrom}
use Rattle.rc_keeping.specs.SaveClaims.{IsLoaded}
use Rattle.rc_history.specs.Lives.{keeps, is_masters}
use Rattle.rc_keeping.specs.Standing.{node_given}
use Rattle.rc_process.specs.declared.saving.Saving.{Saving}

-- what is held back, with how many bytes of the journal have to be safe before it may leave
abbrev pub Held : Type 0
Held = ℕ × List Message

-- The node; of its journal, how many bytes it has, how many of them reach up to the last start of a server, and how
-- many are safe; what is held back, in order; and the save that is taking the journal's place.
pub record ProcessView : Type 0 where
  pub node : Node
  pub written : ℕ
  pub started : ℕ
  pub safe : ℕ
  pub held : List Held
  pub saving : Option Saving

-- the same with all that is in the node
pub record ProcessData : Type 0 where
  pub node : NodeData
  pub written : ℕ
  pub started : ℕ
  pub safe : ℕ
  pub held : List Held
  pub saving : Option Saving

abbrev pub process_seen : ProcessData → ProcessView
process_seen p = record {
  node = node_seen p.node;
  written = p.written;
  started = p.started;
  safe = p.safe;
  held = p.held;
  saving = p.saving;
}

-- the process of a node, of which so many bytes are written and none are safe
abbrev pub begun : NodeData → ℕ → ProcessData
begun node written =
    record { node = node; written = written; started = 0; safe = 0; held = []; saving = None }

-- A work

-- what it adds to the journal
abbrev pub written_down : Node → NodeWork → List ℕ
written_down node given = if keeps (name_of node) given then record_of given else []

abbrev pub written_next : ProcessView → NodeWork → ℕ
written_next process given = process.written + length (written_down process.node given)

-- how many bytes have to be safe before what it sends may leave: all that are written by then; but where it is the
-- master's, those up to the start of its server
abbrev pub rests_on : ProcessView → NodeWork → ℕ
rests_on process given =
    if is_masters process.node given then process.started else written_next process given

-- how many bytes reach up to the last start of a server then, where the journal has so many
abbrev pub started_next : ProcessView → NodeWork → ℕ → ℕ
started_next process (work.Start kept) written = written
started_next process given written = process.started

-- the node has taken it, and what that sends is held back
abbrev pub given : ProcessView → NodeWork → ProcessView
given process work = record {
  node = (node_step process.node work).0;
  written = written_next process work;
  started = started_next process work (written_next process work);
  safe = process.safe;
  held = process.held ++ (rests_on process work, (node_step process.node work).1) ∷ [];
  saving = process.saving;
}

-- the bytes are no message, or not a message alone
abbrev pub IsNoMessage : List ℕ → Type 0
IsNoMessage bytes = (message : Message) → bytes ≡ coded_message message → ⊥

-- the work is the delivery of a message
abbrev pub IsDelivery : NodeWork → Type 0
IsDelivery (work.Deliver message) = Unit {0}
IsDelivery _ = ⊥

-- the work is the delivery of the message of these bytes
abbrev pub IsDeliveryOf : NodeWork → List ℕ → Type 0
IsDeliveryOf (work.Deliver message) bytes = bytes ≡ coded_message message
IsDeliveryOf _ bytes = ⊥

-- the start of a host with all open replicas that it has
abbrev pub whole_start : Node → NodeWork
whole_start (TheHost host) = work.Start (open_names host.backup)
whole_start _ = work.Start []

-- What leaves

-- one of those that are held back leaves, which rests on nothing that is not safe
pub record Leaves (old new : ProcessView) (messages : List Message) : Type 0 where
  pub before : List Held
  pub rests : ℕ
  pub later : List Held
  pub stood : old.held ≡ before ++ (rests, messages) ∷ later
  pub safe : rests ≤ old.safe
  pub left : new ≡ record old { held = before ++ later }

-- the first of those that are held back which rests on nothing that is not safe; and all the others
abbrev pub past_one : Held → List Message × List Held → List Message × List Held
past_one one found = (found.0, one ∷ found.1)

abbrev pub first_ready : ℕ → List Held → Option (List Message × List Held)
first_ready safe [] = None
first_ready safe (one ∷ later) =
    if nat_le one.0 safe then Some (one.1, later) else option_map (past_one one) (first_ready safe later)

-- all that is held back rests on more than what is safe
unfoldable pub AllAbove : ℕ → List Held → Type 0
AllAbove safe held = (one : Held) → In one held → safe < one.0

abbrev pub AllWait : ProcessView → Type 0
AllWait process = AllAbove process.safe process.held

-- A save

-- where a place of the journal stands then: up to the cut at the end of the save, else behind that
abbrev pub moved_place : Saving → ℕ → ℕ
moved_place saving place = saving.size + (place - saving.cut)

-- the largest number of the code's
abbrev pub LARGEST : ℕ
LARGEST = 2 ^ 64 - 1

abbrev pub move_mark : Saving → ℕ → ℕ
move_mark saving mark = min (moved_place saving mark) LARGEST

abbrev pub move_held : Saving → Held → Held
move_held saving held = (move_mark saving held.0, held.1)

abbrev pub moved_held : Saving → List Held → List Held
moved_held saving held = map (move_held saving) held

-- a save of so many bytes is begun
abbrev pub save_begun : ProcessView → ℕ → ProcessView
save_begun process size = record process { saving = Some (record { cut = process.written; size = size }) }

-- the save has taken the journal's place, if one was begun
abbrev pub moved_by : ProcessView → Option Saving → ProcessView
moved_by process None = process
moved_by process (Some saving) = record {
  node = process.node;
  written = move_mark saving process.written;
  started = move_mark saving process.started;
  safe = move_mark saving process.safe;
  held = moved_held saving process.held;
  saving = None;
}

abbrev pub moved : ProcessView → ProcessView
moved process = moved_by process process.saving

-- Coming back

-- The process of a file: the node that was saved in it, which was given again the works that stand behind the save, up
-- to the first record that is damaged or cut short. Nothing of it counts as safe yet, and nothing is held back.
pub record IsReplayed (file : List ℕ) (process : ProcessView) : Type 0 where
  pub loaded : NodeData
  pub count : ℕ
  pub read : List NodeWork
  pub good : ℕ
  pub begins : IsLoaded file loaded count
  pub behind : AreReadFrom (drop count file) read good
  pub is : process ≡ record {
    node = node_given (node_seen loaded) read;
    written = count + good;
    started = 0;
    safe = 0;
    held = [];
    saving = None;
  }

-- no node can be loaded from the file: it begins with no save
abbrev pub IsUnloaded : List ℕ → Type 0
IsUnloaded file = (node : NodeData) (count : ℕ) → IsLoaded file node count → ⊥

-- the file begins with a save, but fewer of its bytes are good than these
pub record IsTooShort (file : List ℕ) (known : ℕ) : Type 0 where
  pub again : ProcessView
  pub replayed : IsReplayed file again
  pub few : again.written < known

-- once the node was given so many of these works, its numbers do not suffice for one more
pub record RunsOutAfter (node : Node) (works : List NodeWork) : Type 0 where
  pub count : ℕ
  pub within : count ≤ length works
  pub full : NodeHasRoom (node_given node (take count works)) → ⊥

-- so it is with the node that was saved in the file, and the works that stand behind the save
pub record RunsOut (file : List ℕ) : Type 0 where
  pub loaded : NodeData
  pub count : ℕ
  pub read : List NodeWork
  pub good : ℕ
  pub begins : IsLoaded file loaded count
  pub behind : AreReadFrom (drop count file) read good
  pub out : RunsOutAfter (node_seen loaded) read

-- a host that runs is stopped, and that is written down
abbrev pub ended : ProcessView → ProcessView
ended process = if node_runs process.node then given process work.Stop else process

abbrev pub end_written : ProcessView → List ℕ
end_written process = if node_runs process.node then written_down process.node work.Stop else []

-- the process has come back from the file, of which so many bytes were good; so much has to be written behind them
pub record IsBack (file : List ℕ) (known : ℕ) (process : ProcessView) (written : List ℕ) : Type 0 where
  pub again : ProcessView
  pub replayed : IsReplayed file again
  pub enough : known ≤ again.written
  pub is : process ≡ ended again
  pub writes : written ≡ end_written again
