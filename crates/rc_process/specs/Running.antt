-- Processes of this type on their disks, and calls of them: what a server does that keeps its duties.
use Rattle.std.specs.Prelude.{◌≡◌, ◌≤◌, ℕ, true, if◌then◌else◌, List, [], ◌∷◌, ◌++◌, length, take, max, min}
use Rattle.std.specs.Prelude.{Some, None}
use Rattle.rc_types.specs.declared.ids.ServerId.{ServerId}
use Rattle.rc_types.specs.declared.events.NodeWork.{NodeWork}
use Rattle.rc_types.specs.declared.events.NodeWork.TheVariants as work
use Rattle.rc_types.specs.declared.events.Setup.{Setup}
use Rattle.rc_types.specs.declared.messages.Body.{Body}
use Rattle.rc_types.specs.declared.messages.Message.{Message}
use Rattle.rc_model.specs.Headline.{In}
use Rattle.rc_model.specs.Nodes.{Ask, outside_can, outside_sends}
use Rattle.rc_model.specs.World.{NodeName, TheOutside, same_node, node_of}
use Rattle.rc_history.specs.Nodes.{new_node, node_can}
use Rattle.rc_world.specs.NodeView.{NodeData, node_seen}
use Rattle.rc_keeping.specs.SaveClaims.{IsSaved}
use Rattle.rc_keeping.specs.Saved.{Saved}
use Rattle.rc_history.specs.Processes.{Happening, new_processes, MayAll, after_all}
use Rattle.rc_keeping.specs.Files.{file_of, IsLeft}
use Rattle.rc_process.specs.declared.saving.Saving.{Saving}
use Rattle.rc_process.specs.View.{ProcessView, written_down, given, Leaves, save_begun, moved_place, moved, LARGEST}
use Rattle.rc_process.specs.View.{IsBack}

-- A process and its disk: the bytes of the journal's file; those of the second file, while a save takes the journal's
-- place; and how many bytes of the journal are safe, whichever of the two files will stand there after a crash.
pub record Running : Type 0 where
  pub process : ProcessView
  pub file : List ℕ
  pub second : List ℕ
  pub safe : ℕ

-- all of them, and all messages that have ever left
pub record Machine : Type 0 where
  pub at : NodeName → Running
  pub left : List Message

abbrev pub with_running : (NodeName → Running) → NodeName → Running → NodeName → Running
with_running at name running other = if same_node name other then running else at other

abbrev pub put_at : Machine → NodeName → Running → Machine
put_at machine name running = record machine { at = with_running machine.at name running }

-- the outside has no journal, and no process that comes back: it is whoever asks
abbrev pub HasJournal : NodeName → Type 0
HasJournal TheOutside = ⊥
HasJournal _ = Unit {0}

-- The beginning: a process of a new node, whose file is a save of that, which is safe
pub record IsFirst (setup : Setup) (name : NodeName) (running : Running) : Type 0 where
  pub node : NodeData
  pub new : node_seen node ≡ new_node setup name
  pub saved : IsSaved node [] running.file
  pub safe : running.safe ≡ length running.file
  pub is : running.process ≡ record {
    node = new_node setup name;
    written = length running.file;
    started = 0;
    safe = 0;
    held = [];
    saving = None;
  }

pub record IsNew (setup : Setup) (machine : Machine) : Type 0 where
  pub first : (name : NodeName) → HasJournal name → IsFirst setup name (machine.at name)
  pub none : machine.left ≡ []

-- What a server may do

pub data Call : Type 0 where
  -- a client asks a server for something
  Asks : (to : ServerId) → (body : Body) → Call
  -- a process is given a work, and what it says is added to its file, and to the second one where there is one
  Gives : (name : NodeName) → (work : NodeWork) → Call
  -- a process is told that so many bytes are safe
  Syncs : (name : NodeName) → (count : ℕ) → Call
  -- what a process lets go leaves
  Leave : (name : NodeName) → (messages : List Message) → Call
  -- a save is begun, and is the second file
  BeginsSave : (name : NodeName) → Call
  -- the second file has taken the place of the first, and that is safe
  EndsSave : (name : NodeName) → Call
  -- a process has ended. It comes back from these bytes, which are its journal's file then, up to the good ones
  ComesBack : (name : NodeName) → (left : List ℕ) → Call

-- a message that is brought has left, for this node
abbrev pub MayBring : Machine → NodeName → NodeWork → Type 0
MayBring machine name (work.Deliver message) = In message machine.left × (node_of message.to ≡ name)
MayBring machine name _ = Unit {0}

pub record IsGiven (old : Machine) (name : NodeName) (work : NodeWork) (new : Machine) : Type 0 where
  pub can : node_can (old.at name).process.node work ≡ true
  pub brought : MayBring old name work
  pub is : new ≡ put_at old name (record {
    process = given (old.at name).process work;
    file = (old.at name).file ++ written_down (old.at name).process.node work;
    second = (old.at name).second ++ written_down (old.at name).process.node work;
    safe = (old.at name).safe;
  })

pub record IsSynced (old : Machine) (name : NodeName) (count : ℕ) (new : Machine) : Type 0 where
  pub more : (old.at name).process.safe ≤ count
  pub within : count ≤ (old.at name).process.written
  pub is : new ≡ put_at old name (record {
    process = record (old.at name).process { safe = count };
    file = (old.at name).file;
    second = (old.at name).second;
    safe = max (old.at name).safe count;
  })

pub record HasLeft (old : Machine) (name : NodeName) (messages : List Message) (new : Machine) : Type 0 where
  pub process : ProcessView
  pub leaves : Leaves (old.at name).process process messages
  pub is : new ≡ record {
    at = with_running old.at name (record (old.at name) { process = process });
    left = old.left ++ messages;
  }

pub record IsSaving (old : Machine) (name : NodeName) (new : Machine) : Type 0 where
  pub node : NodeData
  pub its : node_seen node ≡ (old.at name).process.node
  pub save : List ℕ
  pub saved : IsSaved node [] save
  pub is : new ≡ put_at old name (record {
    process = save_begun (old.at name).process (length save);
    file = (old.at name).file;
    second = save;
    safe = (old.at name).safe;
  })

pub record IsMoved (old : Machine) (name : NodeName) (new : Machine) : Type 0 where
  pub saving : Saving
  pub begun : (old.at name).process.saving ≡ Some saving
  pub short : length (old.at name).second ≤ LARGEST
  pub is : new ≡ put_at old name (record {
    process = moved (old.at name).process;
    file = (old.at name).second;
    second = [];
    safe = moved_place saving (old.at name).safe;
  })

-- what may stand there of a file of which so many bytes were safe
abbrev pub MayBeLeft : List ℕ → ℕ → List ℕ → Type 0
MayBeLeft file safe left =
    (saved : Saved) (works : List NodeWork) → file ≡ file_of saved works → IsLeft saved works safe left

-- of the file, or of the second one while a save takes the journal's place; how much of that is safe
pub data MayStand (running : Running) (left : List ℕ) (safe : ℕ) : Type 0 where
  First : safe ≡ running.safe → MayBeLeft running.file safe left → MayStand running left safe
  Second : (saving : Saving) → running.process.saving ≡ Some saving → safe ≡ moved_place saving running.safe →
      MayBeLeft running.second safe left → MayStand running left safe

pub record HasComeBack (old : Machine) (name : NodeName) (left : List ℕ) (new : Machine) : Type 0 where
  pub safe : ℕ
  pub stands : MayStand (old.at name) left safe
  pub known : ℕ
  pub process : ProcessView
  pub out : List ℕ
  pub back : IsBack left known process out
  pub is : new ≡ put_at old name (record {
    process = process;
    file = take back.again.written left ++ out;
    second = [];
    safe = min safe back.again.written;
  })

pub record HasAsked (old : Machine) (to : ServerId) (body : Body) (new : Machine) : Type 0 where
  pub can : outside_can (Ask to body) ≡ true
  pub is : new ≡ record old { left = old.left ++ outside_sends (Ask to body) }

abbrev pub Called : Machine → Call → Machine → Type 0
Called old (Asks to body) new = HasAsked old to body new
Called old (Gives name work) new = HasJournal name × IsGiven old name work new
Called old (Syncs name count) new = HasJournal name × IsSynced old name count new
Called old (Leave name messages) new = HasJournal name × HasLeft old name messages new
Called old (BeginsSave name) new = HasJournal name × IsSaving old name new
Called old (EndsSave name) new = HasJournal name × IsMoved old name new
Called old (ComesBack name left) new = HasJournal name × HasComeBack old name left new

-- one after another
abbrev pub AllCalled : Machine → List Call → Machine → Type 0
AllCalled old [] new = old ≡ new
AllCalled old (call ∷ calls) new = (next : Machine) × Called old call next × AllCalled next calls new

-- The law

-- it all happens in lives: what has left is the same, and each node is the same
pub record IsLived (setup : Setup) (machine : Machine) : Type 0 where
  pub happenings : List Happening
  pub may : MayAll setup (new_processes setup) happenings
  pub left : (after_all setup (new_processes setup) happenings).left ≡ machine.left
  pub nodes : (name : NodeName) → HasJournal name →
      ((after_all setup (new_processes setup) happenings).at name).life.node ≡ (machine.at name).process.node

abbrev pub CallsAreLives : Type 0
CallsAreLives = (setup : Setup) (first : Machine) (calls : List Call) (now : Machine) → IsNew setup first →
    AllCalled first calls now → IsLived setup now
