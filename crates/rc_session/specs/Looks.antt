-- What is shown of a session to whoever runs it.
use Rattle.std.specs.Prelude.{◌≡◌, ℕ, Bool, true, false, ◌||◌, if◌then◌else◌, List, [], ◌∷◌, length}
use Rattle.std.specs.Prelude.{Option, Some, None, is_some}
use Rattle.std.specs.List.{flat_map}
use Rattle.rc_types.specs.declared.ids.ServerId.{ServerId}
use Rattle.rc_history.specs.Nodes.{own_server}
use Rattle.rc_model.specs.Log.{Log, has_segment}
use Rattle.rc_codec.specs.Parts.{listed}
use Rattle.rc_codec.specs.Fields.{id_code, tablet_code, up_code}
use Rattle.rc_coordinator.specs.Book.{Book}
use Rattle.rc_master.specs.Data.{MasterData, master_of}
use Rattle.rc_world.specs.NodeView.{NodeData, node_seen, node_runs, master_in, book_in}
use Rattle.rc_process.specs.View.{Held}
use Rattle.rc_process.specs.declared.saving.Saving.{Saving}
use Rattle.rc_runbook.specs.Runbook.{dues}
use Rattle.rc_runbook.specs.declared.asking.Due.{Due}
use Rattle.rc_runbook.specs.declared.asking.Due.TheVariants.{Suspect, Decide, Restart}
use Rattle.rc_session.specs.declared.info.Info.{Info}
use Rattle.rc_session.specs.View.{SessionData}

-- A node at a glance

abbrev pub entries_at : Log → ℕ → ℕ
entries_at log seg = if has_segment log seg then length (log.segments seg).entries else 0

abbrev pub deposed_of : Option MasterData → Bool
deposed_of None = false
deposed_of (Some master) = (master_of master).deposed

abbrev pub head_of : Option MasterData → ℕ
head_of None = 0
head_of (Some master) = (master_of master).log.head

abbrev pub entries_of : Option MasterData → ℕ
entries_of None = 0
entries_of (Some master) = entries_at (master_of master).log (master_of master).log.head

abbrev pub is_held : List Held → Bool
is_held [] = false
is_held (one ∷ others) = true

abbrev pub is_begun : Option Saving → Bool
is_begun None = false
is_begun (Some saving) = true

-- where the node's numbers suffice, or not
abbrev pub info_of : SessionData → Bool → Info
info_of session room = record {
  server = own_server (node_seen session.process.node);
  runs = node_runs (node_seen session.process.node);
  is_deposed = deposed_of (master_in session.process.node);
  head = head_of (master_in session.process.node);
  entries = entries_of (master_in session.process.node);
  written = session.process.written;
  safe = session.process.safe;
  untaken = length session.journal;
  is_waiting = is_held session.process.held || is_some session.hand;
  is_saving = is_begun session.process.saving;
  has_room = room;
}

-- The coordinator's tablets and servers

abbrev pub tablets_code : Book → List ℕ
tablets_code book = listed tablet_code book.tablets

abbrev pub servers_code : Book → List ℕ
servers_code book = listed up_code book.servers.rows

-- What is due

-- a Suspect and a Decide as the works are coded; a Restart as a Stop with the server's id
abbrev pub due_code : Due → List ℕ
due_code (Suspect id) = 1 ∷ 5 ∷ id_code id
due_code (Decide id) = 1 ∷ 6 ∷ id_code id
due_code (Restart id) = 1 ∷ 3 ∷ id_code id

abbrev pub all_due : List Due → List ℕ
all_due list = flat_map due_code list

-- these bytes are what is due at the coordinator, where these lists are who was heard, who was silent, and who is stuck
pub record AreDue (heard silent stuck : List ℕ) (node : NodeData) (code : List ℕ) : Type 0 where
  pub book : Book
  pub its : book_in node ≡ Some book
  pub heard_ids : List ServerId
  pub silent_ids : List ServerId
  pub stuck_ids : List ServerId
  pub are_heard : heard ≡ listed id_code heard_ids
  pub are_silent : silent ≡ listed id_code silent_ids
  pub are_stuck : stuck ≡ listed id_code stuck_ids
  pub is : code ≡ all_due (dues book heard_ids silent_ids stuck_ids)
