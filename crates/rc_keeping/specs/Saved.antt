-- What a node is saved as, and the bytes of that. `docs/FORMATS.md` has the same in prose.
use Rattle.std.specs.Prelude.{ℕ, List, ◌∷◌, ◌++◌, Option, Some, None}
use Rattle.rc_types.specs.declared.ids.Pair.{Pair}
use Rattle.rc_types.specs.declared.ids.ServerId.{ServerId}
use Rattle.rc_model.specs.Replica.{Replica}
use Rattle.rc_model.specs.Backup.{Held}
use Rattle.rc_model.specs.Attempts.{GivenPart, Decision, Attempt}
use Rattle.rc_types.specs.declared.rows.Row.{Row}
use Rattle.rc_codec.specs.Parts.{byte, two_bytes, four_bytes, flag, optional, listed}
use Rattle.rc_codec.specs.Fields.{id_code, entry_code, row_code, plan_row_code, part_code, pair_code, tablet_code}
use Rattle.rc_codec.specs.Fields.{grant_code, up_code, setup_code}
use Rattle.rc_backup.specs.BackupView.{Holdings}
use Rattle.rc_coordinator.specs.Book.{Book, coordinator_of}
use Rattle.rc_history.specs.Nodes.{Node, TheCoordinator, TheHost}
use Rattle.rc_world.specs.declared.head.HostHead.{HostHead}
use Rattle.rc_world.specs.HostView.{host_of}
use Rattle.rc_world.specs.HostParts.{HostParts, head_of, host_from}
use Rattle.rc_world.specs.NodeView.{NodeData, OutsideData, CoordinatorData, HostNodeData}
use Rattle.rc_keeping.specs.Spelling.{sealed}

-- a segment and its replica
abbrev pub replica_code : ℕ × Replica → List ℕ
replica_code p = two_bytes p.0 ++ two_bytes p.1.epoch ++ flag p.1.closed ++ listed two_bytes p.1.digest
    ++ listed entry_code p.1.entries

-- a master and what is kept of it: whether it is fenced, its replicas, its freed segments
abbrev pub held_code : ServerId × Held → List ℕ
held_code p = id_code p.0 ++ flag p.1.fenced ++ listed replica_code p.1.replicas ++ listed two_bytes p.1.freed

-- the backup's id, and what it keeps of each master
abbrev pub backup_code : Holdings → List ℕ
backup_code backup = id_code backup.own ++ listed held_code backup.table

abbrev pub head_code : HostHead → List ℕ
head_code head = byte head.index ++ setup_code head.setup ++ four_bytes head.generation ++ flag head.runs

abbrev pub host_code : HostParts → List ℕ
host_code parts = head_code parts.head ++ backup_code parts.backup

-- a backup's answer to an attempt: its rows
abbrev pub reply_code : ServerId × List Row → List ℕ
reply_code p = id_code p.0 ++ listed row_code p.1

-- a part of a recovery, and who recovers it
abbrev pub given_code : GivenPart → List ℕ
given_code given = id_code given.to ++ part_code given.part

-- where the log is, and who recovers which part
abbrev pub decision_code : Decision → List ℕ
decision_code d = two_bytes d.plan.head ++ listed plan_row_code d.plan.rows ++ listed given_code d.parts

abbrev pub attempt_code : Attempt → List ℕ
attempt_code a = id_code a.master ++ listed reply_code a.replies ++ optional decision_code a.decided

-- a master and its least pair, a master and the number of its current attempt
abbrev pub least_code : ServerId × Pair → List ℕ
least_code p = id_code p.0 ++ pair_code p.1

abbrev pub current_code : ServerId × ℕ → List ℕ
current_code p = id_code p.0 ++ four_bytes p.1

-- the list of servers, who is ready, the tablets and the least pairs
abbrev pub known_code : Book → List ℕ
known_code book = four_bytes book.servers.version ++ listed up_code book.servers.rows ++ listed id_code book.ready
    ++ listed tablet_code book.tablets ++ listed least_code book.least

-- the attempts, which of them are current, the grants and the last term
abbrev pub begun_code : Book → List ℕ
begun_code book = listed attempt_code book.attempts ++ listed current_code book.current
    ++ listed grant_code book.grants ++ four_bytes book.last_term

abbrev pub book_code : Book → List ℕ
book_code book = known_code book ++ begun_code book

-- ---- saves

-- a host without its master, or all of the coordinator
pub data Saved : Type 0 where
  HostSave : (parts : HostParts) → Saved
  CoordinatorSave : (book : Book) → Saved

-- what a node is saved as; the outside keeps nothing
abbrev pub saved_of : NodeData → Option Saved
saved_of OutsideData = None
saved_of (CoordinatorData book) = Some (CoordinatorSave book)
saved_of (HostNodeData host) = Some (HostSave (record { head = head_of (host_of host); backup = host.backup }))

-- the node of a save
abbrev pub node_from : Saved → Node
node_from (HostSave parts) = TheHost (host_from parts)
node_from (CoordinatorSave book) = TheCoordinator (coordinator_of book)

-- a kind that no work of a journal has, and what is saved
abbrev pub kind_code : Saved → List ℕ
kind_code (HostSave parts) = 9 ∷ host_code parts
kind_code (CoordinatorSave book) = 10 ∷ book_code book

-- the version of the format, 1, and both
abbrev pub coded : Saved → List ℕ
coded saved = 1 ∷ kind_code saved

-- how many bytes there are, the sum over them, and the bytes, as a journal's records have it
abbrev pub save_of : Saved → List ℕ
save_of saved = sealed (coded saved)
