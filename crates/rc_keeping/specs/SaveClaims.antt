-- What is promised of saves.
use Rattle.std.specs.Prelude.{◌≡◌, ℕ, List, [], ◌++◌, length, drop, filter, Some}
use Rattle.rc_codec.specs.Claims.{IsFront, BeginsWithNone}
use Rattle.rc_codec.specs.Parts.{eight_bytes, four_bytes}
use Rattle.rc_model.specs.Coordinator.{Coordinator}
use Rattle.rc_model.specs.Nodes.{HostNode}
use Rattle.rc_history.specs.Nodes.{TheHost, TheCoordinator}
use Rattle.rc_history.specs.Remade.{host_keeps, coordinator_keeps, SameButMaster}
use Rattle.rc_coordinator.specs.Book.{Book, coordinator_of}
use Rattle.rc_world.specs.HostView.{HostData, host_of}
use Rattle.rc_world.specs.HostParts.{HostParts, host_from}
use Rattle.rc_world.specs.NodeView.{NodeData, CoordinatorData, HostNodeData, node_seen}
use Rattle.rc_types.specs.declared.events.NodeWork.{NodeWork}
use Rattle.rc_keeping.specs.Claims.{AreReadFrom}
use Rattle.rc_keeping.specs.Keeping.{host_given, coordinator_given}
use Rattle.rc_keeping.specs.Spelling.{sum_of, record_of, journal_of}
use Rattle.rc_keeping.specs.Saved.{Saved, HostSave, saved_of, node_from, coded, save_of}
use Rattle.rc_keeping.specs.Order.{IsSound}

-- what stood there before is followed by the node's save
pub record IsSaved (node : NodeData) (before after : List ℕ) : Type 0 where
  pub saved : Saved
  pub its : saved_of node ≡ Some saved
  pub sound : IsSound saved
  pub written : after ≡ before ++ save_of saved

-- the bytes begin with a save of so many bytes, and the node is the node of that
pub record IsLoaded (bytes : List ℕ) (node : NodeData) (count : ℕ) : Type 0 where
  pub saved : Saved
  pub its : saved_of node ≡ Some saved
  pub made : node_seen node ≡ node_from saved
  pub front : IsFront (save_of saved) count bytes

-- the same of what is saved alone, without length and sum
pub record IsNodeOf (code : List ℕ) (node : NodeData) : Type 0 where
  pub saved : Saved
  pub its : saved_of node ≡ Some saved
  pub made : node_seen node ≡ node_from saved
  pub is : code ≡ coded saved

abbrev pub CodesNothing : List ℕ → Type 0
CodesNothing code = (saved : Saved) → IsSound saved → code ≡ coded saved → ⊥

-- no node's save stands at the front
abbrev pub BeginsWithNoSave : List ℕ → Type 0
BeginsWithNoSave bytes = (saved : Saved) (rest : List ℕ) → IsSound saved → bytes ≡ save_of saved ++ rest → ⊥

-- whatever follows a save, what is loaded there is what was saved, and takes all of its bytes and no more
abbrev pub SavedIsLoaded : Type 0
SavedIsLoaded = (saved : Saved) (rest : List ℕ) (node : NodeData) (count : ℕ) →
    IsLoaded (save_of saved ++ rest) node count →
    (node_seen node ≡ node_from saved) × (saved_of node ≡ Some saved) × (count ≡ length (save_of saved))

-- a save is never refused as malformed
abbrev pub SavesAreTaken : Type 0
SavesAreTaken = (saved : Saved) (rest : List ℕ) → IsSound saved → BeginsWithNoSave (save_of saved ++ rest) → ⊥

-- a save is no record of a journal, so a journal can begin with one
abbrev pub SavesAreNoRecords : Type 0
SavesAreNoRecords = (saved : Saved) (rest : List ℕ) → BeginsWithNone record_of (save_of saved ++ rest)

-- a save that was cut short is none, wherever it was cut
abbrev pub CutIsRefused : Type 0
CutIsRefused = (saved : Saved) (cut lost : List ℕ) → save_of saved ≡ cut ++ lost → (lost ≡ [] → ⊥) →
    BeginsWithNone save_of cut

-- bytes that do not have the sum that stands before them are none
abbrev pub DamagedIsRefused : Type 0
DamagedIsRefused = (sum : ℕ) (damaged rest : List ℕ) → (sum_of damaged ≡ sum → ⊥) →
    BeginsWithNone save_of (eight_bytes (length damaged) ++ four_bytes sum ++ damaged ++ rest)

-- the host of a host's parts is that host but for its master, and runs where that one runs, so that a stop makes the
-- two equal
abbrev pub LoadedIsSame : Type 0
LoadedIsSame = (host : HostData) (parts : HostParts) → saved_of (HostNodeData host) ≡ Some (HostSave parts) →
    SameButMaster (host_from parts) (host_of host)

-- and so it stays, where it is given what was kept of the works that the other one was given since
abbrev pub LoadedGoesOn : Type 0
LoadedGoesOn = (host : HostData) (parts : HostParts) (works : List NodeWork) →
    saved_of (HostNodeData host) ≡ Some (HostSave parts) →
    SameButMaster (host_given (host_from parts) (filter host_keeps works)) (host_given (host_of host) works)

-- what a host has to have on its disk: its save, and behind it the works that were kept since. Whoever loads that, and
-- gives the works that are read behind it, has the host as it is after all works, but for its master
abbrev pub HostsComeBack : Type 0
HostsComeBack = (host : HostData) (works : List NodeWork) (saved : List ℕ) (node : NodeData) (count : ℕ)
    (read : List NodeWork) (good : ℕ) → IsSaved (HostNodeData host) [] saved →
    IsLoaded (saved ++ journal_of (filter host_keeps works)) node count →
    AreReadFrom (drop count (saved ++ journal_of (filter host_keeps works))) read good →
    (loaded : HostNode) × (node_seen node ≡ TheHost loaded)
    × SameButMaster (host_given loaded read) (host_given (host_of host) works)

-- a coordinator that is loaded is the coordinator that was saved, in all that contracts see of it, whatever stands
-- behind the save
abbrev pub LoadedIsTheSaved : Type 0
LoadedIsTheSaved = (book : Book) (saved rest : List ℕ) (node : NodeData) (count : ℕ) →
    IsSaved (CoordinatorData book) [] saved → IsLoaded (saved ++ rest) node count → node ≡ CoordinatorData book

-- and where it is given the works that are read behind its save, it is the coordinator that took all works since
abbrev pub CoordinatorsComeBack : Type 0
CoordinatorsComeBack = (book : Book) (works : List NodeWork) (saved : List ℕ) (node : NodeData) (count : ℕ)
    (read : List NodeWork) (good : ℕ) → IsSaved (CoordinatorData book) [] saved →
    IsLoaded (saved ++ journal_of (filter coordinator_keeps works)) node count →
    AreReadFrom (drop count (saved ++ journal_of (filter coordinator_keeps works))) read good →
    (loaded : Coordinator) × (node_seen node ≡ TheCoordinator loaded)
    × (coordinator_given loaded read ≡ coordinator_given (coordinator_of book) works)
