-- A session as its contracts see it, and what becomes of it in each call.
use Rattle.std.specs.Prelude.{ℕ, if◌then◌else◌, List, [], ◌++◌, length, Option, Some, None}
use Rattle.std.specs.List.{flat_map}
use Rattle.rc_types.specs.declared.events.NodeWork.{NodeWork}
use Rattle.rc_types.specs.declared.events.NodeWork.TheVariants as work
use Rattle.rc_types.specs.declared.messages.Message.{Message}
use Rattle.rc_codec.specs.Parts.{four_bytes}
use Rattle.rc_codec.specs.Bodies.{coded_message}
use Rattle.rc_world.specs.NodeView.{node_runs}
use Rattle.rc_process.specs.View.{ProcessData, ProcessView, process_seen, written_down, given, whole_start}

-- The process; what has to be added to its journal's file, and to the second file while a save takes the journal's
-- place; the second file, as far as it was not taken; and what has left the process, but was not taken.
pub record SessionView : Type 0 where
  pub process : ProcessView
  pub journal : List ℕ
  pub second : List ℕ
  pub hand : Option (List Message)

-- the same with all that is in the node
pub record SessionData : Type 0 where
  pub process : ProcessData
  pub journal : List ℕ
  pub second : List ℕ
  pub hand : Option (List Message)

abbrev pub session_seen : SessionData → SessionView
session_seen s = record { process = process_seen s.process; journal = s.journal; second = s.second; hand = s.hand }

-- the node takes a work, and what is written down of it has to be added to the journal
abbrev pub takes : SessionView → NodeWork → SessionView
takes session work = record {
  process = given session.process work;
  journal = session.journal ++ written_down session.process.node work;
  second = session.second;
  hand = session.hand;
}

-- A host's server is started anew

-- stopped, if it runs
abbrev pub stopped : SessionView → SessionView
stopped session = if node_runs session.process.node then takes session work.Stop else session

-- started with all open replicas that the host has
abbrev pub started : SessionView → SessionView
started session = takes session (whole_start session.process.node)

abbrev pub started_anew : SessionView → SessionView
started_anew session = started (stopped session)

-- Messages that leave: of each, how many bytes its coding has, in four, and these

abbrev pub framed : Message → List ℕ
framed message = four_bytes (length (coded_message message)) ++ coded_message message

abbrev pub all_framed : List Message → List ℕ
all_framed messages = flat_map framed messages

-- what is in hand, if anything is
abbrev pub hand_code : Option (List Message) → List ℕ
hand_code None = []
hand_code (Some messages) = all_framed messages
