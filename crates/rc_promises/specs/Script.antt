-- Runs of processes, written down in pieces.
use Rattle.std.specs.Prelude.{ℕ, ◌+◌, Bool, true, false, if◌then◌else◌, List, [], ◌∷◌, ◌++◌, length, zero, suc, Option}
use Rattle.std.specs.Prelude.{Some, None, slice_get}
use Rattle.rc_types.specs.declared.ids.Addr.{Addr}
use Rattle.rc_types.specs.declared.ids.Addr.TheVariants.{Outside}
use Rattle.rc_types.specs.declared.events.Setup.{Setup}
use Rattle.rc_types.specs.declared.messages.Message.{Message}
use Rattle.rc_model.specs.Nodes.{NodeWork, Deliver}
use Rattle.rc_model.specs.World.{NodeName, TheOutside, node_of}
use Rattle.rc_history.specs.Nodes.{node_step}
use Rattle.rc_history.specs.Processes.{Deed, Processes, Happening, Takes, Syncs, Leaves, Falls, new_processes, after}

-- a line is one happening
pub data Line : Type 0 where
  -- a process gives its node a work that is no message
  Gives : (name : NodeName) → (work : NodeWork) → Line
  -- the message of this number, of those that have left, is brought to its node
  Brings : (number : ℕ) → Line
  -- all of a journal is safe
  AllIsSafe : (name : NodeName) → Line
  -- of the messages that this deed has sent the one of this number leaves
  Lets : (deed number : ℕ) → Line
  -- a process ends, and of its journal that is left which is safe, and nothing more
  Ends : (name : NodeName) → Line

abbrev pub brings : Option Message → Happening
brings (Some message) = Takes (node_of message.to) (Deliver message)
brings None = Syncs TheOutside 0

abbrev pub lets_go : Option Message → Happening
lets_go (Some message) = Leaves message
lets_go None = Syncs TheOutside 0

abbrev pub message_of : Option Deed → ℕ → Option Message
message_of (Some deed) number = slice_get deed.sent number
message_of None number = None

abbrev pub happening_of : Processes → Line → Happening
happening_of all (Gives name work) = Takes name work
happening_of all (Brings number) = brings (slice_get all.left number)
happening_of all (AllIsSafe name) = Syncs name (length (all.at name).life.journal)
happening_of all (Lets deed number) = lets_go (message_of (slice_get all.done deed) number)
happening_of all (Ends name) = Falls name (all.at name).safe

-- what happens by these lines, and where it leads
abbrev pub happenings_of : Setup → Processes → List Line → List Happening
happenings_of setup all [] = []
happenings_of setup all (line ∷ lines) =
    happening_of all line ∷ happenings_of setup (after setup all (happening_of all line)) lines

abbrev pub played : Setup → Processes → List Line → Processes
played setup all [] = all
played setup all (line ∷ lines) = played setup (after setup all (happening_of all line)) lines

-- Pieces

pub data Piece : Type 0 where
  -- this work is given; then all of the journal is safe, and all that was sent leaves
  Whole : (name : NodeName) → (work : NodeWork) → Piece
  -- so many messages are brought so, in the order in which they left; those to clients are passed over
  Next : (count : ℕ) → Piece
  -- all that have left are
  Settle : Piece
  -- the next message is brought, and nothing is made safe, nor leaves
  Taken : Piece
  -- of the messages that this deed has sent the one of this number leaves
  Late : (deed number : ℕ) → Piece
  -- these processes end
  End : (names : List NodeName) → Piece

abbrev pub lets : ℕ → ℕ → List Message → List Line
lets deed number [] = []
lets deed number (message ∷ messages) = Lets deed number ∷ lets deed (number + 1) messages

abbrev pub whole : Processes → NodeName → NodeWork → Line → List Line
whole all name work line =
    line ∷ AllIsSafe name ∷ lets (length all.done) 0 (node_step (all.at name).life.node work).1

abbrev pub played_then : Setup → Processes → List Line → (Processes → List Line) → List Line
played_then setup all lines later = lines ++ later (played setup all lines)

abbrev pub is_to_client : Addr → Bool
is_to_client Outside = true
is_to_client _ = false

abbrev pub next_then : Setup → Processes → ℕ → Option Message → (Processes → List Line) → List Line
next_then setup all number None later = []
next_then setup all number (Some message) later =
    if is_to_client message.to then later all
    else played_then setup all (whole all (node_of message.to) (Deliver message) (Brings number)) later

abbrev pub settles : Setup → ℕ → ℕ → Processes → List Line
settles setup zero number all = []
settles setup (suc times) number all =
    next_then setup all number (slice_get all.left number) (settles setup times (number + 1))

abbrev pub ends : List NodeName → List Line
ends [] = []
ends (name ∷ names) = Ends name ∷ ends names

-- a run's messages are fewer than this
abbrev pub many : ℕ
many = 200

-- the lines of these pieces, where so many messages were brought
abbrev pub lines_from : Setup → ℕ → Processes → List Piece → List Line
lines_from setup number all [] = []
lines_from setup number all (Whole name work ∷ pieces) =
    played_then setup all (whole all name work (Gives name work)) (λ next. lines_from setup number next pieces)
lines_from setup number all (Next count ∷ pieces) =
    played_then setup all (settles setup count number all) (λ next. lines_from setup (number + count) next pieces)
lines_from setup number all (Settle ∷ pieces) =
    played_then setup all (settles setup many number all) (λ next. lines_from setup (length next.left) next pieces)
lines_from setup number all (Taken ∷ pieces) =
    played_then setup all (Brings number ∷ []) (λ next. lines_from setup (number + 1) next pieces)
lines_from setup number all (Late deed message ∷ pieces) =
    played_then setup all (Lets deed message ∷ []) (λ next. lines_from setup number next pieces)
lines_from setup number all (End names ∷ pieces) =
    played_then setup all (ends names) (λ next. lines_from setup number next pieces)

abbrev pub lines_of : Setup → List Piece → List Line
lines_of setup pieces = lines_from setup 0 (new_processes setup) pieces

abbrev pub run_of : Setup → List Piece → List Happening
run_of setup pieces = happenings_of setup (new_processes setup) (lines_of setup pieces)
