-- The theorems are about something: in runs that compute, recoveries happen, and a key changes its owner.
use Rattle.std.specs.Prelude.{◌≡◌, ℕ, true, false, List, [], ◌∷◌, ◌++◌, codes}
use Rattle.rc_types.specs.declared.events.Setup.{Setup}
use Rattle.rc_types.specs.declared.events.Event.{Event}
use Rattle.rc_types.specs.declared.messages.Message.{Message}
use Rattle.rc_types.specs.declared.messages.Body.{Body}
use Rattle.rc_types.specs.declared.messages.Body.TheVariants.{Plan}
use Rattle.rc_model.specs.World.{opening, replay}
use Rattle.rc_model.specs.Recovered.{Ack, acknowledged, all_acknowledged, Accepted, accepted, is_recovered}
use Rattle.rc_model.specs.Owners.{is_earlier}
use Rattle.rc_model.specs.Durable.{IsDurable}
use Rattle.rc_model.specs.Breach.{is_superseded}
use Rattle.rc_model.specs.Headline.{NothingIsDropped}
use Rattle.rc_model.specs.Report.{message_lines}
use Rattle.rc_worked.specs.Settling.{Line, runs, of_two, of_eight, create, decide, deliver, id, settle}
use Rattle.rc_worked.specs.Settling.{settle_without, settle_without_ready, start, stop, suspect, write}
use Rattle.rc_worked.specs.Rolls.{replaced_then_rolled}
use Rattle.rc_worked.specs.Freeing.{freed}

-- a scenario is what its events lead to: what holds after every list of events holds of it
abbrev pub ScenariosAreReplays : Type 0
ScenariosAreReplays =
    (setup : Setup) (lines : List Line) → replay setup (runs (opening setup) lines).events ≡ runs (opening setup) lines

-- what is sent in a scenario
abbrev pub sent_by_lines : Setup → List Line → List Message
sent_by_lines setup lines = (runs (opening setup) lines).sent

-- the heads of the accepted recoveries, in order
abbrev pub head_in : Body → List ℕ
head_in (Plan head attempt master rows parts) = head ∷ []
head_in _ = []

abbrev pub heads : List Message → List ℕ
heads [] = []
heads (message ∷ sent) = head_in message.body ++ heads sent

-- a write to table 7
abbrev pub ack : ℕ → ℕ → ℕ → ℕ → ℕ → Ack
ack seg offset term key version =
    record { seg = seg; offset = offset; term = term; table = 7; key = key; version = version }

-- A write is acknowledged, its segment's members are replaced, and the log rolls

abbrev pub rolled_plan : Accepted
rolled_plan = record {
  attempt = 1;
  master = id 0 1;
  rows = record { seg = 1; holder = id 2 1; len = 2 } ∷ record { seg = 2; holder = id 2 1; len = 1 } ∷ [];
}

abbrev pub RolledIsAcknowledged : Type 0
RolledIsAcknowledged =
    acknowledged (sent_by_lines of_two replaced_then_rolled) (id 0 1)
    ≡ ack 1 0 1 1 1 ∷ ack 1 1 1 2 1 ∷ ack 2 0 1 3 1 ∷ []

abbrev pub RolledIsRecovered : Type 0
RolledIsRecovered = accepted (sent_by_lines of_two replaced_then_rolled) ≡ rolled_plan ∷ []

-- with segment 2 as its head
abbrev pub RolledHasItsHeadAbove : Type 0
RolledHasItsHeadAbove = heads (sent_by_lines of_two replaced_then_rolled) ≡ 2 ∷ []

abbrev pub RolledIsCovered : Type 0
RolledIsCovered = is_recovered rolled_plan.rows 1 0 ≡ true

-- what happened in it, and its place was durable
abbrev pub rolled_events : List Event
rolled_events = (runs (opening of_two) replaced_then_rolled).events

abbrev pub RolledIsDurable : Type 0
RolledIsDurable = IsDurable of_two rolled_events (id 0 1) 1 0

-- A segment is freed, and the plan leaves it out

abbrev pub freeing : Setup
freeing = record of_two { free = true }

abbrev pub freed_plan : Accepted
freed_plan = record {
  attempt = 1;
  master = id 0 1;
  rows = record { seg = 2; holder = id 2 1; len = 2 } ∷ record { seg = 3; holder = id 1 1; len = 0 } ∷ [];
}

abbrev pub freed_acks : List Ack
freed_acks = ack 1 0 1 1 1 ∷ ack 1 1 1 1 2 ∷ ack 2 0 1 1 3 ∷ ack 2 1 1 1 4 ∷ []

abbrev pub FreedIsAcknowledged : Type 0
FreedIsAcknowledged = acknowledged (sent_by_lines freeing freed) (id 0 1) ≡ freed_acks

abbrev pub FreedIsRecovered : Type 0
FreedIsRecovered = accepted (sent_by_lines freeing freed) ≡ freed_plan ∷ []

abbrev pub FreedIsLeftOut : Type 0
FreedIsLeftOut = is_recovered freed_plan.rows 1 0 ≡ false

-- for a greater version of the key is there
abbrev pub FreedIsSuperseded : Type 0
FreedIsSuperseded = is_superseded (sent_by_lines freeing freed) freed_plan (ack 1 0 1 1 1) ≡ true

-- so where segments are freed, an acknowledged write need not be at its own place
abbrev pub FreedIsDropped : Type 0
FreedIsDropped = NothingIsDropped (sent_by_lines freeing freed) → ⊥

-- Three owners in turn acknowledge writes of one key, the first of them after the second one's grant

abbrev pub three_owners : List Line
three_owners =
    start 0 ∷ start 1 ∷ start 2 ∷ start 3 ∷ settle ∷ create 7 (id 0 1) ∷ settle ∷
    write (id 0 1) 7 5 (codes "a") ∷ deliver 35 ∷ deliver 36 ∷ deliver 37 ∷ suspect (id 0 1) ∷
    settle_without 0 ∷ decide (id 0 1) ∷ settle_without 0 ∷ write (id 1 1) 7 5 (codes "b") ∷ settle_without 0 ∷
    deliver 38 ∷ deliver 39 ∷ stop (id 0 1) ∷ start 0 ∷ settle_without_ready ∷
    suspect (id 1 1) ∷ settle_without_ready ∷ decide (id 1 1) ∷ settle_without_ready ∷
    write (id 3 1) 7 5 (codes "c") ∷ settle_without_ready ∷ []

-- in this order
abbrev pub ThreeOwnersTell : Type 0
ThreeOwnersTell =
    message_lines (sent_by_lines (of_eight 2) three_owners)
    ≡ codes "own 0.1 term 1 table 7 from 0 to 18446744073709551615 after 0 attempt 0\n"
    ++ codes "plan 1 of 0.1 to 1.1 head 1 rows 1:1.1:1\n"
    ++ codes "own 1.1 term 2 table 7 from 0 to 18446744073709551615 after 1 attempt 1\n"
    ++ codes "ack 1.1 seg 1 at 1 term 2 table 7 key 5 version 2\n"
    ++ codes "ack 0.1 seg 1 at 0 term 1 table 7 key 5 version 1\n"
    ++ codes "plan 2 of 1.1 to 3.1 head 1 rows 1:2.1:2\n"
    ++ codes "own 3.1 term 3 table 7 from 0 to 18446744073709551615 after 2 attempt 2\n"
    ++ codes "ack 3.1 seg 1 at 2 term 3 table 7 key 5 version 3\n"

-- the same as values
abbrev pub ThreeOwnersAcknowledge : Type 0
ThreeOwnersAcknowledge =
    all_acknowledged (sent_by_lines (of_eight 2) three_owners) ≡ ack 1 1 2 5 2 ∷ ack 1 0 1 5 1 ∷ ack 1 2 3 5 3 ∷ []

-- the first one's term is the earlier one of the third's, over two grants
abbrev pub ThreeOwnersAreInTurn : Type 0
ThreeOwnersAreInTurn = is_earlier (sent_by_lines (of_eight 2) three_owners) 7 5 1 3 ≡ true
