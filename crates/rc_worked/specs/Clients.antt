-- Runs in which clients write and read, each beside the sentences that it breaks: none.
use Rattle.std.specs.Prelude.{◌≡◌, ℕ, List, [], ◌∷◌, ◌++◌, Option, Some, None, codes}
use Rattle.rc_types.specs.declared.messages.Message.{Message}
use Rattle.rc_types.specs.declared.messages.Body.{Body}
use Rattle.rc_types.specs.declared.messages.Body.TheVariants.{ReadOk}
use Rattle.rc_model.specs.Recovered.{all_acknowledged}
use Rattle.rc_model.specs.Report.{message_lines}
use Rattle.rc_worked.specs.Settling.{of_eight, decide, deliver, id, read, settle, settle_at, settle_without}
use Rattle.rc_worked.specs.Settling.{settle_without_append, settle_without_fetch, settle_without_stored, suspect, write}
use Rattle.rc_worked.specs.Shown.{four_hosts, own_line}
use Rattle.rc_worked.specs.Happening.{ack}
use Rattle.rc_worked.specs.Sentences.{Run, broken, whole_world}

-- the versions and values that reads have shown, in order
abbrev pub shown_in : Body → List (ℕ × Option (List ℕ))
shown_in (ReadOk table key version value) = (version, value) ∷ []
shown_in _ = []

abbrev pub shown : List Message → List (ℕ × Option (List ℕ))
shown [] = []
shown (message ∷ sent) = shown_in message.body ++ shown sent

abbrev pub told : Run → List ℕ
told run = message_lines (whole_world run).sent

abbrev pub read_in : Run → List (ℕ × Option (List ℕ))
read_in run = shown (whole_world run).sent

-- A key changes its owner; its first owner acknowledges a write late; reads are made before and after

abbrev pub owner_changes : Run
owner_changes = record {
  setup = of_eight 2;
  early = four_hosts ++
      write (id 0 1) 7 5 (codes "a") ∷ deliver 35 ∷ deliver 36 ∷ deliver 37 ∷ suspect (id 0 1) ∷
      settle_without 0 ∷ decide (id 0 1) ∷ settle_without 0 ∷ read (id 1 1) 7 5 ∷ settle_without 0 ∷
      write (id 1 1) 7 5 (codes "b") ∷ settle_without 0 ∷ deliver 38 ∷ deliver 39 ∷
      read (id 1 1) 7 5 ∷ settle_without 0 ∷ [];
  more = write (id 1 1) 7 5 (codes "c") ∷ settle_without 0 ∷ [];
}

-- The first owner acknowledges version 1 after the second one has acknowledged version 2: it was asked before. By then
-- the second owner has shown version 1, which nobody had acknowledged; afterwards it shows version 2. What is asked
-- after all this has version 3.
abbrev pub OwnerChangesTells : Type 0
OwnerChangesTells =
    told owner_changes
    ≡ own_line
    ++ codes "plan 1 of 0.1 to 1.1 head 1 rows 1:1.1:1\n"
    ++ codes "own 1.1 term 2 table 7 from 0 to 18446744073709551615 after 1 attempt 1\n"
    ++ codes "read 1.1 table 7 key 5 version 1\n"
    ++ codes "ack 1.1 seg 1 at 1 term 2 table 7 key 5 version 2\n"
    ++ codes "ack 0.1 seg 1 at 0 term 1 table 7 key 5 version 1\n"
    ++ codes "read 1.1 table 7 key 5 version 2\n"
    ++ codes "ack 1.1 seg 1 at 2 term 2 table 7 key 5 version 3\n"

-- what was acknowledged, in order
abbrev pub OwnerChangesAcknowledges : Type 0
OwnerChangesAcknowledges =
    all_acknowledged (whole_world owner_changes).sent ≡ ack 1 1 2 5 2 ∷ ack 1 0 1 5 1 ∷ ack 1 2 2 5 3 ∷ []

abbrev pub OwnerChangesShows : Type 0
OwnerChangesShows = read_in owner_changes ≡ (1, Some (codes "a")) ∷ (2, Some (codes "b")) ∷ []

-- Reads at a second owner, and at a third one

abbrev pub two_handovers : Run
two_handovers = record {
  setup = of_eight 1;
  early = four_hosts ++
      write (id 0 1) 7 5 (codes "a") ∷ settle ∷ suspect (id 0 1) ∷ settle ∷ decide (id 0 1) ∷ settle ∷
      read (id 1 1) 7 5 ∷ settle ∷ write (id 1 1) 7 5 (codes "b") ∷ settle ∷
      suspect (id 1 1) ∷ settle ∷ decide (id 1 1) ∷ settle ∷ read (id 3 1) 7 5 ∷ settle ∷ [];
  more = write (id 3 1) 7 5 (codes "c") ∷ settle ∷ read (id 3 1) 7 5 ∷ settle ∷ [];
}

abbrev pub TwoHandoversTell : Type 0
TwoHandoversTell =
    told two_handovers
    ≡ own_line
    ++ codes "ack 0.1 seg 1 at 0 term 1 table 7 key 5 version 1\n"
    ++ codes "plan 1 of 0.1 to 1.1 head 1 rows 1:1.1:1\n"
    ++ codes "own 1.1 term 2 table 7 from 0 to 18446744073709551615 after 1 attempt 1\n"
    ++ codes "read 1.1 table 7 key 5 version 1\n"
    ++ codes "ack 1.1 seg 1 at 1 term 2 table 7 key 5 version 2\n"
    ++ codes "plan 2 of 1.1 to 3.1 head 1 rows 1:2.1:2\n"
    ++ codes "own 3.1 term 3 table 7 from 0 to 18446744073709551615 after 2 attempt 2\n"
    ++ codes "read 3.1 table 7 key 5 version 2\n"
    ++ codes "ack 3.1 seg 1 at 2 term 3 table 7 key 5 version 3\n"
    ++ codes "read 3.1 table 7 key 5 version 3\n"

abbrev pub TwoHandoversShow : Type 0
TwoHandoversShow =
    read_in two_handovers
    ≡ (1, Some (codes "a")) ∷ (2, Some (codes "b")) ∷ (3, Some (codes "c")) ∷ []

-- A master that was replaced, and has not heard of it, is read from: it misses what the second owner has acknowledged,
-- which the second owner shows

abbrev pub zombie_is_read : Run
zombie_is_read = record {
  setup = of_eight 1;
  early = four_hosts ++
      write (id 0 1) 7 5 (codes "a") ∷ settle ∷ suspect (id 0 1) ∷ settle_without 0 ∷
      decide (id 0 1) ∷ settle_without 0 ∷ [];
  more = write (id 1 1) 7 5 (codes "b") ∷ settle_without 0 ∷
      read (id 0 1) 7 5 ∷ settle ∷ read (id 1 1) 7 5 ∷ settle ∷ [];
}

abbrev pub ZombieIsReadTells : Type 0
ZombieIsReadTells =
    told zombie_is_read
    ≡ own_line
    ++ codes "ack 0.1 seg 1 at 0 term 1 table 7 key 5 version 1\n"
    ++ codes "plan 1 of 0.1 to 1.1 head 1 rows 1:1.1:1\n"
    ++ codes "own 1.1 term 2 table 7 from 0 to 18446744073709551615 after 1 attempt 1\n"
    ++ codes "ack 1.1 seg 1 at 1 term 2 table 7 key 5 version 2\n"
    ++ codes "read 0.1 table 7 key 5 version 1\n"
    ++ codes "read 1.1 table 7 key 5 version 2\n"

abbrev pub ZombieIsReadShows : Type 0
ZombieIsReadShows = read_in zombie_is_read ≡ (1, Some (codes "a")) ∷ (2, Some (codes "b")) ∷ []

-- A master that was replaced, and has not heard of it, is written to: nobody stores that, so it is never acknowledged

abbrev pub zombie_is_written : Run
zombie_is_written = record {
  setup = of_eight 1;
  early = four_hosts ++
      write (id 0 1) 7 5 (codes "a") ∷ settle ∷ suspect (id 0 1) ∷ settle_without 0 ∷ decide (id 0 1) ∷ settle_without
      0 ∷
      write (id 1 1) 7 5 (codes "b") ∷ settle_without 0 ∷ [];
  more = write (id 0 1) 7 5 (codes "c") ∷ settle ∷ read (id 1 1) 7 5 ∷ settle ∷ [];
}

abbrev pub ZombieIsWrittenTells : Type 0
ZombieIsWrittenTells =
    told zombie_is_written
    ≡ own_line
    ++ codes "ack 0.1 seg 1 at 0 term 1 table 7 key 5 version 1\n"
    ++ codes "plan 1 of 0.1 to 1.1 head 1 rows 1:1.1:1\n"
    ++ codes "own 1.1 term 2 table 7 from 0 to 18446744073709551615 after 1 attempt 1\n"
    ++ codes "ack 1.1 seg 1 at 1 term 2 table 7 key 5 version 2\n"
    ++ codes "read 1.1 table 7 key 5 version 2\n"

abbrev pub ZombieIsWrittenShows : Type 0
ZombieIsWrittenShows = read_in zombie_is_written ≡ (2, Some (codes "b")) ∷ []

-- One value is written at two owners: these are two versions

abbrev pub one_value_twice : Run
one_value_twice = record {
  setup = of_eight 1;
  early = four_hosts ++
      write (id 0 1) 7 5 (codes "a") ∷ settle ∷ suspect (id 0 1) ∷ settle ∷ decide (id 0 1) ∷ settle ∷ [];
  more = write (id 1 1) 7 5 (codes "a") ∷ settle ∷ read (id 1 1) 7 5 ∷ settle ∷ [];
}

abbrev pub OneValueTwiceTells : Type 0
OneValueTwiceTells =
    told one_value_twice
    ≡ own_line
    ++ codes "ack 0.1 seg 1 at 0 term 1 table 7 key 5 version 1\n"
    ++ codes "plan 1 of 0.1 to 1.1 head 1 rows 1:1.1:1\n"
    ++ codes "own 1.1 term 2 table 7 from 0 to 18446744073709551615 after 1 attempt 1\n"
    ++ codes "ack 1.1 seg 1 at 1 term 2 table 7 key 5 version 2\n"
    ++ codes "read 1.1 table 7 key 5 version 2\n"

abbrev pub OneValueTwiceShows : Type 0
OneValueTwiceShows = read_in one_value_twice ≡ (2, Some (codes "a")) ∷ []

-- A Write message is delivered once more, after another write of the key: a version of its own, with the older value

abbrev pub write_repeated : Run
write_repeated = record {
  setup = of_eight 1;
  early = four_hosts ++ write (id 0 1) 7 5 (codes "a") ∷ settle ∷ [];
  more = write (id 0 1) 7 5 (codes "b") ∷ settle ∷ read (id 0 1) 7 5 ∷ settle ∷
      deliver 27 ∷ settle ∷ read (id 0 1) 7 5 ∷ settle ∷ [];
}

abbrev pub WriteRepeatedTells : Type 0
WriteRepeatedTells =
    told write_repeated
    ≡ own_line
    ++ codes "ack 0.1 seg 1 at 0 term 1 table 7 key 5 version 1\n"
    ++ codes "ack 0.1 seg 1 at 1 term 1 table 7 key 5 version 2\n"
    ++ codes "read 0.1 table 7 key 5 version 2\n"
    ++ codes "ack 0.1 seg 1 at 2 term 1 table 7 key 5 version 3\n"
    ++ codes "read 0.1 table 7 key 5 version 3\n"

abbrev pub WriteRepeatedShows : Type 0
WriteRepeatedShows = read_in write_repeated ≡ (2, Some (codes "b")) ∷ (3, Some (codes "a")) ∷ []

-- A write reaches its master, and no backup before the master is replaced: it is neither shown nor acknowledged, and
-- the second owner gives its version to another one

abbrev pub unstored_write : Run
unstored_write = record {
  setup = of_eight 1;
  early = four_hosts ++
      write (id 0 1) 7 5 (codes "a") ∷ settle_at 0 ∷ read (id 0 1) 7 5 ∷ settle_at 0 ∷
      suspect (id 0 1) ∷ settle_without_append 0 ∷ decide (id 0 1) ∷ settle_without_append 0 ∷
      read (id 1 1) 7 5 ∷ settle_without_append 0 ∷ [];
  more = write (id 1 1) 7 5 (codes "b") ∷ settle_without 0 ∷ read (id 1 1) 7 5 ∷ settle_without 0 ∷ [];
}

abbrev pub UnstoredWriteTells : Type 0
UnstoredWriteTells =
    told unstored_write
    ≡ own_line
    ++ codes "read 0.1 table 7 key 5 version 0\n"
    ++ codes "plan 1 of 0.1 to 1.1 head 1 rows 1:1.1:0\n"
    ++ codes "own 1.1 term 2 table 7 from 0 to 18446744073709551615 after 1 attempt 1\n"
    ++ codes "read 1.1 table 7 key 5 version 0\n"
    ++ codes "ack 1.1 seg 1 at 0 term 2 table 7 key 5 version 1\n"
    ++ codes "read 1.1 table 7 key 5 version 1\n"

abbrev pub UnstoredWriteShows : Type 0
UnstoredWriteShows = read_in unstored_write ≡ (0, None) ∷ (0, None) ∷ (1, Some (codes "b")) ∷ []

-- A recovery master is read from before the log has come to it, before what it has replayed is stored, and afterwards

abbrev pub read_while_recovering : Run
read_while_recovering = record {
  setup = of_eight 1;
  early = four_hosts ++
      write (id 0 1) 7 5 (codes "a") ∷ settle ∷ suspect (id 0 1) ∷ settle ∷ decide (id 0 1) ∷ settle_without_fetch ∷
      read (id 1 1) 7 5 ∷ settle_without_fetch ∷ settle_without_stored ∷ read (id 1 1) 7 5 ∷ settle_without_stored ∷ [];
  more = settle ∷ read (id 1 1) 7 5 ∷ settle ∷ [];
}

abbrev pub ReadWhileRecoveringTells : Type 0
ReadWhileRecoveringTells =
    told read_while_recovering
    ≡ own_line
    ++ codes "ack 0.1 seg 1 at 0 term 1 table 7 key 5 version 1\n"
    ++ codes "plan 1 of 0.1 to 1.1 head 1 rows 1:1.1:1\n"
    ++ codes "refused 2 from 1.1 to out\n"
    ++ codes "refused 2 from 1.1 to out\n"
    ++ codes "own 1.1 term 2 table 7 from 0 to 18446744073709551615 after 1 attempt 1\n"
    ++ codes "read 1.1 table 7 key 5 version 1\n"

abbrev pub ReadWhileRecoveringShows : Type 0
ReadWhileRecoveringShows = read_in read_while_recovering ≡ (1, Some (codes "a")) ∷ []

-- None of the sentences is broken

abbrev pub OwnerChangesKeeps : Type 0
OwnerChangesKeeps = broken owner_changes ≡ []

abbrev pub TwoHandoversKeep : Type 0
TwoHandoversKeep = broken two_handovers ≡ []

abbrev pub ZombieIsReadKeeps : Type 0
ZombieIsReadKeeps = broken zombie_is_read ≡ []

abbrev pub ZombieIsWrittenKeeps : Type 0
ZombieIsWrittenKeeps = broken zombie_is_written ≡ []

abbrev pub OneValueTwiceKeeps : Type 0
OneValueTwiceKeeps = broken one_value_twice ≡ []

abbrev pub WriteRepeatedKeeps : Type 0
WriteRepeatedKeeps = broken write_repeated ≡ []

abbrev pub UnstoredWriteKeeps : Type 0
UnstoredWriteKeeps = broken unstored_write ≡ []

abbrev pub ReadWhileRecoveringKeeps : Type 0
ReadWhileRecoveringKeeps = broken read_while_recovering ≡ []
