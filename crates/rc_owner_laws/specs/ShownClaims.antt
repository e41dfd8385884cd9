-- A run that the words of this crate speak of, computed in the definitions: two segments are written, and the second
-- one takes a new epoch once a member of it is lost.
use Rattle.std.specs.Prelude.{◌≡◌, ℕ, true, List, [], ◌∷◌, length, codes}
use Rattle.rc_model.specs.Log.{Log, durable_now}
use Rattle.rc_model.specs.World.{World, opening}
use Rattle.rc_worked.specs.Settling.{Line, runs, of_two, id, start, settle, create, write, suspect}
use Rattle.rc_owner_laws.specs.AckClaims.{acks_in}

abbrev pub two_segments : List Line
two_segments =
    start 0 ∷ start 1 ∷ start 2 ∷ start 3 ∷ settle ∷ create 7 (id 0 1) ∷ settle ∷
    write (id 0 1) 7 1 (codes "a") ∷ settle ∷ write (id 0 1) 7 2 (codes "b") ∷ settle ∷
    write (id 0 1) 7 3 (codes "c") ∷ settle ∷ write (id 0 1) 7 3 (codes "c") ∷ settle ∷
    suspect (id 3 1) ∷ settle ∷ []

abbrev pub world_of_two_segments : World
world_of_two_segments = runs (opening of_two) two_segments

abbrev pub log_of_two_segments : Log
log_of_two_segments = (world_of_two_segments.masters (id 0 1)).log

-- three writes are acknowledged, three places are counted and stored on all, and the least pair is of the second
-- segment
abbrev pub numbers_of_two_segments : List ℕ
numbers_of_two_segments =
    length (acks_in (id 0 1) world_of_two_segments.sent) ∷ log_of_two_segments.durable ∷ durable_now log_of_two_segments
    ∷ (world_of_two_segments.coordinator.least (id 0 1)).seg ∷ []

abbrev pub TwoSegmentsAreWritten : Type 0
TwoSegmentsAreWritten = numbers_of_two_segments ≡ 3 ∷ 3 ∷ 3 ∷ 2 ∷ []

-- the first one is shut
abbrev pub TheFirstIsShut : Type 0
TheFirstIsShut = (log_of_two_segments.segments 1).shut ≡ true
