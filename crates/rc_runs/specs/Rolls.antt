-- Head roll-over, and restarts.
use Rattle.std.specs.Prelude.{◌≡◌, ℕ, List, ◌++◌, codes}
use Rattle.rc_runs.specs.Printed.{printed}

-- A full head is rolled over.
abbrev pub roll : List ℕ
roll =
    codes "{\"format\":1,\"factor\":2,\"segment\":2,\"events\":[{\"e\":\"start\",\"host\":0},{\"e\":\"start\",\"hos"
    ++ codes "t\":1},{\"e\":\"start\",\"host\":2},{\"e\":\"start\",\"host\":3},{\"e\":\"settle\"},{\"e\":\"create\",\""
    ++ codes "table\":7,\"owner\":[0,1]},{\"e\":\"settle\"},{\"e\":\"write\",\"to\":[0,1],\"table\":7,\"key\":1,\"valu"
    ++ codes "e\":\"a\"},{\"e\":\"settle\"},{\"e\":\"write\",\"to\":[0,1],\"table\":7,\"key\":2,\"value\":\"a\"},{\"e"
    ++ codes "\":\"settle\"},{\"e\":\"write\",\"to\":[0,1],\"table\":7,\"key\":3,\"value\":\"a\"},{\"e\":\"deliver\","
    ++ codes "\"n\":47},{\"e\":\"write\",\"to\":[0,1],\"table\":7,\"key\":3,\"value\":\"a\"},{\"e\":\"deliver\",\"n\":"
    ++ codes "51},{\"e\":\"settle\"},{\"e\":\"write\",\"to\":[0,1],\"table\":7,\"key\":3,\"value\":\"a\"},{\"e\":\"set"
    ++ codes "tle\"}]}"

abbrev pub roll_prints : List ℕ
roll_prints =
    codes "own 0.1 term 1 table 7 from 0 to 18446744073709551615 after 0 attempt 0\nack 0.1 seg 1 at 0 term 1 table"
    ++ codes " 7 key 1 version 1\nack 0.1 seg 1 at 1 term 1 table 7 key 2 version 1\nrefused 3 from 0.1 to out\nrefuse"
    ++ codes "d 3 from 0.1 to out\nack 0.1 seg 2 at 0 term 1 table 7 key 3 version 1\nmessages 65\nacknowledged 3\nref"
    ++ codes "used 2\nplans 0\ngrants 1\naudit clean\n"

abbrev pub RollPrints : Type 0
RollPrints = printed roll ≡ roll_prints

-- The new head is found nowhere: the old one is recovered.
abbrev pub new_head_nowhere : List ℕ
new_head_nowhere =
    codes "{\"format\":1,\"factor\":2,\"segment\":2,\"events\":[{\"e\":\"start\",\"host\":0},{\"e\":\"start\",\"hos"
    ++ codes "t\":1},{\"e\":\"start\",\"host\":2},{\"e\":\"start\",\"host\":3},{\"e\":\"settle\"},{\"e\":\"create\",\""
    ++ codes "table\":7,\"owner\":[0,1]},{\"e\":\"settle\"},{\"e\":\"write\",\"to\":[0,1],\"table\":7,\"key\":1,\"valu"
    ++ codes "e\":\"a\"},{\"e\":\"settle\"},{\"e\":\"write\",\"to\":[0,1],\"table\":7,\"key\":2,\"value\":\"a\"},{\"e"
    ++ codes "\":\"settle\"},{\"e\":\"write\",\"to\":[0,1],\"table\":7,\"key\":3,\"value\":\"a\"},{\"e\":\"deliver\","
    ++ codes "\"n\":47},{\"e\":\"suspect\",\"id\":[0,1]},{\"e\":\"deliver\",\"n\":54},{\"e\":\"deliver\",\"n\":57},{\""
    ++ codes "e\":\"decide\",\"id\":[0,1]}]}"

abbrev pub new_head_nowhere_prints : List ℕ
new_head_nowhere_prints =
    codes "own 0.1 term 1 table 7 from 0 to 18446744073709551615 after 0 attempt 0\nack 0.1 seg 1 at 0 term 1 table"
    ++ codes " 7 key 1 version 1\nack 0.1 seg 1 at 1 term 1 table 7 key 2 version 1\nrefused 3 from 0.1 to out\nplan 1"
    ++ codes " of 0.1 to 1.1 head 1 rows 1:1.1:2\nmessages 59\nacknowledged 2\nrefused 1\nplans 1\ngrants 1\naudit cle"
    ++ codes "an\n"

abbrev pub NewHeadNowherePrints : Type 0
NewHeadNowherePrints = printed new_head_nowhere ≡ new_head_nowhere_prints

-- The new head is found: both segments are recovered.
abbrev pub suspected_while_opening : List ℕ
suspected_while_opening =
    codes "{\"format\":1,\"factor\":2,\"segment\":2,\"events\":[{\"e\":\"start\",\"host\":0},{\"e\":\"start\",\"hos"
    ++ codes "t\":1},{\"e\":\"start\",\"host\":2},{\"e\":\"start\",\"host\":3},{\"e\":\"settle\"},{\"e\":\"create\",\""
    ++ codes "table\":7,\"owner\":[0,1]},{\"e\":\"settle\"},{\"e\":\"write\",\"to\":[0,1],\"table\":7,\"key\":1,\"valu"
    ++ codes "e\":\"a\"},{\"e\":\"settle\"},{\"e\":\"write\",\"to\":[0,1],\"table\":7,\"key\":2,\"value\":\"a\"},{\"e"
    ++ codes "\":\"settle\"},{\"e\":\"write\",\"to\":[0,1],\"table\":7,\"key\":3,\"value\":\"a\"},{\"e\":\"deliver\","
    ++ codes "\"n\":47},{\"e\":\"deliver\",\"n\":48},{\"e\":\"suspect\",\"id\":[0,1]},{\"e\":\"deliver\",\"n\":56},{\""
    ++ codes "e\":\"deliver\",\"n\":58},{\"e\":\"decide\",\"id\":[0,1]}]}"

abbrev pub suspected_while_opening_prints : List ℕ
suspected_while_opening_prints =
    codes "own 0.1 term 1 table 7 from 0 to 18446744073709551615 after 0 attempt 0\nack 0.1 seg 1 at 0 term 1 table"
    ++ codes " 7 key 1 version 1\nack 0.1 seg 1 at 1 term 1 table 7 key 2 version 1\nrefused 3 from 0.1 to out\nplan 1"
    ++ codes " of 0.1 to 1.1 head 2 rows 1:2.1:2 2:2.1:0\nmessages 60\nacknowledged 2\nrefused 1\nplans 1\ngrants 1\na"
    ++ codes "udit clean\n"

abbrev pub SuspectedWhileOpeningPrints : Type 0
SuspectedWhileOpeningPrints = printed suspected_while_opening ≡ suspected_while_opening_prints

-- A backup is started again and keeps nothing: no open replica is found.
abbrev pub restart_dropped : List ℕ
restart_dropped =
    codes "{\"format\":1,\"factor\":2,\"segment\":8,\"events\":[{\"e\":\"start\",\"host\":0},{\"e\":\"start\",\"hos"
    ++ codes "t\":1},{\"e\":\"start\",\"host\":2},{\"e\":\"settle\"},{\"e\":\"create\",\"table\":7,\"owner\":[0,1]},{"
    ++ codes "\"e\":\"settle\"},{\"e\":\"write\",\"to\":[0,1],\"table\":7,\"key\":5,\"value\":\"a\"},{\"e\":\"settle\""
    ++ codes "},{\"e\":\"stop\",\"id\":[1,1]},{\"e\":\"start\",\"host\":1,\"kept\":[]},{\"e\":\"deliver\",\"n\":31},{"
    ++ codes "\"e\":\"suspect\",\"id\":[0,1]},{\"e\":\"deliver\",\"n\":37},{\"e\":\"deliver\",\"n\":39},{\"e\":\"decid"
    ++ codes "e\",\"id\":[0,1]}]}"

abbrev pub restart_dropped_prints : List ℕ
restart_dropped_prints =
    codes "own 0.1 term 1 table 7 from 0 to 18446744073709551615 after 0 attempt 0\nack 0.1 seg 1 at 0 term 1 table"
    ++ codes " 7 key 5 version 1\nrefused 8 from c to out\nmessages 41\nacknowledged 1\nrefused 1\nplans 0\ngrants 1\n"
    ++ codes "audit clean\n"

abbrev pub RestartDroppedPrints : Type 0
RestartDroppedPrints = printed restart_dropped ≡ restart_dropped_prints
