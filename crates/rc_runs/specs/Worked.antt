-- Worked scenarios: the bytes that are read, and what is printed for them, to the byte.
use Rattle.std.specs.Prelude.{◌≡◌, ℕ, List, ◌++◌, codes}
use Rattle.rc_runs.specs.Printed.{printed}

-- A backup is started again and keeps an open replica; the recovery finds it.
abbrev pub restart_kept : List ℕ
restart_kept =
    codes "{\"format\":1,\"factor\":2,\"segment\":8,\"events\":[{\"e\":\"start\",\"host\":0},{\"e\":\"start\",\"hos"
    ++ codes "t\":1},{\"e\":\"start\",\"host\":2},{\"e\":\"settle\"},{\"e\":\"create\",\"table\":7,\"owner\":[0,1]},{"
    ++ codes "\"e\":\"settle\"},{\"e\":\"write\",\"to\":[0,1],\"table\":7,\"key\":5,\"value\":\"a\"},{\"e\":\"settle\""
    ++ codes "},{\"e\":\"stop\",\"id\":[1,1]},{\"e\":\"start\",\"host\":1,\"kept\":[[[0,1],1]]},{\"e\":\"deliver\",\"n"
    ++ codes "\":31},{\"e\":\"suspect\",\"id\":[0,1]},{\"e\":\"deliver\",\"n\":37},{\"e\":\"deliver\",\"n\":39},{\"e\""
    ++ codes ":\"decide\",\"id\":[0,1]}]}"

abbrev pub restart_kept_prints : List ℕ
restart_kept_prints =
    codes "own 0.1 term 1 table 7 from 0 to 18446744073709551615 after 0 attempt 0\nack 0.1 seg 1 at 0 term 1 table"
    ++ codes " 7 key 5 version 1\nplan 1 of 0.1 to 2.1 head 1 rows 1:1.2:1\nmessages 41\nacknowledged 1\nrefused 0\npl"
    ++ codes "ans 1\ngrants 1\naudit clean\n"

abbrev pub RestartKeptPrints : Type 0
RestartKeptPrints = printed restart_kept ≡ restart_kept_prints

-- A tablet is split, and split again at the same key.
abbrev pub split_twice : List ℕ
split_twice =
    codes "{\"format\":1,\"factor\":2,\"segment\":8,\"events\":[{\"e\":\"start\",\"host\":0},{\"e\":\"start\",\"hos"
    ++ codes "t\":1},{\"e\":\"start\",\"host\":2},{\"e\":\"settle\"},{\"e\":\"create\",\"table\":7,\"owner\":[0,1]},{"
    ++ codes "\"e\":\"settle\"},{\"e\":\"split\",\"table\":7,\"at\":9},{\"e\":\"split\",\"table\":7,\"at\":9}]}"

abbrev pub split_twice_prints : List ℕ
split_twice_prints =
    codes "own 0.1 term 1 table 7 from 0 to 18446744073709551615 after 0 attempt 0\nsplit table 7 at 9\nrefused 14 "
    ++ codes "from c to out\nmessages 27\nacknowledged 0\nrefused 1\nplans 0\ngrants 1\naudit clean\n"

abbrev pub SplitTwicePrints : Type 0
SplitTwicePrints = printed split_twice ≡ split_twice_prints

-- Passes that leave a host alone: answers to a crashed master come late, and its acknowledgement stands.
abbrev pub zombie : List ℕ
zombie =
    codes "{\"format\":1,\"factor\":2,\"segment\":8,\"events\":[{\"e\":\"start\",\"host\":0},{\"e\":\"start\",\"hos"
    ++ codes "t\":1},{\"e\":\"start\",\"host\":2},{\"e\":\"start\",\"host\":3},{\"e\":\"settle\"},{\"e\":\"create\",\""
    ++ codes "table\":7,\"owner\":[0,1]},{\"e\":\"settle\"},{\"e\":\"write\",\"to\":[0,1],\"table\":7,\"key\":5,\"valu"
    ++ codes "e\":\"a\"},{\"e\":\"deliver\",\"n\":35},{\"e\":\"deliver\",\"n\":36},{\"e\":\"deliver\",\"n\":37},{\"e\""
    ++ codes ":\"suspect\",\"id\":[0,1]},{\"e\":\"settle\",\"hosts\":[0]},{\"e\":\"decide\",\"id\":[0,1]},{\"e\":\"set"
    ++ codes "tle\",\"hosts\":[0]},{\"e\":\"write\",\"to\":[1,1],\"table\":7,\"key\":5,\"value\":\"b\"},{\"e\":\"settl"
    ++ codes "e\",\"hosts\":[0]},{\"e\":\"deliver\",\"n\":38},{\"e\":\"deliver\",\"n\":39}]}"

abbrev pub zombie_prints : List ℕ
zombie_prints =
    codes "own 0.1 term 1 table 7 from 0 to 18446744073709551615 after 0 attempt 0\nplan 1 of 0.1 to 1.1 head 1 row"
    ++ codes "s 1:1.1:1\nown 1.1 term 2 table 7 from 0 to 18446744073709551615 after 1 attempt 1\nack 1.1 seg 1 at 1 t"
    ++ codes "erm 2 table 7 key 5 version 2\nack 0.1 seg 1 at 0 term 1 table 7 key 5 version 1\nmessages 83\nacknowled"
    ++ codes "ged 2\nrefused 0\nplans 1\ngrants 2\naudit clean\n"

abbrev pub ZombiePrints : Type 0
ZombiePrints = printed zombie ≡ zombie_prints

-- A master frees a segment that has become wholly dead.
abbrev pub freed : List ℕ
freed =
    codes "{\"format\":2,\"factor\":2,\"factors\":[],\"free\":true,\"segment\":2,\"events\":[{\"e\":\"start\",\"hos"
    ++ codes "t\":0},{\"e\":\"start\",\"host\":1},{\"e\":\"start\",\"host\":2},{\"e\":\"start\",\"host\":3},{\"e\":\"s"
    ++ codes "ettle\"},{\"e\":\"create\",\"table\":7,\"owner\":[0,1]},{\"e\":\"settle\"},{\"e\":\"write\",\"to\":[0,1]"
    ++ codes ",\"table\":7,\"key\":1,\"value\":\"a\"},{\"e\":\"settle\"},{\"e\":\"write\",\"to\":[0,1],\"table\":7,\"k"
    ++ codes "ey\":1,\"value\":\"a\"},{\"e\":\"settle\"},{\"e\":\"write\",\"to\":[0,1],\"table\":7,\"key\":1,\"value\""
    ++ codes ":\"a\"},{\"e\":\"settle\"},{\"e\":\"write\",\"to\":[0,1],\"table\":7,\"key\":1,\"value\":\"a\"},{\"e\":"
    ++ codes "\"settle\"},{\"e\":\"write\",\"to\":[0,1],\"table\":7,\"key\":1,\"value\":\"a\"},{\"e\":\"settle\"},{\"e"
    ++ codes "\":\"write\",\"to\":[0,1],\"table\":7,\"key\":1,\"value\":\"a\"},{\"e\":\"settle\"},{\"e\":\"suspect\","
    ++ codes "\"id\":[0,1]},{\"e\":\"deliver\",\"n\":84},{\"e\":\"deliver\",\"n\":85},{\"e\":\"deliver\",\"n\":86},{\""
    ++ codes "e\":\"deliver\",\"n\":87},{\"e\":\"deliver\",\"n\":88},{\"e\":\"deliver\",\"n\":89},{\"e\":\"decide\",\""
    ++ codes "id\":[0,1]}]}"

abbrev pub freed_prints : List ℕ
freed_prints =
    codes "own 0.1 term 1 table 7 from 0 to 18446744073709551615 after 0 attempt 0\nack 0.1 seg 1 at 0 term 1 table"
    ++ codes " 7 key 1 version 1\nack 0.1 seg 1 at 1 term 1 table 7 key 1 version 2\nrefused 3 from 0.1 to out\nack 0."
    ++ codes "1 seg 2 at 0 term 1 table 7 key 1 version 3\nack 0.1 seg 2 at 1 term 1 table 7 key 1 version 4\nrefused "
    ++ codes "3 from 0.1 to out\nplan 1 of 0.1 to 1.1 head 3 rows 2:2.1:2 3:1.1:0\nmessages 91\nacknowledged 4\nrefuse"
    ++ codes "d 2\nplans 1\ngrants 1\naudit clean\n"

abbrev pub FreedPrints : Type 0
FreedPrints = printed freed ≡ freed_prints

-- One host has a factor of its own.
abbrev pub factors : List ℕ
factors =
    codes "{\"format\":2,\"factor\":2,\"factors\":[1],\"free\":true,\"segment\":8,\"events\":[{\"e\":\"start\",\"ho"
    ++ codes "st\":0},{\"e\":\"start\",\"host\":1},{\"e\":\"start\",\"host\":2},{\"e\":\"settle\"},{\"e\":\"create\","
    ++ codes "\"table\":7,\"owner\":[0,1]},{\"e\":\"settle\"},{\"e\":\"write\",\"to\":[0,1],\"table\":7,\"key\":5,\"va"
    ++ codes "lue\":\"a\"},{\"e\":\"settle\"},{\"e\":\"suspect\",\"id\":[0,1]},{\"e\":\"settle\"},{\"e\":\"decide\",\""
    ++ codes "id\":[0,1]}]}"

abbrev pub factors_prints : List ℕ
factors_prints =
    codes "own 0.1 term 1 table 7 from 0 to 18446744073709551615 after 0 attempt 0\nack 0.1 seg 1 at 0 term 1 table"
    ++ codes " 7 key 5 version 1\nplan 1 of 0.1 to 1.1 head 1 rows 1:1.1:1\nmessages 34\nacknowledged 1\nrefused 0\npl"
    ++ codes "ans 1\ngrants 1\naudit clean\n"

abbrev pub FactorsPrints : Type 0
FactorsPrints = printed factors ≡ factors_prints

-- A server that does not run is stopped: the run stops there.
abbrev pub stop_not_running : List ℕ
stop_not_running =
    codes "{\"format\":1,\"factor\":2,\"segment\":8,\"events\":[{\"e\":\"start\",\"host\":1},{\"e\":\"stop\",\"id\""
    ++ codes ":[0,1]}]}"

abbrev pub stop_not_running_prints : List ℕ
stop_not_running_prints =
    codes "messages 1\nacknowledged 0\nrefused 0\nplans 0\ngrants 0\naudit clean\nstopped F18 at event 1\n"

abbrev pub StopNotRunningPrints : Type 0
StopNotRunningPrints = printed stop_not_running ≡ stop_not_running_prints

-- Host 64 is wrong.
abbrev pub index_too_great : List ℕ
index_too_great =
    codes "{\"format\":1,\"factor\":2,\"segment\":2,\"events\":[{\"e\":\"start\",\"host\":64}]}"

abbrev pub index_too_great_prints : List ℕ
index_too_great_prints =
    codes "error F17 at 2\n"

abbrev pub IndexTooGreatPrints : Type 0
IndexTooGreatPrints = printed index_too_great ≡ index_too_great_prints
