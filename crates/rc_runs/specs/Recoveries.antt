-- Recoveries to their end, and reads.
use Rattle.std.specs.Prelude.{◌≡◌, ℕ, List, ◌++◌, codes}
use Rattle.rc_runs.specs.Printed.{printed}

-- What a failed recovery left is not replayed by the next ones. Passes leave a kind alone.
abbrev pub leftovers : List ℕ
leftovers =
    codes "{\"format\":1,\"factor\":2,\"segment\":8,\"events\":[{\"e\":\"start\",\"host\":0},{\"e\":\"start\",\"hos"
    ++ codes "t\":1},{\"e\":\"start\",\"host\":2},{\"e\":\"start\",\"host\":3},{\"e\":\"settle\"},{\"e\":\"create\",\""
    ++ codes "table\":7,\"owner\":[0,1]},{\"e\":\"settle\"},{\"e\":\"write\",\"to\":[0,1],\"table\":7,\"key\":5,\"valu"
    ++ codes "e\":\"a\"},{\"e\":\"settle\"},{\"e\":\"suspect\",\"id\":[0,1]},{\"e\":\"settle\"},{\"e\":\"decide\",\"id"
    ++ codes "\":[0,1]},{\"e\":\"deliver\",\"n\":68},{\"e\":\"deliver\",\"n\":69},{\"e\":\"deliver\",\"n\":70},{\"e\":"
    ++ codes "\"suspect\",\"id\":[0,1]},{\"e\":\"settle\"},{\"e\":\"decide\",\"id\":[0,1]},{\"e\":\"settle\"},{\"e\":"
    ++ codes "\"write\",\"to\":[2,1],\"table\":7,\"key\":5,\"value\":\"c\"},{\"e\":\"settle\"},{\"e\":\"stop\",\"id\":"
    ++ codes "[0,1]},{\"e\":\"start\",\"host\":0},{\"e\":\"settle\",\"kinds\":[\"Ready\"]},{\"e\":\"suspect\",\"id\":["
    ++ codes "2,1]},{\"e\":\"settle\",\"kinds\":[\"Ready\"]},{\"e\":\"decide\",\"id\":[2,1]},{\"e\":\"settle\",\"kinds"
    ++ codes "\":[\"Ready\"]},{\"e\":\"write\",\"to\":[1,1],\"table\":7,\"key\":5,\"value\":\"d\"},{\"e\":\"settle\","
    ++ codes "\"kinds\":[\"Ready\"]},{\"e\":\"stop\",\"id\":[2,1]},{\"e\":\"start\",\"host\":2},{\"e\":\"settle\",\"ki"
    ++ codes "nds\":[\"Ready\"]},{\"e\":\"suspect\",\"id\":[1,1]},{\"e\":\"settle\",\"kinds\":[\"Ready\"]},{\"e\":\"de"
    ++ codes "cide\",\"id\":[1,1]},{\"e\":\"settle\",\"kinds\":[\"Ready\"]},{\"e\":\"write\",\"to\":[3,1],\"table\":7,"
    ++ codes "\"key\":5,\"value\":\"e\"},{\"e\":\"settle\",\"kinds\":[\"Ready\"]}]}"

abbrev pub leftovers_prints : List ℕ
leftovers_prints =
    codes "own 0.1 term 1 table 7 from 0 to 18446744073709551615 after 0 attempt 0\nack 0.1 seg 1 at 0 term 1 table"
    ++ codes " 7 key 5 version 1\nplan 1 of 0.1 to 1.1 head 1 rows 1:1.1:1\nrefused 10 from c to 1.1\nplan 2 of 0.1 to"
    ++ codes " 2.1 head 1 rows 1:1.1:1\nown 2.1 term 3 table 7 from 0 to 18446744073709551615 after 1 attempt 2\nack 2"
    ++ codes ".1 seg 1 at 1 term 3 table 7 key 5 version 2\nplan 3 of 2.1 to 1.1 head 1 rows 1:1.1:2\nown 1.1 term 4 t"
    ++ codes "able 7 from 0 to 18446744073709551615 after 3 attempt 3\nack 1.1 seg 1 at 3 term 4 table 7 key 5 version"
    ++ codes " 3\nplan 4 of 1.1 to 3.1 head 1 rows 1:0.2:4\nown 3.1 term 5 table 7 from 0 to 18446744073709551615 afte"
    ++ codes "r 4 attempt 4\nack 3.1 seg 1 at 3 term 5 table 7 key 5 version 4\nmessages 214\nacknowledged 4\nrefused "
    ++ codes "1\nplans 4\ngrants 4\naudit clean\n"

abbrev pub LeftoversPrints : Type 0
LeftoversPrints = printed leftovers ≡ leftovers_prints

-- A written value is read.
abbrev pub read : List ℕ
read =
    codes "{\"format\":1,\"factor\":2,\"segment\":8,\"events\":[{\"e\":\"start\",\"host\":0},{\"e\":\"start\",\"hos"
    ++ codes "t\":1},{\"e\":\"start\",\"host\":2},{\"e\":\"settle\"},{\"e\":\"create\",\"table\":7,\"owner\":[0,1]},{"
    ++ codes "\"e\":\"settle\"},{\"e\":\"write\",\"to\":[0,1],\"table\":7,\"key\":5,\"value\":\"a\"},{\"e\":\"settle\""
    ++ codes "},{\"e\":\"read\",\"to\":[0,1],\"table\":7,\"key\":5},{\"e\":\"settle\"}]}"

abbrev pub read_prints : List ℕ
read_prints =
    codes "own 0.1 term 1 table 7 from 0 to 18446744073709551615 after 0 attempt 0\nack 0.1 seg 1 at 0 term 1 table"
    ++ codes " 7 key 5 version 1\nread 0.1 table 7 key 5 version 1\nmessages 33\nacknowledged 1\nrefused 0\nplans 0\ng"
    ++ codes "rants 1\naudit clean\n"

abbrev pub ReadPrints : Type 0
ReadPrints = printed read ≡ read_prints
