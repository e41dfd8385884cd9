-- Runs in which a choice of the rules shows.
use Rattle.std.specs.Prelude.{◌≡◌, ℕ, List, ◌++◌, codes}
use Rattle.rc_runs.specs.Printed.{printed}

-- Close goes to a lost member too.
abbrev pub close_to_a_lost_member : List ℕ
close_to_a_lost_member =
    codes "{\"format\":1,\"factor\":2,\"segment\":2,\"events\":[{\"e\":\"start\",\"host\":0},{\"e\":\"start\",\"hos"
    ++ codes "t\":1},{\"e\":\"start\",\"host\":2},{\"e\":\"start\",\"host\":3},{\"e\":\"settle\"},{\"e\":\"create\",\""
    ++ codes "table\":7,\"owner\":[0,1]},{\"e\":\"settle\"},{\"e\":\"write\",\"to\":[0,1],\"table\":7,\"key\":1,\"valu"
    ++ codes "e\":\"a\"},{\"e\":\"settle\"},{\"e\":\"write\",\"to\":[0,1],\"table\":7,\"key\":2,\"value\":\"a\"},{\"e"
    ++ codes "\":\"settle\"},{\"e\":\"write\",\"to\":[0,1],\"table\":7,\"key\":3,\"value\":\"a\"},{\"e\":\"deliver\","
    ++ codes "\"n\":47},{\"e\":\"deliver\",\"n\":48},{\"e\":\"deliver\",\"n\":49},{\"e\":\"deliver\",\"n\":51},{\"e\":"
    ++ codes "\"deliver\",\"n\":52},{\"e\":\"suspect\",\"id\":[1,1]},{\"e\":\"deliver\",\"n\":55},{\"e\":\"deliver\","
    ++ codes "\"n\":58},{\"e\":\"deliver\",\"n\":59},{\"e\":\"deliver\",\"n\":60},{\"e\":\"deliver\",\"n\":61},{\"e\":"
    ++ codes "\"deliver\",\"n\":62},{\"e\":\"suspect\",\"id\":[2,1]},{\"e\":\"deliver\",\"n\":64},{\"e\":\"deliver\","
    ++ codes "\"n\":63}]}"

abbrev pub close_to_a_lost_member_prints : List ℕ
close_to_a_lost_member_prints =
    codes "own 0.1 term 1 table 7 from 0 to 18446744073709551615 after 0 attempt 0\nack 0.1 seg 1 at 0 term 1 table"
    ++ codes " 7 key 1 version 1\nack 0.1 seg 1 at 1 term 1 table 7 key 2 version 1\nrefused 3 from 0.1 to out\nmessag"
    ++ codes "es 68\nacknowledged 2\nrefused 1\nplans 0\ngrants 1\naudit clean\n"

abbrev pub CloseToALostMemberPrints : Type 0
CloseToALostMemberPrints = printed close_to_a_lost_member ≡ close_to_a_lost_member_prints

-- A commit is answered with its own pair.
abbrev pub commit_answers_its_own_pair : List ℕ
commit_answers_its_own_pair =
    codes "{\"format\":1,\"factor\":2,\"segment\":8,\"events\":[{\"e\":\"start\",\"host\":0},{\"e\":\"start\",\"hos"
    ++ codes "t\":1},{\"e\":\"start\",\"host\":2},{\"e\":\"start\",\"host\":3},{\"e\":\"start\",\"host\":4},{\"e\":\"s"
    ++ codes "ettle\"},{\"e\":\"create\",\"table\":7,\"owner\":[0,1]},{\"e\":\"settle\"},{\"e\":\"write\",\"to\":[0,1]"
    ++ codes ",\"table\":7,\"key\":1,\"value\":\"a\"},{\"e\":\"deliver\",\"n\":46},{\"e\":\"deliver\",\"n\":47},{\"e\""
    ++ codes ":\"deliver\",\"n\":48},{\"e\":\"suspect\",\"id\":[1,1]},{\"e\":\"deliver\",\"n\":51},{\"e\":\"deliver\","
    ++ codes "\"n\":55},{\"e\":\"deliver\",\"n\":56},{\"e\":\"deliver\",\"n\":57},{\"e\":\"deliver\",\"n\":58},{\"e\":"
    ++ codes "\"suspect\",\"id\":[2,1]},{\"e\":\"deliver\",\"n\":60},{\"e\":\"deliver\",\"n\":63},{\"e\":\"deliver\","
    ++ codes "\"n\":64},{\"e\":\"deliver\",\"n\":65},{\"e\":\"deliver\",\"n\":66},{\"e\":\"deliver\",\"n\":67},{\"e\":"
    ++ codes "\"deliver\",\"n\":59},{\"e\":\"deliver\",\"n\":69}]}"

abbrev pub commit_answers_its_own_pair_prints : List ℕ
commit_answers_its_own_pair_prints =
    codes "own 0.1 term 1 table 7 from 0 to 18446744073709551615 after 0 attempt 0\nmessages 70\nacknowledged 0\nre"
    ++ codes "fused 0\nplans 0\ngrants 1\naudit clean\n"

abbrev pub CommitAnswersItsOwnPairPrints : Type 0
CommitAnswersItsOwnPairPrints = printed commit_answers_its_own_pair ≡ commit_answers_its_own_pair_prints

-- The rules that follow are made one by one, from the first on.
abbrev pub steps_one_by_one : List ℕ
steps_one_by_one =
    codes "{\"format\":1,\"factor\":1,\"segment\":2,\"events\":[{\"e\":\"start\",\"host\":0},{\"e\":\"start\",\"hos"
    ++ codes "t\":1},{\"e\":\"start\",\"host\":2},{\"e\":\"settle\",\"kinds\":[\"Ready\"]},{\"e\":\"deliver\",\"n\":15"
    ++ codes "},{\"e\":\"deliver\",\"n\":16},{\"e\":\"create\",\"table\":7,\"owner\":[0,1]},{\"e\":\"settle\",\"kinds"
    ++ codes "\":[\"Ready\"]},{\"e\":\"split\",\"table\":7,\"at\":10},{\"e\":\"write\",\"to\":[0,1],\"table\":7,\"key"
    ++ codes "\":1,\"value\":\"a\"},{\"e\":\"settle\",\"kinds\":[\"Ready\"]},{\"e\":\"write\",\"to\":[0,1],\"table\":7"
    ++ codes ",\"key\":2,\"value\":\"a\"},{\"e\":\"settle\",\"kinds\":[\"Ready\"]},{\"e\":\"write\",\"to\":[0,1],\"tab"
    ++ codes "le\":7,\"key\":11,\"value\":\"a\"},{\"e\":\"settle\",\"kinds\":[\"Ready\"]},{\"e\":\"write\",\"to\":[0,1"
    ++ codes "],\"table\":7,\"key\":11,\"value\":\"a\"},{\"e\":\"settle\",\"kinds\":[\"Ready\"]},{\"e\":\"write\",\"to"
    ++ codes "\":[0,1],\"table\":7,\"key\":12,\"value\":\"a\"},{\"e\":\"settle\",\"kinds\":[\"Ready\"]},{\"e\":\"suspe"
    ++ codes "ct\",\"id\":[0,1]},{\"e\":\"settle\",\"kinds\":[\"Ready\",\"Fetch\"]},{\"e\":\"decide\",\"id\":[0,1]},{"
    ++ codes "\"e\":\"settle\",\"kinds\":[\"Ready\",\"Fetch\"]},{\"e\":\"deliver\",\"n\":57},{\"e\":\"deliver\",\"n\":"
    ++ codes "58},{\"e\":\"deliver\",\"n\":59},{\"e\":\"deliver\",\"n\":60},{\"e\":\"deliver\",\"n\":61},{\"e\":\"deli"
    ++ codes "ver\",\"n\":62},{\"e\":\"deliver\",\"n\":63},{\"e\":\"deliver\",\"n\":64},{\"e\":\"deliver\",\"n\":65},{"
    ++ codes "\"e\":\"deliver\",\"n\":66},{\"e\":\"deliver\",\"n\":67},{\"e\":\"deliver\",\"n\":70},{\"e\":\"deliver\""
    ++ codes ",\"n\":71},{\"e\":\"deliver\",\"n\":72},{\"e\":\"deliver\",\"n\":75}]}"

abbrev pub steps_one_by_one_prints : List ℕ
steps_one_by_one_prints =
    codes "own 0.1 term 1 table 7 from 0 to 18446744073709551615 after 0 attempt 0\nsplit table 7 at 10\nack 0.1 se"
    ++ codes "g 1 at 0 term 1 table 7 key 1 version 1\nack 0.1 seg 1 at 1 term 1 table 7 key 2 version 1\nrefused 3 fr"
    ++ codes "om 0.1 to out\nack 0.1 seg 2 at 0 term 1 table 7 key 11 version 1\nack 0.1 seg 2 at 1 term 1 table 7 key"
    ++ codes " 12 version 1\nplan 1 of 0.1 to 1.1 head 2 rows 1:1.1:2 2:2.1:2\nown 1.1 term 2 table 7 from 0 to 9 afte"
    ++ codes "r 1 attempt 1\nmessages 77\nacknowledged 4\nrefused 1\nplans 1\ngrants 2\naudit clean\n"

abbrev pub StepsOneByOnePrints : Type 0
StepsOneByOnePrints = printed steps_one_by_one ≡ steps_one_by_one_prints

-- An id of host 64 is wrong.
abbrev pub index_of_no_host : List ℕ
index_of_no_host =
    codes "{\"format\":1,\"factor\":2,\"segment\":8,\"events\":[{\"e\":\"start\",\"host\":0},{\"e\":\"write\",\"to"
    ++ codes "\":[64,1],\"table\":7,\"key\":1,\"value\":\"a\"}]}"

abbrev pub index_of_no_host_prints : List ℕ
index_of_no_host_prints =
    codes "error F17 at 3\n"

abbrev pub IndexOfNoHostPrints : Type 0
IndexOfNoHostPrints = printed index_of_no_host ≡ index_of_no_host_prints
