-- Lost backups, epochs and commits.
use Rattle.std.specs.Prelude.{◌≡◌, ℕ, List, ◌++◌, codes}
use Rattle.rc_runs.specs.Printed.{printed}

-- A master that is believed dead goes on: its fenced backups do not answer.
abbrev pub append_after_fence : List ℕ
append_after_fence =
    codes "{\"format\":1,\"factor\":2,\"segment\":8,\"events\":[{\"e\":\"start\",\"host\":0},{\"e\":\"start\",\"hos"
    ++ codes "t\":1},{\"e\":\"start\",\"host\":2},{\"e\":\"start\",\"host\":3},{\"e\":\"settle\"},{\"e\":\"create\",\""
    ++ codes "table\":7,\"owner\":[0,1]},{\"e\":\"settle\"},{\"e\":\"suspect\",\"id\":[0,1]},{\"e\":\"settle\"},{\"e\""
    ++ codes ":\"write\",\"to\":[0,1],\"table\":7,\"key\":5,\"value\":\"z\"},{\"e\":\"settle\"}]}"

abbrev pub append_after_fence_prints : List ℕ
append_after_fence_prints =
    codes "own 0.1 term 1 table 7 from 0 to 18446744073709551615 after 0 attempt 0\nmessages 65\nacknowledged 0\nre"
    ++ codes "fused 0\nplans 0\ngrants 1\naudit clean\n"

abbrev pub AppendAfterFencePrints : Type 0
AppendAfterFencePrints = printed append_after_fence ≡ append_after_fence_prints

-- A commit is lost, and a backup of the new epoch is found.
abbrev pub commit_lost_new : List ℕ
commit_lost_new =
    codes "{\"format\":1,\"factor\":2,\"segment\":8,\"events\":[{\"e\":\"start\",\"host\":0},{\"e\":\"start\",\"hos"
    ++ codes "t\":1},{\"e\":\"start\",\"host\":2},{\"e\":\"start\",\"host\":3},{\"e\":\"settle\"},{\"e\":\"create\",\""
    ++ codes "table\":7,\"owner\":[0,1]},{\"e\":\"settle\"},{\"e\":\"write\",\"to\":[0,1],\"table\":7,\"key\":5,\"valu"
    ++ codes "e\":\"a\"},{\"e\":\"settle\"},{\"e\":\"suspect\",\"id\":[1,1]},{\"e\":\"deliver\",\"n\":41},{\"e\":\"del"
    ++ codes "iver\",\"n\":44},{\"e\":\"suspect\",\"id\":[0,1]},{\"e\":\"deliver\",\"n\":50},{\"e\":\"deliver\",\"n\":"
    ++ codes "51},{\"e\":\"decide\",\"id\":[0,1]}]}"

abbrev pub commit_lost_new_prints : List ℕ
commit_lost_new_prints =
    codes "own 0.1 term 1 table 7 from 0 to 18446744073709551615 after 0 attempt 0\nack 0.1 seg 1 at 0 term 1 table"
    ++ codes " 7 key 5 version 1\nplan 1 of 0.1 to 2.1 head 1 rows 1:3.1:1\nmessages 53\nacknowledged 1\nrefused 0\npl"
    ++ codes "ans 1\ngrants 1\naudit clean\n"

abbrev pub CommitLostNewPrints : Type 0
CommitLostNewPrints = printed commit_lost_new ≡ commit_lost_new_prints

-- A commit is lost, and a backup of the old epoch is found.
abbrev pub commit_lost_old : List ℕ
commit_lost_old =
    codes "{\"format\":1,\"factor\":2,\"segment\":8,\"events\":[{\"e\":\"start\",\"host\":0},{\"e\":\"start\",\"hos"
    ++ codes "t\":1},{\"e\":\"start\",\"host\":2},{\"e\":\"start\",\"host\":3},{\"e\":\"settle\"},{\"e\":\"create\",\""
    ++ codes "table\":7,\"owner\":[0,1]},{\"e\":\"settle\"},{\"e\":\"write\",\"to\":[0,1],\"table\":7,\"key\":5,\"valu"
    ++ codes "e\":\"a\"},{\"e\":\"settle\"},{\"e\":\"suspect\",\"id\":[1,1]},{\"e\":\"deliver\",\"n\":41},{\"e\":\"del"
    ++ codes "iver\",\"n\":44},{\"e\":\"suspect\",\"id\":[0,1]},{\"e\":\"deliver\",\"n\":49},{\"e\":\"deliver\",\"n\":"
    ++ codes "51},{\"e\":\"decide\",\"id\":[0,1]}]}"

abbrev pub commit_lost_old_prints : List ℕ
commit_lost_old_prints =
    codes "own 0.1 term 1 table 7 from 0 to 18446744073709551615 after 0 attempt 0\nack 0.1 seg 1 at 0 term 1 table"
    ++ codes " 7 key 5 version 1\nplan 1 of 0.1 to 2.1 head 1 rows 1:2.1:1\nmessages 53\nacknowledged 1\nrefused 0\npl"
    ++ codes "ans 1\ngrants 1\naudit clean\n"

abbrev pub CommitLostOldPrints : Type 0
CommitLostOldPrints = printed commit_lost_old ≡ commit_lost_old_prints

-- The commit of a crashed master is refused, and so is a write to it then.
abbrev pub commit_of_crashed : List ℕ
commit_of_crashed =
    codes "{\"format\":1,\"factor\":2,\"segment\":8,\"events\":[{\"e\":\"start\",\"host\":0},{\"e\":\"start\",\"hos"
    ++ codes "t\":1},{\"e\":\"start\",\"host\":2},{\"e\":\"start\",\"host\":3},{\"e\":\"settle\"},{\"e\":\"create\",\""
    ++ codes "table\":7,\"owner\":[0,1]},{\"e\":\"settle\"},{\"e\":\"suspect\",\"id\":[1,1]},{\"e\":\"suspect\",\"id\""
    ++ codes ":[0,1]},{\"e\":\"deliver\",\"n\":35},{\"e\":\"deliver\",\"n\":42},{\"e\":\"deliver\",\"n\":43},{\"e\":\""
    ++ codes "deliver\",\"n\":44},{\"e\":\"deliver\",\"n\":45},{\"e\":\"deliver\",\"n\":46},{\"e\":\"deliver\",\"n\":4"
    ++ codes "7},{\"e\":\"write\",\"to\":[0,1],\"table\":7,\"key\":5,\"value\":\"z\"},{\"e\":\"deliver\",\"n\":48}]}"

abbrev pub commit_of_crashed_prints : List ℕ
commit_of_crashed_prints =
    codes "own 0.1 term 1 table 7 from 0 to 18446744073709551615 after 0 attempt 0\nrefused 5 from c to 0.1\nrefuse"
    ++ codes "d 5 from 0.1 to out\nmessages 50\nacknowledged 0\nrefused 2\nplans 0\ngrants 1\naudit clean\n"

abbrev pub CommitOfCrashedPrints : Type 0
CommitOfCrashedPrints = printed commit_of_crashed ≡ commit_of_crashed_prints

-- A stale replica comes back, and is not enough; a newer one is.
abbrev pub stale_replica_returns : List ℕ
stale_replica_returns =
    codes "{\"format\":1,\"factor\":2,\"segment\":8,\"events\":[{\"e\":\"start\",\"host\":0},{\"e\":\"start\",\"hos"
    ++ codes "t\":1},{\"e\":\"start\",\"host\":2},{\"e\":\"start\",\"host\":3},{\"e\":\"settle\"},{\"e\":\"create\",\""
    ++ codes "table\":7,\"owner\":[0,1]},{\"e\":\"settle\"},{\"e\":\"write\",\"to\":[0,1],\"table\":7,\"key\":5,\"valu"
    ++ codes "e\":\"a\"},{\"e\":\"settle\"},{\"e\":\"stop\",\"id\":[1,1]},{\"e\":\"suspect\",\"id\":[1,1]},{\"e\":\"se"
    ++ codes "ttle\"},{\"e\":\"start\",\"host\":1,\"kept\":[[[0,1],1]]},{\"e\":\"deliver\",\"n\":62},{\"e\":\"suspect"
    ++ codes "\",\"id\":[0,1]},{\"e\":\"deliver\",\"n\":70},{\"e\":\"deliver\",\"n\":73},{\"e\":\"decide\",\"id\":[0,1"
    ++ codes "]},{\"e\":\"deliver\",\"n\":71},{\"e\":\"deliver\",\"n\":75},{\"e\":\"decide\",\"id\":[0,1]}]}"

abbrev pub stale_replica_returns_prints : List ℕ
stale_replica_returns_prints =
    codes "own 0.1 term 1 table 7 from 0 to 18446744073709551615 after 0 attempt 0\nack 0.1 seg 1 at 0 term 1 table"
    ++ codes " 7 key 5 version 1\nrefused 8 from c to out\nplan 1 of 0.1 to 2.1 head 1 rows 1:2.1:1\nmessages 77\nackn"
    ++ codes "owledged 1\nrefused 1\nplans 1\ngrants 1\naudit clean\n"

abbrev pub StaleReplicaReturnsPrints : Type 0
StaleReplicaReturnsPrints = printed stale_replica_returns ≡ stale_replica_returns_prints
