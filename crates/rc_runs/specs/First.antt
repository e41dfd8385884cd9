-- Writes, and events that stop a run.
use Rattle.std.specs.Prelude.{◌≡◌, ℕ, List, ◌++◌, codes}
use Rattle.rc_runs.specs.Printed.{printed}

-- A write is acknowledged, and the recovery of its log covers it.
abbrev pub first_write : List ℕ
first_write =
    codes "{\"format\":1,\"factor\":2,\"segment\":8,\"events\":[{\"e\":\"start\",\"host\":0},{\"e\":\"start\",\"hos"
    ++ codes "t\":1},{\"e\":\"start\",\"host\":2},{\"e\":\"settle\"},{\"e\":\"create\",\"table\":7,\"owner\":[0,1]},{"
    ++ codes "\"e\":\"settle\"},{\"e\":\"write\",\"to\":[0,1],\"table\":7,\"key\":5,\"value\":\"a\"},{\"e\":\"settle\""
    ++ codes "},{\"e\":\"suspect\",\"id\":[0,1]},{\"e\":\"settle\"},{\"e\":\"decide\",\"id\":[0,1]}]}"

abbrev pub first_write_prints : List ℕ
first_write_prints =
    codes "own 0.1 term 1 table 7 from 0 to 18446744073709551615 after 0 attempt 0\nack 0.1 seg 1 at 0 term 1 table"
    ++ codes " 7 key 5 version 1\nplan 1 of 0.1 to 1.1 head 1 rows 1:1.1:1\nmessages 38\nacknowledged 1\nrefused 0\npl"
    ++ codes "ans 1\ngrants 1\naudit clean\n"

abbrev pub FirstWritePrints : Type 0
FirstWritePrints = printed first_write ≡ first_write_prints

-- The answer of one backup is lost: the write is not acknowledged.
abbrev pub lost_stored : List ℕ
lost_stored =
    codes "{\"format\":1,\"factor\":2,\"segment\":8,\"events\":[{\"e\":\"start\",\"host\":0},{\"e\":\"start\",\"hos"
    ++ codes "t\":1},{\"e\":\"start\",\"host\":2},{\"e\":\"settle\"},{\"e\":\"create\",\"table\":7,\"owner\":[0,1]},{"
    ++ codes "\"e\":\"settle\"},{\"e\":\"write\",\"to\":[0,1],\"table\":7,\"key\":5,\"value\":\"a\"},{\"e\":\"deliver"
    ++ codes "\",\"n\":25},{\"e\":\"deliver\",\"n\":26},{\"e\":\"deliver\",\"n\":27},{\"e\":\"deliver\",\"n\":28}]}"

abbrev pub lost_stored_prints : List ℕ
lost_stored_prints =
    codes "own 0.1 term 1 table 7 from 0 to 18446744073709551615 after 0 attempt 0\nmessages 30\nacknowledged 0\nre"
    ++ codes "fused 0\nplans 0\ngrants 1\naudit clean\n"

abbrev pub LostStoredPrints : Type 0
LostStoredPrints = printed lost_stored ≡ lost_stored_prints

-- No event, no message.
abbrev pub nothing : List ℕ
nothing =
    codes "{\"format\":1,\"factor\":1,\"segment\":1,\"events\":[]}"

abbrev pub nothing_prints : List ℕ
nothing_prints =
    codes "messages 0\nacknowledged 0\nrefused 0\nplans 0\ngrants 0\naudit clean\n"

abbrev pub NothingPrints : Type 0
NothingPrints = printed nothing ≡ nothing_prints

-- Five refusals.
abbrev pub refusals : List ℕ
refusals =
    codes "{\"format\":1,\"factor\":2,\"segment\":8,\"events\":[{\"e\":\"start\",\"host\":0},{\"e\":\"start\",\"hos"
    ++ codes "t\":1},{\"e\":\"start\",\"host\":2},{\"e\":\"settle\"},{\"e\":\"create\",\"table\":7,\"owner\":[0,1]},{"
    ++ codes "\"e\":\"settle\"},{\"e\":\"write\",\"to\":[1,1],\"table\":7,\"key\":5,\"value\":\"a\"},{\"e\":\"deliver"
    ++ codes "\",\"n\":25},{\"e\":\"write\",\"to\":[1,1],\"table\":7,\"key\":5,\"value\":\"xxxxxxxxxxxxxxxxxxxxxxxxxxx"
    ++ codes "xxxxxxxxxxxxxxxxxxxxxxxxxxxxxxxxxxxxxxxxxxxxxxxxxxxxxxxxxxxxxxxxxxxxxxxxxxxxxxxxxxxxxxxxxxxxxxxxxxxxxxxx"
    ++ codes "xxxxxxxxxxxxxxxxxxxxxxxxxxxxxxxxxxxxxxxxxxxxxxxxxxxxxxxxxxxxxxxxxxxxxxxxxxxxxxxxxxxxxxxxxxxxxxxxxxxxxxxx"
    ++ codes "xxxxxxxxxxxxxxxxxxxxxxxxxxxxxxxxxxxxxxxxxxxxxxxxxxxxxxxxxxxxxxxxxxxxxxxxxxxxxxxxxxxxxxxxxxxxxxxxxxxxxxxx"
    ++ codes "xxxxxxxxxxxxxxxxxxxxxxxxxxxxxxxxxxxxxxxxxxxxxxxxxxxxxxxxxxxxxxxxxxxxxxxxxxxxxxxxxxxxxxxxxxxxxxxxxxxxxxxx"
    ++ codes "xxxxxxxxxxxxxxxxxxxxxxxxxxxxxxxxxxxxxxxxxxxxxxxxxxxxxxxxxxxxxxxxxxxxxxxxxxxxxxxxxxxxxxxxxxxxxxxxxxxxxxxx"
    ++ codes "xxxxxxxxxxxxxxxxxxxxxxxxxxxxxxxxxxxxxxxxxxxxxxxxxxxxxxxxxxxxxxxxxxxxxxxxxxxxxxxxxxxxxxxxxxxxxxxxxxxxxxxx"
    ++ codes "xxxxxxxxxxxxxxxxxxxxxxxxxxxxxxxxxxxxxxxxxxxxxxxxxxxxxxxxxxxxxxxxxxxxxxxxxxxxxxxxxxxxxxxxxxxxxxxxxxxxxxxx"
    ++ codes "xxxxxxxxxxxxxxxxxxxxxxxxxxxxxxxxxxxxxxxxxxxxxxxxxxxxxxxxxxxxxxxxxxxxxxxxxxxxxxxxxxxxxxxxxxxxxxxxxxxxxxxx"
    ++ codes "xxxxxxxxxxxxxxxxxxxxxxxxxxxxxxxxxxxxxxxxxxxxxxxxxxxxxxxxxxxxxxxxxxxxxxxxxxxxxxxxxxxxxxxxxxxxxxxxxxxxxxxx"
    ++ codes "xxxxxxxxxxxxxxxxxxxxxxxxxxxxxxxxxxxxxxxxxxxxxxxxxxxxxxxxxxxxxx\"},{\"e\":\"deliver\",\"n\":27},{\"e\":\""
    ++ codes "create\",\"table\":7,\"owner\":[0,1]},{\"e\":\"create\",\"table\":8,\"owner\":[3,1]},{\"e\":\"decide\","
    ++ codes "\"id\":[0,1]}]}"

abbrev pub refusals_prints : List ℕ
refusals_prints =
    codes "own 0.1 term 1 table 7 from 0 to 18446744073709551615 after 0 attempt 0\nrefused 2 from 1.1 to out\nrefu"
    ++ codes "sed 7 from 1.1 to out\nrefused 12 from c to out\nrefused 11 from c to out\nrefused 10 from c to out\nmes"
    ++ codes "sages 32\nacknowledged 0\nrefused 5\nplans 0\ngrants 1\naudit clean\n"

abbrev pub RefusalsPrints : Type 0
RefusalsPrints = printed refusals ≡ refusals_prints

-- Messages come twice and in reverse.
abbrev pub twice_and_in_reverse : List ℕ
twice_and_in_reverse =
    codes "{\"format\":1,\"factor\":2,\"segment\":8,\"events\":[{\"e\":\"start\",\"host\":0},{\"e\":\"start\",\"hos"
    ++ codes "t\":1},{\"e\":\"start\",\"host\":2},{\"e\":\"start\",\"host\":3},{\"e\":\"settle\"},{\"e\":\"create\",\""
    ++ codes "table\":7,\"owner\":[0,1]},{\"e\":\"settle\"},{\"e\":\"write\",\"to\":[0,1],\"table\":7,\"key\":5,\"valu"
    ++ codes "e\":\"a\"},{\"e\":\"deliver\",\"n\":35},{\"e\":\"deliver\",\"n\":37},{\"e\":\"deliver\",\"n\":37},{\"e\""
    ++ codes ":\"deliver\",\"n\":36},{\"e\":\"deliver\",\"n\":36},{\"e\":\"deliver\",\"n\":41},{\"e\":\"deliver\",\"n"
    ++ codes "\":40},{\"e\":\"deliver\",\"n\":39},{\"e\":\"deliver\",\"n\":38},{\"e\":\"deliver\",\"n\":35}]}"

abbrev pub twice_and_in_reverse_prints : List ℕ
twice_and_in_reverse_prints =
    codes "own 0.1 term 1 table 7 from 0 to 18446744073709551615 after 0 attempt 0\nack 0.1 seg 1 at 0 term 1 table"
    ++ codes " 7 key 5 version 1\nmessages 45\nacknowledged 1\nrefused 0\nplans 0\ngrants 1\naudit clean\n"

abbrev pub TwiceAndInReversePrints : Type 0
TwiceAndInReversePrints = printed twice_and_in_reverse ≡ twice_and_in_reverse_prints

-- A message that was never sent is delivered: the run stops there.
abbrev pub deliver_unsent : List ℕ
deliver_unsent =
    codes "{\"format\":1,\"factor\":2,\"segment\":8,\"events\":[{\"e\":\"start\",\"host\":0},{\"e\":\"start\",\"hos"
    ++ codes "t\":1},{\"e\":\"start\",\"host\":2},{\"e\":\"start\",\"host\":3},{\"e\":\"settle\"},{\"e\":\"create\",\""
    ++ codes "table\":7,\"owner\":[0,1]},{\"e\":\"settle\"},{\"e\":\"deliver\",\"n\":35}]}"

abbrev pub deliver_unsent_prints : List ℕ
deliver_unsent_prints =
    codes "own 0.1 term 1 table 7 from 0 to 18446744073709551615 after 0 attempt 0\nmessages 35\nacknowledged 0\nre"
    ++ codes "fused 0\nplans 0\ngrants 1\naudit clean\nstopped F18 at event 7\n"

abbrev pub DeliverUnsentPrints : Type 0
DeliverUnsentPrints = printed deliver_unsent ≡ deliver_unsent_prints

-- A delivery far past the end stops the run.
abbrev pub deliver_too_far : List ℕ
deliver_too_far =
    codes "{\"format\":1,\"factor\":2,\"segment\":8,\"events\":[{\"e\":\"start\",\"host\":1},{\"e\":\"deliver\",\"n"
    ++ codes "\":4294967295}]}"

abbrev pub deliver_too_far_prints : List ℕ
deliver_too_far_prints =
    codes "messages 1\nacknowledged 0\nrefused 0\nplans 0\ngrants 0\naudit clean\nstopped F18 at event 1\n"

abbrev pub DeliverTooFarPrints : Type 0
DeliverTooFarPrints = printed deliver_too_far ≡ deliver_too_far_prints
