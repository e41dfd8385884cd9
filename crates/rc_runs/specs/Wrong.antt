-- Bytes that say no scenario, and the place that is told.
use Rattle.std.specs.Prelude.{◌≡◌, ℕ, List, ◌++◌, codes}
use Rattle.rc_runs.specs.Printed.{printed}

-- The text ends too soon.
abbrev pub bad_json : List ℕ
bad_json =
    codes "{\"format\":1"

abbrev pub bad_json_prints : List ℕ
bad_json_prints =
    codes "error F17 at 0\n"

abbrev pub BadJsonPrints : Type 0
BadJsonPrints = printed bad_json ≡ bad_json_prints

-- Format 1 has no freeing.
abbrev pub freeing_in_format_1 : List ℕ
freeing_in_format_1 =
    codes "{\"format\":1,\"factor\":2,\"segment\":8,\"events\":[],\"free\":true}"

abbrev pub freeing_in_format_1_prints : List ℕ
freeing_in_format_1_prints =
    codes "error F17 at 1\n"

abbrev pub FreeingInFormat1Prints : Type 0
FreeingInFormat1Prints = printed freeing_in_format_1 ≡ freeing_in_format_1_prints

-- There is no format 3.
abbrev pub format_3 : List ℕ
format_3 =
    codes "{\"format\":3,\"factor\":2,\"segment\":8,\"events\":[]}"

abbrev pub format_3_prints : List ℕ
format_3_prints =
    codes "error F17 at 1\n"

abbrev pub Format3Prints : Type 0
Format3Prints = printed format_3 ≡ format_3_prints

-- Brackets nest too deep.
abbrev pub brackets : List ℕ
brackets =
    codes "[[[[[[[[[[[[[[[[[[[[[[[[[[[[[[[[[[[[[[[[[[[[[[[[[[[[[[[[[[[[[[[[[[[[[[[[[[[[[[[[[[[[[[[[[[[[[[[[[[[[[[[["
    ++ codes "[[[[[[[[[[[[[[[[[[[[[[[[[[[[[[[[[[[[[[[[[[[[[[[[[[[[[[[[[[[[[[[[[[[[[[[[[[[[[[[[[[[[[[[[[[[[[[[["

abbrev pub brackets_prints : List ℕ
brackets_prints =
    codes "error F17 at 0\n"

abbrev pub BracketsPrints : Type 0
BracketsPrints = printed brackets ≡ brackets_prints

-- A message number is too great.
abbrev pub message_too_great : List ℕ
message_too_great =
    codes "{\"format\":1,\"factor\":2,\"segment\":8,\"events\":[{\"e\":\"start\",\"host\":1},{\"e\":\"deliver\",\"n"
    ++ codes "\":4294967296},{\"e\":\"deliver\",\"n\":9}]}"

abbrev pub message_too_great_prints : List ℕ
message_too_great_prints =
    codes "error F17 at 3\n"

abbrev pub MessageTooGreatPrints : Type 0
MessageTooGreatPrints = printed message_too_great ≡ message_too_great_prints

-- The events are no list.
abbrev pub events_are_an_object : List ℕ
events_are_an_object =
    codes "{\"format\":1,\"factor\":2,\"segment\":8,\"events\":{}}"

abbrev pub events_are_an_object_prints : List ℕ
events_are_an_object_prints =
    codes "error F17 at 1\n"

abbrev pub EventsAreAnObjectPrints : Type 0
EventsAreAnObjectPrints = printed events_are_an_object ≡ events_are_an_object_prints

-- A factor is no whole number.
abbrev pub factor_with_a_point : List ℕ
factor_with_a_point =
    codes "{\"format\":1,\"factor\":2.0,\"segment\":8,\"events\":[]}"

abbrev pub factor_with_a_point_prints : List ℕ
factor_with_a_point_prints =
    codes "error F17 at 1\n"

abbrev pub FactorWithAPointPrints : Type 0
FactorWithAPointPrints = printed factor_with_a_point ≡ factor_with_a_point_prints

-- A factor is too great.
abbrev pub factor_too_great : List ℕ
factor_too_great =
    codes "{\"format\":1,\"factor\":6,\"segment\":8,\"events\":[]}"

abbrev pub factor_too_great_prints : List ℕ
factor_too_great_prints =
    codes "error F17 at 1\n"

abbrev pub FactorTooGreatPrints : Type 0
FactorTooGreatPrints = printed factor_too_great ≡ factor_too_great_prints

-- Generations count from 1.
abbrev pub generation_zero : List ℕ
generation_zero =
    codes "{\"format\":1,\"factor\":2,\"segment\":8,\"events\":[{\"e\":\"start\",\"host\":1},{\"e\":\"stop\",\"id\""
    ++ codes ":[0,0]},{\"e\":\"deliver\",\"n\":9}]}"

abbrev pub generation_zero_prints : List ℕ
generation_zero_prints =
    codes "error F17 at 3\n"

abbrev pub GenerationZeroPrints : Type 0
GenerationZeroPrints = printed generation_zero ≡ generation_zero_prints

-- Segments count from 1.
abbrev pub kept_segment_zero : List ℕ
kept_segment_zero =
    codes "{\"format\":1,\"factor\":2,\"segment\":8,\"events\":[{\"e\":\"start\",\"host\":1},{\"e\":\"start\",\"hos"
    ++ codes "t\":0,\"kept\":[[[0,1],0]]},{\"e\":\"deliver\",\"n\":9}]}"

abbrev pub kept_segment_zero_prints : List ℕ
kept_segment_zero_prints =
    codes "error F17 at 3\n"

abbrev pub KeptSegmentZeroPrints : Type 0
KeptSegmentZeroPrints = printed kept_segment_zero ≡ kept_segment_zero_prints

-- An event has a member too many.
abbrev pub member_too_many : List ℕ
member_too_many =
    codes "{\"format\":1,\"factor\":2,\"segment\":8,\"events\":[{\"e\":\"start\",\"host\":1},{\"e\":\"start\",\"hos"
    ++ codes "t\":0,\"x\":1},{\"e\":\"deliver\",\"n\":9}]}"

abbrev pub member_too_many_prints : List ℕ
member_too_many_prints =
    codes "error F17 at 3\n"

abbrev pub MemberTooManyPrints : Type 0
MemberTooManyPrints = printed member_too_many ≡ member_too_many_prints

-- A scenario has an unknown member.
abbrev pub unknown_member : List ℕ
unknown_member =
    codes "{\"format\":1,\"factor\":2,\"segment\":8,\"events\":[],\"x\":1}"

abbrev pub unknown_member_prints : List ℕ
unknown_member_prints =
    codes "error F17 at 1\n"

abbrev pub UnknownMemberPrints : Type 0
UnknownMemberPrints = printed unknown_member ≡ unknown_member_prints

-- A segment takes no entry.
abbrev pub segments_of_none : List ℕ
segments_of_none =
    codes "{\"format\":1,\"factor\":2,\"segment\":0,\"events\":[]}"

abbrev pub segments_of_none_prints : List ℕ
segments_of_none_prints =
    codes "error F17 at 1\n"

abbrev pub SegmentsOfNonePrints : Type 0
SegmentsOfNonePrints = printed segments_of_none ≡ segments_of_none_prints

-- An event has an unknown name.
abbrev pub unknown_event : List ℕ
unknown_event =
    codes "{\"format\":1,\"factor\":2,\"segment\":8,\"events\":[{\"e\":\"start\",\"host\":1},{\"e\":\"relocate\",\""
    ++ codes "host\":0},{\"e\":\"deliver\",\"n\":9}]}"

abbrev pub unknown_event_prints : List ℕ
unknown_event_prints =
    codes "error F17 at 3\n"

abbrev pub UnknownEventPrints : Type 0
UnknownEventPrints = printed unknown_event ≡ unknown_event_prints
