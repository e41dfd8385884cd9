-- What a client may rely on, of nodes that run apart: of the messages that their steps sent.
use Rattle.std.specs.Prelude.{List, ◌++◌}
use Rattle.rc_types.specs.declared.events.Setup.{Setup}
use Rattle.rc_history.specs.Apart.{Step, events_by, sent_by, TakenApart}
use Rattle.rc_promises.specs.Service.{HasAsked, EachIsOneWrite, EachWasSent, FollowsTime, ReadsMissOnlyLater}

abbrev pub OneWriteApart : Type 0
OneWriteApart = (setup : Setup) (steps : List Step) → TakenApart setup steps →
    EachIsOneWrite (sent_by steps) (sent_by steps)

abbrev pub WrittenApart : Type 0
WrittenApart = (setup : Setup) (steps : List Step) → TakenApart setup steps →
    EachWasSent setup (sent_by steps) (sent_by steps)

-- early: within the first steps
abbrev pub TimeApart : Type 0
TimeApart = (setup : Setup) (steps more : List Step) → TakenApart setup (steps ++ more) →
    FollowsTime (sent_by steps) (HasAsked (sent_by steps)) (sent_by (steps ++ more))

-- It is said after the events of these steps, after which the messages sent are those that the steps sent.
abbrev pub ReadsApart : Type 0
ReadsApart = (setup : Setup) (steps : List Step) → TakenApart setup steps →
    ReadsMissOnlyLater setup (events_by steps) (sent_by steps)
