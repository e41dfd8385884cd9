-- Lost members of one segment.
use Rattle.std.specs.Prelude.{Bool, true, false, if◌then◌else◌, List, [], map, Result, Ok, Err}
use Rattle.rc_types.specs.declared.ids.ServerId.{ServerId}
use Rattle.rc_types.specs.declared.faults.Fault.{Fault}
use Rattle.rc_model.specs.ServerList.{ServerList}
use Rattle.rc_model.specs.Config.{Config, lose, refill}
use Rattle.rc_model.specs.Segment.{Segment, under_new_epoch}

-- an open segment: a change of members, and all of them are to be sent a Place
abbrev pub segment_changes : Segment → Config × Result Bool Fault → Segment × Result (List ServerId) Fault
segment_changes segment (config, Ok true) =
    (under_new_epoch config segment, Ok (map (λ member. member.id) config.members))
segment_changes segment (config, Ok false) = (record segment { config = config }, Ok [])
segment_changes segment (config, Err fault) = (record segment { config = config }, Err fault)

-- a shut segment: the lost ones are replaced, and the new ones are to be sent a Place
abbrev pub segment_refills : Segment → Config × Result (List ServerId) Fault → Segment × Result (List ServerId) Fault
segment_refills segment (config, answer) = (record segment { config = config }, answer)

abbrev pub segment_loses : ServerId → ServerList → Segment → Segment × Result (List ServerId) Fault
segment_loses own servers segment =
    if segment.shut then segment_refills segment (refill own servers segment.config)
    else segment_changes segment (lose own servers segment.config)
