use Rattle.std.proofs.Common.{rules, ◌≡◌}
use Rattle.rc_reading.specs.All.{if_object, scenario_of, top_of}
use Rattle.rc_reading.proofs.TopNoted.{put_noted, scenario_found, scenario_if}
use Rattle.rc_reading.proofs.Turns.{says_as}
use Rattle.rc_reading.proofs.whole.scenario.Goals as goal

pub read_object-requires : goal.read_object-requires
read_object-requires c = put_noted

pub returns-clause-ok : goal.returns-clause-ok
returns-clause-ok c =
    let same : c.map_or.result ≡ scenario_if c.in_ok-top.top = search rules in
    rw same (says_as (if_object top_of) scenario_of scenario_if scenario_found _ _ _ _ c.in_ok-top.ensures.ok)
