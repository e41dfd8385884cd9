use Rattle.std.proofs.Common.{rules, ◌≡◌, None, option_and_then}
use Rattle.rc_reading.specs.All.{event_in, event_of, fields_of, if_object}
use Rattle.rc_reading.proofs.Noted.{event_found, put_noted}
use Rattle.rc_reading.proofs.Turns.{says_as}
use Rattle.rc_reading.proofs.fields.FieldsSaidScenarioEvent.read.Goals as goal

pub read_object-requires : goal.read_object-requires
read_object-requires c = put_noted

pub returns-in-Some-clause-ok : goal.returns-in-Some-clause-ok
returns-in-Some-clause-ok c =
    let same : c.event.result ≡ option_and_then event_in c.in_ok-fields.fields = search rules in
    rw same (says_as (if_object fields_of) event_of (option_and_then event_in) event_found _ _ _ _ c.in_ok-fields.ensures.ok)

pub returns-clause-ok : goal.returns-clause-ok
returns-clause-ok c =
    let same : None ≡ option_and_then event_in c.in_ok-fields.fields = search rules in
    rw same (says_as (if_object fields_of) event_of (option_and_then event_in) event_found _ _ _ _ c.in_ok-fields.ensures.ok)
