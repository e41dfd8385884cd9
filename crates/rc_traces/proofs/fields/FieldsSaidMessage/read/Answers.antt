use Rattle.std.proofs.Common.{rules, ◌≡◌, option_and_then}
use Rattle.rc_reading.specs.All.{if_object}
use Rattle.rc_reading.proofs.Turns.{says_as}
use Rattle.rc_traces.specs.Trace.{message_of}
use Rattle.rc_traces.specs.Fields.{fields_of, message_in}
use Rattle.rc_traces.proofs.Noted.{message_found, put_noted}
use Rattle.rc_traces.proofs.fields.FieldsSaidMessage.read.Goals as goal

pub read_object-requires : goal.read_object-requires
read_object-requires c = put_noted

pub returns-clause-ok : goal.returns-clause-ok
returns-clause-ok c =
    let same : c.and_then.result ≡ option_and_then message_in c.in_ok-fields.fields = search rules in
    rw same (says_as (if_object fields_of) message_of (option_and_then message_in) message_found _ _ _ _ c.in_ok-fields.ensures.ok)
