use Rattle.std.proofs.Common.{rules, ◌≡◌}
use Rattle.rc_reading.specs.All.{if_object}
use Rattle.rc_reading.proofs.Turns.{says_as}
use Rattle.rc_traces.specs.Listed.{listed}
use Rattle.rc_traces.specs.Trace.{trace_of}
use Rattle.rc_traces.specs.Whole.{top_of}
use Rattle.rc_traces.proofs.TopNoted.{put_noted, trace_found, trace_if}
use Rattle.rc_traces.proofs.whole.trace.Goals as goal

pub read_object-requires : goal.read_object-requires
read_object-requires g c = put_noted g.R.Said.said

pub returns-clause-ok : goal.returns-clause-ok
returns-clause-ok g c =
    let same : c.map_or.result ≡ trace_if c.in_ok-top.top = search rules in
    rw same
    (says_as (if_object (top_of g.R.Said.said)) (λ d. listed (trace_of g.R.Said.said d)) trace_if
    (trace_found _ g.R.Said.said) _ _ _ _ c.in_ok-top.ensures.ok)
