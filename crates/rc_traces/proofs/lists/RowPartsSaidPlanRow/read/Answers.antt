use Rattle.std.proofs.Common.{rules, ◌≡◌, option_and_then}
use Rattle.rc_reading.specs.All.{list_from}
use Rattle.rc_reading.proofs.Turns.{says_as}
use Rattle.rc_traces.specs.Trace.{row_of}
use Rattle.rc_traces.specs.Parts.{takes_row_part, row_made}
use Rattle.rc_traces.proofs.PartsFound.{row_of_parts}
use Rattle.rc_traces.proofs.lists.RowPartsSaidPlanRow.read.Goals as goal

pub returns-clause-ok : goal.returns-clause-ok
returns-clause-ok c =
    let same : c.and_then.result ≡ option_and_then row_made c.in_ok-parts.parts = search rules in
    rw same (says_as (list_from takes_row_part c.none.result) row_of (option_and_then row_made)
    (rw c.none.ensures row_of_parts) _ _ _ _ c.in_ok-parts.ensures.ok)
