use Rattle.std.proofs.Common.{rules, ◌≡◌, option_and_then}
use Rattle.rc_reading.specs.All.{list_from}
use Rattle.rc_reading.proofs.Turns.{says_as}
use Rattle.rc_traces.specs.Trace.{entry_of}
use Rattle.rc_traces.specs.Parts.{takes_entry_part, entry_made}
use Rattle.rc_traces.proofs.PartsFound.{entry_of_parts}
use Rattle.rc_traces.proofs.lists.EntryPartsSaidEntry.read.Goals as goal

pub returns-clause-ok : goal.returns-clause-ok
returns-clause-ok c =
    let same : c.and_then.result ≡ option_and_then entry_made c.in_ok-parts.parts = search rules in
    rw same (says_as (list_from takes_entry_part c.none.result) entry_of (option_and_then entry_made)
    (rw c.none.ensures entry_of_parts) _ _ _ _ c.in_ok-parts.ensures.ok)
