use Rattle.std.proofs.Common.{rules, ◌≡◌, option_map, refl}
use Rattle.rc_reading.proofs.Turns.{says_as}
use Rattle.rc_traces.specs.Trace.{message_of}
use Rattle.rc_traces.specs.Outline.{without_entries, outline_of}
use Rattle.rc_traces.proofs.outlines.OutlineSaidMessage.read.Goals as goal

pub returns-clause-ok : goal.returns-clause-ok
returns-clause-ok c =
    let same : c.map.result ≡ option_map without_entries c.in_ok-message.message = search rules in
    rw same (says_as message_of outline_of (option_map without_entries) (λ d. refl) _ _ _ _ c.in_ok-message.ensures.ok)
