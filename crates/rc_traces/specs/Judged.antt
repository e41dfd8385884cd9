-- What comes of a trace, and what is printed of it.
use Rattle.std.specs.Prelude.{ℕ, List, Option, Some, None, Result, Ok, Err}
use Rattle.rc_types.specs.declared.messages.Message.{Message}
use Rattle.rc_types.specs.declared.verdicts.Breach.{Breach}
use Rattle.rc_model.specs.Breach.{breach}
use Rattle.rc_traces.specs.Ends.{judgement, error_line}
use Rattle.rc_traces.specs.declared.judging.Finding.{Finding}
use Rattle.rc_traces.specs.declared.judging.Finding.TheVariants as finding

abbrev pub finding_in : Option Breach → Finding
finding_in None = finding.Clean
finding_in (Some found) = finding.Breach

abbrev pub finding_of : Result (List Message) ℕ → Finding
finding_of (Ok messages) = finding_in (breach messages)
finding_of (Err place) = finding.Bad place

abbrev pub text_of : Result (List Message) ℕ → List ℕ
text_of (Ok messages) = judgement messages
text_of (Err place) = error_line place
