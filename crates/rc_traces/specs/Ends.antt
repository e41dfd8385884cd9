-- The lines around the report: the last line of a run that stopped, the one line of a wrong input, and what is
-- printed of messages that are judged and not reported.
use Rattle.std.specs.Prelude.{ℕ, List, ◌++◌, codes, length}
use Rattle.rc_types.specs.declared.faults.Code.{Code}
use Rattle.rc_types.specs.declared.messages.Message.{Message}
use Rattle.rc_types.specs.Codes.{code_number}
use Rattle.rc_model.specs.Report.{then_number, line_feed, count_line, audit_line}
use Rattle.rc_model.specs.Breach.{breach}

-- the run stopped at this event of the scenario
abbrev pub stopped_line : Code → ℕ → List ℕ
stopped_line code event =
    then_number (codes "stopped F") (code_number code) ++ then_number (codes " at event ") event ++ line_feed

-- the input is wrong at this place
abbrev pub error_line : ℕ → List ℕ
error_line place = then_number (codes "error F17 at ") place ++ line_feed

-- how many messages there are, and the audit's answer
abbrev pub judgement : List Message → List ℕ
judgement sent = count_line (codes "messages ") (length sent) ++ audit_line (breach sent)
