use Rattle.std.proofs.Common.{◌≡◌, ◌++◌, string_bytes, drop}
use Rattle.rc_model.specs.Report.{rows_text}
use Rattle.rc_traces.proofs.lines.add_rows.Given as goal

-- what is added so far, and what the rows to come add
abbrev pub invariant-loop-row : goal.invariant-loop-row
invariant-loop-row l = string_bytes l.text ++ rows_text (drop l.row-index l.rows) ≡ string_bytes l.initial.text ++ rows_text l.rows
