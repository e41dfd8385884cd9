use Rattle.std.proofs.Common.{◌≡◌, map, take}
use Rattle.serde_json.specs.View.{view}
use Rattle.rc_traces.specs.Written.{row_data}
use Rattle.rc_traces.proofs.writing.rows.Given as goal

abbrev pub invariant-loop-one : goal.invariant-loop-one
invariant-loop-one l = map view l.values.items ≡ map row_data (take l.one-index l.rows)
