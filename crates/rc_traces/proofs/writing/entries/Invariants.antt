use Rattle.std.proofs.Common.{◌≡◌, map, take}
use Rattle.serde_json.specs.View.{view}
use Rattle.rc_traces.specs.Written.{entry_data}
use Rattle.rc_traces.proofs.writing.entries.Given as goal

abbrev pub invariant-loop-one : goal.invariant-loop-one
invariant-loop-one l = map view l.values.items ≡ map entry_data (take l.one-index l.entries)
