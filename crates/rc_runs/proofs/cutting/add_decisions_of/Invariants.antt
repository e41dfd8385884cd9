use Rattle.std.proofs.Common.{◌≡◌, ◌++◌}
use Rattle.rc_runs.specs.Stops.{gathered, decision_of}
use Rattle.rc_runs.proofs.cutting.add_decisions_of.Given as goal

-- the decisions so far
abbrev pub invariant-loop-before : goal.invariant-loop-before
invariant-loop-before l = l.scene.items ≡ l.initial.scene.items ++ gathered (decision_of l.host) l.before
