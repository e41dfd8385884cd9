use Rattle.std.proofs.Common.{◌≡◌, ◌++◌, drop}
use Rattle.rc_model.specs.Attempts.{parts_of}
use Rattle.rc_coordinator.proofs.plans.parts_of.Given as goal

-- the parts so far, and then those among the ones that are left
abbrev pub invariant-loop-one : goal.invariant-loop-one
invariant-loop-one l = l.parts.items ++ parts_of l.id (drop l.one-index l.given) ≡ parts_of l.id l.given
