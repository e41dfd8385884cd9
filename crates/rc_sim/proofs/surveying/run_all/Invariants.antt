use Rattle.std.proofs.Common.{◌≡◌, false}
use Rattle.rc_sim.proofs.surveying.run_all.Given as goal

-- no run so far has a breach
abbrev pub invariant-loop-number : goal.invariant-loop-number
invariant-loop-number g l = l.found ≡ false
