use Rattle.std.proofs.Common.{◌≡◌, ◌++◌, take, drop, map}
use Rattle.rc_process.specs.Order.{move_turned}
use Rattle.rc_process.proofs.held.move_held.Given as goal

-- those so far are moved, the others are as they were
abbrev pub invariant-loop-one : goal.invariant-loop-one
invariant-loop-one l = l.held ≡ map (move_turned l.saving) (take l.one-index l.fn.held) ++ drop l.one-index l.fn.held
