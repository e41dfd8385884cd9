use Rattle.std.proofs.Common.{◌≡◌, take}
use Rattle.rc_headroll.proofs.stuck.are_same.Given as goal

-- they are the same so far
abbrev pub invariant-loop-place : goal.invariant-loop-place
invariant-loop-place l = take l.place l.rows ≡ take l.place l.others
