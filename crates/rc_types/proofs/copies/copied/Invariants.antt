use Rattle.std.proofs.Common.{◌≡◌, take}
use Rattle.rc_types.proofs.copies.copied.Given as goal

-- what was copied so far
abbrev pub invariant-loop-item : goal.invariant-loop-item
invariant-loop-item g l = l.copies.items ≡ take l.item-index l.items
