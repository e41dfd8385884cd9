use Rattle.std.proofs.Common.{◌≡◌, map, take}
use Rattle.rc_master.proofs.copies.copies_of.Given as goal

-- the entries so far
abbrev pub invariant-loop-entry : goal.invariant-loop-entry
invariant-loop-entry l = l.copies.items ≡ map (λ one. one.0) (take l.entry-index l.entries)
