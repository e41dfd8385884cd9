use Rattle.std.proofs.Common.{◌≡◌, List, ◌++◌}
use Rattle.rc_types.proofs.copies.copied_map.Given as goal

-- the last entries, which were copied
abbrev pub invariant-loop-key : goal.invariant-loop-key
invariant-loop-key g l = (last : List _) × (l.key-iterator.iter ++ last ≡ l.map.entries) × (l.copy.entries ≡ last)
