use Rattle.std.proofs.Common.{◌≡◌, ◌++◌}
use Rattle.std.specs.Vec.Iter.{into_iter_items}
use Rattle.rc_keeping.proofs.book_reading.given_parts.Given as goal

-- what is made so far, and then what is left
abbrev pub invariant-loop-given : goal.invariant-loop-given
invariant-loop-given l = l.fn.parts.items ≡ l.made.items ++ into_iter_items l.given-iterator
