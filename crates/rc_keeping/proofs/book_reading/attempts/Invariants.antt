use Rattle.std.proofs.Common.{◌≡◌, ◌++◌}
use Rattle.std.specs.Vec.Iter.{into_iter_items}
use Rattle.rc_keeping.proofs.book_reading.attempts.Given as goal

-- what is made so far, and then what is left
abbrev pub invariant-loop-one : goal.invariant-loop-one
invariant-loop-one l = l.fn.begun.items ≡ l.made.items ++ into_iter_items l.one-iterator
