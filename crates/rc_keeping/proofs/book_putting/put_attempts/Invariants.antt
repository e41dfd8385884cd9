use Rattle.std.proofs.Common.{◌≡◌, ◌++◌, take}
use Rattle.std.specs.List.{flat_map}
use Rattle.rc_keeping.specs.Saved.{attempt_code}
use Rattle.rc_keeping.proofs.book_putting.put_attempts.Given as goal

abbrev pub invariant-loop-attempt : goal.invariant-loop-attempt
invariant-loop-attempt l = l.out.items ≡ l.fn.out.items ++ flat_map attempt_code (take l.attempt-index l.attempts)
