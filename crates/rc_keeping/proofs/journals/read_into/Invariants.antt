use Rattle.std.proofs.Common.{◌≡◌, ◌++◌, length}
use Rattle.rc_keeping.specs.Spelling.{journal_of}
use Rattle.rc_keeping.proofs.journals.read_into.Given as goal

abbrev pub invariant-loop-work : goal.invariant-loop-work
invariant-loop-work l = l.journal ≡ journal_of l.works.items ++ l.rest

abbrev pub decreases-loop-work : goal.decreases-loop-work
decreases-loop-work l = length l.rest
