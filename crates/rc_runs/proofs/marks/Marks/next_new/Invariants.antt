use Rattle.std.proofs.Common.{◌≡◌, drop}
use Rattle.rc_runs.specs.Waiting.{first_due}
use Rattle.rc_runs.proofs.marks.Marks.next_new.Given as goal

-- none so far is due
abbrev pub invariant-loop-number : goal.invariant-loop-number
invariant-loop-number l = first_due l.passing l.self.delivered.items l.from (drop l.from l.sent) ≡ first_due l.passing
    l.self.delivered.items l.number (drop l.number l.sent)
