use Rattle.std.proofs.Common.{◌≡◌, drop}
use Rattle.std.specs.List.{find}
use Rattle.rc_runs.specs.Waiting.{is_due_by}
use Rattle.rc_runs.proofs.marks.Marks.first_noted.Given as goal

-- none so far is due
abbrev pub invariant-loop-number : goal.invariant-loop-number
invariant-loop-number l =
    find (is_due_by l.passing l.self.delivered.items l.sent) l.numbers
    ≡ find (is_due_by l.passing l.self.delivered.items l.sent) (drop l.number-index l.numbers)
