use Rattle.std.proofs.Common.{take}
use Rattle.rc_audit.specs.Superseded.{Supersedes, greater_below}
use Rattle.rc_audit.proofs.superseded.note_entries.Given as goal

-- the versions of the entries so far
abbrev pub invariant-loop-index : goal.invariant-loop-index
invariant-loop-index l = Supersedes l.initial.highs l.highs (λ ack. greater_below l.reach ack l.start (take l.index l.entries))
