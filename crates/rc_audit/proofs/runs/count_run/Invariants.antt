use Rattle.std.proofs.Common.{◌≡◌, ℕ, ◌<◌, true}
use Rattle.rc_model.specs.Model.{made, is_one_entry}
use Rattle.rc_audit.proofs.runs.count_run.Given as goal

-- each place so far was made one way
abbrev pub invariant-loop-offset : goal.invariant-loop-offset
invariant-loop-offset l = (o : ℕ) → o < l.offset → is_one_entry (made l.evidence.messages.now l.master l.seg o) ≡ true
