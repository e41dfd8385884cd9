use Rattle.std.proofs.Common.{◌≡◌, drop}
use Rattle.rc_model.specs.Model.{all_acknowledged, first_fall}
use Rattle.rc_audit.specs.Writes.{ack_of}
use Rattle.rc_audit.proofs.falling.first_among.Given as goal

-- it falls from none so far
abbrev pub invariant-loop-message : goal.invariant-loop-message
invariant-loop-message l =
    first_fall l.messages (ack_of l.later) (all_acknowledged l.messages) ≡ first_fall l.messages (ack_of l.later)
    (all_acknowledged (drop l.message-index l.messages))
