use Rattle.std.proofs.Common.{take}
use Rattle.rc_audit.specs.Bars.{HasLevels}
use Rattle.rc_audit.proofs.bars.acked_highs.Given as goal

-- the versions of the messages so far
abbrev pub invariant-loop-message : goal.invariant-loop-message
invariant-loop-message l = HasLevels l.highs (take l.message-index l.messages)
