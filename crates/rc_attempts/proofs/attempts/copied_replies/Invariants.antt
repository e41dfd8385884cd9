use Rattle.std.proofs.Common.{◌≡◌, take}
use Rattle.rc_attempts.proofs.attempts.copied_replies.Given as goal

-- what was copied so far
abbrev pub invariant-loop-from : goal.invariant-loop-from
invariant-loop-from l = l.copies.items ≡ take l.from-index l.replies
