use Rattle.std.proofs.Common.{arith}
use Rattle.rc_keeping.specs.Saved.{attempt_code}
use Rattle.rc_keeping.proofs.Written.{one-more}
use Rattle.rc_keeping.proofs.book_putting.put_attempts.Goals as goal

pub loop-attempt-preserved : goal.loop-attempt-preserved
loop-attempt-preserved c = one-more attempt_code c.args.attempts.now c.loop-attempt.attempt-index c.attempt-item.result
    c.attempt-item.result c.args.out.now.items c.loop-attempt.out.items c.put_attempt.new.out.items (omega arith) c.attempt-item.is
    c.loop-attempt.invariant c.in_ok-put_attempt.ensures
