use Rattle.std.proofs.Common.{◌-◌, arith}
use Rattle.rc_traces.proofs.ListedCodes.{next_is_one, next_read}
use Rattle.rc_traces.proofs.codes.Codes.decoded.Goals as goal

pub returns-in_err-message-clause-good : goal.returns-in_err-message-clause-good
returns-in_err-message-clause-good c all are bad =
    next_is_one all c.loop.messages.items (c.args.self.now.count - c.loop.counter) c.loop.rest.now c.decode_message.result
    (grind arith) (c.loop.invariant all are) c.decode_message.ensures.again (grind (arith, bad))

pub loop-preserved : goal.loop-preserved
loop-preserved c all are =
    let ahead = next_read all c.loop.messages.items (c.args.self.now.count - c.loop.counter) c.loop.rest.now
    c.decode_message.result (c.in_ok-message.message, c.in_ok-message.taken) (grind arith)
    (c.loop.invariant all are) c.decode_message.ensures.again c.in_ok-message.was in
    rw (c.in_ok-push.ensures.items, c.split_at.ensures.back) (ahead.0, ahead.1, omega (arith, ahead.2), ahead.3)
