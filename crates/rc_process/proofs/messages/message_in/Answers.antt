use Rattle.rc_process.proofs.Coded.{not_whole}
use Rattle.rc_process.proofs.messages.message_in.Goals as goal

pub returns-then-count-bytes-clause-malformed : goal.returns-then-count-bytes-clause-malformed
returns-then-count-bytes-clause-malformed c = λ h.
    not_whole c.args.bytes.now (c.in-Ok.message, c.in-Ok.count) c.decode_message.result c.decode_message.ensures.again c.in-Ok.is
    c.if-count-bytes.true
