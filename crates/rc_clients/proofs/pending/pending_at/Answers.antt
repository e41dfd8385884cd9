use Rattle.std.proofs.Common.{sym}
use Rattle.rc_clients.proofs.PendingLemmas.{pending_not, pending_of, unanswered}
use Rattle.rc_clients.proofs.pending.pending_at.Goals as goal

pub returns-then-contains : goal.returns-then-contains
returns-then-contains c = pending_not c.requires (sym c.if-contains.ensures)

pub returns : goal.returns
returns c = pending_of c.written_at.result
    (unanswered c.args.history.now c.args.moment c.args.answered.now c.requires (sym c.if-contains.ensures))
    c.written_at.ensures
