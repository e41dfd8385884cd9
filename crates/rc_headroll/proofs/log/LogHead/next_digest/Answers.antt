use Rattle.std.proofs.Common.{eqb, not, ◌||◌, length}
use Rattle.std.specs.List.{list_any}
use Rattle.rc_headroll.proofs.SoundLogs.{known-next}
use Rattle.rc_headroll.proofs.log.LogHead.next_digest.Goals as goal

pub returns-clause-known : goal.returns-clause-known
returns-clause-known c =
    rw (c.in_ok-shared.ensures, c.in_ok-push.ensures.items, c.in_ok-digest.ensures, c.digest.ensures, c.head-head.ensures)
    (known-next (λ seg. eqb seg (length c.args.self.now.segments) || not (list_any (eqb seg) c.args.dead.now))
    (length c.args.self.now.segments)
    c.newest.result.now.digest c.newest.ensures.known)
