use Rattle.std.proofs.Common.{◌≡◌, length, subst, arith, rules}
use Rattle.std.proofs.lemmas.Bool.Decides.{nat_tests}
use Rattle.rc_clients.specs.Pending.{ArePending}
use Rattle.rc_clients.proofs.PendingLemmas.{pending_begin, pending_more, pending_skip}
use Rattle.rc_clients.proofs.pending.pending_in.Goals as goal

pub loop-moment-init : goal.loop-moment-init
loop-moment-init c = pending_begin c.new-pending.ensures.empty

pub loop-moment-preserved-in_default : goal.loop-moment-preserved-in_default
loop-moment-preserved-in_default c = pending_skip c.in_default.ensures c.loop-moment.invariant

pub loop-moment-preserved : goal.loop-moment-preserved
loop-moment-preserved c = pending_more c.in-Some.ensures c.loop-moment.invariant c.in_ok-note_pending.ensures

pub returns : goal.returns
returns c =
    let ended : c.loop-moment.moment ≡ length c.args.history.now =
    first_of (omega (arith, c.loop-moment-test.false, c.loop-moment.auto.moment-end), grind (arith, nat_tests), search rules) in
    subst (λ n. ArePending c.args.history.now n c.loop-moment.pending) ended c.loop-moment.invariant
