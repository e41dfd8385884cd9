use Rattle.rc_audit.proofs.EarlierLemmas.{follows_more}
use Rattle.rc_audit.proofs.earlier.follow_grants.Goals as goal

pub loop-grant-preserved : goal.loop-grant-preserved
loop-grant-preserved c =
    follows_more c.args.table c.args.key c.args.grants.now c.loop-grant.grant-index _ c.args.before.now
    c.loop-grant.before c.follow_grant.new.before
    c.args.waiting.now.items c.loop-grant.waiting.items c.follow_grant.new.waiting.items c.loop-grant-test.true
    c.loop-grant.invariant c.in_ok-follow_grant.ensures
