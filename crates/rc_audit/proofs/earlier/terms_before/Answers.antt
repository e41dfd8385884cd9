use Rattle.rc_audit.proofs.EarlierLemmas.{search_goes_on, search_ends, search_shrinks, none_left}
use Rattle.rc_audit.proofs.earlier.terms_before.Goals as goal

pub loop-later-smaller : goal.loop-later-smaller
loop-later-smaller c =
    search_shrinks c.args.grants.now c.args.table c.args.key c.loop-later.before c.follow.new.before
    c.loop-later.waiting.items c.pop.new.self.items c.follow.new.waiting.items c.in-Some.later
    c.in-Some.ensures.items c.in_ok-follow.ensures

pub loop-later-preserved : goal.loop-later-preserved
loop-later-preserved c =
    search_goes_on c.args.grants.now c.args.table c.args.key c.args.term c.loop-later.before c.follow.new.before
    c.loop-later.waiting.items c.pop.new.self.items c.follow.new.waiting.items c.in-Some.later
    c.in-Some.ensures.items c.loop-later.invariant c.in_ok-follow.ensures

pub returns : goal.returns
returns c =
    search_ends c.args.grants.now c.args.table c.args.key c.args.term c.loop-later.before c.loop-later.waiting.items
    (none_left c.loop-later.waiting.items c.pop.new.self.items _ c.in_default.ensures.cases.0
    c.in_default.ensures.rest c.in_default.ensures.items) c.loop-later.invariant
