use Rattle.std.proofs.Common.{sym}
use Rattle.rc_audit.proofs.OrderLemmas.{keeps_begins, keeps_more, keeps_ends}
use Rattle.rc_audit.proofs.orders.keeps.Goals as goal

pub loop-term-init : goal.loop-term-init
loop-term-init c = keeps_begins c.args.order.now c.args.grants.now.entries c.into_iter-term-iterator.result
    c.into_iter-term-iterator.ensures.into_iter_gives.0

pub loop-term-preserved : goal.loop-term-preserved
loop-term-preserved c =
    keeps_more c.args.order.now c.args.grants.now.entries c.loop-term.term-iterator c.next.new.self c.in-Some.term.now
    c.in-Some.of_term.now c.as_slice.result.now c.in-Some.ensures.steps c.loop-term.invariant c.as_slice.ensures.value
    (sym c.if-not-is_after_all.ensures)

pub returns : goal.returns
returns c = λ _. keeps_ends c.args.order.now c.args.grants.now c.loop-term.term-iterator c.in-None.ensures.steps.0 c.loop-term.invariant
