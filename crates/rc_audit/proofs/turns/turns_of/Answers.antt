use Rattle.rc_audit.proofs.TurnLemmas.{turns_begin, turns_more, turns_end}
use Rattle.rc_audit.proofs.turns.turns_of.Goals as goal

pub loop-key-init : goal.loop-key-init
loop-key-init c = turns_begin c.args.order.now c.args.highs.now c.into_iter-key-iterator.result _
    c.into_iter-key-iterator.ensures.into_iter_gives.0

pub loop-key-preserved : goal.loop-key-preserved
loop-key-preserved c =
    turns_more c.args.order.now c.args.highs.now c.loop-key.key-iterator c.next.new.self c.in-Some.key.now _
    c.loop-key.turns c.add_turns.new.turns c.in-Some.ensures.steps c.loop-key.invariant c.in_ok-add_turns.ensures

pub returns : goal.returns
returns c = turns_end c.args.order.now c.args.highs.now c.loop-key.key-iterator c.loop-key.turns
    c.in-None.ensures.steps.0 c.loop-key.invariant
