use Rattle.rc_audit.proofs.TurnLemmas.{taking_begins, taking_more}
use Rattle.rc_audit.proofs.turns.over_all.Goals as goal

pub loop-turn-init : goal.loop-turn-init
loop-turn-init c = taking_begins c.args.order.now c.args.highs.now c.in_ok-turns.turns c.new-noted.result
    c.new-bars.result c.in_ok-turns.ensures c.new-bars.ensures.empty

pub loop-turn-preserved : goal.loop-turn-preserved
loop-turn-preserved c =
    taking_more c.args.order.now c.args.highs.now c.loop-turn.turns.keys c.pop_first.new.self.keys c.in-Some.turn
    c.loop-turn.noted c.take_turn.new.noted c.loop-turn.bars c.take_turn.new.bars c.in-Some.ensures.removal
    c.in-Some.ensures.all_above c.loop-turn.invariant c.in_ok-take_turn.ensures
