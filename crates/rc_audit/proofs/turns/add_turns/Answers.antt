use Rattle.std.proofs.Common.{rules, false}
use Rattle.rc_audit.proofs.TurnLemmas.{turn_added}
use Rattle.rc_audit.proofs.turns.add_turns.Goals as goal

pub returns : goal.returns
returns c =
    turn_added c.args.order.now c.args.turns.now c.insert.new.self c.insert-2.new.self c.args.key c.in-Some.span
    (record { place = c.in-Some.span.bound; is_noted = false; key = c.args.key }) (search rules)
    c.in_ok-insert.ensures.updates c.in_ok-insert-2.ensures.updates
