use Rattle.std.proofs.Common.{rules}
use Rattle.rc_audit.proofs.TurnLemmas.{taken_noted, taken_found}
use Rattle.rc_audit.proofs.turns.take_turn.Goals as goal

pub returns-in_ok-note_version : goal.returns-in_ok-note_version
returns-in_ok-note_version c =
    taken_noted c.args.order.now c.args.highs.now c.args.noted.now c.note_version.new.highs c.args.bars.now c.args.turn.now
    c.of_all_terms-key.result c.in-Some.version c.in-Some.ensures c.of_all_terms-key.ensures
    c.in_ok-note_version.ensures

pub returns-in_ok-insert-in-Some-copied : goal.returns-in_ok-insert-in-Some-copied
returns-in_ok-insert-in-Some-copied c =
    taken_found c.args.order.now c.args.highs.now c.args.noted.now c.args.bars.now c.insert.new.self c.args.turn.now
    c.of_all_terms-key.result c.in-Some-copied.span c.high_of-bar.result c.if-turn.false (search rules) c.if-span-turn.true
    c.high_of-bar.ensures c.of_all_terms-key.ensures c.in_ok-insert-in-Some-copied.ensures.updates.0
