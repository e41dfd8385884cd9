use Rattle.std.proofs.Common.{sym, subst}
use Rattle.rc_audit.specs.Bars.{IsBar}
use Rattle.rc_audit.specs.Writes.{ack_of}
use Rattle.rc_audit.proofs.FallingLemmas.{above_bar}
use Rattle.rc_audit.proofs.falling.falls_by_bars.Goals as goal

pub returns-then-not-is_level-clause-found : goal.returns-then-not-is_level-clause-found
returns-then-not-is_level-clause-found c =
    let sent = c.args.messages.now in
    let is = c.in_ok-bar.ensures.bar sent c.requires.grants c.requires.levels c.requires.bars in
    sym (above_bar sent (ack_of c.args.later.now) c.in_ok-bar.bar
    (subst (λ key. IsBar c.in_ok-bar.bar sent key) c.term_key.ensures is) (sym c.if-not-is_level.ensures))
