use Rattle.rc_audit.proofs.BarLemmas.{bars_more}
use Rattle.rc_audit.proofs.bars.bar_of.Goals as goal

pub returns-clause-bars : goal.returns-clause-bars
returns-clause-bars c = λ sent grants levels before.
    bars_more c.args.bars.now c.insert.new.self sent c.args.key c.in_ok-bar.bar
    (c.in_ok-bar.ensures sent grants levels) before c.in_ok-insert.ensures.updates.0
