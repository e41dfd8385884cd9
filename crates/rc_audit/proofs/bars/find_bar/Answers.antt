use Rattle.rc_audit.proofs.BarLemmas.{bar_found}
use Rattle.rc_audit.proofs.bars.find_bar.Goals as goal

pub returns : goal.returns
returns c = λ sent grants levels.
    bar_found c.args.highs.now c.in_ok-before.before sent c.args.key c.highest_of.result levels
    (c.in_ok-before.ensures sent grants) c.highest_of.ensures
