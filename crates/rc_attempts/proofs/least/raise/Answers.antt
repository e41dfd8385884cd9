use Rattle.rc_attempts.proofs.PairLemmas.{pair_in-inserted}
use Rattle.rc_attempts.proofs.least.raise.Goals as goal

pub returns-clause-ok : goal.returns-clause-ok
returns-clause-ok c =
    let is = pair_in-inserted c.args.least.now c.insert.new.self c.args.master _ c.in_ok-insert.ensures.updates in
    cc (is)
