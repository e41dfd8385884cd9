use Rattle.rc_promises.proofs.Conditions.{conditional-writes, conditional-writes-apart, next-version-suffices}
use Rattle.rc_promises.proofs.conditional.conditional_writes_are_linearizable.Goals as goal

pub returns : goal.returns
returns c = record { worlds = conditional-writes; apart = conditional-writes-apart; check = next-version-suffices }
