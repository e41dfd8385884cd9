use Rattle.std.proofs.Common.{sym}
use Rattle.rc_ownership.proofs.RecordHighs.{higher-last, higher-none}
use Rattle.rc_ownership.proofs.highs.is_higher.Goals as goal

pub returns-in-Some : goal.returns-in-Some
returns-in-Some c = higher-last c.args.highs.now c.in-Some.field-0.now c.args.version (sym c.in-Some.ensures.value)

pub returns-in-None : goal.returns-in-None
returns-in-None c = higher-none c.args.highs.now c.args.version (sym c.in-None.ensures.value)
