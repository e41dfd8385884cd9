use Rattle.std.proofs.Common.{sym}
use Rattle.rc_ownership.proofs.RecordHighs.{last_version-last}
use Rattle.rc_ownership.proofs.highs.last_version.Goals as goal

pub returns-in-Some : goal.returns-in-Some
returns-in-Some c = sym (last_version-last c.args.highs.now c.in-Some.field-0.now (sym c.in-Some.ensures.value))
