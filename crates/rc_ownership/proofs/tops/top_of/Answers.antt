use Rattle.std.proofs.Common.{sym}
use Rattle.rc_ownership.proofs.GreatestVersions.{top_or-last}
use Rattle.rc_ownership.proofs.tops.top_of.Goals as goal

pub returns-in-Some : goal.returns-in-Some
returns-in-Some c = sym (top_or-last c.args.tops.now c.in-Some.version.now (sym c.in-Some.ensures.value))
