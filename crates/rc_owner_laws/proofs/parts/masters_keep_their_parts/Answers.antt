use Rattle.rc_owner_laws.proofs.PartSteps.{takes-keep-parts, ticks-keep-parts, new-has-good-parts}
use Rattle.rc_owner_laws.proofs.parts.masters_keep_their_parts.Goals as goal

pub returns-clause-takes : goal.returns-clause-takes
returns-clause-takes c = takes-keep-parts

pub returns-clause-ticks : goal.returns-clause-ticks
returns-clause-ticks c = ticks-keep-parts

pub returns-clause-start : goal.returns-clause-start
returns-clause-start c = new-has-good-parts
