use Rattle.rc_owner_laws.proofs.Ordering.{commits-are-of-placed, commits-are-of-the-told}
use Rattle.rc_owner_laws.proofs.commits.commits_are_of_placed_segments.Goals as goal

pub returns-clause-placed : goal.returns-clause-placed
returns-clause-placed c = commits-are-of-placed

pub returns-clause-told : goal.returns-clause-told
returns-clause-told c = commits-are-of-the-told
