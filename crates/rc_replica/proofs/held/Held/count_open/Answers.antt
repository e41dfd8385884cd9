use Rattle.std.proofs.Common.{rules}
use Rattle.std.proofs.iter.runs.Made.{chains}
use Rattle.rc_replica.proofs.held.Held.count_open.Goals as goal

pub returns : goal.returns
returns c = search (rules, chains)
