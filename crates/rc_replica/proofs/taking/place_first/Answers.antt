use Rattle.std.proofs.Common.{rules}
use Rattle.rc_replica.proofs.HeldLemmas.{insert_entry-replica}
use Rattle.rc_replica.proofs.taking.place_first.Goals as goal

pub returns-in_ok-insert-in-Place-clause-state : goal.returns-in_ok-insert-in-Place-clause-state
returns-in_ok-insert-in-Place-clause-state c = search (rules, insert_entry-replica)
