use Rattle.std.proofs.Common.{rules, ◌≡◌, Some, option_and_then}
use Rattle.rc_reading.specs.declared.pairs.Pair.TheVariants.{Nothing}
use Rattle.rc_reading.specs.All.{both_in, list_from, list_of, name_in, name_item, replica_name}
use Rattle.rc_reading.proofs.PairsFound.{name_of_pair}
use Rattle.rc_reading.proofs.Turns.{says_as}
use Rattle.rc_reading.proofs.taken.NamePartsSaidTuple2ServerIdU16.read.Goals as goal

pub returns-clause-ok : goal.returns-clause-ok
returns-clause-ok c =
    let same : c.and_then.result ≡ option_and_then (both_in replica_name) c.in_ok-pair.pair = search rules in
    rw same (says_as (list_from (λ pair d. Some (name_item pair d)) Nothing) (λ d. option_and_then name_in (list_of d))
    (option_and_then (both_in replica_name)) name_of_pair _ _ _ _ c.in_ok-pair.ensures.ok)
