use Rattle.rc_types.specs.Kinds.{kind_number}
use Rattle.rc_reading.proofs.Sets.{in_set, hosts_are_sets}
use Rattle.rc_reading.proofs.laws.sets_hold_what_was_put_in.Goals as goal

pub returns-clause-hosts : goal.returns-clause-hosts
returns-clause-hosts c = hosts_are_sets

pub returns-clause-kinds : goal.returns-clause-kinds
returns-clause-kinds c kinds put kind = in_set kinds.bits (kind_number put) (kind_number kind)
