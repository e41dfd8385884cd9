use Rattle.std.proofs.Common.{ℕ, nat_lt, Bool, ◌∙◌, rules}
use Rattle.std.specs.List.Sorted.{IsPartitionedBy}
use Rattle.std.proofs.lemmas.List.Sorted.{IsPartitionPoint-from_clause}
use Rattle.rc_wire.proofs.Least.{rises-parted, least-at}
use Rattle.rc_wire.proofs.index.least_in.Goals as goal

pub returns : goal.returns
returns c rise =
    let below : ℕ → Bool = λ n. nat_lt n c.args.from in
    let numbers = c.args.numbers.now in
    let parted : IsPartitionedBy below numbers = rises-parted c.args.from 0 numbers rise in
    let point = IsPartitionPoint-from_clause below numbers _ c.partition_point.ensures.partitioned parted (λ a r q k. search rules) in
    c.number_in.ensures ∙ least-at c.args.from numbers c.partition_point.result point.0 point.1
