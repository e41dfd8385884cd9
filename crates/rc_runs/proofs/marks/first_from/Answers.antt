use Rattle.std.proofs.Common.{ℕ, nat_lt, Bool, rules}
use Rattle.std.proofs.lemmas.List.Sorted.{IsPartitionPoint-from_clause}
use Rattle.rc_runs.proofs.Waitings.{rises_parted, rises_after, in_after}
use Rattle.rc_runs.proofs.marks.first_from.Goals as goal

pub returns-clause-order : goal.returns-clause-order
returns-clause-order c high rise =
    let below : ℕ → Bool = λ n. nat_lt n c.args.from in
    let parted = rises_parted c.args.from 0 high c.args.numbers.now rise in
    let point = IsPartitionPoint-from_clause below _ _ c.partition_point.ensures.partitioned parted (λ a r q k. search rules) in
    rises_after c.args.from 0 high c.args.numbers.now c.partition_point.result rise point.1

pub returns-clause-all : goal.returns-clause-all
returns-clause-all c high n rise le found =
    let below : ℕ → Bool = λ n. nat_lt n c.args.from in
    let parted = rises_parted c.args.from 0 high c.args.numbers.now rise in
    let point = IsPartitionPoint-from_clause below _ _ c.partition_point.ensures.partitioned parted (λ a r q k. search rules) in
    in_after c.args.from c.args.numbers.now c.partition_point.result n point.0 le found
