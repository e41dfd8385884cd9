use Rattle.std.proofs.Common.{nat_lt, rules}
use Rattle.std.proofs.lemmas.List.Sorted.{IsPartitionPoint-from_clause, IsPartitionedBy-ltb}
use Rattle.rc_ownership.proofs.RecordHighs.{filter-point}
use Rattle.rc_ownership.proofs.highs.count_below.Goals as goal

pub returns : goal.returns
returns c =
    let parted = IsPartitionedBy-ltb (λ high. high.0) _ c.args.count c.requires in
    let point = IsPartitionPoint-from_clause (λ high. nat_lt high.0 c.args.count) _ _
    c.partition_point.ensures.partitioned parted (λ a r q k. search rules) in
    record {
      within = c.partition_point.ensures.bound;
      first = filter-point (λ high. nat_lt high.0 c.args.count) c.args.highs.now c.partition_point.result
          c.partition_point.ensures.bound point;
    }
