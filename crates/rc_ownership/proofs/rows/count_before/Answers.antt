use Rattle.std.proofs.Common.{◌≤◌, length, nat_lt, rules, arith}
use Rattle.std.proofs.lemmas.Grind.{common_steps}
use Rattle.std.proofs.lemmas.List.Sorted.{IsPartitionPoint-from_clause, IsPartitionedBy-ltb}
use Rattle.rc_ownership.proofs.RowOrder.{first-point}
use Rattle.rc_ownership.proofs.rows.count_before.Goals as goal

pub returns : goal.returns
returns c =
    let rows = c.args.rows.now.items in
    let parted = IsPartitionedBy-ltb (λ row. row.seg) rows c.args.seg c.requires in
    let within : c.partition_point.result ≤ length rows = grind (arith, common_steps) in
    first-point c.args.seg rows c.partition_point.result within
    (IsPartitionPoint-from_clause (λ row. nat_lt row.seg c.args.seg) rows _ c.partition_point.ensures.partitioned parted
    (λ a r q k. search rules))
