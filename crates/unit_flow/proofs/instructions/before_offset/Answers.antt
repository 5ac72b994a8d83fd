use Rattle.std.proofs.Common.{rules, nat_lt}
use Rattle.std.proofs.lemmas.List.Sorted.{IsPartitionPoint-from_clause, IsPartitionedBy-ltb}
use Rattle.flow_graph.proofs.Searches.{passing_prefix}
use Rattle.unit_flow.proofs.instructions.before_offset.Goals as goal

pub returns : goal.returns
returns c =
    let instrs = c.args.instrs.now in
    let at = c.args.at in
    let parts = IsPartitionPoint-from_clause (λ i. nat_lt i.at at) instrs _ c.partition_point-end.ensures.partitioned
    (IsPartitionedBy-ltb (λ i. i.at) instrs at c.requires) (λ a r g called. search rules) in
    passing_prefix (λ i. nat_lt i.at at) instrs _ c.partition_point-end.ensures.bound parts.0 parts.1
