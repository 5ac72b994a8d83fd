use Rattle.std.proofs.Common.{rules, nat_le}
use Rattle.std.proofs.lemmas.List.Sorted.{IsPartitionPoint-from_clause, IsPartitionedBy-leb}
use Rattle.pentagon_domain.proofs.Searches.{passing_prefix}
use Rattle.number_facts.proofs.differences.subtracting_up_to.Goals as goal

pub returns : goal.returns
returns c =
    let ds = c.args.differences.now in
    let y = c.args.y in
    let parts = IsPartitionPoint-from_clause (λ d. nat_le d.subtrahend.sym y) ds _ c.partition_point-end.ensures.partitioned
    (IsPartitionedBy-leb (λ d. d.subtrahend.sym) ds y c.requires) (λ a r g called. search rules) in
    passing_prefix (λ d. nat_le d.subtrahend.sym y) ds _ c.partition_point-end.ensures.bound parts.0 parts.1
