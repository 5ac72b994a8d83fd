use Rattle.std.proofs.Common.{rules, nat_le}
use Rattle.std.proofs.lemmas.List.Sorted.{IsPartitionPoint-from_clause, IsPartitionedBy-leb}
use Rattle.pentagon_domain.proofs.Searches.{passing_prefix}
use Rattle.pentagon_domain.proofs.search.rows_to_until.Goals as goal

pub returns : goal.returns
returns c =
    let rows = c.args.targets.now in
    let t = c.args.t in
    let parts = IsPartitionPoint-from_clause (λ row. nat_le row.t t) rows _ c.partition_point-end.ensures.partitioned
    (IsPartitionedBy-leb (λ row. row.t) rows t c.requires) (λ a r g called. search rules) in
    passing_prefix (λ row. nat_le row.t t) rows _ c.partition_point-end.ensures.bound parts.0 parts.1
