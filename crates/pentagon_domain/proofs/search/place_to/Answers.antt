use Rattle.std.proofs.Common.{rules}
use Rattle.std.proofs.lemmas.List.Sorted.{IsPartitionPoint-from_clause}
use Rattle.pentagon_domain.specs.Rows.{is_before}
use Rattle.pentagon_domain.specs.Targets.{turned}
use Rattle.pentagon_domain.proofs.TargetLists.{targets_partitioned, place_to_is}
use Rattle.pentagon_domain.proofs.search.place_to.Goals as goal

pub returns-clause-value : goal.returns-clause-value
returns-clause-value c =
    let targets = c.args.targets.now in
    let s = c.args.s in
    let t = c.args.t in
    let parts = IsPartitionPoint-from_clause (λ row. is_before (turned row) t s) targets _ c.partition_point.ensures.partitioned (targets_partitioned targets s t c.requires)
    (λ a r g called. search rules) in
    place_to_is targets s t _ c.partition_point.ensures.bound parts.0 parts.1
