use Rattle.std.proofs.Common.{rules}
use Rattle.std.proofs.lemmas.List.Sorted.{IsPartitionPoint-from_clause}
use Rattle.pentagon_domain.specs.Rows.{is_before}
use Rattle.pentagon_domain.proofs.Searches.{partitioned, place_is}
use Rattle.pentagon_domain.proofs.search.place_among.Goals as goal

pub returns-clause-value : goal.returns-clause-value
returns-clause-value c =
    let rows = c.args.rows.now in
    let s = c.args.s in
    let t = c.args.t in
    let parts = IsPartitionPoint-from_clause (λ row. is_before row s t) rows _ c.partition_point.ensures.partitioned (partitioned rows s t c.requires)
    (λ a r g called. search rules) in
    place_is rows s t _ c.partition_point.ensures.bound parts.0 parts.1
