use Rattle.std.proofs.Common.{sym, rules}
use Rattle.std.specs.Prelude.{nat_le}
use Rattle.std.proofs.lemmas.List.Sorted.{IsPartitionPoint-from_clause, IsPartitionedBy-leb}
use Rattle.std.proofs.lemmas.List.Kept.{AllPairs-from_increasing}
use Rattle.cil_model.proofs.ShortCodes.{not_falling}
use Rattle.flow_graph.proofs.Searches.{length-passing_prefix}
use Rattle.flow_graph.proofs.edges.starts_up_to.Goals as goal

pub returns : goal.returns
returns c =
    let starts = c.args.blocks.now in
    let rise = not_falling starts (AllPairs-from_increasing starts c.requires) in
    let parts = IsPartitionPoint-from_clause (λ start. nat_le start c.args.at) starts _ c.partition_point.ensures.partitioned
    (IsPartitionedBy-leb (λ start. start) starts c.args.at rise) (λ a r g called. search rules) in
    sym (length-passing_prefix (λ start. nat_le start c.args.at) starts _ c.partition_point.ensures.bound parts.0 parts.1)
