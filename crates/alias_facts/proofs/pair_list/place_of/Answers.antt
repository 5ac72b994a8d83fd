use Rattle.std.proofs.Common.{rules, arith}
use Rattle.std.proofs.lemmas.List.Sorted.{IsPartitionPoint-from_clause}
use Rattle.alias_facts.specs.PairsOf.{comes_before}
use Rattle.alias_facts.proofs.PairLists.{partitioned, place_is}
use Rattle.alias_facts.proofs.pair_list.place_of.Goals as goal

pub returns-clause-place : goal.returns-clause-place
returns-clause-place c =
    let pairs = c.args.pairs.now in
    let pair = c.args.pair in
    let parts = IsPartitionPoint-from_clause (λ x. comes_before x pair) pairs _ c.partition_point.ensures.partitioned
    (partitioned pair pairs c.requires) (λ a r g called. search rules) in
    place_is pair pairs _ (0, 0) c.partition_point.ensures.bound (λ k less. parts.0 k (0, 0) (omega arith) less) (λ less. parts.1 _ (0, 0) (omega arith) less)
