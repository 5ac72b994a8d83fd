use Rattle.std.proofs.Common.{◌≡◌, rules, nat_le, insert}
use Rattle.std.proofs.lemmas.List.Sorted.{IsPartitionPoint-from_clause, IsPartitionedBy-leb}
use Rattle.number_facts.specs.Differences.{Rise, put}
use Rattle.number_facts.proofs.DifferenceLists.{put_at}
use Rattle.number_facts.proofs.differences.put.Goals as goal

pub returns-clause-value : goal.returns-clause-value
returns-clause-value c =
    let ds = c.deref.result.now in
    let y = c.args.new.subtrahend.sym in
    let rise : Rise ds = search rules in
    let parts = IsPartitionPoint-from_clause (λ d. nat_le d.subtrahend.sym y) ds _ c.partition_point-place.ensures.partitioned
    (IsPartitionedBy-leb (λ d. d.subtrahend.sym) ds y rise) (λ a r g called. search rules) in
    let is = put_at ds c.args.new c.partition_point-place.result c.partition_point-place.ensures.bound parts.0 parts.1 in
    let there : insert c.args.differences.now.items c.partition_point-place.result c.args.new ≡ put c.args.differences.now.items c.args.new = search rules in
    search rules
