use Rattle.std.proofs.Common.{◌-◌, ◌∙◌, nat_lt, nat_le, length, drop, arith, rules}
use Rattle.std.proofs.lemmas.Bool.Decides.{nat_tests}
use Rattle.std.proofs.lemmas.List.{take_all, length-drop}
use Rattle.std.proofs.lemmas.List.Sorted.{IsPartitionPoint-from_clause, IsPartitionedBy-ltb}
use Rattle.pentagon_domain.proofs.Searches.{passing_rest}
use Rattle.number_facts.proofs.differences.subtracting_from.Goals as goal

pub returns : goal.returns
returns c =
    let ds = c.args.differences.now in
    let y = c.args.y in
    let start = c.partition_point-start.result in
    let within = c.partition_point-start.ensures.bound in
    let parts = IsPartitionPoint-from_clause (λ d. nat_lt d.subtrahend.sym y) ds start c.partition_point-start.ensures.partitioned
    (IsPartitionedBy-ltb (λ d. d.subtrahend.sym) ds y c.requires) (λ a r g called. search rules) in
    take_all (length ds - start) (drop start ds) (omega (arith, length-drop start ds))
    ∙ passing_rest (λ d. nat_le y d.subtrahend.sym) ds start within
    (λ k d low high. let h = parts.0 k d low high in grind (arith, nat_tests)) (λ k d low high. let h = parts.1 k d low high in grind (arith, nat_tests))
