use Rattle.std.proofs.Common.{◌-◌, ◌∙◌, nat_lt, nat_le, length, drop, arith, rules}
use Rattle.std.proofs.lemmas.Bool.Decides.{nat_tests}
use Rattle.std.proofs.lemmas.List.{take_all, length-drop}
use Rattle.std.proofs.lemmas.List.Sorted.{IsPartitionPoint-from_clause, IsPartitionedBy-ltb}
use Rattle.pentagon_domain.proofs.Searches.{passing_rest}
use Rattle.pentagon_domain.proofs.search.rows_to_on.Goals as goal

pub returns : goal.returns
returns c =
    let rows = c.args.targets.now in
    let t = c.args.t in
    let start = c.partition_point-start.result in
    let within = c.partition_point-start.ensures.bound in
    let parts = IsPartitionPoint-from_clause (λ row. nat_lt row.t t) rows start c.partition_point-start.ensures.partitioned
    (IsPartitionedBy-ltb (λ row. row.t) rows t c.requires) (λ a r g called. search rules) in
    take_all (length rows - start) (drop start rows) (omega (arith, length-drop start rows))
    ∙ passing_rest (λ row. nat_le t row.t) rows start within
    (λ k d low high. let h = parts.0 k d low high in grind (arith, nat_tests)) (λ k d low high. let h = parts.1 k d low high in grind (arith, nat_tests))
