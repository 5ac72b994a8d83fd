use Rattle.std.proofs.Common.{nat_le, arith}
use Rattle.std.proofs.lemmas.Bool.Decides.{nat_tests}
use Rattle.pentagon_domain.proofs.Searches.{passing_prefix}
use Rattle.pentagon_domain.proofs.search.rows_until_near.Goals as goal

pub returns-then-parts_at : goal.returns-then-parts_at
returns-then-parts_at c =
    let rows = c.args.rows.now in
    let within = c.parts_at.ensures.within c.if-parts_at.true in
    let low = c.parts_at.ensures.low c.if-parts_at.true in
    let high = c.parts_at.ensures.high c.if-parts_at.true in
    passing_prefix (λ row. nat_le row.s c.args.s) rows c.args.place within
    (λ k d low_k high_k. let h = low k d low_k high_k in grind (arith, nat_tests)) (λ k d low_k high_k. let h = high k d low_k high_k in grind (arith, nat_tests))
