use Rattle.std.proofs.Common.{◌-◌, ◌∙◌, nat_le, length, drop, arith}
use Rattle.std.proofs.lemmas.Bool.Decides.{nat_tests}
use Rattle.std.proofs.lemmas.List.{take_all, length-drop}
use Rattle.pentagon_domain.proofs.Searches.{passing_rest}
use Rattle.pentagon_domain.proofs.search.rows_on_near.Goals as goal

pub returns-then-parts_at : goal.returns-then-parts_at
returns-then-parts_at c =
    let rows = c.args.rows.now in
    let place = c.args.place in
    let within = c.parts_at.ensures.within c.if-parts_at.true in
    let low = c.parts_at.ensures.low c.if-parts_at.true in
    let high = c.parts_at.ensures.high c.if-parts_at.true in
    take_all (length rows - place) (drop place rows) (omega (arith, length-drop place rows))
    ∙ passing_rest (λ row. nat_le c.args.s row.s) rows place within
    (λ k d low_k high_k. let h = low k d low_k high_k in grind (arith, nat_tests)) (λ k d low_k high_k. let h = high k d low_k high_k in grind (arith, nat_tests))
