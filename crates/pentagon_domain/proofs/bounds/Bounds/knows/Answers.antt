use Rattle.std.proofs.Common.{◌≤ℤ◌, ◌∙◌, sym, arith}
use Rattle.std.proofs.lemmas.Int.{ints}
use Rattle.pentagon_domain.proofs.Known.{with_bound_known}
use Rattle.pentagon_domain.proofs.bounds.Bounds.knows.Goals as goal

pub returns-in-Some : goal.returns-in-Some
returns-in-Some c = λ yes.
    let row = c.args.row.now in
    let less : row.k ≤ℤ c.in-Some.k = grind (arith, ints, yes) in
    let is = rw c.rows.ensures.value at c.stored.ensures in
    with_bound_known c.args.self.now row.s row.t row.k c.in-Some.k c.rows.ensures.form (sym is ∙ c.in-Some.is) less
