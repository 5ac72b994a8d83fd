use Rattle.std.proofs.Common.{w64, FitsSigned, rules}
use Rattle.std.proofs.lemmas.Int.{to_z-of_z}
use Rattle.pentagon_domain.proofs.bounds.Bounds.raise_next.Goals as goal

pub returns-then-rows-lt-MANY-clause-value : goal.returns-then-rows-lt-MANY-clause-value
returns-then-rows-lt-MANY-clause-value c = rw c.rows-rows.ensures.value at c.raise_among.ensures

pub returns-else-rows-lt-MANY-clause-value : goal.returns-else-rows-lt-MANY-clause-value
returns-else-rows-lt-MANY-clause-value c = λ t inside.
    let first : FitsSigned w64 c.args.first.now.k = search rules in
    rw (to_z-of_z w64 c.args.first.now.k first, c.rows_near.ensures.value) at (c.raise_all.ensures t inside)
