use Rattle.std.proofs.Common.{◌≡◌, FitsSigned, w32, to_z, of_z, rules}
use Rattle.std.specs.Int.{w128}
use Rattle.std.proofs.lemmas.Int.{to_z-of_z}
use Rattle.number_facts.specs.Facts.{range_at}
use Rattle.number_facts.proofs.Small.{low_fits}
use Rattle.number_facts.proofs.numbers.Numbers.raised_by.Goals as goal

pub returns-then-has-clause-small : goal.returns-then-has-clause-small
returns-then-has-clause-small c = λ narrow cut.
    let fits : FitsSigned w32 (range_at c.args.self.now c.args.row.now.s).lo = low_fits c.args.self.now c.args.row.now.s narrow in
    let own : to_z w128 (of_z w128 c.args.lo) ≡ c.args.lo = to_z-of_z w128 c.args.lo c.ranges.lo in
    let other : to_z w128 (of_z w128 c.sum_of.result) ≡ c.sum_of.result = search rules in
    let whole : to_z w128 (of_z w128 c.greater.result) ≡ c.greater.result = search rules in
    rw whole (c.greater.ensures.small (rw own cut) (rw other (c.sum_of.ensures.small (search (rules, fits)))))
