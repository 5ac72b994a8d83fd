use Rattle.std.proofs.Common.{◌≡◌, FitsSigned, w32, to_z, of_z, rules}
use Rattle.std.specs.Int.{w128}
use Rattle.std.proofs.lemmas.Int.{to_z-of_z}
use Rattle.number_facts.specs.Facts.{range_at}
use Rattle.number_facts.proofs.Small.{high_fits}
use Rattle.number_facts.proofs.numbers.Numbers.lowered_by.Goals as goal

pub returns-then-has-clause-small : goal.returns-then-has-clause-small
returns-then-has-clause-small c = λ narrow cut.
    let fits : FitsSigned w32 (range_at c.args.self.now c.args.row.now.t).hi = high_fits c.args.self.now c.args.row.now.t narrow in
    let own : to_z w128 (of_z w128 c.args.hi) ≡ c.args.hi = to_z-of_z w128 c.args.hi c.ranges.hi in
    let other : to_z w128 (of_z w128 c.difference_of.result) ≡ c.difference_of.result = search rules in
    let whole : to_z w128 (of_z w128 c.lesser.result) ≡ c.lesser.result = search rules in
    rw whole (c.lesser.ensures.small (rw own cut) (rw other (c.difference_of.ensures.small (search (rules, fits)))))
