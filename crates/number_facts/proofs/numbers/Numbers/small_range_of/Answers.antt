use Rattle.std.proofs.Common.{◌≡◌, rules}
use Rattle.number_facts.specs.Ends.{range_of}
use Rattle.number_facts.proofs.Small.{constant_low, small}
use Rattle.number_facts.proofs.numbers.Numbers.small_range_of.Goals as goal

pub returns-clause-ends : goal.returns-clause-ends
unfolding range_of
returns-clause-ends c =
    small c.args.self.now c.args.e c.left_to.result _ c.left_to.ensures.value (c.left_to.ensures.small c.requires.narrow) c.requires.there (search rules)

pub returns-clause-constant : goal.returns-clause-constant
unfolding range_of
returns-clause-constant c = λ none.
    let low : c.shifted.result.lo ≡ c.args.e.k = constant_low c.args.self.now c.args.e c.shifted.result (search rules) c.left_to.ensures.form none in
    search (rules, low)
