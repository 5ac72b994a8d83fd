use Rattle.std.proofs.Common.{rules}
use Rattle.number_facts.proofs.numbers.Numbers.left_to.Goals as goal

pub returns-clause-small : goal.returns-clause-small
returns-clause-small c = λ narrow.
    let cut = c.cut_ends-ends.ensures.small narrow in
    let low = cut.low in
    let high = cut.high in
    c.met-2.ensures.small (search (rules, low)) (search (rules, high))
