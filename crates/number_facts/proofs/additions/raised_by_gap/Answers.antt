use Rattle.std.proofs.Common.{◌≡◌, to_z, of_z, rules}
use Rattle.std.specs.Int.{w128}
use Rattle.std.proofs.lemmas.Int.{to_z-of_z}
use Rattle.number_facts.proofs.Uppers.{greater_bounded}
use Rattle.number_facts.proofs.additions.raised_by_gap.Goals as goal

pub returns-in-Some-clause-bound : goal.returns-in-Some-clause-bound
returns-in-Some-clause-bound c =
    let end : to_z w128 (of_z w128 c.args.n) ≡ c.args.n = to_z-of_z w128 c.args.n c.ranges.n in
    let sum : to_z w128 (of_z w128 c.more_by.result) ≡ c.more_by.result = search rules in
    let greater : to_z w128 (of_z w128 c.max.result) ≡ c.max.result = search rules in
    rw (greater, c.max.ensures.value, end, sum) (greater_bounded c.args.n c.more_by.result c.requires.end c.more_by.ensures.bound)
