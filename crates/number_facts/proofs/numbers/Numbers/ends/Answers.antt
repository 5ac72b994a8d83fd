use Rattle.std.proofs.Common.{ℤ, FitsSigned, arith}
use Rattle.std.specs.Int.{w128}
use Rattle.std.proofs.lemmas.Int.{ints, to_z-of_z}
use Rattle.number_spans.specs.Sizes.{IsBounded}
use Rattle.number_facts.proofs.Knowing.{ends_hold}
use Rattle.number_facts.proofs.numbers.Numbers.ends.Goals as goal

fits : (n : ℤ) → IsBounded n → FitsSigned w128 n
fits n bound = omega (arith, ints, bound.least, bound.greatest)

pub returns-clause-sound : goal.returns-clause-sound
returns-clause-sound c =
    let low = to_z-of_z w128 c.range_of-r.result.lo (fits c.range_of-r.result.lo c.range_of-r.ensures.low) in
    let high = to_z-of_z w128 c.range_of-r.result.hi (fits c.range_of-r.result.hi c.range_of-r.ensures.high) in
    rw (low, high) (ends_hold c.args.self.now c.args.e c.range_of-r.result c.requires c.range_of-r.ensures.value)
