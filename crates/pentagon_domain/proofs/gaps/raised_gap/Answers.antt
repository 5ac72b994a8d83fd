use Rattle.std.proofs.Common.{◌∙◌}
use Rattle.std.proofs.lemmas.Int.{to_z-of_z}
use Rattle.std.specs.Int.{w128}
use Rattle.pentagon_domain.proofs.Reaches.{gap_with_apart}
use Rattle.pentagon_domain.proofs.gaps.raised_gap.Goals as goal

pub returns-clause-with_ranges : goal.returns-clause-with_ranges
returns-clause-with_ranges c = λ rows s t apart is.
    let greater = rw (to_z-of_z w128 c.args.exact c.ranges.exact, is) at c.greater_of.ensures in
    greater ∙ gap_with_apart rows c.args.exact s t apart
