use Rattle.std.proofs.Common.{◌+ℤ◌, w64}
use Rattle.std.proofs.lemmas.Int.{to_z-of_z}
use Rattle.pentagon_domain.specs.Gaps.{cut}
use Rattle.pentagon_domain.proofs.Reaches.{raise_there, raise_past}
use Rattle.pentagon_domain.proofs.gaps.raise.Goals as goal

pub returns-then-place-gaps : goal.returns-then-place-gaps
returns-then-place-gaps c = λ i inside.
    let raised = rw (to_z-of_z w64 c.args.a c.ranges.a, to_z-of_z w64 c.args.b c.ranges.b) at c.raise_gap.ensures in
    raise_there c.args.gaps.now c.args.t i c.raise_gap.new.gap (cut (c.args.a +ℤ c.args.b)) c.if-place-gaps.true raised

pub returns-else-place-gaps : goal.returns-else-place-gaps
returns-else-place-gaps c = λ i inside. raise_past c.args.gaps.now c.args.t i (cut (c.args.a +ℤ c.args.b)) c.if-place-gaps.false inside
