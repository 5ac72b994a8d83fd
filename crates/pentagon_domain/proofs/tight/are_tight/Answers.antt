use Rattle.std.proofs.Common.{◌≡◌, length, rules, arith}
use Rattle.std.specs.List.{AllByRecursion}
use Rattle.pentagon_domain.specs.Gaps.{AreBelow}
use Rattle.pentagon_domain.proofs.TightTests.{tight_all}
use Rattle.pentagon_domain.proofs.tight.are_tight.Goals as goal

pub returns : goal.returns
returns c = λ _.
    let ends = c.args.ends.now in
    let rows = c.args.bounds.now in
    let count : c.in-Ok.count ≡ length ends = search rules in
    let below : AllByRecursion (AreBelow c.in-Ok.count) rows = rw c.rows.ensures.value at (c.are_below.ensures c.if-not-are_below.false) in
    tight_all ends rows (rw count at below) (λ s inside. c.loop-s.invariant s (omega (arith, inside, count, c.loop-s-test.false)))
