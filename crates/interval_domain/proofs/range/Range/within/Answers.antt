use Rattle.std.proofs.Common.{rules, ◌≡◌, subst, w64, FitsSigned, arith}
use Rattle.std.proofs.lemmas.Int.{ints}
use Rattle.interval_domain.specs.Interval.{Interval, IsRange}
use Rattle.interval_domain.specs.Joins.{within}
use Rattle.interval_domain.specs.Laws.JoinsContain.{tells_within}
use Rattle.interval_domain.proofs.range.Range.within.Goals as goal

pub returns-then-hi-other-clause-exact : goal.returns-then-hi-other-clause-exact
unfolding within
returns-then-hi-other-clause-exact c =
    let value : c.excludes_hole-excluded.result ≡ within c.args.self.now c.args.other.now = search rules in
    tells_within c.args.self.now c.args.other.now c.excludes_hole-excluded.result
    (subst (λ (range : Interval). IsRange range.lo range.hi range.hole) c.self.view_is c.self.invariant)
    (subst (λ (range : Interval). FitsSigned w64 range.lo) c.self.view_is (omega (arith, ints)))
    (subst (λ (range : Interval). FitsSigned w64 range.hi) c.self.view_is (omega (arith, ints)))
    value

pub returns-else-hi-other-clause-exact : goal.returns-else-hi-other-clause-exact
unfolding within
returns-else-hi-other-clause-exact c =
    let value : c.if-other-lo.value ≡ within c.args.self.now c.args.other.now = search rules in
    tells_within c.args.self.now c.args.other.now c.if-other-lo.value
    (subst (λ (range : Interval). IsRange range.lo range.hi range.hole) c.self.view_is c.self.invariant)
    (subst (λ (range : Interval). FitsSigned w64 range.lo) c.self.view_is (omega (arith, ints)))
    (subst (λ (range : Interval). FitsSigned w64 range.hi) c.self.view_is (omega (arith, ints)))
    value
