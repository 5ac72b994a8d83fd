use Rattle.std.proofs.Common.{◌≡◌, w64, to_z, of_z, rules}
use Rattle.std.specs.Int.{w128}
use Rattle.std.proofs.lemmas.Int.{to_z-of_z}
use Rattle.number_facts.proofs.Uppers.{regrouped}
use Rattle.number_facts.proofs.additions.constant_above.Goals as goal

pub returns-clause-value : goal.returns-clause-value
returns-clause-value c =
    let a : to_z w64 (of_z w64 c.args.a.k) ≡ c.args.a.k = search rules in
    let b : to_z w64 (of_z w64 c.args.b.k) ≡ c.args.b.k = search rules in
    let x : to_z w64 (of_z w64 c.args.x.k) ≡ c.args.x.k = search rules in
    let y : to_z w64 (of_z w64 c.args.y.k) ≡ c.args.y.k = search rules in
    let g : to_z w64 (of_z w64 c.args.gap) ≡ c.args.gap = to_z-of_z w64 c.args.gap c.ranges.gap in
    let low : to_z w128 (of_z w128 c.sum_of.result) ≡ c.sum_of.result = search rules in
    let high : to_z w128 (of_z w128 c.sum_of-2.result) ≡ c.sum_of-2.result = search rules in
    let far : to_z w128 (of_z w128 c.far.result) ≡ c.far.result = search rules in
    let all : to_z w128 (of_z w128 c.and_more.result) ≡ c.and_more.result = search rules in
    rw (all, c.and_more.ensures.value, far, c.far.ensures.value, low, high, c.sum_of.ensures.value, c.sum_of-2.ensures.value, a, b, x, y, g)
    (regrouped c.args.a.k c.args.b.k c.args.x.k c.args.y.k c.args.gap)
