use Rattle.std.proofs.Common.{◌≡◌, ℕ, ℤ, Some, to_z, of_z, rules}
use Rattle.std.specs.Int.{w128}
use Rattle.std.specs.Option.{option_map}
use Rattle.std.proofs.lemmas.Int.{to_z-of_z}
use Rattle.domain_api.specs.declared.expr.Expr.{Expr}
use Rattle.number_facts.specs.Additions.{above_difference}
use Rattle.number_facts.proofs.Uppers.{cut_some}
use Rattle.number_facts.proofs.numbers.Numbers.cut_once.Goals as goal

pub returns-in-Some : goal.returns-in-Some
returns-in-Some c =
    let some = above_difference c.args.self.now c.args.a c.args.b c.args.difference.now in
    let is : option_map {U = ℕ × ℤ} (λ (u : Expr). (u.sym, u.k)) some ≡ Some (c.in-Some.sym, c.in-Some.k) = search rules in
    let end : to_z w128 (of_z w128 c.args.hi) ≡ c.args.hi = to_z-of_z w128 c.args.hi c.ranges.hi in
    let low : to_z w128 (of_z w128 c.min.result) ≡ c.min.result = search rules in
    let cut : to_z w128 (of_z w128 c.end_of.result) ≡ c.end_of.result = search rules in
    let left : to_z w128 (of_z w128 c.left_to.result.hi) ≡ c.left_to.result.hi = search rules in
    let more : to_z w128 (of_z w128 c.in-Some.k) ≡ c.in-Some.k = search rules in
    rw (low, c.min.ensures.value, end, cut, c.end_of.ensures, left, more, c.left_to.ensures.value)
    (cut_some c.args.self.now some c.in-Some.sym c.in-Some.k c.args.hi is)
