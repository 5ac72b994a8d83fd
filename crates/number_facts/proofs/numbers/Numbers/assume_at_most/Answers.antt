use Rattle.std.proofs.Common.{◌≡◌, pos, ◌+ℤ◌, ◌-ℤ◌, false, w64, rules}
use Rattle.std.proofs.lemmas.Int.{to_z-of_z}
use Rattle.number_facts.specs.Fresh.{bounded}
use Rattle.number_facts.specs.Gaps.{at_most}
use Rattle.number_facts.proofs.Assuming.{cut_behind}
use Rattle.number_facts.proofs.numbers.Numbers.assume_at_most.Goals as goal

pub returns-clause-facts : goal.returns-clause-facts
returns-clause-facts c = λ reached.
    let other : at_most c.args.self.now c.args.b (pos 1 -ℤ c.args.more) c.args.a ≡ false = search rules in
    let stored : c.bound.new.self ≡ bounded c.args.self.now c.args.a.sym c.args.b.sym ((c.args.a.k +ℤ c.args.more) -ℤ c.args.b.k) = search rules in
    cut_behind c.args.self.now c.bound.new.self c.cut_both.new.self c.args.a c.args.b c.args.more other stored (rw (to_z-of_z w64 c.args.more c.ranges.more) at (c.cut_both.ensures.facts reached))
