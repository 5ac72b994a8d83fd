use Rattle.std.proofs.Common.{w64}
use Rattle.std.proofs.lemmas.Int.{to_z-of_z}
use Rattle.number_facts.proofs.Forms.{fresh_form, form_kept}
use Rattle.number_facts.proofs.NewSymbols.{fresh_where_ok}
use Rattle.number_facts.proofs.numbers.Numbers.fresh.Goals as goal

pub returns-clause-keeps : goal.returns-clause-keeps
returns-clause-keeps c =
    fresh_where_ok c.args.self.now c.args.lo c.args.hi c.args.hole c.fresh_number.result c.fresh_number.new.self
    (rw (to_z-of_z w64 c.args.lo c.ranges.lo, to_z-of_z w64 c.args.hi c.ranges.hi) at c.fresh_number.ensures.value)
    (rw (to_z-of_z w64 c.args.lo c.ranges.lo, to_z-of_z w64 c.args.hi c.ranges.hi) at c.fresh_number.ensures.facts)

pub returns-clause-form : goal.returns-clause-form
returns-clause-form c =
    form_kept c.fresh_number.result c.args.self.now _ c.fresh_number.new.self (fresh_form c.args.self.now c.args.lo c.args.hi c.args.hole)
    (rw (to_z-of_z w64 c.args.lo c.ranges.lo, to_z-of_z w64 c.args.hi c.ranges.hi) at c.fresh_number.ensures.facts) c.fresh_number.ensures.err
