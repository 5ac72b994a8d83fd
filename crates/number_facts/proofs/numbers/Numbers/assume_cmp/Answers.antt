use Rattle.number_facts.specs.Assume.{assumed}
use Rattle.number_facts.proofs.Forms.{form_where_ok}
use Rattle.number_facts.proofs.Keeping.{kept_where_ok}
use Rattle.number_facts.proofs.numbers.Numbers.assume_cmp.Goals as goal

pub returns-clause-keeps : goal.returns-clause-keeps
unfolding assumed
returns-clause-keeps c =
    kept_where_ok c.args.op c.args.self.now c.args.a c.args.b c.args.holds c.assume_holding.result c.assume_holding.new.self c.requires.first c.requires.second
    (rw c.assumed.ensures at c.assume_holding.ensures.reached) (rw c.assumed.ensures at c.assume_holding.ensures.facts)

pub returns-clause-form : goal.returns-clause-form
unfolding assumed
returns-clause-form c =
    form_where_ok c.args.op c.args.self.now c.args.a c.args.b c.args.holds c.assume_holding.result c.assume_holding.new.self c.requires.first c.requires.second
    (rw c.assumed.ensures at c.assume_holding.ensures.facts)
