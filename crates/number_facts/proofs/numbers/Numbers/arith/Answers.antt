use Rattle.number_facts.proofs.Forms.{form_kept}
use Rattle.number_facts.proofs.ResultForms.{result_form, there_where_ok}
use Rattle.number_facts.proofs.ResultLaws.{result_where_ok}
use Rattle.number_facts.proofs.numbers.Numbers.arith.Goals as goal

pub returns-clause-keeps : goal.returns-clause-keeps
returns-clause-keeps c =
    result_where_ok c.args.op c.args.self.now c.args.a c.args.b c.settled.result c.settled.new.self c.requires.first.there
    c.requires.second.there c.requires.narrow c.settled.ensures.value c.settled.ensures.facts

pub returns-clause-there : goal.returns-clause-there
returns-clause-there c =
    there_where_ok c.args.op c.args.self.now c.args.a c.args.b c.settled.result c.settled.new.self c.requires.first.there
    c.requires.second.there c.settled.ensures.value c.settled.ensures.facts

pub returns-clause-form : goal.returns-clause-form
returns-clause-form c =
    form_kept c.settled.result c.args.self.now _ c.settled.new.self
    (result_form c.args.op c.args.self.now c.args.a c.args.b c.requires.first.there c.requires.second.there)
    c.settled.ensures.facts c.settled.ensures.err
