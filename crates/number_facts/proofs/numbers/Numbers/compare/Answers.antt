use Rattle.number_facts.proofs.Forms.{compared_form, form_kept}
use Rattle.number_facts.proofs.Truths.{truth_where_ok}
use Rattle.number_facts.proofs.numbers.Numbers.compare.Goals as goal

pub returns-clause-keeps : goal.returns-clause-keeps
returns-clause-keeps c =
    truth_where_ok c.args.op c.args.self.now c.args.a c.args.b c.compared.result c.compared.new.self c.requires.first c.requires.second c.compared.ensures.value
    c.compared.ensures.facts

pub returns-clause-form : goal.returns-clause-form
returns-clause-form c =
    form_kept c.compared.result c.args.self.now _ c.compared.new.self (compared_form c.args.op c.args.self.now c.args.a c.args.b c.requires.first c.requires.second)
    c.compared.ensures.facts c.compared.ensures.err
