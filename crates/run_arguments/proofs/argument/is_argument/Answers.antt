use Rattle.std.proofs.Common.{sym, ◌∙◌}
use Rattle.run_arguments.proofs.TextLemmas.{text_accepted, accepted_text}
use Rattle.run_arguments.proofs.argument.is_argument.Goals as goal

pub returns-clause-every : goal.returns-clause-every
returns-clause-every c = λ arg r e. c.has_form.ensures ∙ text_accepted c.args.word.now arg r e

pub returns-clause-only : goal.returns-clause-only
returns-clause-only c = λ e. accepted_text c.args.word.now (sym c.has_form.ensures ∙ e)
