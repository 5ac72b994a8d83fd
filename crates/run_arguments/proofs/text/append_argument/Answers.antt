use Rattle.run_arguments.proofs.TextLemmas.{text_is_read}
use Rattle.run_arguments.proofs.text.append_argument.Goals as goal

pub returns-clause-read : goal.returns-clause-read
returns-clause-read c = λ place range for. text_is_read place c.args.arg.now range for
