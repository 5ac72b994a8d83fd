use Rattle.run_arguments.proofs.TextLemmas.{text_given, range_given, only_given}
use Rattle.run_arguments.proofs.argument.read_argument.Goals as goal

pub returns-clause-text : goal.returns-clause-text
returns-clause-text c = text_given c.args.place c.args.word.now c.parse_argument.result c.parse_argument.ensures

pub returns-clause-in_range : goal.returns-clause-in_range
returns-clause-in_range c = range_given c.args.place c.args.word.now c.parse_argument.result c.parse_argument.ensures

pub returns-clause-only : goal.returns-clause-only
returns-clause-only c = only_given c.args.place c.args.word.now c.parse_argument.result c.parse_argument.ensures
