use Rattle.run_arguments.proofs.TextLemmas.{list_given}
use Rattle.run_arguments.proofs.argument.parse_argument.Goals as goal

pub returns-in-Some-between_brackets : goal.returns-in-Some-between_brackets
returns-in-Some-between_brackets c =
    list_given c.args.place c.args.word.now c.in-Some-between_brackets.items.now c.read_list.result c.in-Some-between_brackets.ensures c.read_list.ensures
