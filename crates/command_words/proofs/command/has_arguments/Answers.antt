use Rattle.std.proofs.Common.{ap, ◌∙◌}
use Rattle.std.specs.List.{list_all}
use Rattle.run_arguments.specs.Arguments.{is_argument}
use Rattle.command_words.proofs.WordBytes.{all_words}
use Rattle.command_words.proofs.command.has_arguments.Goals as goal

pub returns : goal.returns
returns c = c.are_arguments.ensures ∙ all_words is_argument c.run_args.result.now ∙ ap (list_all is_argument) c.run_args.ensures.args
