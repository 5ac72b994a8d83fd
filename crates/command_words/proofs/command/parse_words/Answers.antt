use Rattle.command_words.specs.Words.{words_bytes}
use Rattle.command_words.proofs.RunWordLemmas.{none_runs}
use Rattle.command_words.proofs.command.parse_words.Goals as goal

pub returns-in-len1-up-clause-arguments : goal.returns-in-len1-up-clause-arguments
returns-in-len1-up-clause-arguments c = none_runs c.check_command.result (words_bytes c.args.words.now) c.check_command.ensures.no_run
