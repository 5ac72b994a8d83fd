use Rattle.std.proofs.Common.{◌∙◌}
use Rattle.command_words.specs.Words.{is_show}
use Rattle.command_words.proofs.WordBytes.{position_of_words}
use Rattle.command_words.proofs.check_words.show_place.Goals as goal

pub returns-clause-value : goal.returns-clause-value
returns-clause-value c = c.first_show.ensures.value ∙ position_of_words is_show c.args.words.now
