use Rattle.std.proofs.Common.{◌∙◌}
use Rattle.command_words.specs.Words.{is_infer}
use Rattle.command_words.proofs.WordBytes.{position_of_words}
use Rattle.command_words.proofs.check_words.infer_place.Goals as goal

pub returns-clause-value : goal.returns-clause-value
returns-clause-value c = c.first_infer.ensures.value ∙ position_of_words is_infer c.args.words.now
