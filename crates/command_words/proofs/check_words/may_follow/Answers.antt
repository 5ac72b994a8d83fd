use Rattle.std.proofs.Common.{◌∙◌}
use Rattle.command_words.specs.Words.{is_check_word}
use Rattle.command_words.proofs.WordBytes.{all_words}
use Rattle.command_words.proofs.check_words.may_follow.Goals as goal

pub returns : goal.returns
returns c = c.are_each.ensures ∙ all_words is_check_word c.args.words.now
