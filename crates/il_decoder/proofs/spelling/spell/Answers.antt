use Rattle.il_decoder.proofs.SpellingLemmas.{spelling}
use Rattle.il_decoder.proofs.spelling.spell.Goals as goal

pub returns-in_err-put_spelling-clause-spelling : goal.returns-in_err-put_spelling-clause-spelling
returns-in_err-put_spelling-clause-spelling c = spelling c.args.instr.now c.requires.spelled
