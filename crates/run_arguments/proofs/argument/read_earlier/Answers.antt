use Rattle.std.proofs.Common.{None, sym, ◌∙◌, lit<}
use Rattle.std.proofs.lemmas.Str.Pattern.{strip_prefix_char}
use Rattle.run_arguments.proofs.WordLemmas.{earlier_none}
use Rattle.run_arguments.proofs.argument.read_earlier.Goals as goal

pub returns-in_err-strip_prefix : goal.returns-in_err-strip_prefix
returns-in_err-strip_prefix c =
    c.from_residual.ensures
    ∙ sym (earlier_none c.args.word.now (strip_prefix_char 64 c.args.word.now None c.in_err-strip_prefix.ensures.cases (lit< tt)))
