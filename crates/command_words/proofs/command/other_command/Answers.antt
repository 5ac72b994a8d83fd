use Rattle.std.proofs.Common.{sym, ap, ◌∙◌}
use Rattle.std.specs.Prelude.{codes}
use Rattle.std.specs.Str.{bytes_eq}
use Rattle.command_words.proofs.RunWordLemmas.{run_words}
use Rattle.command_words.proofs.command.other_command.Goals as goal

pub returns-in-len3-up-clause-command : goal.returns-in-len3-up-clause-command
returns-in-len3-up-clause-command c =
    let is = ap (λ word. bytes_eq word (codes "run")) (sym c.as_str.ensures.value) ∙ sym c.eq.ensures ∙ c.if-eq.true in
    c.run_command.ensures.command ∙ run_words c.args.words.now c.word-item-2.result c.in-len3-up.len_at_least c.word-item-2.is is
