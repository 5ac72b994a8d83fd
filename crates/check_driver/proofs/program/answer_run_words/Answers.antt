use Rattle.std.proofs.Common.{◌-◌}
use Rattle.command_words.proofs.RunWordLemmas.{are_arguments, words_between}
use Rattle.check_driver.proofs.program.answer_run_words.Goals as goal

pub answer_run-requires : goal.answer_run-requires
answer_run-requires g c = record { args = are_arguments (c.args.run.args_end - 3) 3 c.args.words.now c.requires.args.each }

pub returns : goal.returns
returns g c =
    let args = words_between (c.args.run.args_end - 3) 3 c.args.words.now in
    rw (c.names_at.ensures.file, c.names_at.ensures.method, args) at c.answer_run.ensures
