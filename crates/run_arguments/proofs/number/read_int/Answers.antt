use Rattle.std.proofs.Common.{sym}
use Rattle.run_arguments.proofs.NumberLemmas.{int_none, unparsed_int}
use Rattle.run_arguments.proofs.number.read_int.Goals as goal

pub returns-in_default : goal.returns-in_default
returns-in_default c =
    sym (int_none c.args.word.now (λ n h e. unparsed_int c.args.word.now c.parse.result _ n c.parse.ensures.value.0 c.in_default.is h e))
