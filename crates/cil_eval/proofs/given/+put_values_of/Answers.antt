use Rattle.cil_eval.proofs.StartLemmas.{values_put}
use Rattle.cil_eval.proofs.given.+put_values_of.Goals as goal

pub returns-in-len1-up : goal.returns-in-len1-up
returns-in-len1-up t c = rw (c.put_values_of.ensures, c.push.ensures, c.value_at.ensures) (values_put c.args.args.now c.args.values.now c.in-len1-up.len_at_least)
