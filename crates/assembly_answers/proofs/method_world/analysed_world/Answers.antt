use Rattle.unit_builder.specs.Reach.{itself}
use Rattle.assembly_answers.proofs.Runnable.{can_be_run, has_first}
use Rattle.assembly_answers.proofs.method_world.analysed_world.Goals as goal

pub returns-in-Ok-clause-can_be_run : goal.returns-in-Ok-clause-can_be_run
returns-in-Ok-clause-can_be_run c = can_be_run c.in-Ok.world c.in-Ok.ensures.units c.in-Ok.ensures.agree

pub returns-in-Ok-clause-method : goal.returns-in-Ok-clause-method
returns-in-Ok-clause-method c = has_first _ c.args.token.0 c.in-Ok.world c.in-Ok.ensures.judged.1 (c.in-Ok.ensures.analysed c.args.token.0 itself)
