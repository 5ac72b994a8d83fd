use Rattle.cil_eval.proofs.ActLemmas.{performed_effects}
use Rattle.cil_eval.proofs.effect.effect.Goals as goal

pub returns-clause-effects : goal.returns-clause-effects
returns-clause-effects c =
    performed_effects c.args.memory.now.limit c.args.unit.now c.args.index c.args.instr.now c.args.frames.now c.act.new.frames c.perform-action.new.frames
    c.args.memory.now.heap c.perform-action.new.memory.heap c.act.result c.perform-action.result c.perform-action.ensures.performs c.perform-action.ensures.stays
    c.act.ensures.frames c.act.ensures.stop
