use Rattle.method_code.specs.Called.{calls_in}
use Rattle.method_code.proofs.FirstUses.{all_put}
use Rattle.method_code.proofs.callees.CalleeSet.of.Goals as goal

pub loop-instr-init : goal.loop-instr-init
loop-instr-init g c = all_put c.new-set.result.keys (calls_in (g.T.Tokens.meaning c.args.tokens.now) c.args.instrs.now) c.new-set.ensures.empty
