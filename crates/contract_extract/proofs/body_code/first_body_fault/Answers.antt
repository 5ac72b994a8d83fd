use Rattle.std.proofs.Common.{refl}
use Rattle.contract_extract.proofs.BlockLemmas.BodyFaults.{all_met, next_first}
use Rattle.contract_extract.proofs.body_code.first_body_fault.Goals as goal

pub loop-instr-init : goal.loop-instr-init
loop-instr-init c = refl

pub loop-instr-preserved : goal.loop-instr-preserved
loop-instr-preserved c =
    next_first c.args.start c.args.body.now c.loop-instr.instr-index c.instr-item.result c.loop-instr.first c.body_fault.result c.either-first.result
    c.loop-instr-test.true c.instr-item.is c.body_fault.ensures c.either-first.ensures c.loop-instr.invariant

pub returns : goal.returns
returns c = all_met c.args.start c.args.body.now c.loop-instr.instr-index c.loop-instr.first c.loop-instr-test.false c.loop-instr.invariant
