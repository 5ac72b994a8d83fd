use Rattle.il_decoder.proofs.Reading.{read-none, read-refused}
use Rattle.il_decoder.proofs.code.read_instructions.Goals as goal

pub loop-at-init : goal.loop-at-init
loop-at-init c = read-none c.args.code.now c.new-instrs.result.items c.new-instrs.ensures.items

pub returns-in_err-instr-clause-judged : goal.returns-in_err-instr-clause-judged
returns-in_err-instr-clause-judged c =
    read-refused c.from_residual.result c.in_err-instr.field-0.0 c.args.code.now c.loop-at.instrs.items c.loop-at.at _ c.from_residual.ensures.1 c.loop-at.invariant c.loop-at-test.true
    c.in_err-instr.ensures.exact
