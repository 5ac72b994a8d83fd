use Rattle.std.proofs.Common.{◌≡◌}
use Rattle.method_code.specs.Numbering.{numbered_instr}
use Rattle.method_code.proofs.NumberedItems.{changed}
use Rattle.method_code.proofs.numbers.number_code.Given as goal

abbrev pub invariant-loop-instr : goal.invariant-loop-instr
invariant-loop-instr g l = l.instr-items ≡ changed (numbered_instr (g.T.Tokens.meaning l.tokens) l.callees) l.instr-index l.fn.instrs.items
