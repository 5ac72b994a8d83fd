use Rattle.std.proofs.Common.{◌≡◌, ◌++◌, drop}
use Rattle.method_code.specs.Numbering.{spelled_code}
use Rattle.method_code.proofs.code_spelling.spell_code.Given as goal

abbrev pub invariant-loop-instr : goal.invariant-loop-instr
invariant-loop-instr l = l.code.items ++ spelled_code (drop l.instr-index l.instrs) ≡ spelled_code l.instrs
