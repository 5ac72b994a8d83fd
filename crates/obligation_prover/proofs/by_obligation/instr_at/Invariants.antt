use Rattle.std.proofs.Common.{◌≡◌, drop}
use Rattle.cil_model.specs.Runs.{instr_at}
use Rattle.obligation_prover.proofs.by_obligation.instr_at.Given as goal

abbrev pub invariant-loop-instr : goal.invariant-loop-instr
invariant-loop-instr l = instr_at l.instrs l.at ≡ instr_at (drop l.instr-index l.instrs) l.at
