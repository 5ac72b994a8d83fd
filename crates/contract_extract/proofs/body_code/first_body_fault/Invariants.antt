-- The first fault of the instructions so far.
use Rattle.contract_extract.proofs.BlockLemmas.BodyFaults.{IsFirstSoFar}
use Rattle.contract_extract.proofs.body_code.first_body_fault.Given as goal

abbrev pub invariant-loop-instr : goal.invariant-loop-instr
invariant-loop-instr l = IsFirstSoFar l.start l.body l.instr-index l.first
