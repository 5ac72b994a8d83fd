-- What `?` carries up from a part of an instruction.
use Rattle.std.proofs.Common.{◌≡◌, Result, Ok, Err}
use Rattle.std.specs.Prelude.{IsErrAnd}
use Rattle.cc_base.specs.declared.refusal.Refusal.{Refusal}
use Rattle.cc_base.specs.declared.refusal.Refusal.TheVariants.{Bad, NoMemory}
use Rattle.cil_model.specs.declared.instruction.Instr.{Instr}
use Rattle.il_decoder.specs.declared.fault.IlFault.{IlFault}
use Rattle.il_decoder.specs.Decodes.{Gives, TakesMemory}

pub gives_fault : (r : Result Instr (Refusal IlFault)) (fault : IlFault) (decoded : Result Instr IlFault)
    → IsErrAnd r (λ refusal. refusal ≡ Bad fault) → decoded ≡ Err fault → Gives r decoded
gives_fault (Ok i) fault decoded is e = elim is [ ]
gives_fault (Err refusal) fault decoded is e = rw is e

pub gives_no_memory : (r : Result Instr (Refusal IlFault)) (decoded : Result Instr IlFault)
    → IsErrAnd r (λ refusal. refusal ≡ NoMemory) → TakesMemory decoded → Gives r decoded
gives_no_memory (Ok i) decoded is takes = elim is [ ]
gives_no_memory (Err refusal) decoded is takes = rw is takes

pub ruleset carried = (gives_fault, gives_no_memory)
