-- The words for the faults of a proof file, and the offsets that are told with them.
use Rattle.std.specs.Prelude.{ℕ, List, codes}
use Rattle.proof_files.specs.declared.proof_fault.ProofFault.{ProofFault}
use Rattle.proof_files.specs.declared.proof_fault.ProofFault.TheVariants as faults

abbrev pub proof_fault_text : ProofFault → List ℕ
proof_fault_text faults.Version = codes "proof version"
proof_fault_text (faults.Form at) = codes "proof form"
proof_fault_text faults.Large = codes "proof too large"

-- One that is too large is told at the number of bytes that it may have.
abbrev pub proof_fault_at : ProofFault → ℕ
proof_fault_at faults.Version = 0
proof_fault_at (faults.Form at) = at
proof_fault_at faults.Large = 67_108_864
