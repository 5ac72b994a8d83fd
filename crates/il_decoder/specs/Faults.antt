-- Where a fault stands.
use Rattle.std.specs.Prelude.{ℕ}
use Rattle.il_decoder.specs.declared.fault.IlFault.{IlFault}
use Rattle.il_decoder.specs.declared.fault.IlFault.TheVariants.{Short, Opcode, Target, Header}

-- The IL offset of a fault.
abbrev pub fault_at : IlFault → ℕ
fault_at (Short at) = at
fault_at (Opcode at opcode) = at
fault_at (Target at) = at
fault_at (Header at) = at
