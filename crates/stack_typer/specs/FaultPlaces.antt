-- Where a fault of stacks stands.
use Rattle.std.specs.Prelude.{ℕ}
use Rattle.cil_model.specs.declared.type_fault.TypeFault.{TypeFault}
use Rattle.cil_model.specs.declared.type_fault.TypeFault.TheVariants.{Underflow, Conflict, WrongKind, FallsOff, Deep}

-- The IL offset of a fault.
abbrev pub type_fault_at : TypeFault → ℕ
type_fault_at (Underflow at) = at
type_fault_at (Conflict at) = at
type_fault_at (WrongKind at) = at
type_fault_at (FallsOff at) = at
type_fault_at (Deep at) = at
