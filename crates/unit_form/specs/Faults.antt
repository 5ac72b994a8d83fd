-- Where a fault stands.
use Rattle.std.specs.Prelude.{ℕ}
use Rattle.unit_form.specs.declared.unit_fault.UnitFault.{UnitFault}
use Rattle.unit_form.specs.declared.unit_fault.UnitFault.TheVariants.{Short, Form, Version}

-- The offset in the file that a fault names.
abbrev pub fault_at : UnitFault → ℕ
fault_at (Short offset) = offset
fault_at (Form offset) = offset
fault_at (Version offset) = offset
