-- What the steps of the typing answer, where memory does not run out.
use Rattle.std.specs.Prelude.{◌≡◌, Result, Ok, Err}
use Rattle.cc_base.specs.declared.refusal.Refusal.{Refusal}
use Rattle.cc_base.specs.declared.refusal.Refusal.TheVariants.{Bad, NoMemory}
use Rattle.cil_model.specs.declared.type_fault.TypeFault.{TypeFault}

-- The answer is a fault only where that one is expected. Else this was left, as expected.
abbrev pub Leaves : {A B : Type 0} → Result A (Refusal TypeFault) → Result B TypeFault → B → Type 0
Leaves (Ok answer) expected left = expected ≡ Ok left
Leaves (Err (Bad fault)) expected left = expected ≡ Err fault
Leaves (Err NoMemory) expected left = Unit {0}

-- A fault that is answered has the property.
abbrev pub IfFault : {A : Type 0} → Result A (Refusal TypeFault) → (TypeFault → Type 0) → Type 0
IfFault (Err (Bad fault)) Has = Has fault
IfFault _ Has = Unit {0}
