-- First faults of small methods, worked out by hand.
use Rattle.std.proofs.Common.{◌≡◌, pos, List, [], ◌∷◌, Some, None, refl}
use Rattle.cil_model.specs.declared.instruction.Instr.{Instr}
use Rattle.cil_model.specs.declared.instruction.Op.TheVariants as ops
use Rattle.cil_model.specs.declared.instruction.Test.TheVariants as tests
use Rattle.cil_model.specs.declared.place.Place.TheVariants as places
use Rattle.cil_model.specs.declared.shape.Shape.{Shape}
use Rattle.cil_model.specs.declared.type_fault.TypeFault.TheVariants.{Underflow, WrongKind, Deep, Conflict, FallsOff}
use Rattle.stack_typer.specs.FirstTypeFault.{first_type_fault}
use Rattle.stack_typer.proofs.Settling.{kinds_no_fault, fault_is_first}

-- void M(int[] a, bool[] b), of which the stack holds one value.
abbrev shape : Shape
shape = record { result = places.Void; args = places.Ints ∷ places.Bools ∷ []; locals = []; max_stack = 1; callees = [] }

no_code_falls_off : (any : Shape) → first_type_fault [] any ≡ Some (FallsOff 0)
no_code_falls_off any = fault_is_first any [] (FallsOff 0) (record { passes = 0; met = refl })

abbrev returns : List Instr
returns = record { at = 0; size = 1; op = ops.Return } ∷ []

void_returns : first_type_fault returns shape ≡ None
void_returns = kinds_no_fault shape returns (Some [] ∷ []) (record { passes = 0; brought = refl; settled = refl })

value_lacks : first_type_fault returns (record shape { result = places.Int }) ≡ Some (Underflow 0)
value_lacks = fault_is_first (record shape { result = places.Int }) returns (Underflow 0) (record { passes = 1; met = refl })

-- The second null finds no room.
abbrev two_nulls : List Instr
two_nulls = record { at = 0; size = 1; op = ops.Null } ∷ record { at = 1; size = 1; op = ops.Null } ∷ record { at = 2; size = 1; op = ops.Return } ∷ []

second_is_deep : first_type_fault two_nulls shape ≡ Some (Deep 1)
second_is_deep = fault_is_first shape two_nulls (Deep 1) (record { passes = 1; met = refl })

-- The branch comes to the return with an empty stack, and what stands before the return with null.
abbrev meets : List Instr
meets =
    record { at = 0; size = 1; op = ops.Const (pos 0) }
    ∷ record { at = 1; size = 2; op = ops.Branch tests.True 4 }
    ∷ record { at = 3; size = 1; op = ops.Null }
    ∷ record { at = 4; size = 1; op = ops.Return } ∷ []

return_conflicts : first_type_fault meets shape ≡ Some (Conflict 4)
return_conflicts = fault_is_first shape meets (Conflict 4) (record { passes = 1; met = refl })

-- A bool array is stored: null at first, and an int array once the way back has brought one. Only the second pass
-- meets this.
abbrev stores : List Instr
stores =
    record { at = 0; size = 1; op = ops.Null }
    ∷ record { at = 1; size = 2; op = ops.StoreArg 1 }
    ∷ record { at = 3; size = 1; op = ops.LoadArg 0 }
    ∷ record { at = 4; size = 2; op = ops.Branch tests.Always 1 } ∷ []

way_back_is_wrong : first_type_fault stores shape ≡ Some (WrongKind 1)
way_back_is_wrong = fault_is_first shape stores (WrongKind 1) (record { passes = 2; met = refl })
