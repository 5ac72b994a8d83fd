-- Small codes and the first faults of their stacks, and one whose null becomes an array on the way back.
use Rattle.std.proofs.Common.{ℕ, pos, [], ◌∷◌, Some, refl}
use Rattle.cil_model.specs.Passes.{HasTypeFault, KindsOf}
use Rattle.cil_model.specs.declared.instruction.BinOp.TheVariants as operators
use Rattle.cil_model.specs.declared.instruction.Op.TheVariants as ops
use Rattle.cil_model.specs.declared.instruction.Test.TheVariants as tests
use Rattle.cil_model.specs.declared.place.Kind.TheVariants as kinds
use Rattle.cil_model.specs.declared.place.Place.TheVariants as places
use Rattle.cil_model.specs.declared.shape.Shape.{Shape}
use Rattle.cil_model.specs.declared.type_fault.TypeFault.TheVariants.{Underflow, Conflict, WrongKind, FallsOff, Deep}
use Rattle.cil_model.proofs.Laid.{laid_from}

-- int f(int[] a, int n), with this size of the stack.
abbrev shape : ℕ → Shape
shape max_stack = record { result = places.Int; args = places.Ints ∷ places.Int ∷ []; locals = []; max_stack = max_stack; callees = [] }

pub empty_code_falls_off : HasTypeFault (shape 8) [] (FallsOff 0)
empty_code_falls_off = record { passes = 0; met = refl }

pub last_instruction_falls_off : HasTypeFault (shape 8) (laid_from 0 ((1, ops.Nop) ∷ (2, ops.Const (pos 0)) ∷ [])) (FallsOff 1)
last_instruction_falls_off = record { passes = 1; met = refl }

-- A return finds its result alone.
pub two_values_are_returned : HasTypeFault (shape 8) (laid_from 0 ((1, ops.Const (pos 0)) ∷ (1, ops.Const (pos 0)) ∷ (1, ops.Return) ∷ [])) (WrongKind 2)
two_values_are_returned = record { passes = 1; met = refl }

pub no_value_is_returned : HasTypeFault (shape 8) (laid_from 0 ((1, ops.Return) ∷ [])) (Underflow 0)
no_value_is_returned = record { passes = 1; met = refl }

-- There are two arguments, 0 and 1.
pub argument_is_missing : HasTypeFault (shape 8) (laid_from 0 ((2, ops.LoadArg 2) ∷ (1, ops.Return) ∷ [])) (WrongKind 0)
argument_is_missing = record { passes = 1; met = refl }

pub stack_is_too_deep : HasTypeFault (shape 1) (laid_from 0 ((1, ops.Const (pos 0)) ∷ (1, ops.Const (pos 0)) ∷ [])) (Deep 1)
stack_is_too_deep = record { passes = 1; met = refl }

-- An index is an int32, and a length is none.
pub length_is_no_index : HasTypeFault (shape 8) (laid_from 0 ((1, ops.LoadArg 0) ∷ (1, ops.LoadArg 0) ∷ (1, ops.Length) ∷ (1, ops.LoadElem places.Ints) ∷ (1, ops.Return) ∷ [])) (WrongKind 3)
length_is_no_index = record { passes = 1; met = refl }

pub array_is_of_another_type : HasTypeFault (shape 8) (laid_from 0 ((1, ops.LoadArg 0) ∷ (1, ops.Const (pos 0)) ∷ (1, ops.LoadElem places.Bools) ∷ (1, ops.Return) ∷ [])) (WrongKind 2)
array_is_of_another_type = record { passes = 1; met = refl }

-- Two ways come to offset 4, one with a value and one without.
pub heights_conflict : HasTypeFault (shape 8) (laid_from 0 ((1, ops.LoadArg 1) ∷ (2, ops.Branch tests.True 4) ∷ (1, ops.Const (pos 0)) ∷ (1, ops.Return) ∷ [])) (Conflict 4)
heights_conflict = record { passes = 1; met = refl }

-- One brings a length and the other an int32.
pub length_conflicts :
    HasTypeFault (shape 8)
    (laid_from 0 ((1, ops.LoadArg 1) ∷ (2, ops.Branch tests.True 7) ∷ (1, ops.LoadArg 0) ∷ (1, ops.Length) ∷ (2, ops.Branch tests.Always 8) ∷ (1, ops.Const (pos 0)) ∷ (1, ops.Return) ∷ [])) (Conflict 8)
length_conflicts = record { passes = 1; met = refl }

-- What an instruction brings to a later one counts in the same pass: the sum at offset 6 is met before the
-- instruction at offset 2, to which the branch goes back.
pub later_is_met_first :
    HasTypeFault (shape 8)
    (laid_from 0 ((2, ops.Branch tests.Always 3) ∷ (1, ops.Pop) ∷ (1, ops.Const (pos 0)) ∷ (2, ops.Branch tests.True 2) ∷ (1, ops.Bin operators.Add) ∷ (1, ops.Return) ∷ [])) (Underflow 6)
later_is_met_first = record { passes = 1; met = refl }

-- The null that comes first and the array that the loop brings merge to an array.
pub null_becomes_an_array :
    KindsOf (shape 8) (laid_from 0 ((1, ops.Null) ∷ (1, ops.Pop) ∷ (1, ops.LoadArg 0) ∷ (2, ops.Branch tests.Always 1) ∷ []))
    (Some [] ∷ Some (kinds.Ints ∷ []) ∷ Some [] ∷ Some (kinds.Ints ∷ []) ∷ [])
null_becomes_an_array = record { passes = 1; brought = refl; settled = refl }
