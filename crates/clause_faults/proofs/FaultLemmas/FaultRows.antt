-- First faults of clauses' codes that were worked out by hand: each fault alone, and where ways meet.
use Rattle.std.proofs.Common.{◌≡◌, ℕ, pos, List, [], ◌∷◌, Option, Some, None, refl}
use Rattle.cil_model.specs.UnitCalls.{unit_call}
use Rattle.cil_model.specs.declared.instruction.BinOp.TheVariants as operators
use Rattle.cil_model.specs.declared.instruction.Op.{Op}
use Rattle.cil_model.specs.declared.instruction.Op.TheVariants as ops
use Rattle.cil_model.specs.declared.instruction.Test.TheVariants as tests
use Rattle.cil_model.specs.declared.place.Place.TheVariants as places
use Rattle.cil_model.specs.declared.shape.Shape.{Shape}
use Rattle.cil_model.proofs.Laid.{laid_from}
use Rattle.clause_faults.specs.ClauseLies.{clause_faults}
use Rattle.clause_faults.specs.Faults.{first_fault}
use Rattle.clause_faults.specs.declared.clause_fault.ClauseFault.{ClauseFault}
use Rattle.clause_faults.specs.declared.clause_fault.ClauseFault.TheVariants.{NotPure, Backward, StackLeft, IntoBlock, OldForm}

-- A method of an int32 and an int32[] that gives an int32.
abbrev shape : Shape
shape = record { result = places.Int; args = places.Int ∷ places.Ints ∷ []; locals = []; max_stack = 8; callees = [] }

-- All that is wrong with a clause that begins with these operations, its closing call being that of an index.
abbrev all_of : ℕ → List (ℕ × Op) → List ClauseFault
all_of last operations = clause_faults (laid_from 0 operations) shape 0 last

abbrev first_of : ℕ → List (ℕ × Op) → Option ClauseFault
first_of last operations = first_fault (all_of last operations)

-- ---- one fault

-- Nothing, a dup, a branch to itself, a value too many, a third operand of a message, a branch after the closing call.
alone :
    (first_of 1 ((1, ops.Const (pos 1)) ∷ (5, ops.Call 1) ∷ []) ≡ None)
    × ((first_of 2 ((1, ops.Const (pos 1)) ∷ (1, ops.Dup) ∷ (5, ops.Call 1) ∷ []) ≡ Some (NotPure 1))
    × ((first_of 2 ((1, ops.Const (pos 1)) ∷ (2, ops.Branch tests.Always 1) ∷ (5, ops.Call 1) ∷ []) ≡ Some (Backward 1))
    × ((first_of 2 ((1, ops.Const (pos 1)) ∷ (1, ops.Const (pos 1)) ∷ (5, ops.Call 1) ∷ []) ≡ Some (StackLeft 2))
    × ((first_of 3 ((1, ops.Const (pos 1)) ∷ (1, ops.Const (pos 1)) ∷ (5, ops.Text 0) ∷ (5, ops.Call 2) ∷ []) ≡ Some (StackLeft 7))
    × (first_of 3 ((1, ops.LoadArg 0) ∷ (2, ops.Branch tests.True 10) ∷ (1, ops.Const (pos 1)) ∷ (5, ops.Call 1) ∷ (1, ops.Nop) ∷ (1, ops.Return) ∷ []) ≡ Some (IntoBlock 1))))))
unfolding unit_call
alone = (refl, (refl, (refl, (refl, (refl, refl)))))

-- An address is taken, loaded through and stored through: of int32, and of bool where nothing comes.
addresses :
    (first_of 4 ((1, ops.LoadArg 1) ∷ (1, ops.Const (pos 0)) ∷ (5, ops.LoadAddr 2) ∷ (1, ops.LoadInd places.Ints) ∷ (5, ops.Call 1) ∷ []) ≡ Some (NotPure 2))
    × ((first_of 2 ((1, ops.LoadArg 0) ∷ (1, ops.LoadInd places.Ints) ∷ (5, ops.Call 1) ∷ []) ≡ Some (NotPure 1))
    × ((first_of 3 ((1, ops.LoadArg 1) ∷ (1, ops.LoadArg 0) ∷ (1, ops.StoreInd places.Ints) ∷ (5, ops.Call 1) ∷ []) ≡ Some (NotPure 2))
    × ((first_of 3 ((2, ops.Branch tests.Always 3) ∷ (1, ops.LoadInd places.Bools) ∷ (1, ops.Const (pos 1)) ∷ (5, ops.Call 1) ∷ []) ≡ Some (NotPure 2))
    × (first_of 3 ((2, ops.Branch tests.Always 3) ∷ (1, ops.StoreInd places.Bools) ∷ (1, ops.Const (pos 1)) ∷ (5, ops.Call 1) ∷ []) ≡ Some (NotPure 2)))))
unfolding unit_call
addresses = (refl, (refl, (refl, (refl, refl))))

-- A result in a Requires, a result of another type, an old value inside another one, and one of another kind.
old_forms :
    (first_of 1 ((5, ops.Call 12) ∷ (5, ops.Call 1) ∷ []) ≡ Some (OldForm 0))
    × ((first_of 1 ((5, ops.Call 14) ∷ (5, ops.Call 3) ∷ []) ≡ Some (OldForm 0))
    × ((first_of 3 ((1, ops.LoadArg 0) ∷ (5, ops.Call 22) ∷ (5, ops.Call 22) ∷ (5, ops.Call 3) ∷ []) ≡ Some (OldForm 1))
    × ((first_of 2 ((1, ops.LoadArg 0) ∷ (5, ops.Call 24) ∷ (5, ops.Call 3) ∷ []) ≡ Some (OldForm 1))
    × ((first_of 2 ((1, ops.Null) ∷ (5, ops.Call 24) ∷ (5, ops.Call 3) ∷ []) ≡ None)
    × (first_of 1 ((5, ops.Call 12) ∷ (5, ops.Call 3) ∷ []) ≡ None)))))
unfolding unit_call
old_forms = (refl, (refl, (refl, (refl, (refl, refl)))))

-- ---- ways

-- Behind an instruction that no clause may have nothing on its way is named.
behind_impure : all_of 4 ((1, ops.Const (pos 1)) ∷ (1, ops.Dup) ∷ (5, ops.Call 22) ∷ (5, ops.Call 22) ∷ (5, ops.Call 3) ∷ []) ≡ NotPure 1 ∷ []
unfolding unit_call
behind_impure = refl

-- Two heights at the closing call, and an operand that the second way alone lacks.
two_heights :
    (first_of 4 ((1, ops.LoadArg 0) ∷ (2, ops.Branch tests.True 4) ∷ (1, ops.Const (pos 1)) ∷ (1, ops.Const (pos 1)) ∷ (5, ops.Call 1) ∷ []) ≡ Some (StackLeft 5))
    × (first_of 5 ((1, ops.LoadArg 0) ∷ (2, ops.Branch tests.True 4) ∷ (1, ops.Const (pos 1)) ∷ (1, ops.Neg) ∷ (5, ops.Call 1) ∷ (1, ops.Const (pos 1)) ∷ []) ≡ Some (StackLeft 4))
unfolding unit_call
two_heights = (refl, refl)

-- The inner call lies before what was found before it.
lower_behind : first_of 5 ((5, ops.Call 12) ∷ (1, ops.LoadArg 0) ∷ (2, ops.Branch tests.True 10) ∷ (2, ops.Bin operators.Add) ∷ (5, ops.Call 22) ∷ (5, ops.Call 3) ∷ []) ≡ Some (OldForm 0)
unfolding unit_call
lower_behind = refl

-- Whether two values are the same, of two arguments on each of two ways, as an old value of an int32[].
abbrev compared : ℕ → ℕ → ℕ → ℕ → Option ClauseFault
compared a b c d =
    first_of 9 ((1, ops.Const (pos 1)) ∷ (2, ops.Branch tests.True 7) ∷ (1, ops.LoadArg a) ∷ (1, ops.LoadArg b) ∷ (2, ops.Branch tests.Always 9)
    ∷ (1, ops.LoadArg c) ∷ (1, ops.LoadArg d) ∷ (2, ops.Bin operators.Ceq) ∷ (5, ops.Call 24) ∷ (5, ops.Call 3) ∷ [])

-- A number and an array give no kind on either way, in either order; two numbers and two arrays give a number.
kinds_by_way : (compared 0 1 1 0 ≡ None) × ((compared 0 0 1 1 ≡ Some (OldForm 11)) × (compared 0 1 1 1 ≡ Some (OldForm 11)))
unfolding unit_call
kinds_by_way = (refl, (refl, refl))
