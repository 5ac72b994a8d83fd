-- The kinds on the stack before each instruction: passes over the code, until nothing changes (ECMA-335
-- III.1.7.5 and III.1.8.1.3).
use Rattle.std.specs.Prelude.{◌≡◌, ℕ, zero, suc, ◌+◌, ◌==◌, Bool, true, false, ◌&&◌, not, nat_lt, List, [], ◌∷◌, ◌++◌, map, Option, Some, None, is_some, Result, Ok, Err, if◌then◌else◌}
use Rattle.std.specs.Option.{option_or}
use Rattle.cil_model.specs.Code.{begins_at}
use Rattle.cil_model.specs.Kinds.{typed}
use Rattle.cil_model.specs.declared.instruction.Instr.{Instr}
use Rattle.cil_model.specs.declared.instruction.Op.{Op}
use Rattle.cil_model.specs.declared.instruction.Op.TheVariants as ops
use Rattle.cil_model.specs.declared.instruction.Test.TheVariants as tests
use Rattle.cil_model.specs.declared.place.Kind.{Kind}
use Rattle.cil_model.specs.declared.place.Kind.TheVariants.{Int, Native, Ints, Bools, NullRef, Text, AddrInts, AddrBools}
use Rattle.cil_model.specs.declared.shape.Shape.{Shape}
use Rattle.cil_model.specs.declared.type_fault.TypeFault.{TypeFault}
use Rattle.cil_model.specs.declared.type_fault.TypeFault.TheVariants.{Conflict, FallsOff}

-- The IL offsets to which an operation goes on, where the next instruction stands at this one.
abbrev pub successors : Op → ℕ → List ℕ
successors ops.Return next = []
successors (ops.Branch tests.Always target) next = target ∷ []
successors (ops.Branch test target) next = target ∷ next ∷ []
successors (ops.Switch targets) next = targets ++ next ∷ []
successors _ next = next ∷ []

abbrev pub goes_behind : Op → Bool
goes_behind ops.Return = false
goes_behind (ops.Branch tests.Always target) = false
goes_behind _ = true

-- ---- merging

-- What two kinds merge to: a kind with itself to itself, and null with an array to the array.
abbrev pub merged_kind : Kind → Kind → Option Kind
merged_kind Int Int = Some Int
merged_kind Native Native = Some Native
merged_kind Ints Ints = Some Ints
merged_kind Bools Bools = Some Bools
merged_kind NullRef NullRef = Some NullRef
merged_kind Text Text = Some Text
merged_kind AddrInts AddrInts = Some AddrInts
merged_kind AddrBools AddrBools = Some AddrBools
merged_kind Ints NullRef = Some Ints
merged_kind NullRef Ints = Some Ints
merged_kind Bools NullRef = Some Bools
merged_kind NullRef Bools = Some Bools
merged_kind _ _ = None

abbrev pub with_kind : Option Kind → Option (List Kind) → Option (List Kind)
with_kind (Some kind) (Some kinds) = Some (kind ∷ kinds)
with_kind _ _ = None

abbrev pub merged : List Kind → List Kind → Option (List Kind)
merged [] [] = Some []
merged (a ∷ others) (b ∷ more) = with_kind (merged_kind a b) (merged others more)
merged _ _ = None

-- What a pass knows so far, an entry an instruction: the kinds on its stack, if a path to it is known.
abbrev pub Stacks : Type 0
Stacks = List (Option (List Kind))

-- A stack that comes to an instruction, beside what came before.
abbrev pub arrived : Option (List Kind) → List Kind → Option (List Kind)
arrived None stack = Some stack
arrived (Some before) stack = merged before stack

-- The stack before the instruction at an IL offset.
abbrev pub stack_at : List Instr → Stacks → ℕ → Option (List Kind)
stack_at (i ∷ is) (stack ∷ stacks) at = if i.at == at then stack else stack_at is stacks at
stack_at _ _ at = None

-- The stack comes to the instruction at the IL offset.
abbrev pub come_to : List Instr → Stacks → ℕ → List Kind → Stacks
come_to (i ∷ is) (before ∷ stacks) at stack =
    if i.at == at then option_or (arrived before stack) before ∷ stacks else before ∷ come_to is stacks at stack
come_to _ stacks at stack = stacks

-- The stack does not merge with the one before the instruction at the IL offset.
abbrev pub conflicts : List Instr → Stacks → List Kind → ℕ → Bool
conflicts is stacks stack at = not (is_some (arrived (stack_at is stacks at) stack))

-- The lowest of the IL offsets where it does not merge, if there is one.
abbrev pub lower_of : Option ℕ → ℕ → ℕ
lower_of None at = at
lower_of (Some other) at = if nat_lt other at then other else at

abbrev pub lowest_conflict : List Instr → Stacks → List Kind → List ℕ → Option ℕ
lowest_conflict is stacks stack [] = None
lowest_conflict is stacks stack (at ∷ ats) =
    let others = lowest_conflict is stacks stack ats in
    if conflicts is stacks stack at then Some (lower_of others at) else others

abbrev pub come_to_all : List Instr → Stacks → List Kind → List ℕ → Stacks
come_to_all is stacks stack [] = stacks
come_to_all is stacks stack (at ∷ ats) = come_to_all is (come_to is stacks at stack) stack ats

-- ---- passes

abbrev pub going_on : List Instr → Stacks → Option ℕ → List Kind → List ℕ → Result Stacks TypeFault
going_on is stacks (Some at) stack ats = Err (Conflict at)
going_on is stacks None stack ats = Ok (come_to_all is stacks stack ats)

-- An instruction passes the stack after it to all that may follow.
abbrev pub follow : List Instr → Stacks → Instr → Result (List Kind) TypeFault → Result Stacks TypeFault
follow is stacks i (Err fault) = Err fault
follow is stacks i (Ok stack) =
    if goes_behind i.op && not (begins_at is (i.at + i.size)) then Err (FallsOff i.at)
    else going_on is stacks (lowest_conflict is stacks stack (successors i.op (i.at + i.size))) stack (successors i.op (i.at + i.size))

abbrev pub visited : Shape → List Instr → Stacks → Instr → Option (List Kind) → Result Stacks TypeFault
visited shape is stacks i None = Ok stacks
visited shape is stacks i (Some stack) = follow is stacks i (typed shape i stack)

-- The instructions of a pass, in rising order. What one brings counts for those after it in the same pass.
abbrev pub pass_over : Shape → List Instr → List Instr → Result Stacks TypeFault → Result Stacks TypeFault
pass_over shape is [] stacks = stacks
pass_over shape is (i ∷ rest) (Err fault) = Err fault
pass_over shape is (i ∷ rest) (Ok stacks) = pass_over shape is rest (visited shape is stacks i (stack_at is stacks i.at))

-- One pass over all instructions.
abbrev pub pass : Shape → List Instr → Stacks → Result Stacks TypeFault
pass shape is stacks = pass_over shape is is (Ok stacks)

-- The first instruction is reached with an empty stack. Empty code falls off at once.
abbrev pub first_stacks : List Instr → Result Stacks TypeFault
first_stacks [] = Err (FallsOff 0)
first_stacks (i ∷ is) = Ok (Some [] ∷ map (λ other. None) is)

abbrev pub after_pass : Shape → List Instr → Result Stacks TypeFault → Result Stacks TypeFault
after_pass shape is (Err fault) = Err fault
after_pass shape is (Ok stacks) = pass shape is stacks

abbrev pub after_passes : Shape → List Instr → ℕ → Result Stacks TypeFault
after_passes shape is zero = first_stacks is
after_passes shape is (suc n) = after_pass shape is (after_passes shape is n)

-- These are the stacks of the code: some number of passes brings them, and one more changes nothing.
pub record KindsOf (shape : Shape) (is : List Instr) (stacks : Stacks) : Type 0 where
  pub passes : ℕ
  pub brought : after_passes shape is passes ≡ Ok stacks
  pub settled : pass shape is stacks ≡ Ok stacks

-- This is the first fault of the code.
pub record HasTypeFault (shape : Shape) (is : List Instr) (fault : TypeFault) : Type 0 where
  pub passes : ℕ
  pub met : after_passes shape is passes ≡ Err fault
