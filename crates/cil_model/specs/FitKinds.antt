-- What the kinds of stacks are for (ECMA-335 III.1.5 and III.1.8): where a frame's stack fits the kinds before its
-- instruction, the frame has a step, and its stack fits the kinds wherever it goes on.
use Rattle.std.specs.Prelude.{◌≡◌, ℕ, ◌^◌, ◌<◌, true, List, [], ◌∷◌, ◌++◌, Some, slice_get, FitsSigned}
use Rattle.std.specs.Int.{w32}
use Rattle.std.specs.List.{AllByRecursion}
use Rattle.cil_model.specs.Blocks.{branch_targets}
use Rattle.cil_model.specs.Bodies.{HasBody, is_executed}
use Rattle.cil_model.specs.Code.{begins_at}
use Rattle.cil_model.specs.Configs.{IsFrameOf}
use Rattle.cil_model.specs.Passes.{Stacks, stack_at}
use Rattle.cil_model.specs.Runs.{IsDefined, LocalRuns, LocalStep, Step, instr_at}
use Rattle.cil_model.specs.Shapes.{shape_of}
use Rattle.cil_model.specs.Values.{Heap, HasItemOf, IsHeap, has_array}
use Rattle.cil_model.specs.WellFormed.{HoldValues}
use Rattle.cil_model.specs.Worlds.{Agree}
use Rattle.cil_model.specs.declared.instruction.Instr.{Instr}
use Rattle.cil_model.specs.declared.instruction.Op.{Op}
use Rattle.cil_model.specs.declared.instruction.Op.TheVariants as ops
use Rattle.cil_model.specs.declared.machine.Config.{Config}
use Rattle.cil_model.specs.declared.machine.Config.TheVariants.{Live}
use Rattle.cil_model.specs.declared.machine.Frame.{Frame}
use Rattle.cil_model.specs.declared.machine.Value.{Value}
use Rattle.cil_model.specs.declared.machine.Value.TheVariants as values
use Rattle.cil_model.specs.declared.machine.World.{World}
use Rattle.cil_model.specs.declared.place.Kind.{Kind}
use Rattle.cil_model.specs.declared.place.Kind.TheVariants as kinds
use Rattle.cil_model.specs.declared.place.Place.TheVariants as places
use Rattle.cil_model.specs.declared.shape.Shape.{Shape}
use Rattle.cil_model.specs.declared.unit.Unit.{Unit as MethodUnit}

-- ---- values of kinds

-- A value of this kind, over this heap. Null is of both kinds of arrays.
abbrev pub FitsKind : Heap → Kind → Value → Type 0
FitsKind heap kinds.Int (values.Int n) = FitsSigned w32 n
FitsKind heap kinds.Native (values.Native n) = n < 2 ^ 31
FitsKind heap kinds.Ints values.Null = Unit {0}
FitsKind heap kinds.Ints (values.Array i) = has_array heap places.Ints i ≡ true
FitsKind heap kinds.Bools values.Null = Unit {0}
FitsKind heap kinds.Bools (values.Array i) = has_array heap places.Bools i ≡ true
FitsKind heap kinds.NullRef values.Null = Unit {0}
FitsKind heap kinds.Text values.Text = Unit {0}
FitsKind heap kinds.AddrInts (values.Addr a n) = HasItemOf heap places.Ints a n
FitsKind heap kinds.AddrBools (values.Addr a n) = HasItemOf heap places.Bools a n
FitsKind heap _ _ = ⊥

-- Values of these kinds, from the top of both stacks on.
abbrev pub FitKinds : Heap → List Kind → List Value → Type 0
FitKinds heap [] [] = Unit {0}
FitKinds heap (kind ∷ kinds) (value ∷ values) = FitsKind heap kind value × FitKinds heap kinds values
FitKinds heap _ _ = ⊥

-- A frame of this unit over a heap, before an instruction that these stacks reach, with values of its kinds.
pub record FrameFits (unit : MethodUnit) (stacks : Stacks) (heap : Heap) (f : Frame) : Type 0 where
  pub heap_is : IsHeap heap
  pub frame : IsFrameOf unit heap f
  pub kinds : List Kind
  pub before : stack_at unit.instrs stacks f.at ≡ Some kinds
  pub fit : FitKinds heap kinds f.stack

-- ---- instructions

-- The constant of an operation is an int32.
abbrev pub OperandFits : Op → Type 0
OperandFits (ops.Const n) = FitsSigned w32 n
OperandFits ops.Nop = Unit {0}
OperandFits (ops.LoadArg n) = Unit {0}
OperandFits (ops.StoreArg n) = Unit {0}
OperandFits (ops.LoadLocal n) = Unit {0}
OperandFits (ops.StoreLocal n) = Unit {0}
OperandFits ops.Null = Unit {0}
OperandFits ops.Dup = Unit {0}
OperandFits ops.Pop = Unit {0}
OperandFits (ops.Call number) = Unit {0}
OperandFits ops.Return = Unit {0}
OperandFits (ops.Branch test target) = Unit {0}
OperandFits (ops.Switch targets) = Unit {0}
OperandFits (ops.Bin operator) = Unit {0}
OperandFits ops.Neg = Unit {0}
OperandFits ops.Not = Unit {0}
OperandFits ops.ConvI4 = Unit {0}
OperandFits (ops.Text token) = Unit {0}
OperandFits (ops.NewArray number) = Unit {0}
OperandFits ops.Length = Unit {0}
OperandFits (ops.LoadElem place) = Unit {0}
OperandFits (ops.StoreElem place) = Unit {0}
OperandFits (ops.LoadAddr number) = Unit {0}
OperandFits (ops.LoadInd place) = Unit {0}
OperandFits (ops.StoreInd place) = Unit {0}

-- What decoding tells of instructions: constants are int32, and each branch goes to an instruction.
pub record AreDecoded (is : List Instr) : Type 0 where
  pub constants : AllByRecursion (λ i. OperandFits i.op) is
  pub targets : AllByRecursion (λ i. AllByRecursion (λ at. begins_at is at ≡ true) (branch_targets i.op)) is

-- What stands at the IL offset is executed, if an instruction does.
abbrev pub IsExecutedAt : List Instr → ℕ → Type 0
IsExecutedAt is at = (i : Instr) → instr_at is at ≡ Some i → is_executed i.op ≡ true

-- ---- what typing is for

-- No run of the unit by itself comes where nothing is defined.
abbrev pub NeverStuck : MethodUnit → Type 0
NeverStuck unit = (index : ℕ) (args : List Value) (heap : Heap) (n : ℕ) (c : Config) → LocalRuns unit index args heap n c → IsDefined (LocalStep unit) c

-- The unit has this shape and these instructions.
pub record HasCode (shape : Shape) (is : List Instr) (unit : MethodUnit) : Type 0 where
  pub shape_is : shape_of unit ≡ shape
  pub instrs_are : unit.instrs ≡ is

-- Of every unit with this shape and these instructions: a frame that fits these stacks has a step by itself and
-- in each world whose units agree, and where it goes on, it fits them again. So no run of it is stuck.
pub record TypedCodeSteps (shape : Shape) (is : List Instr) (stacks : Stacks) : Type 0 where
  pub defined : (unit : MethodUnit) (f : Frame) (heap : Heap) → HasCode shape is unit → FrameFits unit stacks heap f → IsExecutedAt is f.at
      → (new : Config) × LocalStep unit (Live (f ∷ []) heap) new
  pub defined_in_worlds : (w : World) (callers : List Frame) (unit : MethodUnit) (f : Frame) (heap : Heap) → Agree w → slice_get w.units f.unit ≡ Some unit
      → HasCode shape is unit → FrameFits unit stacks heap f → IsExecutedAt is f.at → (new : Config) × Step w (Live (callers ++ f ∷ []) heap) new
  pub kept : (unit : MethodUnit) (f g : Frame) (heap after : Heap) → HasCode shape is unit → FrameFits unit stacks heap f
      → LocalStep unit (Live (f ∷ []) heap) (Live (g ∷ []) after) → FrameFits unit stacks after g
  pub kept_in_worlds : (w : World) (callers : List Frame) (unit : MethodUnit) (f g : Frame) (heap after : Heap) → slice_get w.units f.unit ≡ Some unit
      → HasCode shape is unit → FrameFits unit stacks heap f → Step w (Live (callers ++ f ∷ []) heap) (Live (callers ++ g ∷ []) after)
      → FrameFits unit stacks after g
  pub runs : (unit : MethodUnit) → HasCode shape is unit → HoldValues unit.locals → HasBody is stacks unit.body_start → NeverStuck unit
