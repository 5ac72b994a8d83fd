-- One step of the machine, its runs, and what is said of them.
use Rattle.std.specs.Prelude.{◌≡◌, ℕ, zero, suc, List, [], ◌∷◌, ◌++◌, Option, Some, None, ◌==◌, if◌then◌else◌, slice_get}
use Rattle.cil_model.specs.Calls.{WorldCall, FreeCall, ReturnRow, clauses_in_force, entry_frame}
use Rattle.cil_model.specs.Clauses.{false_requires}
use Rattle.cil_model.specs.Effects.{Effect, GoesOn, Faults, Assumes, FindsNoRoom, effects, HasEffect}
use Rattle.cil_model.specs.UnitCalls.{unit_call}
use Rattle.cil_model.specs.Values.{Heap, IsHeap, FitPlaces}
use Rattle.cil_model.specs.declared.instruction.Instr.{Instr}
use Rattle.cil_model.specs.declared.instruction.Op.{Op}
use Rattle.cil_model.specs.declared.instruction.Op.TheVariants as ops
use Rattle.cil_model.specs.declared.machine.Config.{Config}
use Rattle.cil_model.specs.declared.machine.Config.TheVariants as configs
use Rattle.cil_model.specs.declared.machine.Frame.{Frame}
use Rattle.cil_model.specs.declared.machine.Value.{Value}
use Rattle.cil_model.specs.declared.machine.World.{World}
use Rattle.cil_model.specs.declared.unit.Unit.{Unit as MethodUnit}
use Rattle.cil_model.specs.declared.unit_numbers.UnitCall.{UnitCall}
use Rattle.cil_model.specs.declared.unit_numbers.UnitCall.TheVariants as calls

-- The instruction at an IL offset.
abbrev pub instr_at : List Instr → ℕ → Option Instr
instr_at [] at = None
instr_at (i ∷ is) at = if i.at == at then Some i else instr_at is at

-- ---- the rows

-- What the machine is after an effect on the running frame, the callers being as they were.
abbrev pub config_after : List Frame → Frame → Instr → Effect → Config
config_after callers f i (GoesOn new heap) = configs.Live (callers ++ new ∷ []) heap
config_after callers f i (Faults kind) = configs.Fault kind f.unit i.at
config_after callers f i Assumes = configs.Assumed f.unit i.at
config_after callers f i FindsNoRoom = configs.NoRoom

abbrev pub EffectRow : List Frame → MethodUnit → Instr → Frame → Heap → Config → Type 0
EffectRow callers unit i f heap new =
    (effect : Effect) × HasEffect (effects unit i f heap) effect × (new ≡ config_after callers f i effect)

-- What a call of a callee may lead to: the callee's number, the instruction, the frame and the heap, and the
-- new configuration.
abbrev pub CallRow : Type 1
CallRow = ℕ → Instr → Frame → Heap → Config → Type 0

-- A call that names a callee goes by the row of calls, any other one by its effects.
abbrev pub CallsBy : CallRow → Option UnitCall → List Frame → MethodUnit → Instr → Frame → Heap → Config → Type 0
CallsBy Calls (Some (calls.Callee number)) callers unit i f heap new = Calls number i f heap new
CallsBy Calls (Some (calls.Requires message)) callers unit i f heap new = EffectRow callers unit i f heap new
CallsBy Calls (Some (calls.Ensures message)) callers unit i f heap new = EffectRow callers unit i f heap new
CallsBy Calls (Some (calls.Assert message)) callers unit i f heap new = EffectRow callers unit i f heap new
CallsBy Calls (Some (calls.Assume message)) callers unit i f heap new = EffectRow callers unit i f heap new
CallsBy Calls (Some calls.EndContractBlock) callers unit i f heap new = EffectRow callers unit i f heap new
CallsBy Calls (Some (calls.Result place)) callers unit i f heap new = EffectRow callers unit i f heap new
CallsBy Calls (Some (calls.OldValue place)) callers unit i f heap new = EffectRow callers unit i f heap new
CallsBy Calls None callers unit i f heap new = EffectRow callers unit i f heap new

-- What an instruction of the running frame may lead to, where calls have this row.
abbrev pub Row : CallRow → Op → List Frame → MethodUnit → Instr → Frame → Heap → Config → Type 0
Row Calls ops.Return callers unit i f heap new = ReturnRow callers unit i f heap new
Row Calls (ops.Call number) callers unit i f heap new = CallsBy Calls (unit_call number) callers unit i f heap new
Row Calls ops.Nop callers unit i f heap new = EffectRow callers unit i f heap new
Row Calls (ops.LoadArg n) callers unit i f heap new = EffectRow callers unit i f heap new
Row Calls (ops.StoreArg n) callers unit i f heap new = EffectRow callers unit i f heap new
Row Calls (ops.LoadLocal n) callers unit i f heap new = EffectRow callers unit i f heap new
Row Calls (ops.StoreLocal n) callers unit i f heap new = EffectRow callers unit i f heap new
Row Calls ops.Null callers unit i f heap new = EffectRow callers unit i f heap new
Row Calls (ops.Const n) callers unit i f heap new = EffectRow callers unit i f heap new
Row Calls ops.Dup callers unit i f heap new = EffectRow callers unit i f heap new
Row Calls ops.Pop callers unit i f heap new = EffectRow callers unit i f heap new
Row Calls (ops.Branch test target) callers unit i f heap new = EffectRow callers unit i f heap new
Row Calls (ops.Switch targets) callers unit i f heap new = EffectRow callers unit i f heap new
Row Calls (ops.Bin operator) callers unit i f heap new = EffectRow callers unit i f heap new
Row Calls ops.Neg callers unit i f heap new = EffectRow callers unit i f heap new
Row Calls ops.Not callers unit i f heap new = EffectRow callers unit i f heap new
Row Calls ops.ConvI4 callers unit i f heap new = EffectRow callers unit i f heap new
Row Calls (ops.Text token) callers unit i f heap new = EffectRow callers unit i f heap new
Row Calls (ops.NewArray number) callers unit i f heap new = EffectRow callers unit i f heap new
Row Calls ops.Length callers unit i f heap new = EffectRow callers unit i f heap new
Row Calls (ops.LoadElem place) callers unit i f heap new = EffectRow callers unit i f heap new
Row Calls (ops.StoreElem place) callers unit i f heap new = EffectRow callers unit i f heap new
Row Calls (ops.LoadAddr number) callers unit i f heap new = EffectRow callers unit i f heap new
Row Calls (ops.LoadInd place) callers unit i f heap new = EffectRow callers unit i f heap new
Row Calls (ops.StoreInd place) callers unit i f heap new = EffectRow callers unit i f heap new

-- ---- one step

-- The frame, a frame of this unit, is about to do this instruction.
pub record IsAbout (units : List MethodUnit) (f : Frame) (unit : MethodUnit) (i : Instr) : Type 0 where
  pub of : slice_get units f.unit ≡ Some unit
  pub to : instr_at unit.instrs f.at ≡ Some i

-- One step of a world: the last frame does its next instruction. An end has no step.
abbrev pub Step : World → Config → Config → Type 0
Step w (configs.Live frames heap) new =
    (callers : List Frame) × (f : Frame) × (unit : MethodUnit) × (i : Instr) × (frames ≡ callers ++ f ∷ [])
    × IsAbout w.units f unit i × Row (WorldCall w callers) i.op callers unit i f heap new
Step w _ new = ⊥

-- One step of one frame alone, whose calls are free: a call of a method tests what it requires, and then
-- gives any result and any heap that what it ensures allows.
abbrev pub LocalStep : MethodUnit → Config → Config → Type 0
LocalStep unit (configs.Live (f ∷ []) heap) new =
    (i : Instr) × (instr_at unit.instrs f.at ≡ Some i) × Row (FreeCall unit) i.op [] unit i f heap new
LocalStep unit _ new = ⊥

-- ---- steps of any kind

-- The configuration comes after n steps.
abbrev pub StepsTo : (Config → Config → Type 0) → Config → ℕ → Config → Type 0
StepsTo Steps start zero c = c ≡ start
StepsTo Steps start (suc n) c = (mid : Config) × StepsTo Steps start n mid × Steps mid c

-- The configuration is no fault.
abbrev pub IsNoFault : Config → Type 0
IsNoFault (configs.Fault kind unit at) = ⊥
IsNoFault _ = Unit {0}

-- The configuration is an end, or has a step.
abbrev pub IsDefined : (Config → Config → Type 0) → Config → Type 0
IsDefined Steps (configs.Live frames heap) = (next : Config) × Steps (configs.Live frames heap) next
IsDefined Steps _ = Unit {0}

-- ---- entries

-- A method may begin with these arguments over this heap: they are of its signature's types, where several may
-- be one array and each array may be null, and each of its Requires is true of them.
pub record MayBegin (unit : MethodUnit) (args : List Value) (heap : Heap) : Type 0 where
  pub heap_is : IsHeap heap
  pub fit : FitPlaces heap unit.args args
  pub required : false_requires (clauses_in_force unit) args heap ≡ None

-- The configuration in which the method of this index begins.
abbrev pub entry_config : MethodUnit → ℕ → List Value → Heap → Config
entry_config unit index args heap = configs.Live (entry_frame unit index args heap ∷ []) heap

-- The configuration comes after n steps of a run of the world's method m, from these arguments over this heap.
pub record Runs (w : World) (m : ℕ) (args : List Value) (heap : Heap) (n : ℕ) (c : Config) : Type 0 where
  pub unit : MethodUnit
  pub unit_is : slice_get w.units m ≡ Some unit
  pub begins : MayBegin unit args heap
  pub steps : StepsTo (Step w) (entry_config unit m args heap) n c

-- No run of the method is ever at a fault, or where nothing is defined.
abbrev pub Safe : World → ℕ → Type 0
Safe w m = (args : List Value) (heap : Heap) (n : ℕ) (c : Config) → Runs w m args heap n c → IsNoFault c × IsDefined (Step w) c

-- The same of one unit by itself. The index in its frame does not count.
pub record LocalRuns (unit : MethodUnit) (index : ℕ) (args : List Value) (heap : Heap) (n : ℕ) (c : Config) : Type 0 where
  pub begins : MayBegin unit args heap
  pub steps : StepsTo (LocalStep unit) (entry_config unit index args heap) n c

abbrev pub LocalSafe : MethodUnit → Type 0
LocalSafe unit = (index : ℕ) (args : List Value) (heap : Heap) (n : ℕ) (c : Config)
    → LocalRuns unit index args heap n c → IsNoFault c × IsDefined (LocalStep unit) c
