-- How a run of a world is cut: the frame that runs has come where it is by a run of its unit by itself, and each of its
-- callers has come so to the call at which it waits.
use Rattle.std.specs.Prelude.{◌≡◌, ℕ, List, [], ◌∷◌, ◌++◌, length, Option, Some, None, slice_get}
use Rattle.cil_model.specs.Calls.{FreeReturn, args_of, behind_call, clauses_in_force}
use Rattle.cil_model.specs.Clauses.{false_requires}
use Rattle.cil_model.specs.Runs.{LocalRuns, instr_at}
use Rattle.cil_model.specs.Values.{Heap}
use Rattle.cil_model.specs.WellFormed.{called_by}
use Rattle.cil_model.specs.Worlds.{info_of}
use Rattle.cil_model.specs.declared.instruction.Instr.{Instr}
use Rattle.cil_model.specs.declared.machine.Config.{Config}
use Rattle.cil_model.specs.declared.machine.Config.TheVariants as configs
use Rattle.cil_model.specs.declared.machine.FaultKind.{FaultKind}
use Rattle.cil_model.specs.declared.machine.Frame.{Frame}
use Rattle.cil_model.specs.declared.machine.Value.{Value}
use Rattle.cil_model.specs.declared.machine.World.{World}
use Rattle.cil_model.specs.declared.unit.Unit.{Unit as MethodUnit}
use Rattle.safe_worlds.specs.Frames.{entry_of}
use Rattle.safe_worlds.specs.declared.entry.Entry.{Entry}

-- A run of the entry's unit by itself, from the entry, comes to the configuration.
pub record ComesTo (w : World) (entry : Entry) (c : Config) : Type 0 where
  pub unit : MethodUnit
  pub unit_is : slice_get w.units entry.unit ≡ Some unit
  pub count : ℕ
  pub runs : LocalRuns unit entry.unit entry.args entry.heap count c

-- The frame waits for what was entered there: its unit by itself came to a call over the heap at the entry, whose
-- callee is the unit that was entered and whose arguments are those at the entry; what it requires is true; and the
-- frame is what goes on after the call, without the arguments.
pub record Waits (w : World) (f : Frame) (above : Entry) : Type 0 where
  pub calling : Frame
  pub comes : ComesTo w (entry_of calling) (configs.Live (calling ∷ []) above.heap)
  pub instr : Instr
  pub instr_is : instr_at comes.unit.instrs calling.at ≡ Some instr
  pub number : ℕ
  pub calls : called_by instr.op ≡ Some number
  pub callee : MethodUnit
  pub callee_is : slice_get w.units above.unit ≡ Some callee
  pub known : slice_get comes.unit.callees number ≡ Some (info_of callee)
  pub args_are : args_of above.heap callee.args calling.stack ≡ Some above.args
  pub required : false_requires (clauses_in_force callee) above.args above.heap ≡ None
  pub behind : f ≡ behind_call instr (length callee.args) calling

-- The entry of the first of some frames, or this one where there is none.
abbrev pub first_entry : List Frame → Entry → Entry
first_entry [] entry = entry
first_entry (f ∷ frames) entry = entry_of f

-- Each of these frames waits for the next one, and the last of them for what was entered there.
abbrev pub AllWait : World → List Frame → Entry → Type 0
AllWait w [] entry = Unit {0}
AllWait w (f ∷ frames) entry = Waits w f (first_entry frames entry) × AllWait w frames entry

-- The frames of a run that began at the start: those below the last wait, and the last has come there.
pub record AreCut (w : World) (start : Entry) (frames : List Frame) (heap : Heap) : Type 0 where
  pub callers : List Frame
  pub last : Frame
  pub are : frames ≡ callers ++ last ∷ []
  pub first : first_entry callers (entry_of last) ≡ start
  pub waiting : AllWait w callers (entry_of last)
  pub comes : ComesTo w (entry_of last) (configs.Live (last ∷ []) heap)

-- A call with this entry may give the result, by what callers know of its unit.
pub record GivesFreely (w : World) (entry : Entry) (result : Option Value) : Type 0 where
  pub unit : MethodUnit
  pub unit_is : slice_get w.units entry.unit ≡ Some unit
  pub after : Heap
  pub free : FreeReturn (info_of unit) entry.args entry.heap after result

-- The fault is one of a run of its unit by itself.
pub record FaultsAlone (w : World) (kind : FaultKind) (unit at : ℕ) : Type 0 where
  pub args : List Value
  pub heap : Heap
  pub comes : ComesTo w (record { unit = unit; args = args; heap = heap }) (configs.Fault kind unit at)

-- What a run from the start comes to: frames that are cut, a result that the call may give, or a fault of a unit by
-- itself.
abbrev pub IsCut : World → Entry → Config → Type 0
IsCut w start (configs.Live frames heap) = AreCut w start frames heap
IsCut w start (configs.Returned result) = GivesFreely w start result
IsCut w start (configs.Fault kind unit at) = FaultsAlone w kind unit at
IsCut w start _ = Unit {0}
