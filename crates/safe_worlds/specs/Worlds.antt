-- What is true of each run of a world whose units are well formed and agree on what they say of each other.
use Rattle.std.specs.Prelude.{◌≡◌, ℕ, List, [], ◌∷◌, ◌++◌, Option, Some, None, slice_get}
use Rattle.std.specs.List.{AllByRecursion}
use Rattle.cil_model.specs.Calls.{FreeReturn, ensures_fault, result_of}
use Rattle.cil_model.specs.Runs.{IsDefined, Runs, Safe, Step}
use Rattle.cil_model.specs.Values.{Heap}
use Rattle.cil_model.specs.Worlds.{info_of}
use Rattle.cil_model.specs.declared.machine.Config.{Config}
use Rattle.cil_model.specs.declared.machine.Config.TheVariants as configs
use Rattle.cil_model.specs.declared.machine.FaultKind.{FaultKind}
use Rattle.cil_model.specs.declared.machine.Frame.{Frame}
use Rattle.cil_model.specs.declared.machine.Value.{Value}
use Rattle.cil_model.specs.declared.machine.World.{World}
use Rattle.cil_model.specs.declared.unit.Unit.{Unit as MethodUnit}
use Rattle.safe_worlds.specs.Cuts.{ComesTo, FaultsAlone, GivesFreely, IsCut}
use Rattle.safe_worlds.specs.Frames.{KeepsItsReach, entry_of}

-- From a call until its frame is gone, each array that there was keeps its type and its length, and its items too
-- unless it was passed; and the frame has no other arrays than those that were passed and those that were made since.
abbrev pub FramesKeep : World → Type 0
FramesKeep w =
    (m : ℕ) (args : List Value) (heap : Heap) (n : ℕ) (frames : List Frame) (after : Heap)
    → Runs w m args heap n (configs.Live frames after)
    → AllByRecursion (λ f. KeepsItsReach (entry_of f) f after) frames

-- What a frame returns with its Ensures true is what its callers take a call of it to give: each earlier array kept, a
-- result of its type, which is an array that was passed or made since, or none.
abbrev pub ReturnsAreFree : World → Type 0
ReturnsAreFree w =
    (m : ℕ) (args : List Value) (heap : Heap) (n : ℕ) (callers : List Frame) (f : Frame) (after : Heap)
    (unit : MethodUnit) (result : Option Value)
    → Runs w m args heap n (configs.Live (callers ++ f ∷ []) after) → slice_get w.units f.unit ≡ Some unit
    → result_of after unit.result f.stack ≡ Some result → ensures_fault unit f after result ≡ None
    → FreeReturn (info_of unit) f.entry_args f.entry_heap after result

-- So is what a whole run returns.
abbrev pub RunsGiveFreely : World → Type 0
RunsGiveFreely w =
    (m : ℕ) (args : List Value) (heap : Heap) (n : ℕ) (result : Option Value)
    → Runs w m args heap n (configs.Returned result)
    → GivesFreely w (record { unit = m; args = args; heap = heap }) result

-- Whatever a run comes to is cut into runs of the units by themselves.
abbrev pub RunsAreCut : World → Type 0
RunsAreCut w =
    (m : ℕ) (args : List Value) (heap : Heap) (n : ℕ) (c : Config) → Runs w m args heap n c
    → IsCut w (record { unit = m; args = args; heap = heap }) c

-- The frame that runs has come where it is by a run of its unit by itself: what is true of those is true of it.
abbrev pub LastIsLocal : World → Type 0
LastIsLocal w =
    (m : ℕ) (args : List Value) (heap : Heap) (n : ℕ) (callers : List Frame) (f : Frame) (after : Heap)
    → Runs w m args heap n (configs.Live (callers ++ f ∷ []) after)
    → ComesTo w (entry_of f) (configs.Live (f ∷ []) after)

-- Each fault of a run is one of a run of its unit by itself, whatever the other units do.
abbrev pub FaultsAreLocal : World → Type 0
FaultsAreLocal w =
    (m : ℕ) (args : List Value) (heap : Heap) (n : ℕ) (kind : FaultKind) (unit at : ℕ)
    → Runs w m args heap n (configs.Fault kind unit at)
    → FaultsAlone w kind unit at

-- No run is where nothing is defined.
abbrev pub RunsAreDefined : World → Type 0
RunsAreDefined w =
    (m : ℕ) (args : List Value) (heap : Heap) (n : ℕ) (c : Config) → Runs w m args heap n c → IsDefined (Step w) c

-- Each method is safe in the world.
abbrev pub AreSafe : World → Type 0
AreSafe w = (m : ℕ) → Safe w m
