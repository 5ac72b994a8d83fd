-- How runs start, and why they do not.
use Rattle.std.specs.Prelude.{◌≡◌, ◌≢◌, ℕ, ◌≤◌, nat_le, true, List, Option, Some, None, slice_get, if◌then◌else◌}
use Rattle.cil_model.specs.Calls.{clauses_in_force}
use Rattle.cil_model.specs.Clauses.{false_requires}
use Rattle.cil_model.specs.declared.machine.Value.{Value}
use Rattle.cil_model.specs.declared.machine.World.{World}
use Rattle.cil_model.specs.declared.unit.Unit.{Unit as MethodUnit}
use Rattle.clause_eval.specs.GivenArrays.{heap_of}
use Rattle.cil_eval.specs.Given.{args_fit, values_of}
use Rattle.cil_eval.specs.Held.{Holds}
use Rattle.cil_eval.specs.Machines.{IsRun, Machinery}
use Rattle.cil_eval.specs.Outcome.{State, entry_state, outcome}
use Rattle.cil_eval.specs.RunWorlds.{CanBeRun}
use Rattle.clause_eval.specs.Stores.{Store, cells_of}
use Rattle.cil_eval.specs.declared.frames.Frames.{Frames}
use Rattle.cil_model.specs.declared.arg.Arg.{Arg}
use Rattle.cil_eval.specs.declared.limits.Limits.{Limits}
use Rattle.cil_eval.specs.declared.start_refusal.StartRefusal.{StartRefusal}
use Rattle.cil_eval.specs.declared.start_refusal.StartRefusal.TheVariants as refusals

-- ---- refusals, in their order

abbrev pub cells_refusal : Limits → List Arg → Option StartRefusal
cells_refusal limits args = if nat_le (cells_of (heap_of args)) limits.cells then None else Some refusals.Cells

abbrev pub requires_refusal : Limits → List Arg → Option ℕ → Option StartRefusal
requires_refusal limits args (Some k) = Some (refusals.Requires k)
requires_refusal limits args None = cells_refusal limits args

abbrev pub unit_refusal : Limits → List Arg → Option MethodUnit → Option StartRefusal
unit_refusal limits args None = Some refusals.Unit
unit_refusal limits args (Some unit) =
    if args_fit unit.args args then requires_refusal limits args (false_requires (clauses_in_force unit) (values_of args) (heap_of args)) else Some refusals.Arguments

-- Why a run of the method of this index does not start with these arguments, if it does not.
abbrev pub start_refusal : World → Limits → ℕ → List Arg → Option StartRefusal
start_refusal w limits index args = unit_refusal limits args (slice_get w.units index)

-- ---- starts

-- The state in which the run of a method begins.
abbrev pub start_state : MethodUnit → ℕ → List Arg → State
start_state unit index args = entry_state unit index (values_of args) (heap_of args)

-- The machine is at the start of a run of the method.
pub record Begins (old : Machinery) (index : ℕ) (args : List Arg) (new : Machinery) : Type 0 where
  pub unit : MethodUnit
  pub unit_is : slice_get old.world.units index ≡ Some unit
  pub world : new.world ≡ old.world
  pub limits : new.limits ≡ old.limits
  pub taken : new.taken ≡ 0
  pub run : CanBeRun old.world → IsRun new (start_state unit index args)
  pub never_stuck : CanBeRun old.world → (n : ℕ) → outcome old.world old.limits n (start_state unit index args) ≢ None

-- A run of this unit's method may start, and these are the values of its arguments.
pub record IsAdmitted (w : World) (limits : Limits) (index : ℕ) (args : List Arg) (values : List Value) (unit : MethodUnit) : Type 0 where
  pub unit_is : slice_get w.units index ≡ Some unit
  pub no_refusal : start_refusal w limits index args ≡ None
  pub fit : args_fit unit.args args ≡ true
  pub required : false_requires (clauses_in_force unit) (values_of args) (heap_of args) ≡ None
  pub few_cells : cells_of (heap_of args) ≤ limits.cells
  pub values_are : values ≡ values_of args

-- The frames and the memory hold the start of a run.
abbrev pub IsBegun : World → ℕ → List Arg → MethodUnit → Frames → Store → Type 0
IsBegun w index args unit frames store = Holds w frames store.heap (start_state unit index args)
