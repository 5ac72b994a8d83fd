-- Where operations lead, and the worlds whose units can be run.
use Rattle.std.specs.Prelude.{◌+◌, ◌^◌, ◌<◌, ◌≤◌, length, Option, Some, None}
use Rattle.std.specs.List.{AllByRecursion}
use Rattle.cil_model.specs.Calls.{clauses_in_force}
use Rattle.cil_model.specs.Limits.{MAX_OLD_VALUES, MAX_VARIABLES}
use Rattle.cil_model.specs.Offsets.{RiseFrom}
use Rattle.cil_model.specs.UnitCalls.{unit_call}
use Rattle.cil_model.specs.declared.clause.Clause.{Clause}
use Rattle.cil_model.specs.declared.instruction.Instr.{Instr}
use Rattle.cil_model.specs.declared.instruction.Op.{Op}
use Rattle.cil_model.specs.declared.instruction.Op.TheVariants as ops
use Rattle.cil_model.specs.declared.machine.World.{World}
use Rattle.cil_model.specs.declared.unit.Unit.{Unit as MethodUnit}
use Rattle.cil_model.specs.declared.unit_numbers.UnitCall.{UnitCall}
use Rattle.cil_model.specs.declared.unit_numbers.UnitCall.TheVariants as calls
use Rattle.clause_eval.specs.Told.{OldsLackResult, olds_in_clauses}
use Rattle.cil_eval.specs.declared.flow.Flow.{Flow}
use Rattle.cil_eval.specs.declared.flow.Flow.TheVariants as flows

abbrev pub flow_of_call : Option UnitCall → Flow
flow_of_call (Some (calls.Callee number)) = flows.Into number
flow_of_call (Some (calls.Requires message)) = flows.Stays
flow_of_call (Some (calls.Ensures message)) = flows.Stays
flow_of_call (Some (calls.Assert message)) = flows.Stays
flow_of_call (Some (calls.Assume message)) = flows.Stays
flow_of_call (Some calls.EndContractBlock) = flows.Stays
flow_of_call (Some (calls.Result place)) = flows.Stays
flow_of_call (Some (calls.OldValue place)) = flows.Stays
flow_of_call None = flows.Stays

-- Where an operation leads.
abbrev pub flow_of : Op → Flow
flow_of ops.Return = flows.Back
flow_of (ops.Call number) = flow_of_call (unit_call number)
flow_of ops.Nop = flows.Stays
flow_of (ops.LoadArg n) = flows.Stays
flow_of (ops.StoreArg n) = flows.Stays
flow_of (ops.LoadLocal n) = flows.Stays
flow_of (ops.StoreLocal n) = flows.Stays
flow_of ops.Null = flows.Stays
flow_of (ops.Const n) = flows.Stays
flow_of ops.Dup = flows.Stays
flow_of ops.Pop = flows.Stays
flow_of (ops.Branch test target) = flows.Stays
flow_of (ops.Switch targets) = flows.Stays
flow_of (ops.Bin operator) = flows.Stays
flow_of ops.Neg = flows.Stays
flow_of ops.Not = flows.Stays
flow_of ops.ConvI4 = flows.Stays
flow_of (ops.Text token) = flows.Stays
flow_of (ops.NewArray number) = flows.Stays
flow_of ops.Length = flows.Stays
flow_of (ops.LoadElem place) = flows.Stays
flow_of (ops.StoreElem place) = flows.Stays
flow_of (ops.LoadAddr number) = flows.Stays
flow_of (ops.LoadInd place) = flows.Stays
flow_of (ops.StoreInd place) = flows.Stays

-- The unit can be run: its instructions begin one after another, no further than IL offsets go, it has no more
-- variables and old values than there is memory for, no more clauses than can be numbered, and no old value reads the
-- result.
pub record IsRunnable (unit : MethodUnit) : Type 0 where
  pub rise : RiseFrom 0 unit.instrs
  pub behind : AllByRecursion (λ (i : Instr). i.at + i.size < 2 ^ 32) unit.instrs
  pub args : length unit.args ≤ MAX_VARIABLES
  pub locals : length unit.locals ≤ MAX_VARIABLES
  pub clauses : length (clauses_in_force unit) < 256
  pub few_olds : olds_in_clauses (clauses_in_force unit) ≤ MAX_OLD_VALUES
  pub olds : AllByRecursion (λ (clause : Clause). OldsLackResult clause.tree) (clauses_in_force unit)

abbrev pub AreRunnable : World → Type 0
AreRunnable w = AllByRecursion IsRunnable w.units
