-- Which clauses an instruction tests, and in which states they are judged: the arguments of a call, or the result of a
-- return, are put into their places, and each clause is judged where those before it are assumed.
use Rattle.std.specs.Prelude.{ℕ, ◌≤◌, Bool, false, List, [], ◌∷◌, length, map, slice_get, Option, Some, None}
use Rattle.std.specs.List.{AllByRecursion, range_with_len}
use Rattle.std.specs.Option.{ForSome, option_map_or}
use Rattle.cil_model.specs.Calls.{clauses_in_force}
use Rattle.cil_model.specs.Clauses.{clauses_of}
use Rattle.cil_model.specs.Limits.{MAX_CLAUSES}
use Rattle.cil_model.specs.UnitCalls.{unit_call}
use Rattle.cil_model.specs.declared.clause.Clause.{Clause}
use Rattle.cil_model.specs.declared.clause.ClauseKind.{ClauseKind}
use Rattle.cil_model.specs.declared.clause.ClauseKind.TheVariants as kinds
use Rattle.cil_model.specs.declared.instruction.Instr.{Instr}
use Rattle.cil_model.specs.declared.instruction.Op.{Op}
use Rattle.cil_model.specs.declared.instruction.Op.TheVariants as ops
use Rattle.cil_model.specs.declared.machine.FaultKind.{FaultKind}
use Rattle.cil_model.specs.declared.machine.FaultKind.TheVariants as faults
use Rattle.cil_model.specs.declared.machine.Obligation.{Obligation}
use Rattle.cil_model.specs.declared.unit.Unit.{Unit as MethodUnit}
use Rattle.cil_model.specs.declared.unit_numbers.UnitCall.{UnitCall}
use Rattle.cil_model.specs.declared.unit_numbers.UnitCall.TheVariants as calls
use Rattle.contract_calls.specs.Arguments.{put_args, put_result}
use Rattle.contract_calls.specs.CallForms.{CanCall, CanReturn, IsClauseOf}
use Rattle.contract_calls.specs.CallStates.{ensures_assumed, ensures_shown, requires_assumed, requires_shown}
use Rattle.state_facts.specs.StateFacts.{State}
use Rattle.obligation_prover.specs.declared.tested.Tested.{Tested}
use Rattle.obligation_prover.specs.declared.tested.Tested.TheVariants as tests

-- ---- which

abbrev pub tested_at_call : MethodUnit → Option UnitCall → Tested
tested_at_call unit (Some (calls.Callee number)) =
    option_map_or (λ callee. tests.Callee number) (slice_get unit.callees number) tests.Nothing
tested_at_call unit (Some (calls.Requires message)) = tests.Nothing
tested_at_call unit (Some (calls.Ensures message)) = tests.Nothing
tested_at_call unit (Some (calls.Assert message)) = tests.Nothing
tested_at_call unit (Some (calls.Assume message)) = tests.Nothing
tested_at_call unit (Some calls.EndContractBlock) = tests.Nothing
tested_at_call unit (Some (calls.Result place)) = tests.Nothing
tested_at_call unit (Some (calls.OldValue place)) = tests.Nothing
tested_at_call unit None = tests.Nothing

-- Of whose contract an instruction of the unit with this operation tests clauses.
abbrev pub tested_by : MethodUnit → Op → Tested
tested_by unit (ops.Call number) = tested_at_call unit (unit_call number)
tested_by unit ops.Return = tests.Own
tested_by unit ops.Nop = tests.Nothing
tested_by unit (ops.LoadArg n) = tests.Nothing
tested_by unit (ops.StoreArg n) = tests.Nothing
tested_by unit (ops.LoadLocal n) = tests.Nothing
tested_by unit (ops.StoreLocal n) = tests.Nothing
tested_by unit ops.Null = tests.Nothing
tested_by unit (ops.Const n) = tests.Nothing
tested_by unit ops.Dup = tests.Nothing
tested_by unit ops.Pop = tests.Nothing
tested_by unit (ops.Branch test target) = tests.Nothing
tested_by unit (ops.Switch targets) = tests.Nothing
tested_by unit (ops.Bin operator) = tests.Nothing
tested_by unit ops.Neg = tests.Nothing
tested_by unit ops.Not = tests.Nothing
tested_by unit ops.ConvI4 = tests.Nothing
tested_by unit (ops.Text token) = tests.Nothing
tested_by unit (ops.NewArray number) = tests.Nothing
tested_by unit ops.Length = tests.Nothing
tested_by unit (ops.LoadElem place) = tests.Nothing
tested_by unit (ops.StoreElem place) = tests.Nothing
tested_by unit (ops.LoadAddr number) = tests.Nothing
tested_by unit (ops.LoadInd place) = tests.Nothing
tested_by unit (ops.StoreInd place) = tests.Nothing

abbrev pub contract_of : MethodUnit → Tested → List Clause
contract_of unit tests.Nothing = []
contract_of unit (tests.Callee number) = option_map_or (λ callee. callee.clauses) (slice_get unit.callees number) []
contract_of unit tests.Own = clauses_in_force unit

abbrev pub kind_tested : Tested → ClauseKind
kind_tested tests.Own = kinds.Ensures
kind_tested (tests.Callee number) = kinds.Requires
kind_tested tests.Nothing = kinds.Requires

-- The clauses that are tested, in order.
abbrev pub clauses_tested : MethodUnit → Tested → List Clause
clauses_tested unit test = clauses_of (kind_tested test) (contract_of unit test)

-- ---- what is owed

-- The fault of the clause of this number, counted from 1.
abbrev pub fault_of_clause : Tested → ℕ → FaultKind
fault_of_clause tests.Own n = faults.Ensures n
fault_of_clause (tests.Callee number) n = faults.Requires n
fault_of_clause tests.Nothing n = faults.Requires n

abbrev pub callee_tested : Tested → Option ℕ
callee_tested (tests.Callee number) = Some number
callee_tested tests.Own = None
callee_tested tests.Nothing = None

-- That the clause of this number is true.
abbrev pub clause_obligation : Instr → Tested → ℕ → Obligation
clause_obligation i test n = record { at = i.at; kind = fault_of_clause test n; callee = callee_tested test }

-- So for each clause that an instruction of the unit tests.
abbrev pub clause_obligations : MethodUnit → Instr → List Obligation
clause_obligations unit i =
    let test = tested_by unit i.op in
    map (clause_obligation i test) (range_with_len 1 (length (clauses_tested unit test)))

-- ---- in which states

-- What a call passes, or a return gives, is put into its places.
abbrev pub put_tested : MethodUnit → Tested → State → State
put_tested unit tests.Nothing state = state
put_tested unit (tests.Callee number) state =
    option_map_or (λ callee. put_args callee.args state) (slice_get unit.callees number) state
put_tested unit tests.Own state = put_result unit.result state

-- The clause is shown there.
abbrev pub clause_shown : MethodUnit → Tested → Clause → State → Bool
clause_shown unit tests.Nothing clause state = false
clause_shown unit (tests.Callee number) clause state =
    option_map_or (λ callee. requires_shown callee clause state) (slice_get unit.callees number) false
clause_shown unit tests.Own clause state = ensures_shown unit clause state

-- It is assumed there.
abbrev pub clause_assumed : MethodUnit → Tested → Clause → State → State
clause_assumed unit tests.Nothing clause state = state
clause_assumed unit (tests.Callee number) clause state =
    option_map_or (λ callee. requires_assumed callee clause state) (slice_get unit.callees number) state
clause_assumed unit tests.Own clause state = ensures_assumed unit clause state

-- Whether each of these clauses is shown, where those before it are assumed.
abbrev pub shown_in_turn : MethodUnit → Tested → List Clause → State → List Bool
shown_in_turn unit test [] state = []
shown_in_turn unit test (clause ∷ clauses) state =
    clause_shown unit test clause state ∷ shown_in_turn unit test clauses (clause_assumed unit test clause state)

-- All of them are assumed.
abbrev pub assumed_in_turn : MethodUnit → Tested → List Clause → State → State
assumed_in_turn unit test [] state = state
assumed_in_turn unit test (clause ∷ clauses) state =
    assumed_in_turn unit test clauses (clause_assumed unit test clause state)

-- So for the clauses that an instruction of the unit with this operation tests, from the state before it.
abbrev pub clauses_shown : MethodUnit → Op → State → List Bool
clauses_shown unit op state =
    let test = tested_by unit op in
    shown_in_turn unit test (clauses_tested unit test) (put_tested unit test state)

-- ---- what has to be there

-- The clauses can be judged in the state: what they read is there, and of the kinds of their places.
abbrev pub CanTest : MethodUnit → Tested → State → Type 0
CanTest unit tests.Nothing state = Unit {0}
CanTest unit (tests.Callee number) state = ForSome (slice_get unit.callees number) (λ callee. CanCall callee state)
CanTest unit tests.Own state = CanReturn unit state

abbrev pub IsClauseTested : MethodUnit → Tested → Clause → Type 0
IsClauseTested unit tests.Nothing clause = Unit {0}
IsClauseTested unit (tests.Callee number) clause =
    ForSome (slice_get unit.callees number) (λ callee. IsClauseOf callee.args callee.result clause)
IsClauseTested unit tests.Own clause = IsClauseOf unit.args unit.result clause

-- The contract is one of a well formed unit.
pub record IsContract (unit : MethodUnit) (test : Tested) : Type 0 where
  pub few : length (contract_of unit test) ≤ MAX_CLAUSES
  pub clauses : AllByRecursion (IsClauseTested unit test) (contract_of unit test)
