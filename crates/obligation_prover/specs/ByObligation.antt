-- What a state says of an obligation of a unit: of an own fault of the instruction where it stands, or of a clause that
-- the instruction tests.
use Rattle.std.specs.Prelude.{◌≡◌, ℕ, Bool, true, false, List, [], Option, Some, None, if◌then◌else◌, slice_get}
use Rattle.std.specs.Option.{ForSome, option_map_or}
use Rattle.cil_model.specs.Calls.{FreeCall, args_of}
use Rattle.cil_model.specs.Clauses.{clause_holds}
use Rattle.cil_model.specs.Runs.{Row, instr_at}
use Rattle.cil_model.specs.declared.clause.Clause.{Clause}
use Rattle.cil_model.specs.declared.instruction.Instr.{Instr}
use Rattle.cil_model.specs.declared.instruction.Op.{Op}
use Rattle.cil_model.specs.declared.machine.Config.TheVariants.{Fault}
use Rattle.cil_model.specs.declared.machine.FaultKind.{FaultKind}
use Rattle.cil_model.specs.declared.machine.FaultKind.TheVariants as faults
use Rattle.cil_model.specs.declared.machine.Obligation.{Obligation}
use Rattle.cil_model.specs.declared.machine.Value.{Value}
use Rattle.cil_model.specs.declared.unit.Unit.{Unit as MethodUnit}
use Rattle.contract_calls.specs.CallStates.{numbered}
use Rattle.contract_calls.specs.Meaning.{Returns, passing, reading_at_call, reading_at_return, returning}
use Rattle.machine_points.specs.Points.{IsPointOf}
use Rattle.machine_points.specs.declared.point.Point.{Point}
use Rattle.state_facts.specs.Holds.{HoldsAt}
use Rattle.state_facts.specs.StateFacts.{State}
use Rattle.obligation_prover.specs.Avoiding.{avoid}
use Rattle.obligation_prover.specs.ClausesTested.{CanTest, clause_assumed, clause_shown, clauses_tested, put_tested, tested_by}
use Rattle.obligation_prover.specs.Entailed.{rules_out}
use Rattle.obligation_prover.specs.Faults.{is_of_clause}
use Rattle.obligation_prover.specs.Meaning.{AssumesNoFault}
use Rattle.obligation_prover.specs.declared.tested.Tested.{Tested}
use Rattle.obligation_prover.specs.declared.tested.Tested.TheVariants as tests

-- ---- clauses

-- The clause of which this is the fault, where one is tested that has this number.
abbrev pub clause_of_fault : MethodUnit → Tested → FaultKind → Option Clause
clause_of_fault unit tests.Nothing kind = None
clause_of_fault unit (tests.Callee number) (faults.Requires n) = numbered (clauses_tested unit (tests.Callee number)) n
clause_of_fault unit (tests.Callee number) kind = None
clause_of_fault unit tests.Own (faults.Ensures n) = numbered (clauses_tested unit tests.Own) n
clause_of_fault unit tests.Own kind = None

-- It is shown where what is passed or returned is put into its places. The state is that before the instruction, and it
-- assumes the clauses before this one.
abbrev pub clause_entailed : MethodUnit → Tested → FaultKind → State → Bool
clause_entailed unit test kind state =
    option_map_or (λ clause. clause_shown unit test clause (put_tested unit test state)) (clause_of_fault unit test kind)
    false

-- It is assumed there.
abbrev pub clause_met : MethodUnit → Tested → FaultKind → State → State
clause_met unit test kind state =
    option_map_or (λ clause. clause_assumed unit test clause (put_tested unit test state))
    (clause_of_fault unit test kind) state

-- ---- obligations

-- The state entails that an instruction with this operation does not end in the fault.
abbrev pub entailed_at : MethodUnit → Op → FaultKind → State → Bool
entailed_at unit op kind state =
    if is_of_clause kind then clause_entailed unit (tested_by unit op) kind state else rules_out unit op kind state

-- The state where that is assumed.
abbrev pub met_at : MethodUnit → Op → FaultKind → State → State
met_at unit op kind state =
    if is_of_clause kind then clause_met unit (tested_by unit op) kind state else avoid unit op kind state

abbrev pub is_entailed : MethodUnit → Obligation → State → Bool
is_entailed unit o state = option_map_or (λ i. entailed_at unit i.op o.kind state) (instr_at unit.instrs o.at) false

abbrev pub assumed : MethodUnit → Obligation → State → State
assumed unit o state = option_map_or (λ i. met_at unit i.op o.kind state) (instr_at unit.instrs o.at) state

-- The clauses that the instruction tests where the obligation stands can be judged in the state.
abbrev pub CanJudge : MethodUnit → Obligation → State → Type 0
CanJudge unit o state =
    ForSome (instr_at unit.instrs o.at) (λ i. CanTest unit (tested_by unit i.op) state)

-- ---- what that means

-- No step by an instruction with this operation ends in the fault at a point of the unit of which the state holds.
abbrev pub EndsNotIn : MethodUnit → Op → FaultKind → State → Type 0
EndsNotIn unit op kind state =
    (i : Instr) (p : Point) (index at : ℕ) → i.op ≡ op → IsPointOf unit p → HoldsAt state p
    → Row (FreeCall unit) i.op [] unit i p.frame p.heap (Fault kind index at) → ⊥

-- So for the instruction where the obligation stands.
abbrev pub RulesItOut : MethodUnit → Obligation → State → Type 0
RulesItOut unit o state = ForSome (instr_at unit.instrs o.at) (λ i. EndsNotIn unit i.op o.kind state)

-- The new state holds of each call, and of each return, of which the old one does and where the clause is true: of the
-- point where what is passed or returned was put into its places.
abbrev pub AssumesClause : MethodUnit → Tested → Clause → State → State → Type 0
AssumesClause unit tests.Nothing clause old new = Unit {0}
AssumesClause unit (tests.Callee number) clause old new =
    ForSome (slice_get unit.callees number) (λ callee. (p : Point) (args : List Value)
    → args_of p.heap callee.args p.frame.stack ≡ Some args → clause_holds (reading_at_call args p.heap) clause ≡ true
    → HoldsAt old p → HoldsAt new (passing callee.args args p))
AssumesClause unit tests.Own clause old new =
    (p : Point) (result : Option Value) → Returns unit p result
    → clause_holds (reading_at_return p.frame p.heap result) clause ≡ true → HoldsAt old p
    → HoldsAt new (returning result p)

-- So of an obligation of a clause. Of another one the new state holds of each point of which the old one does, and
-- where the instruction ends in no fault.
pub record AssumesAt (unit : MethodUnit) (op : Op) (kind : FaultKind) (old new : State) : Type 0 where
  pub clause : is_of_clause kind ≡ true
      → ForSome (clause_of_fault unit (tested_by unit op) kind) (λ c. AssumesClause unit (tested_by unit op) c old new)
  pub own : is_of_clause kind ≡ false → AssumesNoFault unit op old new

abbrev pub AssumesIt : MethodUnit → Obligation → State → State → Type 0
AssumesIt unit o old new = ForSome (instr_at unit.instrs o.at) (λ i. AssumesAt unit i.op o.kind old new)
