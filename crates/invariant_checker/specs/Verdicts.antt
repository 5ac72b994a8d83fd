-- The verdict on each obligation of a unit's body under states, one for each block.
use Rattle.std.specs.Prelude.{ℕ, ◌+◌, Bool, false, List, [], ◌∷◌, ◌++◌, map, length, if◌then◌else◌}
use Rattle.std.specs.List.{flat_map, range_with_len}
use Rattle.cil_model.specs.declared.instruction.Instr.{Instr}
use Rattle.cil_model.specs.declared.machine.FaultKind.{FaultKind}
use Rattle.cil_model.specs.declared.machine.Obligation.{Obligation}
use Rattle.cil_model.specs.declared.unit.Unit.{Unit as MethodUnit}
use Rattle.obligation_prover.specs.Avoiding.{avoid}
use Rattle.obligation_prover.specs.ClausesTested.{CanTest, clause_obligation, clauses_shown, tested_by}
use Rattle.obligation_prover.specs.Entailed.{rules_out}
use Rattle.obligation_prover.specs.Faults.{faults_of}
use Rattle.obligation_prover.specs.Obligations.{obligation, obligations_of}
use Rattle.obligation_prover.specs.declared.tested.Tested.{Tested}
use Rattle.state_facts.specs.StateFacts.{State}
use Rattle.transfer_rules.specs.Inductive.{state_at}
use Rattle.transfer_rules.specs.Owed.{CanDo}
use Rattle.transfer_rules.specs.Post.{post}
use Rattle.unit_flow.specs.Flow.{block_instrs}
use Rattle.unit_flow.specs.declared.unit_flow.UnitFlow.{UnitFlow}
use Rattle.invariant_checker.specs.Inducts.{is_inductive}
use Rattle.invariant_checker.specs.declared.verdict.Verdict.{Verdict}

-- ---- at an instruction

-- Whether each of these faults is ruled out in turn, where those before it are assumed not to have come.
abbrev pub verdicts_in_turn : MethodUnit → Instr → List FaultKind → State → List Verdict
verdicts_in_turn unit i [] state = []
verdicts_in_turn unit i (kind ∷ kinds) state =
    record { obligation = obligation i kind; proved = rules_out unit i.op kind state }
    ∷ verdicts_in_turn unit i kinds (avoid unit i.op kind state)

-- Those on its own faults.
abbrev pub own_verdicts : MethodUnit → Instr → State → List Verdict
own_verdicts unit i state = verdicts_in_turn unit i (faults_of unit i.op) state

-- Of clauses that are shown or not, from this number on.
abbrev pub clauses_from : Instr → Tested → ℕ → List Bool → List Verdict
clauses_from i test n [] = []
clauses_from i test n (shown ∷ others) =
    record { obligation = clause_obligation i test n; proved = shown } ∷ clauses_from i test (n + 1) others

-- Those on the clauses that it tests, in turn.
abbrev pub clause_verdicts : MethodUnit → Instr → State → List Verdict
clause_verdicts unit i state = clauses_from i (tested_by unit i.op) 1 (clauses_shown unit i.op state)

-- The verdicts at an instruction of the unit, from the state before it.
abbrev pub verdicts_at : MethodUnit → Instr → State → List Verdict
verdicts_at unit i state = own_verdicts unit i state ++ clause_verdicts unit i state

-- ---- in a block

-- The clauses of each of these instructions can be judged in the state before it, and its rule may be asked there.
abbrev pub CanJudge : MethodUnit → List Instr → State → Type 0
CanJudge unit [] state = Unit {0}
CanJudge unit (i ∷ is) state =
    CanTest unit (tested_by unit i.op) state × CanDo unit i.op state × CanJudge unit is (post unit i.op state)

-- Those of instructions that follow each other, from the state before the first.
abbrev pub verdicts_from : MethodUnit → List Instr → State → List Verdict
verdicts_from unit [] state = []
verdicts_from unit (i ∷ is) state = verdicts_at unit i state ++ verdicts_from unit is (post unit i.op state)

-- Those in a block, from the state at its start.
abbrev pub verdicts_of_block : UnitFlow → State → ℕ → List Verdict
verdicts_of_block code state block = verdicts_from code.unit (block_instrs code block) state

abbrev pub verdicts_in : UnitFlow → List State → ℕ → List Verdict
verdicts_in code states block = verdicts_of_block code (state_at states block) block

-- ---- of a unit

-- Those in all blocks, in order.
abbrev pub verdicts_by_blocks : UnitFlow → List State → List Verdict
verdicts_by_blocks code states = flat_map (verdicts_in code states) (range_with_len 0 (length code.graph.blocks))

abbrev pub unproved : Obligation → Verdict
unproved o = record { obligation = o; proved = false }

-- Each obligation of a unit with its verdict: nothing is proved by states that are no invariant.
unfoldable pub verdicts : UnitFlow → List State → List Verdict
verdicts code states =
    if is_inductive code states then verdicts_by_blocks code states else map unproved (obligations_of code.unit)
