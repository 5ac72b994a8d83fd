-- How many obligations a unit has, and where.
use Rattle.std.proofs.Common.{◌≡◌, ℕ, ◌+◌, ◌*◌, ◌<◌, ◌≤◌, nat_le, List, [], ◌∷◌, length, map, All, Option, Some, sym, ap, subst, ◌∙◌, arith, length-append}
use Rattle.std.specs.List.{AllByRecursion, flat_map, range_with_len}
use Rattle.std.proofs.lemmas.Bool.{cond_both}
use Rattle.std.proofs.lemmas.List.{length-map}
use Rattle.std.proofs.lemmas.List.Elements.{All-from_recursion}
use Rattle.std.proofs.lemmas.List.FromFn.{length-range_with_len}
use Rattle.cil_model.specs.Code.{CodeFrom}
use Rattle.cil_model.specs.Limits.{MAX_CLAUSES}
use Rattle.cil_model.specs.UnitCalls.{unit_call}
use Rattle.cil_model.specs.WellFormed.{IsWellFormed}
use Rattle.cil_model.specs.declared.instruction.BinOp.{BinOp}
use Rattle.cil_model.specs.declared.instruction.BinOp.TheVariants as operators
use Rattle.cil_model.specs.declared.instruction.Instr.{Instr}
use Rattle.cil_model.specs.declared.instruction.Op.{Op}
use Rattle.cil_model.specs.declared.instruction.Op.TheVariants as ops
use Rattle.cil_model.specs.declared.machine.Obligation.{Obligation}
use Rattle.cil_model.specs.declared.unit.Unit.{Unit as MethodUnit}
use Rattle.cil_model.specs.declared.unit_numbers.UnitCall.{UnitCall}
use Rattle.cil_model.specs.declared.unit_numbers.UnitCall.TheVariants as calls
use Rattle.cil_model.proofs.Forms.{spelling_some}
use Rattle.cil_model.proofs.Lists.{all_append}
use Rattle.obligation_prover.specs.ClausesTested.{clause_obligation, clause_obligations, clauses_tested, tested_at_call, tested_by}
use Rattle.obligation_prover.specs.Faults.{call_faults, faults_of, operator_faults}
use Rattle.obligation_prover.specs.Obligations.{obligation, obligations_at, obligations_in, own_obligations}
use Rattle.obligation_prover.proofs.Contracts.{few_tested}
use Rattle.state_facts.specs.StateFacts.{State}
use Rattle.unit_flow.specs.Flow.{IsLawful}
use Rattle.unit_flow.specs.declared.unit_flow.UnitFlow.{UnitFlow}
use Rattle.invariant_checker.specs.Verdicts.{verdicts}
use Rattle.invariant_checker.specs.declared.verdict.Verdict.{Verdict}
use Rattle.invariant_checker.proofs.Covering.{each_told, obligations_told}

-- ---- how many

operator_few : (op : BinOp) → length (operator_faults op) ≤ MAX_CLAUSES
operator_few operators.Div = omega arith
operator_few operators.Rem = omega arith
operator_few operators.DivUn = omega arith
operator_few operators.RemUn = omega arith
operator_few operators.Shl = omega arith
operator_few operators.Shr = omega arith
operator_few operators.ShrUn = omega arith
operator_few operators.AddOvf = omega arith
operator_few operators.MulOvf = omega arith
operator_few operators.SubOvf = omega arith
operator_few _ = omega arith

-- What an operation may end in, and the clauses that it tests, are together no more than a method may have clauses:
-- where there are any of the ones, there are none of the others.
abbrev AreFew : MethodUnit → Op → Type 0
AreFew unit op =
    length (clauses_tested unit (tested_by unit op)) ≤ MAX_CLAUSES
    → length (faults_of unit op) + length (clauses_tested unit (tested_by unit op)) ≤ MAX_CLAUSES

call_few : (unit : MethodUnit) (call : Option UnitCall)
    → length (clauses_tested unit (tested_at_call unit call)) ≤ MAX_CLAUSES
    → length (call_faults call) + length (clauses_tested unit (tested_at_call unit call)) ≤ MAX_CLAUSES
call_few unit (Some (calls.Assert message)) few = omega arith
call_few unit _ few = omega (arith, few)

op_few : (unit : MethodUnit) (op : Op) → AreFew unit op
op_few unit (ops.Bin operator) few = omega (arith, operator_few operator)
op_few unit (ops.Call number) few = call_few unit (unit_call number) few
op_few unit (ops.NewArray number) few = omega arith
op_few unit ops.Length few = omega arith
op_few unit (ops.LoadElem place) few = omega arith
op_few unit (ops.StoreElem place) few = omega arith
op_few unit (ops.LoadAddr number) few = omega arith
op_few unit _ few = omega (arith, few)

at_few : (unit : MethodUnit) (i : Instr) → IsWellFormed unit → length (obligations_at unit i) ≤ MAX_CLAUSES
at_few unit i formed =
    let test = tested_by unit i.op in
    let count = length (clauses_tested unit test) in
    omega (
      arith,
      length-append (own_obligations unit i) (clause_obligations unit i),
      length-map (faults_of unit i.op) (obligation i),
      length-map (range_with_len 1 count) (clause_obligation i test),
      length-range_with_len 1 count,
      op_few unit i.op (few_tested unit i.op formed),
    )

in_few : (unit : MethodUnit) (i : Instr) → IsWellFormed unit → length (obligations_in unit i) ≤ MAX_CLAUSES
in_few unit i formed =
    cond_both (nat_le unit.body_start i.at) (obligations_at unit i) []
    (λ (os : List Obligation). length os ≤ MAX_CLAUSES) (λ e. at_few unit i formed) (λ e. omega arith)

all_few : (unit : MethodUnit) (is : List Instr) → IsWellFormed unit
    → length (flat_map (obligations_in unit) is) ≤ MAX_CLAUSES * length is
all_few unit [] formed = omega arith
all_few unit (i ∷ is) formed =
    omega (
      arith,
      length-append (obligations_in unit i) (flat_map (obligations_in unit) is),
      in_few unit i formed,
      all_few unit is formed,
    )

-- ---- where

weaker : (a b : ℕ) (is : List Instr) → a ≤ b → AllByRecursion (λ i. i.at < a) is
    → AllByRecursion (λ i. i.at < b) is
weaker a b [] le all = tt
weaker a b (i ∷ is) le all = (omega (arith, le, all.0), weaker a b is le all.1)

offsets_below : (at : ℕ) (is : List Instr) (code : List ℕ) → CodeFrom at is code
    → AllByRecursion (λ i. i.at < at + length code) is
offsets_below at [] code spelled = tt
offsets_below at (i ∷ is) code (place, (bytes, rest, spells, split, others)) =
    let some = spelling_some i bytes spells in
    let long : length code ≡ length bytes + length rest = ap length split ∙ length-append bytes rest in
    let size : i.size ≡ length bytes = spells.size in (
      omega (arith, some, long, place),
      weaker (at + i.size + length rest) (at + length code) is (omega (arith, long, size))
          (offsets_below (at + i.size) is rest others),
    )

mapped_below : {X : Type 0} (n : ℕ) (f : X → Obligation) (xs : List X) → ((x : X) → (f x).at < n)
    → AllByRecursion (λ o. o.at < n) (map f xs)
mapped_below n f [] below = tt
mapped_below n f (x ∷ xs) below = (below x, mapped_below n f xs below)

at_below : (n : ℕ) (unit : MethodUnit) (i : Instr) → i.at < n → AllByRecursion (λ o. o.at < n) (obligations_at unit i)
at_below n unit i below =
    let test = tested_by unit i.op in
    all_append (λ o. o.at < n) (own_obligations unit i) (clause_obligations unit i)
    (mapped_below n (obligation i) (faults_of unit i.op) (λ kind. below))
    (mapped_below n (clause_obligation i test) (range_with_len 1 (length (clauses_tested unit test))) (λ k. below))

listed_below : (n : ℕ) (unit : MethodUnit) (is : List Instr) → AllByRecursion (λ i. i.at < n) is
    → AllByRecursion (λ o. o.at < n) (flat_map (obligations_in unit) is)
listed_below n unit [] all = tt
listed_below n unit (i ∷ is) all =
    all_append (λ o. o.at < n) (obligations_in unit i) (flat_map (obligations_in unit) is)
    (cond_both (nat_le unit.body_start i.at) (obligations_at unit i) [] (AllByRecursion (λ o. o.at < n))
    (λ e. at_below n unit i all.0) (λ e. tt))
    (listed_below n unit is all.1)

told_below : (n : ℕ) (found : List Verdict) → AllByRecursion (λ o. o.at < n) (obligations_told found)
    → AllByRecursion (λ v. v.obligation.at < n) found
told_below n [] all = tt
told_below n (v ∷ found) all = (all.0, told_below n found all.1)

-- ---- verdicts

module _ (code : UnitFlow) (states : List State) (lawful : IsLawful code) where
  -- There are no more for an instruction than a method may have clauses.
  pub verdicts_few : length (verdicts code states) ≤ MAX_CLAUSES * length code.unit.instrs
  verdicts_few =
      omega (
        arith,
        length-map (verdicts code states) (λ (v : Verdict). v.obligation),
        ap length (each_told code states lawful),
        all_few code.unit code.unit.instrs lawful.formed,
      )

  -- They stand within the code.
  pub verdicts_inside : All (λ v. v.obligation.at < length code.unit.code) (verdicts code states)
  verdicts_inside =
      let end = length code.unit.code in
      let instrs = weaker (0 + end) end code.unit.instrs (omega arith)
      (offsets_below 0 code.unit.instrs code.unit.code lawful.formed.code.spelled) in
      All-from_recursion (λ v. v.obligation.at < end) (verdicts code states)
      (told_below end (verdicts code states)
      (subst (AllByRecursion (λ o. o.at < end)) (sym (each_told code states lawful))
      (listed_below end code.unit code.unit.instrs instrs)))
