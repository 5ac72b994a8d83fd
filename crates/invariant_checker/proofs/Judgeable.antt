-- Where a state fits the start of a block, the clauses that its instructions test can be judged.
use Rattle.std.proofs.Common.{◌≡◌, ℕ, ◌+◌, ◌<◌, List, [], ◌∷◌, length, slice_get, Option, Some, None, refl, sym, subst, ◌∙◌, arith}
use Rattle.std.specs.Option.{option_map_or}
use Rattle.std.proofs.lemmas.Option.{same_Some}
use Rattle.cil_model.specs.Kinds.{behind}
use Rattle.cil_model.specs.Passes.{stack_at}
use Rattle.cil_model.specs.Runs.{instr_at}
use Rattle.cil_model.specs.Shapes.{shape_of}
use Rattle.cil_model.specs.UnitCalls.{unit_call}
use Rattle.cil_model.specs.declared.instruction.Instr.{Instr}
use Rattle.cil_model.specs.declared.instruction.Op.{Op}
use Rattle.cil_model.specs.declared.instruction.Op.TheVariants as ops
use Rattle.cil_model.specs.declared.place.Kind.{Kind}
use Rattle.cil_model.specs.declared.unit.CalleeInfo.{CalleeInfo}
use Rattle.cil_model.specs.declared.unit.Unit.{Unit as MethodUnit}
use Rattle.cil_model.specs.declared.unit_numbers.UnitCall.{UnitCall}
use Rattle.cil_model.specs.declared.unit_numbers.UnitCall.TheVariants as calls
use Rattle.contract_calls.specs.CallForms.{CanCall, CanReturn}
use Rattle.obligation_prover.specs.ClausesTested.{CanTest, tested_at_call, tested_by}
use Rattle.obligation_prover.specs.declared.tested.Tested.TheVariants as tests
use Rattle.state_facts.specs.StateFacts.{State}
use Rattle.transfer_rules.specs.Flow.{Fits}
use Rattle.transfer_rules.specs.Forms.{FitsStack}
use Rattle.transfer_rules.specs.Owed.{CanCallBy, CanCallIt, CanDo}
use Rattle.transfer_rules.specs.Post.{post}
use Rattle.transfer_rules.specs.Laws.FlowSteps.{post_fits, post_ready}
use Rattle.transfer_rules.specs.Laws.ReturnForms.{fits_return, none_returns}
use Rattle.transfer_rules.specs.Laws.StackSizes.{within_stack}
use Rattle.unit_flow.specs.Chains.{IsChain}
use Rattle.unit_flow.specs.Flow.{IsLawful, block_instrs, start_of}
use Rattle.unit_flow.specs.declared.unit_flow.UnitFlow.{UnitFlow}
use Rattle.unit_flow.proofs.BlockChains.{block_chain}
use Rattle.unit_flow.proofs.KindsAlong.{typed_at}
use Rattle.unit_flow.proofs.LawfulCode.{decoded}
use Rattle.invariant_checker.specs.Verdicts.{CanJudge}

-- ---- a call

call_test : (unit : MethodUnit) (call : Option UnitCall) (state : State) → CanCallBy unit call state
    → CanTest unit (tested_at_call unit call) state
call_test unit (Some (calls.Callee number)) state can = by (slice_get unit.callees number) refl can
  where
    by : (o : Option CalleeInfo) → slice_get unit.callees number ≡ o → CanCallIt o state
        → CanTest unit (option_map_or (λ callee. tests.Callee number) o tests.Nothing) state
    by None is can = tt
    by (Some callee) is can = λ other there.
        subst (λ (c : CalleeInfo). CanCall c state) (same_Some callee other (sym is ∙ there)) can.1
call_test unit _ state can = tt

op_test : (unit : MethodUnit) (op : Op) (state : State) → CanDo unit op state
    → (op ≡ ops.Return → CanReturn unit state) → CanTest unit (tested_by unit op) state
op_test unit (ops.Call number) state can returns = call_test unit (unit_call number) state can
op_test unit ops.Return state can returns = returns refl
op_test unit _ state can returns = tt

-- ---- instructions of a block

module _ (code : UnitFlow) (lawful : IsLawful code) where
  abbrev unit_of : MethodUnit
  unit_of = code.unit

  abbrev before : ℕ → Option (List Kind)
  before at = stack_at code.unit.instrs code.kinds at

  -- The clauses that an instruction tests can be judged in a state that fits before it.
  pub can_test : (i : Instr) (at : ℕ) (state : State) → i.at ≡ at → instr_at code.unit.instrs i.at ≡ Some i
      → FitsStack code.unit (before at) state → CanTest code.unit (tested_by code.unit i.op) state
  can_test i at state here found fits =
      op_test code.unit i.op state (post_ready code lawful i at state here found fits)
      (λ is. returns is (before at) refl state fits)
    where
      returns : i.op ≡ ops.Return → (o : Option (List Kind)) → before at ≡ o → (state : State)
          → FitsStack code.unit o state → CanReturn code.unit state
      returns is o stack None fits = none_returns code.unit
      returns is None none (Some known) fits = absurd fits
      returns is (Some stack) there (Some known) fits =
          let typed = typed_at code.unit code.kinds (decoded code lawful) lawful.kinds i at stack here found there in
          fits_return code.unit stack typed.after (Some known)
          (omega (
            arith,
            lawful.formed.limits.variables,
            within_stack (shape_of code.unit) code.unit.instrs code.kinds at stack lawful.kinds there,
          ))
          (subst (λ (op : Op). behind (shape_of code.unit) op stack ≡ Some typed.after) is typed.typed) fits

  can_judge : (b : ℕ) (is : List Instr) (at : ℕ) (state : State) → IsChain code.unit code.graph b at is
      → FitsStack code.unit (before at) state → CanJudge code.unit is state
  can_judge b [] at state chain fits = elim chain [ ]
  can_judge b (i ∷ []) at state last fits = (
    can_test i at state last.here last.found fits,
    post_ready code lawful i at state last.here last.found fits,
    tt,
  )
  can_judge b (i ∷ j ∷ is) at state chain fits =
      let passed = chain.0.passed in (
        can_test i at state passed.here passed.found fits,
        post_ready code lawful i at state passed.here passed.found fits,
        can_judge b (j ∷ is) (i.at + i.size) (post code.unit i.op state) chain.1
            (post_fits code lawful i at state passed fits),
      )

  -- From a state that fits the start of a block.
  pub block_judged : (b : ℕ) (state : State) → b < length code.graph.blocks → Fits code b state
      → CanJudge code.unit (block_instrs code b) state
  block_judged b state below fits =
      can_judge b (block_instrs code b) (start_of code b) state (block_chain code lawful b below) fits
