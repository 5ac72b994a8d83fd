-- A state that fits the start of a block fits wherever an edge from there goes, and holds where a point comes along it.
use Rattle.std.proofs.Common.{◌≡◌, ◌≢◌, ℕ, ◌+◌, ◌<◌, true, List, [], ◌∷◌, length, slice_get, Option, Some, None, refl, subst, arith}
use Rattle.std.specs.List.{AllByRecursion}
use Rattle.std.specs.Option.{ForSome, option_and_then}
use Rattle.std.proofs.lemmas.Option.{none-some, same_Some}
use Rattle.cil_model.specs.Bodies.{is_executed}
use Rattle.cil_model.specs.FitKinds.{OperandFits}
use Rattle.cil_model.specs.Kinds as kinds
use Rattle.cil_model.specs.Passes.{stack_at, successors}
use Rattle.cil_model.specs.Runs.{instr_at}
use Rattle.cil_model.specs.Shapes.{shape_of}
use Rattle.cil_model.specs.UnitCalls.{unit_call}
use Rattle.cil_model.specs.WellFormed.{IsCallee, IsWellFormed}
use Rattle.cil_model.specs.declared.instruction.Instr.{Instr}
use Rattle.cil_model.specs.declared.instruction.Op.{Op}
use Rattle.cil_model.specs.declared.instruction.Op.TheVariants as ops
use Rattle.cil_model.specs.declared.place.Kind.{Kind}
use Rattle.cil_model.specs.declared.unit.CalleeInfo.{CalleeInfo}
use Rattle.cil_model.specs.declared.unit.Unit.{Unit as MethodUnit}
use Rattle.cil_model.specs.declared.unit_numbers.UnitCall.{UnitCall}
use Rattle.cil_model.specs.declared.unit_numbers.UnitCall.TheVariants as calls
use Rattle.machine_points.specs.declared.point.Point.{Point}
use Rattle.obligation_prover.specs.Avoiding.{avoid_all}
use Rattle.state_facts.specs.Forms.{HasForm}
use Rattle.state_facts.specs.Holds.{HoldsAt}
use Rattle.state_facts.specs.StateFacts.{StateFacts, State}
use Rattle.transfer_rules.specs.Acts.{acted}
use Rattle.transfer_rules.specs.Choices.{chosen}
use Rattle.transfer_rules.specs.Flow.{AreReady, Fits, along_edge, through}
use Rattle.transfer_rules.specs.Forms.{FitsStack, HasKinds, kinds_over}
use Rattle.transfer_rules.specs.Owed.{CanCallBy, CanCallIt, CanDo, IsReady}
use Rattle.transfer_rules.specs.Post.{along, post}
use Rattle.transfer_rules.specs.Laws.CalledForms.{IsWithin, can_call_it, found_callee, no_call}
use Rattle.transfer_rules.specs.Laws.Choosing.{chosen_stays}
use Rattle.transfer_rules.specs.Laws.FormsBehind.{absorbed_fits, acted_fits, stays_fitting}
use Rattle.transfer_rules.specs.Laws.FormsMerged.{normal_fits}
use Rattle.transfer_rules.specs.Laws.PostLaws.{avoided_stays}
use Rattle.transfer_rules.specs.Laws.Ready.{avoided_ready, chosen_ready}
use Rattle.transfer_rules.specs.Laws.ReturnForms.{fits_return, none_returns}
use Rattle.transfer_rules.specs.Laws.StackSizes.{within_stack}
use Rattle.transfer_rules.specs.Laws.StepsHold.{AreFormed, along_keeps}
use Rattle.unit_flow.specs.Chains.{IsChain, IsLeft, IsPassed, IsWay}
use Rattle.unit_flow.specs.Flow.{GoesAlong, IsLawful, block_instrs, edge_at, kinds_at, start_of}
use Rattle.unit_flow.specs.declared.unit_flow.UnitFlow.{UnitFlow}
use Rattle.unit_flow.proofs.BlockChains.{block_chain}
use Rattle.unit_flow.proofs.KindsAlong.{left_along, operand, passed_along, typed_at}
use Rattle.unit_flow.proofs.LawfulCode.{decoded, joins, way}

-- ---- one instruction

pub fits_formed : (unit : MethodUnit) (at : Option (List Kind)) (state : State) → FitsStack unit at state
    → ForSome state HasForm
fits_formed unit at None fits = λ x is. absurd (none-some x is)
fits_formed unit None (Some known) fits = absurd fits
fits_formed unit (Some stack) (Some known) has = λ x is. subst HasForm (same_Some known x is) has.form

-- Rules one after another, of which what is known is ready for the next.
then_fits : (unit : MethodUnit) (op : Op) (stack : List Kind) (at : Option (List Kind)) (next : StateFacts → State)
    (state : State) → FitsStack unit (Some stack) state → ForSome state (IsReady op)
    → ((known : StateFacts) → IsReady op known → HasKinds (kinds_over unit stack) known
    → FitsStack unit at (next known))
    → FitsStack unit at (option_and_then next state)
then_fits unit op stack at next None fits ready more = tt
then_fits unit op stack at next (Some known) has ready more = more known (ready known refl) has

module _ (unit : MethodUnit) (op : Op) (stack after : List Kind) (within : IsWithin unit stack)
    (operand : OperandFits op) (executed : is_executed op ≡ true) (goes : op ≢ ops.Return)
    (typed : kinds.behind (shape_of unit) op stack ≡ Some after) where
  avoided_fits : (state : State) → FitsStack unit (Some stack) state → FitsStack unit (Some stack) (avoid_all op state)
  avoided_fits None fits = tt
  avoided_fits (Some known) has =
      stays_fitting unit stack known (avoid_all op (Some known)) (avoided_stays op known has.form) has

  ready_behind : (state : State) → FitsStack unit (Some stack) state → ForSome (avoid_all op state) (IsReady op)
  ready_behind state fits = avoided_ready op state (fits_formed unit (Some stack) state fits)

  post_kept : (state : State) → FitsStack unit (Some stack) state → FitsStack unit (Some after) (post unit op state)
  unfolding post
  post_kept state fits =
      then_fits unit op stack (Some after) (acted unit op) (avoid_all op state) (avoided_fits state fits)
      (ready_behind state fits)
      (λ known ready has. acted_fits unit op stack after known operand executed goes within ready typed has)

  along_kept : (number : ℕ) (state : State) → FitsStack unit (Some stack) state
      → FitsStack unit (Some after) (along unit op number state)
  unfolding along
  along_kept number state fits =
      let ready = ready_behind state fits in
      then_fits unit op stack (Some after) (acted unit op) (option_and_then (chosen op number) (avoid_all op state))
      (then_fits unit op stack (Some stack) (chosen op number) (avoid_all op state) (avoided_fits state fits) ready
      (λ known own has. stays_fitting unit stack known (chosen op number known) (chosen_stays op number known has.form)
      has))
      (chosen_ready op number (avoid_all op state) ready)
      (λ known ready has. acted_fits unit op stack after known operand executed goes within ready typed has)

-- Where nothing is reached before, nothing is after.
none_behind : (unit : MethodUnit) (op : Op) → post unit op None ≡ None
unfolding post
none_behind unit op = refl

none_along : (unit : MethodUnit) (op : Op) (number : ℕ) → along unit op number None ≡ None
unfolding along
none_along unit op number = refl

-- ---- calls and returns

named_ready : (unit : MethodUnit) (call : Option UnitCall) (stack after : List Kind) (state : State)
    → IsWithin unit stack → kinds.behind_call (shape_of unit) call stack ≡ Some after → FitsStack unit (Some stack) state
    → CanCallBy unit call state
named_ready unit (Some (calls.Callee number)) stack after state within typed fits =
    can_call_it unit (slice_get unit.callees number) stack after state
    (λ info is. found_callee unit.callees number info within.callees is) within.few typed fits
named_ready unit _ stack after state within typed fits = tt

-- What a call takes, and what a return reads, is there where the state fits.
fits_ready : (unit : MethodUnit) (op : Op) (stack after : List Kind) (state : State) → IsWellFormed unit
    → IsWithin unit stack → kinds.behind (shape_of unit) op stack ≡ Some after → FitsStack unit (Some stack) state
    → CanDo unit op state
fits_ready unit (ops.Call number) stack after state formed within typed fits =
    named_ready unit (unit_call number) stack after state within typed fits
fits_ready unit ops.Return stack after state formed within typed fits =
    (formed, fits_return unit stack after state within.few typed fits)
fits_ready unit _ stack after state formed within typed fits = tt

-- Where nothing is reached.
none_named : (unit : MethodUnit) (call : Option UnitCall) → AllByRecursion IsCallee unit.callees
    → CanCallBy unit call None
none_named unit (Some (calls.Callee number)) all = by (slice_get unit.callees number) refl
  where
    by : (o : Option CalleeInfo) → slice_get unit.callees number ≡ o → CanCallIt o None
    by None is = tt
    by (Some info) is = (found_callee unit.callees number info all is, no_call info)
none_named unit _ all = tt

none_ready : (unit : MethodUnit) (op : Op) → IsWellFormed unit → CanDo unit op None
none_ready unit (ops.Call number) formed = none_named unit (unit_call number) formed.callees
none_ready unit ops.Return formed = (formed, none_returns unit)
none_ready unit _ formed = tt

-- A return has no way on.
goes_on : (op : Op) (next n at : ℕ) → slice_get (successors op next) n ≡ Some at → op ≢ ops.Return
goes_on op next n at is =
    λ same. absurd (none-some at (subst (λ (o : Op). slice_get (successors o next) n ≡ Some at) same is))

-- ---- a way through a block

module _ (code : UnitFlow) (lawful : IsLawful code) where
  abbrev unit : MethodUnit
  unit = code.unit

  abbrev before : ℕ → Option (List Kind)
  before at = stack_at code.unit.instrs code.kinds at

  within_at : (at : ℕ) (stack : List Kind) → before at ≡ Some stack → IsWithin unit stack
  within_at at stack is = record {
    callees = lawful.formed.callees;
    few = omega (
      arith,
      lawful.formed.limits.variables,
      within_stack (shape_of unit) unit.instrs code.kinds at stack lawful.kinds is,
    );
  }

  -- A state that fits before an instruction fits before the next one.
  pub post_fits : (i : Instr) (at : ℕ) (state : State) → IsPassed unit at i → FitsStack unit (before at) state
      → FitsStack unit (before (i.at + i.size)) (post unit i.op state)
  post_fits i at state passed fits = by (before at) refl state fits
    where
      by : (o : Option (List Kind)) → before at ≡ o → (state : State) → FitsStack unit o state
          → FitsStack unit (before (i.at + i.size)) (post unit i.op state)
      by o is None fits = rw (none_behind unit i.op) tt
      by None is (Some known) fits = absurd fits
      by (Some stack) is (Some known) fits =
          let typed = passed_along unit code.kinds (decoded code lawful) lawful.kinds i at stack passed is in
          absorbed_fits unit (before (i.at + i.size)) typed.after (post unit i.op (Some known)) typed.absorbed
          (post_kept unit i.op stack typed.after (within_at at stack is)
          (operand unit code.kinds (decoded code lawful) lawful.kinds i passed.found) passed.executed
          (goes_on i.op (i.at + i.size) 0 (i.at + i.size) (rw passed.next refl)) typed.typed (Some known) fits)

  last_fits : (i : Instr) (at number target : ℕ) (state : State) → IsLeft unit at number target i
      → FitsStack unit (before at) state → FitsStack unit (before target) (along unit i.op number state)
  last_fits i at number target state left fits = by (before at) refl state fits
    where
      by : (o : Option (List Kind)) → before at ≡ o → (state : State) → FitsStack unit o state
          → FitsStack unit (before target) (along unit i.op number state)
      by o is None fits = rw (none_along unit i.op number) tt
      by None is (Some known) fits = absurd fits
      by (Some stack) is (Some known) fits =
          let typed = left_along unit code.kinds (decoded code lawful) lawful.kinds i at number target stack left is in
          absorbed_fits unit (before target) typed.after (along unit i.op number (Some known)) typed.absorbed
          (along_kept unit i.op stack typed.after (within_at at stack is)
          (operand unit code.kinds (decoded code lawful) lawful.kinds i left.found) left.executed
          (goes_on i.op (i.at + i.size) number target left.goes) typed.typed number (Some known) fits)

  -- The rule of an instruction may be asked of a state that fits before it.
  pub post_ready : (i : Instr) (at : ℕ) (state : State) → i.at ≡ at → instr_at unit.instrs i.at ≡ Some i
      → FitsStack unit (before at) state → CanDo unit i.op state
  post_ready i at state here found fits = by (before at) refl state fits
    where
      by : (o : Option (List Kind)) → before at ≡ o → (state : State) → FitsStack unit o state → CanDo unit i.op state
      by o is None fits = none_ready unit i.op lawful.formed
      by None is (Some known) fits = absurd fits
      by (Some stack) is (Some known) fits =
          let typed = typed_at unit code.kinds (decoded code lawful) lawful.kinds i at stack here found is in
          fits_ready unit i.op stack typed.after (Some known) lawful.formed (within_at at stack is) typed.typed
          fits

  pub chain_ready : (block : ℕ) (is : List Instr) (at : ℕ) (state : State) → IsChain unit code.graph block at is
      → FitsStack unit (before at) state → AreReady unit is state
  chain_ready block [] at state chain fits = elim chain [ ]
  chain_ready block (i ∷ []) at state last fits = (post_ready i at state last.here last.found fits, tt)
  chain_ready block (i ∷ j ∷ is) at state chain fits =
      let passed = chain.0.passed in (
        post_ready i at state passed.here passed.found fits,
        chain_ready block (j ∷ is) (i.at + i.size) (post unit i.op state) chain.1 (post_fits i at state passed fits),
      )

  pub through_fits : (is : List Instr) (at number target : ℕ) (state : State) → IsWay unit at number target is
      → FitsStack unit (before at) state → FitsStack unit (before target) (through unit number is state)
  through_fits [] at number target state way fits = absurd way
  through_fits (i ∷ []) at number target state left fits = last_fits i at number target state left fits
  through_fits (i ∷ j ∷ is) at number target state way fits =
      through_fits (j ∷ is) (i.at + i.size) number target (post unit i.op state) way.1 (post_fits i at state way.0 fits)

  pub through_formed : (is : List Instr) (at number target : ℕ) (state : State) → IsWay unit at number target is
      → FitsStack unit (before at) state → AreFormed unit number is state
  through_formed [] at number target state way fits = absurd way
  through_formed (i ∷ []) at number target state left fits = (
    fits_formed unit (before at) state fits,
    fits_formed unit (before target) (along unit i.op number state)
        (last_fits i at number target state left fits),
  )
  through_formed (i ∷ j ∷ is) at number target state way fits = (
    fits_formed unit (before at) state fits,
    through_formed (j ∷ is) (i.at + i.size) number target (post unit i.op state) way.1
        (post_fits i at state way.0 fits),
  )

-- ---- edges

-- What a state at the start of an edge leaves at its end, before it is named anew.
pub block_fits : (code : UnitFlow) (edge : ℕ) (state : State) → IsLawful code → edge < length code.graph.edges
    → Fits code (edge_at code edge).from state → Fits code (edge_at code edge).to
    (through code.unit (edge_at code edge).number (block_instrs code (edge_at code edge).from) state)
block_fits code edge state lawful below fits =
    through_fits code lawful (block_instrs code (edge_at code edge).from) (start_of code (edge_at code edge).from)
    (edge_at code edge).number (start_of code (edge_at code edge).to) state
    (way code lawful edge below) fits

-- The rules of a block may be asked.
pub block_ready : (code : UnitFlow) (block : ℕ) (state : State) → IsLawful code → block < length code.graph.blocks
    → Fits code block state → AreReady code.unit (block_instrs code block) state
block_ready code block state lawful below fits =
    chain_ready code lawful block (block_instrs code block) (start_of code block) state
    (block_chain code lawful block below) fits

-- A state that fits the start of an edge's source fits, carried along, the start of its target.
pub along_fits : (code : UnitFlow) (edge : ℕ) (state : State) → IsLawful code → edge < length code.graph.edges
    → Fits code (edge_at code edge).from state → Fits code (edge_at code edge).to (along_edge state code edge)
unfolding along_edge
along_fits code edge state lawful below fits =
    normal_fits code.unit (kinds_at code (edge_at code edge).to)
    (through code.unit (edge_at code edge).number (block_instrs code (edge_at code edge).from) state)
    (block_fits code edge state lawful below fits)

-- What holds of a point holds, carried along, where the point comes along the edge.
pub along_holds : (code : UnitFlow) (edge : ℕ) (state : State) (p q : Point) → IsLawful code
    → edge < length code.graph.edges → Fits code (edge_at code edge).from state → HoldsAt state p
    → GoesAlong code edge p q → HoldsAt (along_edge state code edge) q
along_holds code edge state p q lawful below fits holds goes =
    along_keeps code lawful edge state p q
    (through_formed code lawful (block_instrs code (edge_at code edge).from) (start_of code (edge_at code edge).from)
    (edge_at code edge).number (start_of code (edge_at code edge).to) state
    (way code lawful edge below) fits)
    (block_ready code (edge_at code edge).from state lawful (joins code lawful edge below).from fits) goes holds
