-- States of typed methods: none is stuck, and each step comes to such a state again.
use Rattle.std.proofs.Common.{◌≡◌, ℕ, suc, ◌+◌, ◌≤◌, nat_le, nat_lt, true, List, [], ◌∷◌, length, reverse, take, drop, Option, Some, None, option_map, Result, Ok, Err, slice_get, refl, sym, ap, subst, ◌∙◌, arith, inl, inr}
use Rattle.std.specs.List.{AllByRecursion}
use Rattle.std.proofs.lemmas.Bool.{cond_both, leb-true, ltb-false}
use Rattle.std.proofs.lemmas.Option.{cond_some, none-some, same_Some}
use Rattle.cil_model.specs.Blocks.{branch_targets}
use Rattle.cil_model.specs.Calls.{FreeCall, ReturnRow, behind_call as frame_behind_call, callee_index, clauses_in_force, ensures_fault, entry_frame, pushed, result_of}
use Rattle.cil_model.specs.Clauses.{false_requires}
use Rattle.cil_model.specs.Configs.{IsConfig, IsFrame, IsFrameOf}
use Rattle.cil_model.specs.Effects.{Effect, GoesOn as OneGoesOn, Faults, Assumes, FindsNoRoom, HasEffect, effects}
use Rattle.cil_model.specs.Bodies.{is_executed}
use Rattle.cil_model.specs.FitKinds.{AreDecoded, OperandFits}
use Rattle.cil_model.specs.Kinds.{behind, behind_call, behind_callee, kind_of, operand_count, pushed_kind, take_each, typed, within_size}
use Rattle.cil_model.specs.Passes.{Stacks, follow, merged, stack_at, successors, visited}
use Rattle.cil_model.specs.Runs.{CallsBy, EffectRow, Row, Step, instr_at}
use Rattle.cil_model.specs.Shapes.{shape_of}
use Rattle.cil_model.specs.UnitCalls.{unit_call}
use Rattle.cil_model.specs.Values.{Heap, IsValue, KeepsForms, put}
use Rattle.cil_model.specs.WellFormed.{IsWellFormed}
use Rattle.cil_model.specs.declared.instruction.Instr.{Instr}
use Rattle.cil_model.specs.declared.instruction.Op.{Op}
use Rattle.cil_model.specs.declared.instruction.Op.TheVariants as ops
use Rattle.cil_model.specs.declared.instruction.Test.TheVariants as tests
use Rattle.cil_model.specs.declared.machine.Config.{Config}
use Rattle.cil_model.specs.declared.machine.Config.TheVariants as configs
use Rattle.cil_model.specs.declared.machine.Frame.{Frame}
use Rattle.cil_model.specs.declared.machine.Value.{Value}
use Rattle.cil_model.specs.declared.machine.World.{World}
use Rattle.cil_model.specs.declared.place.Kind.{Kind}
use Rattle.cil_model.specs.declared.place.Place.{Place}
use Rattle.cil_model.specs.declared.place.Place.TheVariants as places
use Rattle.cil_model.specs.declared.shape.Shape.{Shape}
use Rattle.cil_model.specs.declared.type_fault.TypeFault.{TypeFault}
use Rattle.cil_model.specs.declared.unit.CalleeInfo.{CalleeInfo}
use Rattle.cil_model.specs.declared.unit.Unit.{Unit as MethodUnit}
use Rattle.cil_model.specs.declared.unit_numbers.UnitCall.{UnitCall}
use Rattle.cil_model.specs.declared.unit_numbers.UnitCall.TheVariants as calls
use Rattle.cil_model.proofs.CallsDefined.{free_call_defined}
use Rattle.cil_model.proofs.EffectsFit.{IsOneOf}
use Rattle.cil_model.proofs.EffectsKeep.{Continues, effect_keeps}
use Rattle.cil_model.proofs.HeapsKept.{put_fits}
use Rattle.cil_model.proofs.KindForms.{HaveForms, HaveForms-kept, HaveForms-merged, args_defined, form_of_place, forms_drop}
use Rattle.cil_model.proofs.KindsGrow.{visit_each}
use Rattle.cil_model.proofs.KindsSettle.{Absorbs, Settled, found_at, reached_begins, settled}
use Rattle.cil_model.proofs.Lists.{all_append, all_split, of_found}
use Rattle.cil_model.proofs.Rows.{code_is_decoded}
use Rattle.cil_model.proofs.StepsFit.{comes, defined}
use Rattle.cil_model.proofs.StepsKeep.{MakesValues, code_makes_values, step_keeps}
use Rattle.cil_eval.specs.Machines.{Leads}
use Rattle.cil_eval.specs.Outcome.{State, Turn, To, Ends, Stuck, after_args, after_array, after_call, after_callee, after_effect, after_effects, after_ensures, after_index, after_instr, after_op, after_requires, after_result, after_unit, config_of, resumed, turn}
use Rattle.cil_eval.specs.RunWorlds.{CanBeRun}
use Rattle.clause_eval.specs.Stores.{cells_of}
use Rattle.cil_eval.specs.declared.limits.Limits.{Limits}
use Rattle.cil_eval.specs.declared.stop.Stop.TheVariants as stops
use Rattle.cil_eval.proofs.TurnLemmas.{unit_can}
use Rattle.cil_eval.proofs.TurnSteps.{Comes, turn_steps}

-- ---- what a result is

pushed_unit : (f : Frame) (result : Option Value) → (pushed f result).unit ≡ f.unit
pushed_unit f None = refl
pushed_unit f (Some v) = refl

pushed_at : (f : Frame) (result : Option Value) → (pushed f result).at ≡ f.at
pushed_at f None = refl
pushed_at f (Some v) = refl

put_value_forms : (heap : Heap) (place : Place) (v : Value) (new : Option Value) (result : Option Value) (rest : List Kind) (f : Frame) → IsValue heap v → put heap place v ≡ new
    → option_map Some new ≡ Some result → HaveForms heap rest f.stack → HaveForms heap (pushed_kind (kind_of place) rest) (pushed f result).stack
put_value_forms heap place v None result rest f is e has forms = absurd (none-some result has)
put_value_forms heap place v (Some new) result rest f is e has forms =
    subst (λ (r : Option Value). HaveForms heap (pushed_kind (kind_of place) rest) (pushed f r).stack) (same_Some (Some new) result has)
    (form_of_place heap place new rest f.stack (put_fits heap place v new is e) forms)

result_forms : (heap : Heap) (place : Place) (stack : List Value) (result : Option Value) (rest : List Kind) (f : Frame) → AllByRecursion (IsValue heap) stack
    → result_of heap place stack ≡ Some result → HaveForms heap rest f.stack → HaveForms heap (pushed_kind (kind_of place) rest) (pushed f result).stack
result_forms heap place (v ∷ []) result rest f are e forms = put_value_forms heap place v (put heap place v) result rest f are.0 refl e forms
result_forms heap places.Void [] result rest f are e forms =
    subst (λ (r : Option Value). HaveForms heap rest (pushed f r).stack) (same_Some None result e) forms
result_forms heap places.Bool [] result rest f are e forms = absurd (none-some result e)
result_forms heap places.Int [] result rest f are e forms = absurd (none-some result e)
result_forms heap places.Bools [] result rest f are e forms = absurd (none-some result e)
result_forms heap places.Ints [] result rest f are e forms = absurd (none-some result e)
result_forms heap place (v ∷ other ∷ stack) result rest f are e forms = absurd (none-some result e)

pub many_forms : (heap : Heap) (kinds : List Kind) (vs : List Value) → HaveForms heap kinds vs → length vs ≡ length kinds
many_forms heap [] [] forms = refl
many_forms heap (kind ∷ kinds) (v ∷ vs) forms = ap suc (many_forms heap kinds vs forms.1)
many_forms heap [] (v ∷ vs) forms = absurd forms
many_forms heap (kind ∷ kinds) [] forms = absurd forms

-- ---- how many values an instruction leaves

within : (shape : Shape) (at : ℕ) (stack : Option (List Kind)) (after : List Kind) → within_size shape at stack ≡ Ok after → (stack ≡ Some after) × (length after ≤ shape.max_stack)
within shape at None after e = absurd cc
within shape at (Some stack) after e =
    cond_both (nat_lt shape.max_stack (length stack)) _ _ (λ (r : Result (List Kind) TypeFault). r ≡ Ok after → (Some stack ≡ Some after) × (length after ≤ shape.max_stack))
    (λ deep f. absurd cc)
    (λ fits f. let same : stack ≡ after = cc in (ap Some same, subst (λ (ks : List Kind). length ks ≤ shape.max_stack) same (ltb-false _ _ fits))) e

typed_within : (shape : Shape) (i : Instr) (stack after : List Kind) → typed shape i stack ≡ Ok after → (behind shape i.op stack ≡ Some after) × (length after ≤ shape.max_stack)
typed_within shape i stack after e =
    cond_both (nat_lt (length stack) (operand_count shape i.op)) _ _
    (λ (r : Result (List Kind) TypeFault). r ≡ Ok after → (behind shape i.op stack ≡ Some after) × (length after ≤ shape.max_stack))
    (λ lacks f. absurd cc) (λ has f. within shape i.at (behind shape i.op stack) after f) e

few_left : (shape : Shape) (is : List Instr) (stacks : Stacks) (i : Instr) (before left : List Kind) (outcome : Result (List Kind) TypeFault) → outcome ≡ typed shape i before
    → follow is stacks i outcome ≡ Ok stacks → behind shape i.op before ≡ Some left → length left ≤ shape.max_stack
few_left shape is stacks i before left (Err fault) e follows left_is = absurd cc
few_left shape is stacks i before left (Ok after) e follows left_is =
    let parts = typed_within shape i before after (sym e) in
    subst (λ (ks : List Kind). length ks ≤ shape.max_stack) (same_Some after left (sym parts.0 ∙ left_is)) parts.1

at_one : (P : ℕ → Type 0) (ats : List ℕ) (at : ℕ) → AllByRecursion P ats → IsOneOf ats at → P at
at_one P [] at all one = absurd one
at_one P (a ∷ ats) at all (inl same) = subst P (sym same) all.0
at_one P (a ∷ ats) at all (inr others) = at_one P ats at all.1 others

successors_inside : (start : ℕ) (op : Op) (next : ℕ) → start ≤ next → AllByRecursion (λ at. start ≤ at) (branch_targets op)
    → AllByRecursion (λ at. start ≤ at) (successors op next)
successors_inside start ops.Return next behind inside = tt
successors_inside start (ops.Branch tests.Always target) next behind inside = inside
successors_inside start (ops.Branch test target) next behind inside = (inside.0, (behind, tt))
successors_inside start (ops.Switch targets) next behind inside = all_append (λ at. start ≤ at) targets (next ∷ []) inside (behind, tt)
successors_inside start _ next behind inside = (behind, tt)

-- ---- effects

leads_effect : (P : State → Type 0) (s : State) (i : Instr) (es : List Effect) → ((g : Frame) (heap : Heap) → HasEffect es (OneGoesOn g heap) → P (record s { running = g; heap = heap }))
    → (effect : Effect) → HasEffect es effect → Leads P (after_effect s i effect)
leads_effect P s i es on (OneGoesOn g heap) has = on g heap has
leads_effect P s i es on (Faults kind) has = tt
leads_effect P s i es on Assumes has = tt
leads_effect P s i es on FindsNoRoom has = tt

leads_array : (P : State → Type 0) (cells : ℕ) (s : State) (i : Instr) (es : List Effect) → ((g : Frame) (heap : Heap) → HasEffect es (OneGoesOn g heap) → P (record s { running = g; heap = heap }))
    → (effect : Effect) → HasEffect es effect → Leads P (after_array cells s i effect)
leads_array P cells s i es on (OneGoesOn g heap) has = cond_both (nat_le (cells_of heap) cells) _ _ (λ (t : Turn). Leads P t) (λ _. on g heap has) (λ _. tt)
leads_array P cells s i es on (Faults kind) has = tt
leads_array P cells s i es on Assumes has = tt
leads_array P cells s i es on FindsNoRoom has = tt

leads_effects : (P : State → Type 0) (cells : ℕ) (s : State) (i : Instr) (es : List Effect) → ((g : Frame) (heap : Heap) → HasEffect es (OneGoesOn g heap) → P (record s { running = g; heap = heap }))
    → (some : Effect) → HasEffect es some → Leads P (after_effects cells s i es)
leads_effects P cells s i [] on some has = absurd has
leads_effects P cells s i (FindsNoRoom ∷ []) on some has = tt
leads_effects P cells s i (FindsNoRoom ∷ e ∷ es) on some has = leads_array P cells s i (FindsNoRoom ∷ e ∷ es) on e (inr (inl refl))
leads_effects P cells s i (OneGoesOn g heap ∷ es) on some has = leads_effect P s i (OneGoesOn g heap ∷ es) on (OneGoesOn g heap) (inl refl)
leads_effects P cells s i (Faults kind ∷ es) on some has = tt
leads_effects P cells s i (Assumes ∷ es) on some has = tt

-- ---- frames of typed methods

module _ (w : World) (limits : Limits) (can : CanBeRun w) where
  -- Where a frame is: before an instruction of its body, whose kinds are known.
  pub record Stands (f : Frame) : Type 0 where
    pub unit : MethodUnit
    pub of : slice_get w.units f.unit ≡ Some unit
    pub formed : IsWellFormed unit
    pub inside : unit.body_start ≤ f.at
    pub kinds : List Kind
    pub before : stack_at unit.instrs formed.runs.stacks f.at ≡ Some kinds

  -- The frame that runs.
  pub record Stacked (heap : Heap) (f : Frame) : Type 0 where
    pub stands : Stands f
    pub forms : HaveForms heap stands.kinds f.stack
    pub few : length f.stack ≤ stands.unit.max_stack

  -- A frame that waits for a result.
  pub record Waits (heap : Heap) (result : Place) (f : Frame) : Type 0 where
    pub stands : Stands f
    pub rest : List Kind
    pub merge : merged stands.kinds (pushed_kind (kind_of result) rest) ≡ Some stands.kinds
    pub forms : HaveForms heap rest f.stack
    pub few : length (pushed_kind (kind_of result) rest) ≤ stands.unit.max_stack

  abbrev pub AllWait : Heap → Place → List Frame → Type 0
  AllWait heap result [] = Unit {0}
  AllWait heap result (f ∷ fs) = (h : Waits heap result f) × AllWait heap h.stands.unit.result fs

  pub record IsTyped (s : State) : Type 0 where
    pub running : Stacked s.heap s.running
    pub below : AllWait s.heap running.stands.unit.result s.below
    pub deep : length s.below + 1 ≤ limits.depth

  all_wait_on : (old new : Heap) → KeepsForms old new → (result : Place) (fs : List Frame) → AllWait old result fs → AllWait new result fs
  all_wait_on old new kept result [] h = tt
  all_wait_on old new kept result (f ∷ fs) (h, others) =
      (record { stands = h.stands; rest = h.rest; merge = h.merge; forms = HaveForms-kept old new kept h.rest f.stack h.forms; few = h.few }, all_wait_on old new kept h.stands.unit.result fs others)

  decoded : (unit : MethodUnit) → IsWellFormed unit → AreDecoded unit.instrs
  decoded unit formed = code_is_decoded unit.instrs unit.code formed.code

  module _ (s : State) (typed_is : IsTyped s) (config : IsConfig w.units (config_of s)) where
    abbrev f : Frame
    f = s.running

    abbrev st : Stands f
    st = typed_is.running.stands

    abbrev unit : MethodUnit
    unit = st.unit

    frame : IsFrameOf unit s.heap f
    frame =
        let parts = all_split (IsFrame w.units s.heap) (reverse s.below) (f ∷ []) config.1 in
        subst (λ (u : MethodUnit). IsFrameOf u s.heap f) (same_Some parts.1.0.unit unit (sym parts.1.0.of ∙ st.of)) parts.1.0.is

    module _ (i : Instr) (found : instr_at unit.instrs f.at ≡ Some i) where
      abbrev next : ℕ
      next = i.at + i.size

      here : i.at ≡ f.at
      here = found_at unit.instrs f.at i found

      settle : Settled (shape_of unit) unit.instrs st.formed.runs.stacks i st.kinds
      settle = settled (shape_of unit) unit.instrs st.formed.runs.stacks f.at i st.kinds (decoded unit st.formed) st.formed.runs.kinds found st.before

      few : length settle.after ≤ unit.max_stack
      few =
          let visits = of_found (λ j. visited (shape_of unit) unit.instrs st.formed.runs.stacks j (stack_at unit.instrs st.formed.runs.stacks j.at) ≡ Ok st.formed.runs.stacks) unit.instrs f.at i
          (visit_each (shape_of unit) unit.instrs unit.instrs st.formed.runs.stacks st.formed.runs.kinds.settled) found in
          let at : stack_at unit.instrs st.formed.runs.stacks i.at ≡ Some st.kinds = ap (stack_at unit.instrs st.formed.runs.stacks) here ∙ st.before in
          let visit = subst (λ (stack : Option (List Kind)). visited (shape_of unit) unit.instrs st.formed.runs.stacks i stack ≡ Ok st.formed.runs.stacks) at visits in
          few_left (shape_of unit) unit.instrs st.formed.runs.stacks i st.kinds settle.after (typed (shape_of unit) i st.kinds) refl visit settle.typed

      executed : is_executed i.op ≡ true
      executed = of_found (λ j. unit.body_start ≤ j.at → is_executed j.op ≡ true) unit.instrs f.at i st.formed.runs.body.executed found (omega (arith, here, st.inside))

      stays_inside : AllByRecursion (λ at. unit.body_start ≤ at) (successors i.op next)
      stays_inside =
          successors_inside unit.body_start i.op next (omega (arith, here, st.inside))
          (of_found (λ j. unit.body_start ≤ j.at → AllByRecursion (λ at. unit.body_start ≤ at) (branch_targets j.op)) unit.instrs f.at i st.formed.runs.body.inside found (omega (arith, here, st.inside)))

      absorbed : (at : ℕ) → IsOneOf (successors i.op next) at → Absorbs (stack_at unit.instrs st.formed.runs.stacks at) settle.after
      absorbed at place = at_one (λ at. Absorbs (stack_at unit.instrs st.formed.runs.stacks at) settle.after) (successors i.op next) at settle.onward place

      stands_at : (g : Frame) → g.unit ≡ f.unit → IsOneOf (successors i.op next) g.at → Stands g
      stands_at g same place = record {
        unit = unit;
        of = ap (slice_get w.units) same ∙ st.of;
        formed = st.formed;
        inside = at_one (λ at. unit.body_start ≤ at) (successors i.op next) g.at stays_inside place;
        kinds = (absorbed g.at place).kinds;
        before = (absorbed g.at place).reached;
      }

      row_defined : (new : Config) × Row (FreeCall unit) i.op [] unit i f s.heap new
      row_defined =
          defined unit i f s.heap st.kinds settle.after settle.typed frame.args frame.locals typed_is.running.forms (FreeCall unit) [] executed
          (λ number callee args is are. free_call_defined unit number callee args i f s.heap is are)

      -- ---- effects

      effect_goes : ((c : Config) → EffectRow [] unit i f s.heap c → Row (FreeCall unit) i.op [] unit i f s.heap c)
          → (g : Frame) (heap : Heap) → HasEffect (effects unit i f s.heap) (OneGoesOn g heap) → IsTyped (record s { running = g; heap = heap })
      unfolding stands_at absorbed
      effect_goes up g heap has =
          let went = comes unit i f s.heap st.kinds settle.after settle.typed frame.args frame.locals typed_is.running.forms (configs.Live (g ∷ []) heap)
          (up (configs.Live (g ∷ []) heap) (OneGoesOn g heap, has, refl)) in
          let keeps : Continues unit f s.heap f.stack g heap =
          effect_keeps unit i f s.heap (OneGoesOn g heap) (of_found (λ j. OperandFits j.op) unit.instrs f.at i (decoded unit st.formed).constants found) has in
          let absorbs = absorbed g.at went.0 in
          record {
            running = record {
              stands = stands_at g keeps.unit_is went.0;
              forms = HaveForms-merged heap absorbs.kinds settle.after absorbs.kinds g.stack absorbs.merge went.1;
              few = omega (arith, few, many_forms heap settle.after g.stack went.1);
            };
            below = all_wait_on s.heap heap keeps.kept unit.result s.below typed_is.below;
            deep = typed_is.deep;
          }

      own : (op : Op) → i.op ≡ op → ((c : Config) → Row (FreeCall unit) op [] unit i f s.heap c → EffectRow [] unit i f s.heap c)
          → ((c : Config) → EffectRow [] unit i f s.heap c → Row (FreeCall unit) op [] unit i f s.heap c)
          → Leads IsTyped (after_effects limits.cells s i (effects unit i f s.heap))
      own op e down up =
          let (c, row) = row_defined in
          let (effect, has, to) = down c (subst (λ (o : Op). Row (FreeCall unit) o [] unit i f s.heap c) e row) in
          leads_effects IsTyped limits.cells s i (effects unit i f s.heap)
          (effect_goes (λ c row. subst (λ (o : Op). Row (FreeCall unit) o [] unit i f s.heap c) (sym e) (up c row))) effect has

      -- ---- returns

      back : (result : Option Value) → result_of s.heap unit.result f.stack ≡ Some result → (below : List Frame) → AllWait s.heap unit.result below → length below + 1 ≤ limits.depth
          → Leads IsTyped (resumed below result s.heap)
      back result is [] waits deep = tt
      back result is (caller ∷ below) (h, others) deep =
          let forms = result_forms s.heap unit.result f.stack result h.rest caller frame.stack is h.forms in
          record {
            running = record {
              stands = record {
                unit = h.stands.unit;
                of = ap (slice_get w.units) (pushed_unit caller result) ∙ h.stands.of;
                formed = h.stands.formed;
                inside = subst (λ n. h.stands.unit.body_start ≤ n) (sym (pushed_at caller result)) h.stands.inside;
                kinds = h.stands.kinds;
                before = ap (stack_at h.stands.unit.instrs h.stands.formed.runs.stacks) (pushed_at caller result) ∙ h.stands.before;
              };
              forms = HaveForms-merged s.heap h.stands.kinds (pushed_kind (kind_of unit.result) h.rest) h.stands.kinds (pushed caller result).stack h.merge forms;
              few = omega (arith, h.few, many_forms s.heap (pushed_kind (kind_of unit.result) h.rest) (pushed caller result).stack forms);
            };
            below = others;
            deep = omega (arith, deep);
          }

      ensured : (result : Option Value) → result_of s.heap unit.result f.stack ≡ Some result → (fault : Option ℕ) → Leads IsTyped (after_ensures s i result fault)
      ensured result is (Some k) = tt
      ensured result is None = back result is s.below typed_is.below typed_is.deep

      returns : (c : Config) → ReturnRow [] unit i f s.heap c → Leads IsTyped (after_result s unit i (result_of s.heap unit.result f.stack))
      returns c (result, is, returned) =
          subst (λ (r : Option (Option Value)). Leads IsTyped (after_result s unit i r)) (sym is) (ensured result is (ensures_fault unit f s.heap result))

      -- ---- calls

      module _ (number : ℕ) (at_next : IsOneOf (successors i.op next) next) (behind_is : behind_callee (slice_get unit.callees number) st.kinds ≡ Some settle.after) where
        -- The callee is a unit of the world, and its entry tells what it is.
        record Calls : Type 0 where
          index : ℕ
          named : MethodUnit
          index_is : callee_index w f.unit number ≡ Some index
          named_is : slice_get w.units index ≡ Some named
          taken : take_each named.args (reverse (take (length named.args) st.kinds)) ≡ true
          after_is : pushed_kind (kind_of named.result) (drop (length named.args) st.kinds) ≡ settle.after

        calls_by : (callee : Option CalleeInfo) → slice_get unit.callees number ≡ callee → behind_callee callee st.kinds ≡ Some settle.after → Calls
        calls_by None is e = absurd (none-some settle.after e)
        calls_by (Some info) is e =
            let named = can.agree.entries f.unit unit number info st.of is in
            let both = cond_some _ _ settle.after (subst (λ (c : CalleeInfo). behind_callee (Some c) st.kinds ≡ Some settle.after) named.same e) in
            record { index = named.index; named = named.named; index_is = named.index_is; named_is = named.named_is; taken = both.0; after_is = both.1 }

        enters : (c : Calls) (args : List Value) → length s.below + 2 ≤ limits.depth → IsTyped (record {
          running = entry_frame c.named c.index args s.heap;
          below = frame_behind_call i (length c.named.args) f ∷ s.below;
          heap = s.heap;
        })
        unfolding stands_at absorbed
        enters c args deep =
            let caller = frame_behind_call i (length c.named.args) f in
            let formed = unit_can IsWellFormed w c.index c.named c.named_is can.units in
            let absorbs = absorbed next at_next in
            record {
              running = record {
                stands = record { unit = c.named; of = c.named_is; formed = formed; inside = omega arith; kinds = []; before = formed.runs.body.empty };
                forms = tt;
                few = omega arith;
              };
              below = (
                record {
                  stands = stands_at caller refl at_next;
                  rest = drop (length c.named.args) st.kinds;
                  merge = ap (merged absorbs.kinds) c.after_is ∙ absorbs.merge;
                  forms = forms_drop s.heap (length c.named.args) st.kinds f.stack typed_is.running.forms;
                  few = subst (λ (ks : List Kind). length ks ≤ unit.max_stack) (sym c.after_is) few;
                },
                typed_is.below,
              );
              deep = omega (arith, deep);
            }

        required : (c : Calls) (args : List Value) (fault : Option ℕ) → Leads IsTyped (after_requires limits s i c.index c.named args fault)
        required c args (Some k) = tt
        required c args None =
            cond_both (nat_le (length s.below + 2) limits.depth) _ _ (λ (t : Turn). Leads IsTyped t) (λ deep. enters c args (leb-true _ _ deep)) (λ _. tt)

        calls_lead : Calls → Leads IsTyped (after_index w limits s i (callee_index w f.unit number))
        calls_lead c =
            let (args, are) = args_defined s.heap c.named.args st.kinds f.stack c.taken typed_is.running.forms in
            subst (λ (index : Option ℕ). Leads IsTyped (after_index w limits s i index)) (sym c.index_is)
            (subst (λ (callee : Option MethodUnit). Leads IsTyped (after_callee limits s i c.index callee)) (sym c.named_is)
            (subst (λ (args : Option (List Value)). Leads IsTyped (after_args limits s i c.index c.named args)) (sym are)
            (required c args (false_requires (clauses_in_force c.named) args s.heap))))

        call_leads : Leads IsTyped (after_index w limits s i (callee_index w f.unit number))
        call_leads = calls_lead (calls_by (slice_get unit.callees number) refl behind_is)

      -- ---- one step

      by_call : (number : ℕ) → i.op ≡ ops.Call number → (call : Option UnitCall) → unit_call number ≡ call → Leads IsTyped (after_call w limits s unit i call)
      by_call number e (Some (calls.Callee n)) is =
          call_leads n (subst (λ (o : Op). IsOneOf (successors o next) next) (sym e) (inl refl))
          (ap (λ (call : Option UnitCall). behind_call (shape_of unit) call st.kinds) (sym is) ∙ ap (λ (o : Op). behind (shape_of unit) o st.kinds) (sym e) ∙ settle.typed)
      by_call number e call is =
          own (ops.Call number) e (λ c row. subst (λ (k : Option UnitCall). CallsBy (FreeCall unit) k [] unit i f s.heap c) is row)
          (λ c row. subst (λ (k : Option UnitCall). CallsBy (FreeCall unit) k [] unit i f s.heap c) (sym is) row)

      by_op : (op : Op) → i.op ≡ op → Leads IsTyped (after_op w limits s unit i op)
      by_op ops.Return e = let (c, row) = row_defined in returns c (subst (λ (o : Op). Row (FreeCall unit) o [] unit i f s.heap c) e row)
      by_op (ops.Call number) e = by_call number e (unit_call number) refl
      by_op op e = own op e (λ c row. row) (λ c row. row)

    step_leads : Leads IsTyped (turn w limits s)
    step_leads =
        let (i, found) = reached_begins unit.instrs st.formed.runs.stacks f.at st.kinds st.before in
        subst (λ (u : Option MethodUnit). Leads IsTyped (after_unit w limits s u)) (sym st.of)
        (subst (λ (i : Option Instr). Leads IsTyped (after_instr w limits s unit i)) (sym found) (by_op i found i.op refl))

  -- ---- whole states

  pub record IsSound (s : State) : Type 0 where
    pub config : IsConfig w.units (config_of s)
    pub typed_is : IsTyped s

  make_values : (m : ℕ) (unit : MethodUnit) → slice_get w.units m ≡ Some unit → MakesValues unit
  make_values m unit of =
      let formed = unit_can IsWellFormed w m unit of can.units in code_makes_values unit formed.code formed.locals

  both : (s : State) → IsConfig w.units (config_of s) → (t : Turn) → Comes limits (Step w (config_of s)) t → Leads IsTyped t → Leads IsSound t
  both s config (To new) step typed_is = record { config = (step_keeps w (config_of s) (config_of new) make_values config step).0; typed_is = typed_is }
  both s config (Ends stops.Steps) step typed_is = absurd typed_is
  both s config (Ends _) step typed_is = tt
  both s config Stuck step typed_is = absurd typed_is

  pub sound_leads : (s : State) → IsSound s → Leads IsSound (turn w limits s)
  sound_leads s sound = both s sound.config (turn w limits s) (turn_steps w limits s) (step_leads s sound.typed_is sound.config)
