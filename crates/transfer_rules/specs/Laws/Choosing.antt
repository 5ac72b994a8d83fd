-- What is assumed along the way that the machine takes is so.
use Rattle.std.proofs.Common.{◌≡◌, ℕ, ◌<◌, ◌≤◌, ◌==◌, ℤ, pos, Bool, true, false, not, int_eq, nat_lt, Option, Some, None, List, [], ◌∷◌, length, min, refl, sym, ap, subst, ◌∙◌, FitsSigned, w32, arith, ltb-true, ltb-false}
use Rattle.std.specs.Prelude.{option_map, reverse}
use Rattle.std.specs.List.{AllByRecursion}
use Rattle.std.proofs.lemmas.Bool.{cond_both}
use Rattle.std.proofs.lemmas.Bool.Decides.{Decides-int_eq}
use Rattle.std.proofs.lemmas.Grind.{common_steps}
use Rattle.std.proofs.lemmas.Int.{ints}
use Rattle.std.proofs.lemmas.Option.{none-some}
use Rattle.cil_model.specs.Arithmetic.{unsigned}
use Rattle.cil_model.specs.Comparisons.{compares_values, is_true, number_of, reference_of}
use Rattle.cil_model.specs.Effects as rows
use Rattle.cil_model.specs.Effects.{Effect, GoesOn, HasEffect, effects, effects_of}
use Rattle.cil_model.specs.Values.{Heap, IsValue}
use Rattle.cil_model.specs.declared.instruction.CmpOp.{CmpOp}
use Rattle.cil_model.specs.declared.instruction.CmpOp.TheVariants as comparisons
use Rattle.cil_model.specs.declared.instruction.Instr.{Instr}
use Rattle.cil_model.specs.declared.instruction.Op.{Op}
use Rattle.cil_model.specs.declared.instruction.Op.TheVariants as ops
use Rattle.cil_model.specs.declared.instruction.Test.{Test}
use Rattle.cil_model.specs.declared.instruction.Test.TheVariants as tests
use Rattle.cil_model.specs.declared.machine.Frame.{Frame}
use Rattle.cil_model.specs.declared.machine.Value.{Value}
use Rattle.cil_model.specs.declared.machine.Value.TheVariants.{Int, Native, Null, Array, Text}
use Rattle.cil_model.specs.declared.unit.Unit.{Unit as MethodUnit}
use Rattle.cil_model.proofs.Lists.{all_reverse}
use Rattle.clause_trees.specs.TreeValues.{true_known}
use Rattle.frame_names.specs.declared.var.Var.{Var}
use Rattle.frame_names.specs.declared.var.Var.TheVariants as vars
use Rattle.machine_points.specs.Points.{IsPointOf}
use Rattle.machine_points.specs.declared.point.Point.{Point}
use Rattle.number_spans.specs.Constants.{constant}
use Rattle.obligation_prover.specs.Operations.{from_top}
use Rattle.obligation_prover.proofs.Operands.{IfThere, at_depth}
use Rattle.state_facts.specs.Assuming.{assumed}
use Rattle.state_facts.specs.Forms.{HasForm, HasVar}
use Rattle.state_facts.specs.Holds.{HasValue, HoldsBy, HoldsIn, variables_of}
use Rattle.state_facts.specs.Moves.{popped}
use Rattle.state_facts.specs.StateFacts.{StateFacts, State}
use Rattle.state_facts.proofs.AssumptionForms.{named_var}
use Rattle.state_facts.proofs.AssumptionsHold.{assume_keeps}
use Rattle.state_obligations.proofs.Following.{comparison_follows, stays_itself}
use Rattle.state_obligations.specs.Following.{StaysThereIn}
use Rattle.symbolic_values.specs.Worth.{worth}
use Rattle.transfer_rules.specs.Choices.{chosen, compared, switched, tested, with_case}
use Rattle.transfer_rules.specs.Operands.{with_one}
use Rattle.transfer_rules.specs.Laws.Moves.{constant_is, constant_there, for_some}
use Rattle.transfer_rules.specs.Laws.Tops.{HasTop, as_number, has_top, over, over_pushed, var_above}
use Rattle.unit_flow.specs.Ways.{IsShortSwitch, side, way_of, way_of_switch, way_of_test}

-- ---- ways

side_is : (b : Bool) → (side (Some b) == 0) ≡ b
side_is true = refl
side_is false = refl

not_not : (b : Bool) → not (not b) ≡ b
not_not true = refl
not_not false = refl

none_same : (n : ℕ) → int_eq (pos n) (pos 0) ≡ (n == 0)
none_same n = grind (arith, common_steps, ints)

-- a number that is small without its sign has none
small_unsigned : (n : ℤ) → FitsSigned w32 n → unsigned n < 2147483648 → n ≡ pos (unsigned n)
small_unsigned n fits below = omega (arith, ints, fits, below)

unsigned_count : (k : ℕ) → k ≤ 2147483647 → unsigned (pos k) ≡ k
unsigned_count k below = omega (arith, ints, below)

-- ---- what is assumed of values

module _ (known : StateFacts) (form : HasForm known) (vs : List Value) (heap : Heap) (number : ℕ → ℤ)
    (array : ℕ → Option ℕ) (holds : HoldsBy known vs heap number array) where
  abbrev Stands : State → Type 0
  Stands state = HoldsIn state vs heap number array

  -- A comparison of two values.
  comparison_stands : (op : CmpOp) (v w : Var) (so : Bool) (first second : Value) → HasVar known v → HasVar known w
      → HasValue number array v first → HasValue number array w second → IsValue heap first → IsValue heap second
      → compares_values op first second ≡ Some so → Stands (assumed op v w so known)
  comparison_stands op v w so first second v_there w_there v_has w_has one two is =
      assume_keeps op v w so (Some known) (for_some HasForm known form)
      (for_some (λ (x : StateFacts). HasVar x v) known v_there)
      (for_some (λ (x : StateFacts). HasVar x w) known w_there) vs heap number array first second holds v_has w_has one
      two is

  -- A comparison of a number with a constant.
  with_constant : (op : CmpOp) (v : Var) (n : ℤ) (so : Bool) (value : Value) → FitsSigned w32 n → HasVar known v
      → HasValue number array v value → IsValue heap value → compares_values op value (Int n) ≡ Some so
      → Stands (assumed op v (vars.Number (constant n)) so known)
  with_constant op v n so value fits there has is compare =
      comparison_stands op v (vars.Number (constant n)) so value (Int n) there (constant_there known n fits) has
      (ap (λ (m : ℤ). Some m) (sym (constant_is known vs heap number array n holds))) is fits compare

  true_number : (value : Value) (n : ℤ) (so : Bool) → number_of value ≡ Some n → is_true value ≡ Some so
      → compares_values comparisons.NeUn value (Int (pos 0)) ≡ Some so
  true_number (Int m) n so is holds = holds
  true_number (Native m) n so is holds = ap (λ (b : Bool). Some (not b)) (none_same m) ∙ holds
  true_number _ n so is holds = absurd (none-some n is)

  true_reference : (value : Value) (a : Option ℕ) (so : Bool) → reference_of value ≡ Some a → is_true value ≡ Some so
      → compares_values comparisons.NeUn value Null ≡ Some so
  true_reference Null a so is holds = holds
  true_reference (Array i) a so is holds = holds
  true_reference _ a so is holds = absurd (none-some a is)

  -- Whether a value is true.
  truth_stands : (v : Var) (so : Bool) (value : Value) → HasVar known v → HasValue number array v value
      → IsValue heap value → is_true value ≡ Some so → Stands (true_known so v known)
  truth_stands (vars.Number e) so value there has is true_is =
      with_constant comparisons.NeUn (vars.Number e) (pos 0) so value (omega (arith, ints)) there has is
      (true_number value (worth number e) so has true_is)
  truth_stands (vars.Reference r) so value there has is true_is =
      comparison_stands comparisons.NeUn (vars.Reference r) (vars.Reference 0) so value Null there (omega arith) has
      (ap (λ (a : Option ℕ). Some a) (sym holds.null)) is tt (true_reference value (array r) so has true_is)
  truth_stands vars.Text so value there has is true_is = holds
  truth_stands (vars.Address r i) so value there has is true_is = holds

-- ---- one instruction

module _ (known : StateFacts) (f : Frame) (form : HasForm known) (heap : Heap) (number : ℕ → ℤ) (array : ℕ → Option ℕ)
    (i : Instr) (effect : Effect) where
  abbrev Over : List Value → Type 0
  Over stack = HoldsBy known (over f stack) heap number array

  abbrev There : List Value → State → Type 0
  There stack state = HoldsIn state (over f stack) heap number array

  top_of : (v : Value) (rest : List Value) → Over (v ∷ rest) → HasTop known (over f rest) v heap number array
  top_of v rest holds =
      has_top known (over f rest) v heap number array form
      (subst (λ (vs : List Value). HoldsBy known vs heap number array) (over_pushed f v rest) holds)

  one_tested : (target : ℕ) (so : Bool) (v : Value) (rest : List Value) → Over (v ∷ rest) → IsValue heap v
      → is_true v ≡ Some so → There (v ∷ rest) (with_one (true_known so) (from_top 0 known) known)
  one_tested target so v rest holds is true_is =
      let top = top_of v rest holds in
      rw top.is (truth_stands known form (over f (v ∷ rest)) heap number array holds top.var so v
      (var_above known top.var top.there) top.has is true_is)

  -- A value is tested, and the branch is taken or not.
  true_branch : (target : ℕ) (v : Value) (rest : List Value) (o : Option Bool) → Over (v ∷ rest) → IsValue heap v
      → is_true v ≡ o → HasEffect (rows.branches target i f heap rest o) effect
      → There (v ∷ rest) (with_one (true_known (side o == 0)) (from_top 0 known) known)
  true_branch target v rest None holds is true_is has = elim has [ ]
  true_branch target v rest (Some so) holds is true_is has =
      subst (λ (b : Bool). There (v ∷ rest) (with_one (true_known b) (from_top 0 known) known)) (sym (side_is so))
      (one_tested target so v rest holds is true_is)

  false_branch : (target : ℕ) (v : Value) (rest : List Value) (o : Option Bool) → Over (v ∷ rest) → IsValue heap v
      → is_true v ≡ o → HasEffect (rows.branches target i f heap rest (option_map not o)) effect
      → There (v ∷ rest) (with_one (true_known (not (side (option_map not o) == 0))) (from_top 0 known) known)
  false_branch target v rest None holds is true_is has = elim has [ ]
  false_branch target v rest (Some so) holds is true_is has =
      subst (λ (b : Bool). There (v ∷ rest) (with_one (true_known b) (from_top 0 known) known))
      (sym (ap not (side_is (not so)) ∙ not_not so))
      (one_tested target so v rest holds is true_is)

  compared_branch : (op : CmpOp) (target : ℕ) (b a : Value) (rest : List Value) (o : Option Bool) → Over (b ∷ a ∷ rest)
      → IsValue heap b → IsValue heap a → compares_values op a b ≡ o
      → HasEffect (rows.branches target i f heap rest o) effect
      → There (b ∷ a ∷ rest) (compared op (side o == 0) (from_top 1 known) (from_top 0 known) known)
  compared_branch op target b a rest None holds b_is a_is compare has = elim has [ ]
  compared_branch op target b a rest (Some so) holds b_is a_is compare has =
      let upper = top_of b (a ∷ rest) holds in
      let lower = has_top (popped known) (over f rest) a heap number array upper.form
      (subst (λ (vs : List Value). HoldsBy (popped known) vs heap number array) (over_pushed f a rest) upper.rest) in
      let next : from_top 1 known ≡ Some lower.var = upper.below 0 ∙ lower.is in
      rw (next, upper.is, side_is so)
      (comparison_stands known form (over f (b ∷ a ∷ rest)) heap number array holds op lower.var upper.var so a b
      (var_above known lower.var (var_above (popped known) lower.var lower.there))
      (var_above known upper.var upper.there) lower.has upper.has a_is b_is compare)

  test_stands : (test : Test) (target : ℕ) (stack : List Value) → Over stack → AllByRecursion (IsValue heap) stack
      → HasEffect (rows.branches_by test target i f heap stack) effect
      → There stack (tested test (way_of_test test stack == 0) known)
  unfolding tested
  test_stands tests.Always target stack holds are has = holds
  test_stands tests.True target (v ∷ rest) holds are has = true_branch target v rest (is_true v) holds are.0 refl has
  test_stands tests.True target [] holds are has = elim has [ ]
  test_stands tests.False target (v ∷ rest) holds are has = false_branch target v rest (is_true v) holds are.0 refl has
  test_stands tests.False target [] holds are has = elim has [ ]
  test_stands (tests.Cmp op) target (b ∷ a ∷ rest) holds are has =
      compared_branch op target b a rest (compares_values op a b) holds are.0 are.1.0 refl has
  test_stands (tests.Cmp op) target (b ∷ []) holds are has = elim has [ ]
  test_stands (tests.Cmp op) target [] holds are has = elim has [ ]

  case_stands : (count : ℕ) (n : ℤ) (rest : List Value) → count ≤ 2147483647 → Over (Int n ∷ rest) → FitsSigned w32 n
      → There (Int n ∷ rest) (with_one (with_case count (min (unsigned n) count)) (from_top 0 known) known)
  case_stands count n rest short holds fits =
      let top = top_of (Int n) rest holds in
      let one = as_number known top.var (Int n) n number array (var_above known top.var top.there) top.has refl in
      let way = min (unsigned n) count in
      rw (top.is, one.is)
      (cond_both (nat_lt way count) _ _ (There (Int n ∷ rest))
      (λ here.
      let below = ltb-true way count here in
      with_constant known form (over f (Int n ∷ rest)) heap number array holds comparisons.Eq (vars.Number one.expr)
      (pos way) true (Int n) (omega (arith, ints, below, short)) one.there
      (ap (λ (m : ℤ). Some m) (sym one.worth_is)) fits
      (ap (λ (b : Bool). Some b) ((Decides-int_eq n (pos way)).1 (taken below))))
      (λ behind.
      let above = ltb-false way count behind in
      with_constant known form (over f (Int n ∷ rest)) heap number array holds comparisons.LtUn (vars.Number one.expr)
      (pos count) false (Int n) (omega (arith, ints, short)) one.there
      (ap (λ (m : ℤ). Some m) (sym one.worth_is)) fits (ap (λ (b : Bool). Some b) (passed above))))
    where
      taken : min (unsigned n) count < count → n ≡ pos (min (unsigned n) count)
      taken below =
          let small : unsigned n < 2147483648 = omega (arith, below, short) in
          let least : min (unsigned n) count ≡ unsigned n = omega (arith, below) in
          small_unsigned n fits small ∙ ap pos (sym least)

      below_false : (x y : ℕ) → y ≤ x → nat_lt x y ≡ false
      below_false x y le = grind (arith, common_steps, le)

      passed : count ≤ min (unsigned n) count → nat_lt (unsigned n) (unsigned (pos count)) ≡ false
      passed above = rw (unsigned_count count short) (below_false (unsigned n) count (omega (arith, above)))

  switch_stands : (targets : List ℕ) (stack : List Value) → length targets ≤ 2147483647 → Over stack
      → AllByRecursion (IsValue heap) stack → HasEffect (rows.switches targets i f heap stack) effect
      → There stack (switched (length targets) (way_of_switch (length targets) stack) known)
  unfolding switched
  switch_stands targets (Int n ∷ rest) short holds are has = case_stands (length targets) n rest short holds are.0
  switch_stands targets _ short holds are has = elim has [ ]

  chosen_stands : (unit : MethodUnit) (op : Op) → IsShortSwitch op → Over f.stack
      → AllByRecursion (IsValue heap) f.stack → HasEffect (effects_of op unit i f heap) effect
      → There f.stack (chosen op (way_of op f.stack) known)
  unfolding chosen
  chosen_stands unit (ops.Branch test target) short holds are has = test_stands test target f.stack holds are has
  chosen_stands unit (ops.Switch targets) short holds are has = switch_stands targets f.stack short holds are has
  chosen_stands unit _ short holds are has = holds

-- What is assumed along the way that the machine takes is so by the same choice.
pub choose_keeps : (unit : MethodUnit) (i : Instr) (p q : Point) (known : StateFacts) (number : ℕ → ℤ)
    (array : ℕ → Option ℕ) → HasForm known → IsShortSwitch i.op → IsPointOf unit p
    → HoldsBy known (variables_of p.frame) p.heap number array
    → HasEffect (effects unit i p.frame p.heap) (GoesOn q.frame q.heap)
    → HoldsIn (chosen i.op (way_of i.op p.frame.stack) known) (variables_of p.frame) p.heap number array
choose_keeps unit i p q known number array form short of holds goes =
    chosen_stands known p.frame form p.heap number array i (GoesOn q.frame q.heap) unit i.op short holds of.frame.stack
    goes

-- ---- what stays

module _ (known : StateFacts) (form : HasForm known) where
  truth_follows : (so : Bool) (v : Var) → HasVar known v → StaysThereIn known (true_known so v known)
  truth_follows so (vars.Number e) there =
      comparison_follows comparisons.NeUn (vars.Number e) (vars.Number (constant (pos 0))) so known form there.there
      (omega arith)
  truth_follows so (vars.Reference r) there =
      comparison_follows comparisons.NeUn (vars.Reference r) (vars.Reference 0) so known form tt tt
  truth_follows so vars.Text there = stays_itself known form
  truth_follows so (vars.Address r i) there = stays_itself known form

  one_follows : (rule : Var → StateFacts → State) (o : Option Var)
      → ((v : Var) → HasVar known v → StaysThereIn known (rule v known)) → IfThere (HasVar known) o
      → StaysThereIn known (with_one rule o known)
  one_follows rule None follows there = tt
  one_follows rule (Some v) follows there = follows v there

  two_follow : (op : CmpOp) (so : Bool) (o p : Option Var) → IfThere (HasVar known) o → IfThere (HasVar known) p
      → StaysThereIn known (compared op so o p known)
  two_follow op so None p first second = tt
  two_follow op so (Some v) None first second = tt
  two_follow op so (Some v) (Some w) first second =
      comparison_follows op v w so known form (named_var known v first) (named_var known w second)

  case_follows : (count way : ℕ) (v : Var) → HasVar known v → StaysThereIn known (with_case count way v known)
  case_follows count way (vars.Number e) there =
      cond_both (nat_lt way count) _ _ (StaysThereIn known)
      (λ here. comparison_follows comparisons.Eq (vars.Number e) (vars.Number (constant (pos way))) true known form
      there.there (omega arith))
      (λ behind. comparison_follows comparisons.LtUn (vars.Number e) (vars.Number (constant (pos count))) false known
      form there.there (omega arith))
  case_follows count way _ there = tt

  top_there : (above : ℕ) → IfThere (HasVar known) (from_top above known)
  top_there above =
      at_depth (HasVar known) (reverse known.variables) above
      (all_reverse (HasVar known) known.variables form.variables)

  test_follows : (test : Test) (so : Bool) → StaysThereIn known (tested test so known)
  unfolding tested
  test_follows tests.Always so = stays_itself known form
  test_follows tests.True so =
      one_follows (true_known so) (from_top 0 known) (λ v there. truth_follows so v there) (top_there 0)
  test_follows tests.False so =
      one_follows (true_known (not so)) (from_top 0 known) (λ v there. truth_follows (not so) v there) (top_there 0)
  test_follows (tests.Cmp op) so = two_follow op so (from_top 1 known) (from_top 0 known) (top_there 1) (top_there 0)

-- Variables stay, and so do the types and lengths of references.
pub chosen_stays : (op : Op) (way : ℕ) (known : StateFacts) → HasForm known → StaysThereIn known (chosen op way known)
unfolding chosen switched
chosen_stays (ops.Branch test target) way known form = test_follows known form test (way == 0)
chosen_stays (ops.Switch targets) way known form =
    one_follows known form (with_case (length targets) way) (from_top 0 known)
    (λ v there. case_follows known form (length targets) way v there) (top_there known form 0)
chosen_stays _ way known form = stays_itself known form
