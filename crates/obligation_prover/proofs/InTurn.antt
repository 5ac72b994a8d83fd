-- Where each fault of an operation is ruled out in turn, an instruction with it ends in none.
use Rattle.std.proofs.Common.{◌≡◌, ℕ, ℤ, Bool, true, false, Option, Some, None, List, [], ◌∷◌, map, reverse, refl, sym, ap, subst, ◌∙◌}
use Rattle.std.specs.Prelude.{if◌then◌else◌, slice_get}
use Rattle.std.specs.List.{AllByRecursion}
use Rattle.std.specs.Option.{ForSome, option_map_or}
use Rattle.cil_model.specs.Effects.{Faults, HasEffect, effects}
use Rattle.cil_model.specs.UnitCalls.{unit_call}
use Rattle.cil_model.specs.Values.{Heap, IsHeap}
use Rattle.cil_model.specs.declared.instruction.BinOp.{BinOp}
use Rattle.cil_model.specs.declared.instruction.BinOp.TheVariants as operators
use Rattle.cil_model.specs.declared.instruction.Instr.{Instr}
use Rattle.cil_model.specs.declared.instruction.Op.{Op}
use Rattle.cil_model.specs.declared.instruction.Op.TheVariants as ops
use Rattle.cil_model.specs.declared.machine.FaultKind.{FaultKind}
use Rattle.cil_model.specs.declared.machine.FaultKind.TheVariants as faults
use Rattle.cil_model.specs.declared.machine.Value.{Value}
use Rattle.cil_model.specs.declared.place.Place.TheVariants as places
use Rattle.cil_model.specs.declared.unit.Unit.{Unit as MethodUnit}
use Rattle.cil_model.specs.declared.unit_numbers.UnitCall.{UnitCall}
use Rattle.cil_model.specs.declared.unit_numbers.UnitCall.TheVariants as calls
use Rattle.domain_api.specs.declared.expr.Expr.{Expr}
use Rattle.frame_names.specs.declared.var.Var.{Var}
use Rattle.frame_names.specs.declared.var.Var.TheVariants as vars
use Rattle.machine_points.specs.declared.point.Point.{Point}
use Rattle.state_facts.specs.Forms.{HasForm}
use Rattle.state_facts.specs.Holds.{HoldsAt, HoldsBy, HoldsIn, variables_of}
use Rattle.state_facts.specs.StateFacts.{StateFacts, State}
use Rattle.state_obligations.proofs.ConditionLaws.{entailed_is_met, met_is_kept}
use Rattle.state_obligations.proofs.FaultLaws.{no_fault_where_met}
use Rattle.state_obligations.proofs.Following.{assumed_follows, conditions_still}
use Rattle.state_obligations.specs.Assumed.{assumed_by}
use Rattle.state_obligations.specs.Conditions.{AreThere, conditions_of, fault_of, is_of, operator_conditions, with_fault}
use Rattle.state_obligations.specs.Entailed.{entailed_by}
use Rattle.state_obligations.specs.Following.{StaysThere, StaysThereIn}
use Rattle.state_obligations.specs.Meaning.{AreMet, AreOfInt32, IsMet}
use Rattle.state_obligations.specs.declared.condition.Condition.{Condition}
use Rattle.state_obligations.specs.declared.condition.Operation.{Operation}
use Rattle.obligation_prover.specs.Avoiding.{avoid}
use Rattle.obligation_prover.specs.EachFault.{AreRuledOutInTurn, RulesOutInTurn}
use Rattle.obligation_prover.specs.Entailed.{condition_of, rules_out}
use Rattle.obligation_prover.specs.Faults.{call_faults, faults_of}
use Rattle.obligation_prover.specs.Operations.{array_of, assertion_of, binary_of, call_operation, condition_depth, conditions_at, element_of, from_top, length_of, operation_of}
use Rattle.obligation_prover.proofs.Operands.{conditions_there}
use Rattle.obligation_prover.proofs.RuledOut.{AreDistinct, distinct_at, faults_here, fit_here, is_own}

-- ---- the faults of conditions

operator_faults_are : (op : BinOp) (a b : Expr) (unit : MethodUnit) → map fault_of (operator_conditions op a b) ≡ faults_of unit (ops.Bin op)
operator_faults_are operators.Div a b unit = refl
operator_faults_are operators.Rem a b unit = refl
operator_faults_are operators.DivUn a b unit = refl
operator_faults_are operators.RemUn a b unit = refl
operator_faults_are operators.Shl a b unit = refl
operator_faults_are operators.Shr a b unit = refl
operator_faults_are operators.ShrUn a b unit = refl
operator_faults_are operators.AddOvf a b unit = refl
operator_faults_are operators.MulOvf a b unit = refl
operator_faults_are operators.SubOvf a b unit = refl
operator_faults_are operators.Add a b unit = refl
operator_faults_are operators.Sub a b unit = refl
operator_faults_are operators.Mul a b unit = refl
operator_faults_are operators.And a b unit = refl
operator_faults_are operators.Or a b unit = refl
operator_faults_are operators.Xor a b unit = refl
operator_faults_are operators.Ceq a b unit = refl
operator_faults_are operators.Cgt a b unit = refl
operator_faults_are operators.CgtUn a b unit = refl
operator_faults_are operators.Clt a b unit = refl
operator_faults_are operators.CltUn a b unit = refl

-- The conditions have these faults, unless there are none.
abbrev pub HaveFaults : List FaultKind → List Condition → Type 0
HaveFaults kinds [] = Unit {0}
HaveFaults kinds cs = map fault_of cs ≡ kinds

they_have : (kinds : List FaultKind) (cs : List Condition) → map fault_of cs ≡ kinds → HaveFaults kinds cs
they_have kinds [] is = tt
they_have kinds (c ∷ cs) is = is

abbrev OfOperation : List FaultKind → Option Operation → Type 0
OfOperation kinds o = HaveFaults kinds (option_map_or conditions_of o [])

module _ (unit : MethodUnit) where
  length_faults : (v : Option Var) → OfOperation (faults_of unit ops.Length) (length_of v)
  length_faults None = tt
  length_faults (Some (vars.Reference r)) = refl
  length_faults (Some (vars.Number e)) = tt
  length_faults (Some vars.Text) = tt
  length_faults (Some (vars.Address r e)) = tt

  element_faults_are : (kinds : List FaultKind) (v w : Option Var) → faults_of unit (ops.LoadElem places.Ints) ≡ kinds
      → OfOperation kinds (element_of v w)
  element_faults_are kinds (Some (vars.Reference r)) (Some (vars.Number i)) is = is
  element_faults_are kinds None w is = tt
  element_faults_are kinds (Some v) None is = by v
    where
      by : (v : Var) → OfOperation kinds (element_of (Some v) None)
      by (vars.Reference r) = tt
      by (vars.Number e) = tt
      by vars.Text = tt
      by (vars.Address r e) = tt
  element_faults_are kinds (Some (vars.Reference r)) (Some (vars.Reference q)) is = tt
  element_faults_are kinds (Some (vars.Reference r)) (Some vars.Text) is = tt
  element_faults_are kinds (Some (vars.Reference r)) (Some (vars.Address q e)) is = tt
  element_faults_are kinds (Some (vars.Number e)) (Some w) is = tt
  element_faults_are kinds (Some vars.Text) (Some w) is = tt
  element_faults_are kinds (Some (vars.Address r e)) (Some w) is = tt

  array_faults : (number : ℕ) (v : Option Var) → OfOperation (faults_of unit (ops.NewArray number)) (array_of v)
  array_faults number None = tt
  array_faults number (Some (vars.Number n)) = refl
  array_faults number (Some (vars.Reference r)) = tt
  array_faults number (Some vars.Text) = tt
  array_faults number (Some (vars.Address r e)) = tt

  binary_faults : (op : BinOp) (v w : Option Var) → OfOperation (faults_of unit (ops.Bin op)) (binary_of op v w)
  binary_faults op (Some (vars.Number a)) (Some (vars.Number b)) =
      they_have (faults_of unit (ops.Bin op)) (operator_conditions op a b) (operator_faults_are op a b unit)
  binary_faults op None w = tt
  binary_faults op (Some v) None = by v
    where
      by : (v : Var) → OfOperation (faults_of unit (ops.Bin op)) (binary_of op (Some v) None)
      by (vars.Number e) = tt
      by (vars.Reference r) = tt
      by vars.Text = tt
      by (vars.Address r e) = tt
  binary_faults op (Some (vars.Number a)) (Some (vars.Reference q)) = tt
  binary_faults op (Some (vars.Number a)) (Some vars.Text) = tt
  binary_faults op (Some (vars.Number a)) (Some (vars.Address q e)) = tt
  binary_faults op (Some (vars.Reference r)) (Some w) = tt
  binary_faults op (Some vars.Text) (Some w) = tt
  binary_faults op (Some (vars.Address r e)) (Some w) = tt

  assertion_faults : (v : Option Var) → OfOperation (faults.Assert ∷ []) (assertion_of v)
  assertion_faults None = tt
  assertion_faults (Some (vars.Number e)) = refl
  assertion_faults (Some (vars.Reference r)) = tt
  assertion_faults (Some vars.Text) = tt
  assertion_faults (Some (vars.Address r e)) = tt

  call_faults_are : (call : Option UnitCall) (known : StateFacts) → OfOperation (call_faults call) (call_operation call known)
  call_faults_are (Some (calls.Assert message)) known = assertion_faults (from_top (condition_depth message) known)
  call_faults_are None known = tt
  call_faults_are (Some _) known = tt

  -- An instruction's conditions are those of its faults, where its operands are there.
  pub faults_at : (op : Op) (known : StateFacts) → HaveFaults (faults_of unit op) (conditions_at op known)
  unfolding operation_of
  faults_at ops.Length known = length_faults (from_top 0 known)
  faults_at (ops.LoadElem place) known = element_faults_are (faults_of unit (ops.LoadElem place)) (from_top 1 known) (from_top 0 known) refl
  faults_at (ops.StoreElem place) known = element_faults_are (faults_of unit (ops.StoreElem place)) (from_top 2 known) (from_top 1 known) refl
  faults_at (ops.LoadAddr number) known =
      element_faults_are (faults_of unit (ops.LoadAddr number)) (from_top 1 known) (from_top 0 known) refl
  faults_at (ops.NewArray number) known = array_faults number (from_top 0 known)
  faults_at (ops.Bin op) known = binary_faults op (from_top 1 known) (from_top 0 known)
  faults_at (ops.Call number) known = call_faults_are (unit_call number) known
  faults_at _ known = tt

-- Each is found by its fault.
abbrev AreFound : List Condition → List Condition → Type 0
AreFound all cs = AllByRecursion (λ c. with_fault (fault_of c) all ≡ Some c) cs

found_later : (d : Condition) (all cs : List Condition) → AllByRecursion (λ c. is_of (fault_of c) d ≡ false) cs → AreFound all cs → AreFound (d ∷ all) cs
found_later d all [] differ found = tt
found_later d all (c ∷ cs) differ found =
    (subst (λ (b : Bool). (if b then Some d else with_fault (fault_of c) all) ≡ Some c) (sym differ.0) found.0, found_later d all cs differ.1 found.1)

each_found : (cs : List Condition) → AreDistinct cs → AreFound cs cs
each_found [] distinct = tt
each_found (c ∷ cs) distinct =
    (subst (λ (b : Bool). (if b then Some c else with_fault (fault_of c) cs) ≡ Some c) (sym (is_own c)) refl, found_later c cs cs distinct.0 (each_found cs distinct.1))

-- ---- in turn

-- What is known later has the conditions that were there.
same_conditions : (op : Op) (before after : StateFacts) → StaysThere before after → conditions_at op after ≡ conditions_at op before
unfolding operation_of
same_conditions ops.Length before after stays = ap (λ (vs : List Var). option_map_or conditions_of (length_of (slice_get (reverse vs) 0)) []) stays.variables
same_conditions (ops.LoadElem place) before after stays =
    ap (λ (vs : List Var). option_map_or conditions_of (element_of (slice_get (reverse vs) 1) (slice_get (reverse vs) 0)) []) stays.variables
same_conditions (ops.StoreElem place) before after stays =
    ap (λ (vs : List Var). option_map_or conditions_of (element_of (slice_get (reverse vs) 2) (slice_get (reverse vs) 1)) []) stays.variables
same_conditions (ops.LoadAddr number) before after stays =
    ap (λ (vs : List Var). option_map_or conditions_of
    (element_of (slice_get (reverse vs) 1) (slice_get (reverse vs) 0)) []) stays.variables
same_conditions (ops.NewArray number) before after stays = ap (λ (vs : List Var). option_map_or conditions_of (array_of (slice_get (reverse vs) 0)) []) stays.variables
same_conditions (ops.Bin op) before after stays =
    ap (λ (vs : List Var). option_map_or conditions_of (binary_of op (slice_get (reverse vs) 1) (slice_get (reverse vs) 0)) []) stays.variables
same_conditions (ops.Call number) before after stays = by (unit_call number)
  where
    by : (call : Option UnitCall) → option_map_or conditions_of (call_operation call after) [] ≡ option_map_or conditions_of (call_operation call before) []
    by (Some (calls.Assert message)) =
        ap (λ (vs : List Var). option_map_or conditions_of (assertion_of (slice_get (reverse vs) (condition_depth message))) []) stays.variables
    by None = refl
    by (Some _) = refl
same_conditions _ before after stays = refl

module _ (unit : MethodUnit) (op : Op) (all : List Condition) where
  found_at : (c : Condition) (known : StateFacts) → conditions_at op known ≡ all → with_fault (fault_of c) all ≡ Some c → condition_of unit op (fault_of c) known ≡ Some c
  found_at c known same found = ap (with_fault (fault_of c)) same ∙ found

  ruled_is_entailed : (c : Condition) (known : StateFacts) → conditions_at op known ≡ all → with_fault (fault_of c) all ≡ Some c
      → rules_out unit op (fault_of c) (Some known) ≡ true → entailed_by c known ≡ true
  ruled_is_entailed c known same found so =
      subst (λ (o : Option Condition). option_map_or (λ d. entailed_by d known) o false ≡ true) (found_at c known same found) so

  avoids_by : (c : Condition) (known : StateFacts) → conditions_at op known ≡ all → with_fault (fault_of c) all ≡ Some c
      → avoid unit op (fault_of c) (Some known) ≡ assumed_by c known
  avoids_by c known same found = ap (λ (o : Option Condition). option_map_or (λ d. assumed_by d known) o (Some known)) (found_at c known same found)

  met_in_turn : (cs : List Condition) (known : StateFacts) → HasForm known → AreThere known cs → conditions_at op known ≡ all → AreFound all cs
      → AreRuledOutInTurn unit op (map fault_of cs) (Some known) → (vs : List Value) (heap : Heap) (number : ℕ → ℤ) (array : ℕ → Option ℕ) → IsHeap heap
      → HoldsBy known vs heap number array → AreOfInt32 cs number → AreMet cs heap number array
  met_in_turn [] known form there same found ruled vs heap number array is_heap holds fits = tt
  met_in_turn (c ∷ cs) known form there same found ruled vs heap number array is_heap holds fits =
      let entailed = ruled_is_entailed c known same found.0 ruled.0 in
      let met : IsMet c heap number array = entailed_is_met c known form there.0 entailed vs heap number array holds fits.0 in (
        met,
        later (assumed_by c known) (assumed_follows c known form there.0) (met_is_kept c known form there.0 vs heap number array is_heap holds fits.0 met)
            (subst (λ (o : State). AreRuledOutInTurn unit op (map fault_of cs) o) (avoids_by c known same found.0) ruled.1)
            (λ x stays ruled still. met_in_turn cs x stays.form (conditions_still known x cs stays there.1) (same_conditions op known x stays ∙ same) found.1 ruled
            vs heap number array is_heap still fits.1),
      )
    where
      later : (o : State) → StaysThereIn known o → HoldsIn o vs heap number array → AreRuledOutInTurn unit op (map fault_of cs) o
          → ((x : StateFacts) → StaysThere known x → AreRuledOutInTurn unit op (map fault_of cs) (Some x) → HoldsBy x vs heap number array → AreMet cs heap number array)
          → AreMet cs heap number array
      later None stays holds ruled next = absurd holds
      later (Some x) stays still ruled next = next x stays ruled still

-- ---- states

module _ (unit : MethodUnit) (i : Instr) (p : Point) (known : StateFacts) (form : HasForm known) (at : HoldsAt (Some known) p)
    (ruled : AreRuledOutInTurn unit i.op (faults_of unit i.op) (Some known)) where
  all_met : (cs : List Condition) → conditions_at i.op known ≡ cs → HaveFaults (faults_of unit i.op) cs → AreMet cs p.heap at.frame.number at.frame.array
  all_met [] is have = tt
  all_met (c ∷ cs) is have =
      met_in_turn unit i.op (c ∷ cs) (c ∷ cs) known form (subst (AreThere known) is (conditions_there i.op known form)) is
      (each_found (c ∷ cs) (subst AreDistinct is (distinct_at i.op known)))
      (subst (λ (kinds : List FaultKind). AreRuledOutInTurn unit i.op kinds (Some known)) (sym have) ruled) (variables_of p.frame) p.heap at.frame.number
      at.frame.array at.machine.heap at.frame.holds (subst (λ ds. AreOfInt32 ds at.frame.number) is (fit_here unit i p known form at))

  no_fault_here : (kind : FaultKind) → HasEffect (effects unit i p.frame p.heap) (Faults kind) → ⊥
  no_fault_here kind has =
      no_fault_where_met (conditions_at i.op known) p.heap at.frame.number at.frame.array (effects unit i p.frame p.heap)
      (faults_here unit i p known form at (Faults kind) has) (all_met (conditions_at i.op known) refl (faults_at unit i.op known)) kind has

pub in_turn : (unit : MethodUnit) (op : Op) → RulesOutInTurn unit op (faults_of unit op)
in_turn unit op = λ state form ruled kind i p same at has.
    by state form i (subst (λ (o : Op). AreRuledOutInTurn unit o (faults_of unit o) state) (sym same) ruled) p at kind has
  where
    by : (state : State) → ForSome state HasForm → (i : Instr) → AreRuledOutInTurn unit i.op (faults_of unit i.op) state → (p : Point) → HoldsAt state p → (kind : FaultKind)
        → HasEffect (effects unit i p.frame p.heap) (Faults kind) → ⊥
    by None form i ruled p at kind has = at.frame.holds
    by (Some known) form i ruled p at kind has = no_fault_here unit i p known (form known refl) at ruled kind has
