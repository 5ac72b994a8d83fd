-- Each fault in which an instruction may end is one of its operation, or that a clause is not true.
use Rattle.std.proofs.Common.{◌≡◌, ℕ, ℤ, pos, negsuc, true, false, ◌&&◌, int_le, int_lt, int_eq, Option, Some, None, List, [], ◌∷◌, Ok, Err, refl, sym, ap, subst, ◌∙◌, inl, inr, ⊎_elim, slice_get}
use Rattle.std.specs.Prelude.{◌^◌, ◌/◌, ◌*ℤ◌, ◌+ℤ◌, ◌-ℤ◌, Result, length, unsigned_abs}
use Rattle.std.specs.Int.{int_shr}
use Rattle.std.proofs.lemmas.Bool.{cond_both, true≢false}
use Rattle.cc_base.specs.Wrap.{wrap32}
use Rattle.cil_model.specs.Arithmetic.{LEAST, GREATEST, signed, unsigned, exact, divided, divided_unsigned, shifted, operated}
use Rattle.cil_model.specs.Calls.{FreeCall, FreelyCalled, Returned, ensures_fault}
use Rattle.cil_model.specs.Clauses.{false_requires}
use Rattle.cil_model.specs.Comparisons.{comparison_of, number_of}
use Rattle.cil_model.specs.Effects.{Effect, GoesOn, Faults, Assumes, FindsNoRoom, HasEffect, arithmetic, array_length, at_index, below_message, binary, comparison, contract_call, effects, effects_of, gives, goes_on, item_value, loads, makes_number, new_array, of_place, pushes, stores, takes_address, tests_condition}
use Rattle.cil_model.specs.Runs.{CallsBy, EffectRow, Row, config_after}
use Rattle.cil_model.specs.UnitCalls.{array_place, unit_call}
use Rattle.cil_model.specs.Values.{Heap, same_place}
use Rattle.cil_model.specs.declared.instruction.BinOp.{BinOp}
use Rattle.cil_model.specs.declared.instruction.BinOp.TheVariants as operators
use Rattle.cil_model.specs.declared.instruction.CmpOp.{CmpOp}
use Rattle.cil_model.specs.declared.instruction.Instr.{Instr}
use Rattle.cil_model.specs.declared.instruction.Op.{Op}
use Rattle.cil_model.specs.declared.instruction.Op.TheVariants as ops
use Rattle.cil_model.specs.declared.instruction.UnOp.TheVariants as unary
use Rattle.cil_model.specs.declared.machine.ArrayCell.{ArrayCell}
use Rattle.cil_model.specs.declared.machine.Config.{Config}
use Rattle.cil_model.specs.declared.machine.Config.TheVariants as configs
use Rattle.cil_model.specs.declared.machine.FaultKind.{FaultKind}
use Rattle.cil_model.specs.declared.machine.FaultKind.TheVariants as faults
use Rattle.cil_model.specs.declared.machine.Frame.{Frame}
use Rattle.cil_model.specs.declared.machine.Value.{Value}
use Rattle.cil_model.specs.declared.machine.Value.TheVariants as values
use Rattle.cil_model.specs.declared.place.Place.{Place}
use Rattle.cil_model.specs.declared.unit.CalleeInfo.{CalleeInfo}
use Rattle.cil_model.specs.declared.unit.Unit.{Unit as MethodUnit}
use Rattle.cil_model.specs.declared.unit_numbers.UnitCall.{UnitCall}
use Rattle.cil_model.specs.declared.unit_numbers.UnitCall.TheVariants as calls
use Rattle.obligation_prover.specs.EachFault.{EndsInNoOther}
use Rattle.obligation_prover.specs.Faults.{IsAmong, call_faults, element_faults, faults_of, is_of_clause, operator_faults}
use Rattle.obligation_prover.proofs.Quiet as quiet

-- ---- operators

-- An outcome is a number, or one of these faults.
abbrev EndsIn : List FaultKind → Result ℤ FaultKind → Type 0
EndsIn kinds (Ok n) = Unit {0}
EndsIn kinds (Err kind) = IsAmong kinds kind

divided_ends : (a b outcome : ℤ) → EndsIn (faults.DivZero ∷ faults.DivOverflow ∷ []) (divided a b outcome)
divided_ends a b outcome = cond_both (int_eq b (pos 0)) _ _ (EndsIn (faults.DivZero ∷ faults.DivOverflow ∷ [])) (λ zero. inl refl)
    (λ other. cond_both (int_eq a LEAST && int_eq b (negsuc 0)) _ _ (EndsIn (faults.DivZero ∷ faults.DivOverflow ∷ [])) (λ both. inr (inl refl)) (λ fine. tt))

unsigned_ends : (b : ℤ) (outcome : ℕ) → EndsIn (faults.DivZero ∷ []) (divided_unsigned b outcome)
unsigned_ends b outcome = cond_both (int_eq b (pos 0)) _ _ (EndsIn (faults.DivZero ∷ [])) (λ zero. inl refl) (λ fine. tt)

shifted_ends : (b : ℤ) (by : ℕ → ℤ) → EndsIn (faults.Shift ∷ []) (shifted b by)
shifted_ends b by = cond_both (int_le (pos 0) b && int_lt b (pos 32)) _ _ (EndsIn (faults.Shift ∷ [])) (λ fine. tt) (λ beyond. inl refl)

exact_ends : (n : ℤ) → EndsIn (faults.Overflow ∷ []) (exact n)
exact_ends n = cond_both (int_le LEAST n && int_le n GREATEST) _ _ (EndsIn (faults.Overflow ∷ [])) (λ fine. tt) (λ over. inl refl)

operator_ends : (op : BinOp) (a b : ℤ) → EndsIn (operator_faults op) (operated op a b)
operator_ends operators.Add a b = tt
operator_ends operators.Sub a b = tt
operator_ends operators.Mul a b = tt
operator_ends operators.Div a b = divided_ends a b _
operator_ends operators.DivUn a b = unsigned_ends b _
operator_ends operators.Rem a b = divided_ends a b _
operator_ends operators.RemUn a b = unsigned_ends b _
operator_ends operators.And a b = tt
operator_ends operators.Or a b = tt
operator_ends operators.Xor a b = tt
operator_ends operators.Shl a b = shifted_ends b (λ n. wrap32 (a *ℤ pos (2 ^ n)))
operator_ends operators.Shr a b = shifted_ends b (λ n. int_shr a n)
operator_ends operators.ShrUn a b = shifted_ends b (λ n. signed (unsigned a / 2 ^ n))
operator_ends operators.AddOvf a b = exact_ends (a +ℤ b)
operator_ends operators.MulOvf a b = exact_ends (a *ℤ b)
operator_ends operators.SubOvf a b = exact_ends (a -ℤ b)
operator_ends operators.Ceq a b = tt
operator_ends operators.Cgt a b = tt
operator_ends operators.CgtUn a b = tt
operator_ends operators.Clt a b = tt
operator_ends operators.CltUn a b = tt

gives_fault : (i : Instr) (f : Frame) (heap : Heap) (rest : List Value) (r : Result ℤ FaultKind) (kind : FaultKind)
    → HasEffect (gives i f heap rest r) (Faults kind) → r ≡ Err kind
gives_fault i f heap rest (Ok n) kind has = ⊎_elim (λ is. cc) (λ none. absurd none) has
gives_fault i f heap rest (Err other) kind has = ⊎_elim (λ is. cc) (λ none. absurd none) has

module _ (i : Instr) (f : Frame) (heap : Heap) where
  module _ (kind : FaultKind) where
    arithmetic_among : (op : BinOp) (stack : List Value) → HasEffect (arithmetic op i f heap stack) (Faults kind) → IsAmong (operator_faults op) kind
    arithmetic_among op (values.Int b ∷ values.Int a ∷ rest) has =
        subst (EndsIn (operator_faults op)) (gives_fault i f heap rest (operated op a b) kind has) (operator_ends op a b)
    arithmetic_among op _ has = elim has [ ]

    binary_among : (op : BinOp) (cmp : Option CmpOp) (stack : List Value) → HasEffect (binary op cmp i f heap stack) (Faults kind) → IsAmong (operator_faults op) kind
    binary_among op None stack has = arithmetic_among op stack has
    binary_among op (Some cmp) stack has = absurd (quiet.no_fault i f heap (comparison cmp i f heap stack) (quiet.quiet_comparison i f heap cmp stack) kind has)

    -- ---- calls

    condition_otherwise : (otherwise : Effect) (stack : Option (List Value)) → HasEffect (tests_condition otherwise i f heap stack) (Faults kind) → Faults kind ≡ otherwise
    condition_otherwise otherwise (Some (values.Int n ∷ rest)) has = cond_both (int_eq n (pos 0)) _ _ (λ es. HasEffect es (Faults kind) → Faults kind ≡ otherwise)
        (λ zero there. ⊎_elim (λ same. same) (λ none. absurd none) there)
        (λ other there. ⊎_elim (λ same. cc) (λ none. absurd none) there) has
    condition_otherwise otherwise _ has = elim has [ ]

    asserts : Faults kind ≡ Faults faults.Assert → kind ≡ faults.Assert
    asserts same = cc

    call_among : (call : Option UnitCall) → HasEffect (contract_call call i f heap) (Faults kind) → IsAmong (call_faults call) kind
    call_among (Some (calls.Assert message)) has = inl (asserts (condition_otherwise (Faults faults.Assert) (below_message message f.stack) has))
    call_among (Some (calls.Assume message)) has = let same : Faults kind ≡ Assumes = condition_otherwise Assumes (below_message message f.stack) has in cc
    call_among _ has = elim has [ ]

  -- ---- arrays

  module _ (kind : FaultKind) where
    pushes_none : (rest : List Value) (value : Option Value) → HasEffect (pushes i f heap rest value) (Faults kind) → ⊥
    pushes_none rest value has = quiet.no_fault i f heap (pushes i f heap rest value) (quiet.quiet_pushes i f heap rest value) kind has

    same_kind : (other : FaultKind) → HasEffect (Faults other ∷ []) (Faults kind) → kind ≡ other
    same_kind other has = ⊎_elim (λ is. cc) (λ none. absurd none) has

    length_among : (stack : List Value) → HasEffect (array_length i f heap stack) (Faults kind) → IsAmong (faults.NullUse ∷ []) kind
    length_among (values.Null ∷ rest) has = inl (same_kind faults.NullUse has)
    length_among (values.Array a ∷ rest) has = absurd (pushes_none rest _ has)
    length_among _ has = absurd has

    index_among : (cell : ArrayCell) (n : ℤ) (done : List Effect) → (HasEffect done (Faults kind) → ⊥) → HasEffect (at_index cell n done) (Faults kind)
        → IsAmong element_faults kind
    index_among cell n done none has =
        cond_both (int_lt n (pos 0)) _ _ (λ es. HasEffect es (Faults kind) → IsAmong element_faults kind)
        (λ low there. inr (inl (same_kind faults.Lower there)))
        (λ low. cond_both (int_le (pos (length cell.items)) n) _ _ (λ es. HasEffect es (Faults kind) → IsAmong element_faults kind)
        (λ high there. inr (inr (inl (same_kind faults.Upper there)))) (λ high there. absurd (none there))) has

    place_among : (place : Place) (o : Option ArrayCell) (n : ℤ) (done : ArrayCell → List Effect) → ((cell : ArrayCell) → HasEffect (done cell) (Faults kind) → ⊥)
        → HasEffect (of_place place o (λ cell. at_index cell n (done cell))) (Faults kind) → IsAmong element_faults kind
    place_among place None n done none has = absurd has
    place_among place (Some cell) n done none has =
        cond_both (same_place cell.place place) _ _ (λ es. HasEffect es (Faults kind) → IsAmong element_faults kind)
        (λ is there. index_among cell n (done cell) (none cell) there) (λ other there. absurd there) has

    load_among : (place : Place) (stack : List Value) → HasEffect (loads place i f heap stack) (Faults kind) → IsAmong element_faults kind
    load_among place (values.Int n ∷ values.Null ∷ rest) has = inl (same_kind faults.NullUse has)
    load_among place (values.Int n ∷ values.Array a ∷ rest) has =
        place_among place (slice_get heap a) n (λ cell. pushes i f heap rest (item_value cell n)) (λ cell there. pushes_none rest (item_value cell n) there) has
    load_among place _ has = absurd has

    goes_none : (new : Heap) (rest : List Value) → HasEffect (goes_on i f new rest) (Faults kind) → ⊥
    goes_none new rest has = ⊎_elim (λ is. cc) (λ none. none) has

    store_among : (place : Place) (stack : List Value) → HasEffect (stores place i f heap stack) (Faults kind) → IsAmong element_faults kind
    store_among place (values.Int x ∷ values.Int n ∷ values.Null ∷ rest) has = inl (same_kind faults.NullUse has)
    store_among place (values.Int x ∷ values.Int n ∷ values.Array a ∷ rest) has =
        place_among place (slice_get heap a) n _ (λ cell there. goes_none _ rest there) has
    store_among place _ has = absurd has

    address_among : (place : Option Place) (stack : List Value)
        → HasEffect (takes_address place i f heap stack) (Faults kind) → IsAmong element_faults kind
    address_among (Some place) (values.Int n ∷ values.Null ∷ rest) has = inl (same_kind faults.NullUse has)
    address_among (Some place) (values.Int n ∷ values.Array a ∷ rest) has =
        place_among place (slice_get heap a) n (λ cell. goes_on i f heap (values.Addr a (unsigned_abs n) ∷ rest))
        (λ cell there. goes_none heap (values.Addr a (unsigned_abs n) ∷ rest) there) has
    address_among (Some place) _ has = absurd has
    address_among None stack has = absurd has

    makes_among : (place : Option Place) (n : Option ℤ) (rest : List Value) → HasEffect (makes_number place n i f heap rest) (Faults kind)
        → IsAmong (faults.ArraySize ∷ []) kind
    makes_among (Some place) (Some n) rest has =
        cond_both (int_lt n (pos 0)) _ _ (λ es. HasEffect es (Faults kind) → IsAmong (faults.ArraySize ∷ []) kind)
        (λ low there. inl (same_kind faults.ArraySize there))
        (λ low there. ⊎_elim (λ is. absurd (no_room is)) (λ later. absurd (goes_none _ _ later)) there) has
      where
        no_room : Faults kind ≡ FindsNoRoom → ⊥
        no_room is = cc
    makes_among None n rest has = absurd has
    makes_among (Some place) None rest has = absurd has

    new_among : (place : Option Place) (stack : List Value) → HasEffect (new_array place i f heap stack) (Faults kind) → IsAmong (faults.ArraySize ∷ []) kind
    new_among place [] has = absurd has
    new_among place (value ∷ rest) has = makes_among place (number_of value) rest has

  -- ---- each operation

  quiet_op : (op : Op) (unit : MethodUnit) (kind : FaultKind) → quiet.AreQuiet i f heap (effects_of op unit i f heap)
      → HasEffect (effects_of op unit i f heap) (Faults kind) → ⊥
  quiet_op op unit kind all has = quiet.no_fault i f heap (effects_of op unit i f heap) all kind has

  op_among : (op : Op) (unit : MethodUnit) (kind : FaultKind) → HasEffect (effects_of op unit i f heap) (Faults kind) → IsAmong (faults_of unit op) kind
  op_among (ops.Bin op) unit kind has = binary_among kind op (comparison_of op) f.stack has
  op_among (ops.Call number) unit kind has = call_among kind (unit_call number) has
  op_among (ops.NewArray number) unit kind has = new_among kind (array_place number) f.stack has
  op_among ops.Length unit kind has = length_among kind f.stack has
  op_among (ops.LoadElem place) unit kind has = load_among kind place f.stack has
  op_among (ops.StoreElem place) unit kind has = store_among kind place f.stack has
  op_among (ops.LoadAddr number) unit kind has = address_among kind (array_place number) f.stack has
  op_among ops.Return unit kind has = absurd has
  op_among ops.Nop unit kind has = quiet_op ops.Nop unit kind (tt, tt) has
  op_among (ops.LoadArg n) unit kind has = quiet_op (ops.LoadArg n) unit kind (quiet.quiet_pushes i f heap f.stack (slice_get f.args n)) has
  op_among (ops.StoreArg n) unit kind has = quiet_op (ops.StoreArg n) unit kind (quiet.quiet_stores_arg i f heap unit n f.stack) has
  op_among (ops.LoadLocal n) unit kind has = quiet_op (ops.LoadLocal n) unit kind (quiet.quiet_pushes i f heap f.stack (slice_get f.locals n)) has
  op_among (ops.StoreLocal n) unit kind has = quiet_op (ops.StoreLocal n) unit kind (quiet.quiet_stores_local i f heap unit n f.stack) has
  op_among ops.Null unit kind has = quiet_op ops.Null unit kind (tt, tt) has
  op_among (ops.Const n) unit kind has = quiet_op (ops.Const n) unit kind (tt, tt) has
  op_among ops.Dup unit kind has = quiet_op ops.Dup unit kind (quiet.quiet_duplicates i f heap f.stack) has
  op_among ops.Pop unit kind has = quiet_op ops.Pop unit kind (quiet.quiet_pops i f heap f.stack) has
  op_among (ops.Branch test target) unit kind has = quiet_op (ops.Branch test target) unit kind (quiet.quiet_tests i f heap test target f.stack) has
  op_among (ops.Switch targets) unit kind has = quiet_op (ops.Switch targets) unit kind (quiet.quiet_switches i f heap targets f.stack) has
  op_among ops.Neg unit kind has = quiet_op ops.Neg unit kind (quiet.quiet_changes i f heap unary.Neg f.stack) has
  op_among ops.Not unit kind has = quiet_op ops.Not unit kind (quiet.quiet_changes i f heap unary.Not f.stack) has
  op_among ops.ConvI4 unit kind has = quiet_op ops.ConvI4 unit kind (quiet.quiet_converts i f heap f.stack) has
  op_among (ops.Text token) unit kind has = quiet_op (ops.Text token) unit kind (tt, tt) has
  op_among (ops.LoadInd place) unit kind has =
      quiet_op (ops.LoadInd place) unit kind (quiet.quiet_loads_through i f heap place f.stack) has
  op_among (ops.StoreInd place) unit kind has =
      quiet_op (ops.StoreInd place) unit kind (quiet.quiet_stores_through i f heap place f.stack) has

pub no_other : (unit : MethodUnit) (op : Op) → EndsInNoOther unit op (faults_of unit op)
no_other unit op = λ i f heap kind same has.
    subst (λ (o : Op). IsAmong (faults_of unit o) kind) same (op_among i f heap i.op unit kind has)

-- ---- steps

-- The rows that end in a fault other than that of a clause.
module _ (unit : MethodUnit) (i : Instr) (f : Frame) (heap : Heap) (kind : FaultKind) (index at : ℕ) (other : is_of_clause kind ≡ false) where
  abbrev end : Config
  end = configs.Fault kind index at

  of_clause : (fault : FaultKind) (where_at which : ℕ) → end ≡ configs.Fault fault which where_at → is_of_clause fault ≡ true → ⊥
  of_clause fault where_at which is clause = let same : kind ≡ fault = cc in true≢false (sym clause ∙ ap is_of_clause (sym same) ∙ other)

  no_return : (result : Option Value) (fault : Option ℕ) → Returned [] i f heap result fault end → ⊥
  no_return result (Some k) returned = of_clause (faults.Ensures k) i.at f.unit returned refl
  no_return result None returned =
      ⊎_elim (λ ends. let same : end ≡ configs.Returned result = ends.1 in cc) (λ resumes. let same = resumes.3 in cc) returned

  no_call : (callee : CalleeInfo) (args : List Value) (fault : Option ℕ) → FreelyCalled callee args i f heap fault end → ⊥
  no_call callee args (Some k) freely = of_clause (faults.Requires k) i.at f.unit freely refl
  no_call callee args None freely = ⊎_elim (λ is. cc) (λ back. let same = back.3 in cc) freely

  call_by_effect : (call : Option UnitCall) → CallsBy (FreeCall unit) call [] unit i f heap end → EffectRow [] unit i f heap end
  call_by_effect (Some (calls.Callee number)) row =
      absurd (no_call row.callee row.args (false_requires row.callee.clauses row.args heap) row.freely)
  call_by_effect _ row = row

  by_effect : (op : Op) → Row (FreeCall unit) op [] unit i f heap end → EffectRow [] unit i f heap end
  by_effect ops.Return row = absurd (no_return row.0 (ensures_fault unit f heap row.0) row.2)
  by_effect (ops.Call number) row = call_by_effect (unit_call number) row
  by_effect _ row = row

  fault_is : (effect : Effect) → end ≡ config_after [] f i effect → (effect ≡ Faults kind) × (i.at ≡ at)
  fault_is (GoesOn new after) is = absurd cc
  fault_is (Faults fault) is = (cc, cc)
  fault_is Assumes is = absurd cc
  fault_is FindsNoRoom is = absurd cc

  -- The effect by which the instruction ends in it.
  pub effect_of_step : Row (FreeCall unit) i.op [] unit i f heap end → HasEffect (effects unit i f heap) (Faults kind)
  effect_of_step row =
      let found = by_effect i.op row in subst (HasEffect (effects unit i f heap)) (fault_is found.0 found.2).0 found.1

  pub step_among : Row (FreeCall unit) i.op [] unit i f heap end → IsAmong (faults_of unit i.op) kind × (i.at ≡ at)
  step_among row =
      let found = by_effect i.op row in
      let is = fault_is found.0 found.2 in
      (no_other unit i.op i f heap kind refl (subst (HasEffect (effects unit i f heap)) is.0 found.1), is.1)
