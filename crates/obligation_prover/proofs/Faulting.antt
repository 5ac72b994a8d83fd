-- An instruction of the machine goes on where each of its conditions is met, and ends in the fault of the first that is
-- not. Where it goes through an address, the item is there.
use Rattle.std.proofs.Common.{◌≡◌, ℕ, ℤ, true, false, Option, Some, None, List, [], ◌∷◌, ◌++◌, refl, sym, ap, subst, ◌∙◌, inl, slice_get}
use Rattle.std.specs.Prelude.{reverse}
use Rattle.std.specs.List.{AllByRecursion}
use Rattle.std.specs.Option.{option_map_or}
use Rattle.std.proofs.lemmas.Bool.{cond_both}
use Rattle.cil_model.specs.Comparisons.{comparison_of, number_of, reference_of}
use Rattle.cil_model.specs.Effects.{Effect, Faults, HasEffect, addresses, arithmetic, array_length, below_message, binary, comparison, contract_call, effects, effects_of, loads, loads_through, makes_number, new_array, of_place, stores, stores_through, takes_address, tests_condition}
use Rattle.cil_model.specs.UnitCalls.{array_place, unit_call}
use Rattle.cil_model.specs.Values.{Heap, IsValue, has_array, same_place}
use Rattle.cil_model.specs.declared.instruction.BinOp.{BinOp}
use Rattle.cil_model.specs.declared.instruction.BinOp.TheVariants as operators
use Rattle.cil_model.specs.declared.instruction.CmpOp.{CmpOp}
use Rattle.cil_model.specs.declared.instruction.CmpOp.TheVariants as comparisons
use Rattle.cil_model.specs.declared.instruction.Instr.{Instr}
use Rattle.cil_model.specs.declared.instruction.Op.{Op}
use Rattle.cil_model.specs.declared.instruction.Op.TheVariants as ops
use Rattle.cil_model.specs.declared.instruction.UnOp.TheVariants as unary
use Rattle.cil_model.specs.declared.machine.ArrayCell.{ArrayCell}
use Rattle.cil_model.specs.declared.machine.FaultKind.TheVariants as faults
use Rattle.cil_model.specs.declared.machine.Frame.{Frame}
use Rattle.cil_model.specs.declared.machine.Value.{Value}
use Rattle.cil_model.specs.declared.machine.Value.TheVariants as values
use Rattle.cil_model.specs.declared.place.Place.{Place}
use Rattle.cil_model.specs.declared.unit.Unit.{Unit as MethodUnit}
use Rattle.cil_model.specs.declared.unit_numbers.UnitCall.{UnitCall}
use Rattle.cil_model.specs.declared.unit_numbers.UnitCall.TheVariants as calls
use Rattle.domain_api.specs.declared.expr.Expr.{Expr}
use Rattle.frame_names.specs.declared.var.Var.{Var}
use Rattle.frame_names.specs.declared.var.Var.TheVariants as vars
use Rattle.state_facts.specs.Holds.{FitsArray, HasValue, HaveValues, address_of, variables_of}
use Rattle.state_facts.specs.StateFacts.{StateFacts}
use Rattle.symbolic_values.specs.Worth.{worth}
use Rattle.state_obligations.proofs.AddressLaws.{address_is_met}
use Rattle.state_obligations.proofs.FaultLaws.{address_effects, assert_effects, length_effects, load_effects, new_array_effects, operator_effects, store_effects}
use Rattle.state_obligations.specs.Conditions.{conditions_of, operator_conditions}
use Rattle.state_obligations.specs.Faults.{EffectsFaultWhereUnmet, HasNoFault}
use Rattle.state_obligations.specs.Meaning.{AreMet}
use Rattle.state_obligations.specs.declared.condition.Operation.{Operation}
use Rattle.state_obligations.specs.declared.condition.Operation.TheVariants as operations
use Rattle.obligation_prover.specs.Operations.{array_of, assertion_of, binary_of, call_operation, conditions_after, conditions_at, element_of, item_of, length_of, operation_of}
use Rattle.obligation_prover.proofs.PointValues.{below_stack, have_reversed, stack_first}
use Rattle.obligation_prover.proofs.Quiet as quiet

-- ---- operands by the values that they have

module _ (number : ℕ → ℤ) (array : ℕ → Option ℕ) where
  -- The first variable has the number.
  record FirstNumber (ws : List Var) (n : ℤ) (vs : List Value) : Type 0 where
    e : Expr
    rest : List Var
    is : ws ≡ vars.Number e ∷ rest
    worth_is : n ≡ worth number e
    have : HaveValues number array rest vs

  -- It has the reference.
  record FirstReference (ws : List Var) (value : Value) (vs : List Value) : Type 0 where
    r : ℕ
    rest : List Var
    is : ws ≡ vars.Reference r ∷ rest
    array_is : reference_of value ≡ Some (array r)
    have : HaveValues number array rest vs

  -- It has the address.
  record FirstAddress (ws : List Var) (a n : ℕ) (vs : List Value) : Type 0 where
    r : ℕ
    e : Expr
    rest : List Var
    is : ws ≡ vars.Address r e ∷ rest
    address_is : HasValue number array (vars.Address r e) (values.Addr a n)
    have : HaveValues number array rest vs

  -- It has something.
  record FirstAny (ws : List Var) (vs : List Value) : Type 0 where
    v : Var
    rest : List Var
    is : ws ≡ v ∷ rest
    have : HaveValues number array rest vs

  first_number : (ws : List Var) (value : Value) (vs : List Value) (n : ℤ) → number_of value ≡ Some n → HaveValues number array ws (value ∷ vs) → FirstNumber ws n vs
  first_number [] value vs n is have = absurd have
  first_number (vars.Number e ∷ ws) value vs n is have =
      let same : n ≡ worth number e = (let has : number_of value ≡ Some (worth number e) = have.0 in cc) in
      record { e = e; rest = ws; is = refl; worth_is = same; have = have.1 }
  first_number (vars.Reference r ∷ ws) value vs n is have = absurd (no_reference value is have.0)
    where
      no_reference : (value : Value) → number_of value ≡ Some n → reference_of value ≡ Some (array r) → ⊥
      no_reference (values.Int m) is has = cc
      no_reference (values.Native m) is has = cc
      no_reference values.Null is has = cc
      no_reference (values.Array a) is has = cc
      no_reference (values.Addr a k) is has = cc
      no_reference values.Text is has = cc
  first_number (vars.Address r e ∷ ws) value vs n is have = absurd (no_item value is have.0)
    where
      no_item : (value : Value) → number_of value ≡ Some n → address_of value ≡ Some (array r, worth number e) → ⊥
      no_item (values.Int m) is has = cc
      no_item (values.Native m) is has = cc
      no_item values.Null is has = cc
      no_item (values.Array a) is has = cc
      no_item (values.Addr a k) is has = cc
      no_item values.Text is has = cc
  first_number (vars.Text ∷ ws) value vs n is have = absurd (none (subst (λ (v : Value). number_of v ≡ Some n) have.0 is))
    where
      none : None ≡ Some n → ⊥
      none is = cc

  first_reference : (ws : List Var) (value : Value) (vs : List Value) (a : Option ℕ) → reference_of value ≡ Some a → HaveValues number array ws (value ∷ vs)
      → FirstReference ws value vs
  first_reference [] value vs a is have = absurd have
  first_reference (vars.Reference r ∷ ws) value vs a is have = record { r = r; rest = ws; is = refl; array_is = have.0; have = have.1 }
  first_reference (vars.Number e ∷ ws) value vs a is have = absurd (no_number value is have.0)
    where
      no_number : (value : Value) → reference_of value ≡ Some a → number_of value ≡ Some (worth number e) → ⊥
      no_number (values.Int m) is has = cc
      no_number (values.Native m) is has = cc
      no_number values.Null is has = cc
      no_number (values.Array b) is has = cc
      no_number (values.Addr b k) is has = cc
      no_number values.Text is has = cc
  first_reference (vars.Address r e ∷ ws) value vs a is have = absurd (no_item value is have.0)
    where
      no_item : (value : Value) → reference_of value ≡ Some a → address_of value ≡ Some (array r, worth number e) → ⊥
      no_item (values.Int m) is has = cc
      no_item (values.Native m) is has = cc
      no_item values.Null is has = cc
      no_item (values.Array b) is has = cc
      no_item (values.Addr b k) is has = cc
      no_item values.Text is has = cc
  first_reference (vars.Text ∷ ws) value vs a is have = absurd (none (subst (λ (v : Value). reference_of v ≡ Some a) have.0 is))
    where
      none : None ≡ Some a → ⊥
      none is = cc

  first_address : (ws : List Var) (a n : ℕ) (vs : List Value) → HaveValues number array ws (values.Addr a n ∷ vs)
      → FirstAddress ws a n vs
  first_address [] a n vs have = absurd have
  first_address (vars.Address r e ∷ ws) a n vs have =
      record { r = r; e = e; rest = ws; is = refl; address_is = have.0; have = have.1 }
  first_address (vars.Number e ∷ ws) a n vs have = absurd (let no_number : None ≡ Some (worth number e) = have.0 in cc)
  first_address (vars.Reference r ∷ ws) a n vs have = absurd (let no_reference : None ≡ Some (array r) = have.0 in cc)
  first_address (vars.Text ∷ ws) a n vs have = absurd (let no_text : values.Addr a n ≡ values.Text = have.0 in cc)

  first_any : (ws : List Var) (value : Value) (vs : List Value) → HaveValues number array ws (value ∷ vs) → FirstAny ws vs
  first_any [] value vs have = absurd have
  first_any (v ∷ ws) value vs have = record { v = v; rest = ws; is = refl; have = have.1 }

  -- ---- each operation

  module _ (i : Instr) (f : Frame) (heap : Heap) where
    abbrev Faulting : Option Operation → List Effect → Type 0
    Faulting o es = EffectsFaultWhereUnmet (option_map_or conditions_of o []) heap number array es

    free : (es : List Effect) → HasNoFault es → EffectsFaultWhereUnmet [] heap number array es
    free es none = inl (tt, none)

    length_at : (ws : List Var) (value : Value) (rest below : List Value) (a : Option ℕ) → reference_of value ≡ Some a
        → HaveValues number array ws (value ∷ rest ++ below) → Faulting (length_of (slice_get ws 0)) (array_length i f heap (value ∷ rest))
    length_at ws value rest below a is have =
        let top = first_reference ws value (rest ++ below) a is have in
        subst (λ (vs : List Var). Faulting (length_of (slice_get vs 0)) (array_length i f heap (value ∷ rest))) (sym top.is)
        (length_effects top.r i f heap number array value rest top.array_is)

    length_here : (ws : List Var) (stack below : List Value) (effect : Effect) → HaveValues number array ws (stack ++ below)
        → HasEffect (array_length i f heap stack) effect → Faulting (length_of (slice_get ws 0)) (array_length i f heap stack)
    length_here ws (values.Null ∷ rest) below effect have has = length_at ws values.Null rest below None refl have
    length_here ws (values.Array a ∷ rest) below effect have has = length_at ws (values.Array a) rest below (Some a) refl have
    length_here ws _ below effect have has = absurd has

    new_here : (place : Option Place) (ws : List Var) (stack below : List Value) (effect : Effect) → HaveValues number array ws (stack ++ below)
        → HasEffect (new_array place i f heap stack) effect → Faulting (array_of (slice_get ws 0)) (new_array place i f heap stack)
    new_here place ws [] below effect have has = absurd has
    new_here None ws (value ∷ rest) below effect have has = absurd has
    new_here (Some place) ws (value ∷ rest) below effect have has = by (number_of value) refl
      where
        by : (o : Option ℤ) → number_of value ≡ o → Faulting (array_of (slice_get ws 0)) (new_array (Some place) i f heap (value ∷ rest))
        by None is = absurd (subst (λ (o : Option ℤ). HasEffect (makes_number (Some place) o i f heap rest) effect) is has)
        by (Some n) is =
            let top = first_number ws value (rest ++ below) n is have in
            subst (λ (vs : List Var). Faulting (array_of (slice_get vs 0)) (new_array (Some place) i f heap (value ∷ rest))) (sym top.is)
            (new_array_effects place top.e i f heap number array value rest (is ∙ ap (λ (m : ℤ). Some m) top.worth_is))

    -- an array whose items are asked for is of their type
    fits_there : (place : Place) (o : Option ArrayCell) (done : ArrayCell → List Effect) (effect : Effect) → HasEffect (of_place place o done) effect
        → option_map_or (λ cell. same_place cell.place place) o false ≡ true
    fits_there place None done effect has = absurd has
    fits_there place (Some cell) done effect has =
        cond_both (same_place cell.place place) _ _ (λ (es : List Effect). HasEffect es effect → same_place cell.place place ≡ true) (λ is there. is) (λ other there. absurd there) has

    array_fits : (place : Place) (r a : ℕ) → reference_of (values.Array a) ≡ Some (array r) → has_array heap place a ≡ true → FitsArray heap place (array r)
    array_fits place r a is fits = subst (FitsArray heap place) (same (Some a) (array r) is) fits
      where
        same : (x y : Option ℕ) → Some x ≡ Some y → x ≡ y
        same x y e = cc

    null_fits : (place : Place) (r : ℕ) → reference_of values.Null ≡ Some (array r) → FitsArray heap place (array r)
    null_fits place r is = subst (FitsArray heap place) (same None (array r) is) tt
      where
        same : (x y : Option ℕ) → Some x ≡ Some y → x ≡ y
        same x y e = cc

    -- an instruction that takes an array below an index faults as an item does
    abbrev OfItem : Place → (List Value → List Effect) → Value → List Value → Type 0
    OfItem place does value rest =
        (r : ℕ) (e : Expr) → reference_of value ≡ Some (array r) → FitsArray heap place (array r)
        → Faulting (Some (operations.Element r e)) (does (values.Int (worth number e) ∷ value ∷ rest))

    element_at : (place : Place) (does : List Value → List Effect) (ws : List Var) (n : ℤ) (value : Value)
        (rest below : List Value) (a : Option ℕ) → OfItem place does value rest → reference_of value ≡ Some a
        → HaveValues number array ws (values.Int n ∷ value ∷ rest ++ below)
        → ((r : ℕ) → reference_of value ≡ Some (array r) → FitsArray heap place (array r))
        → Faulting (element_of (slice_get ws 1) (slice_get ws 0)) (does (values.Int n ∷ value ∷ rest))
    element_at place does ws n value rest below a faulting is have fits =
        let top = first_number ws (values.Int n) (value ∷ rest ++ below) n refl have in
        let next = first_reference top.rest value (rest ++ below) a is top.have in
        subst (λ (vs : List Var). Faulting (element_of (slice_get vs 1) (slice_get vs 0))
        (does (values.Int n ∷ value ∷ rest)))
        (sym (top.is ∙ ap (λ (vs : List Var). vars.Number top.e ∷ vs) next.is))
        (subst (λ (m : ℤ). Faulting (Some (operations.Element next.r top.e)) (does (values.Int m ∷ value ∷ rest)))
        (sym top.worth_is) (faulting next.r top.e next.array_is (fits next.r next.array_is)))

    load_faults : (place : Place) (value : Value) (rest : List Value) → OfItem place (loads place i f heap) value rest
    load_faults place value rest = λ r e is fits. load_effects place r e i f heap number array value rest is fits

    address_faults : (place : Place) (value : Value) (rest : List Value)
        → OfItem place (addresses place i f heap) value rest
    address_faults place value rest = λ r e is fits. address_effects place r e i f heap number array value rest is fits

    load_here : (place : Place) (ws : List Var) (stack below : List Value) (effect : Effect) → HaveValues number array ws (stack ++ below)
        → HasEffect (loads place i f heap stack) effect → Faulting (element_of (slice_get ws 1) (slice_get ws 0)) (loads place i f heap stack)
    load_here place ws (values.Int n ∷ values.Null ∷ rest) below effect have has =
        element_at place (loads place i f heap) ws n values.Null rest below None (load_faults place values.Null rest)
        refl have (λ r is. null_fits place r is)
    load_here place ws (values.Int n ∷ values.Array a ∷ rest) below effect have has =
        element_at place (loads place i f heap) ws n (values.Array a) rest below (Some a)
        (load_faults place (values.Array a) rest) refl have
        (λ r is. array_fits place r a is (fits_there place (slice_get heap a) _ effect has))
    load_here place ws _ below effect have has = absurd has

    address_here : (place : Option Place) (ws : List Var) (stack below : List Value) (effect : Effect)
        → HaveValues number array ws (stack ++ below) → HasEffect (takes_address place i f heap stack) effect
        → Faulting (element_of (slice_get ws 1) (slice_get ws 0)) (takes_address place i f heap stack)
    address_here (Some place) ws (values.Int n ∷ values.Null ∷ rest) below effect have has =
        element_at place (addresses place i f heap) ws n values.Null rest below None
        (address_faults place values.Null rest) refl have
        (λ r is. null_fits place r is)
    address_here (Some place) ws (values.Int n ∷ values.Array a ∷ rest) below effect have has =
        element_at place (addresses place i f heap) ws n (values.Array a) rest below (Some a)
        (address_faults place (values.Array a) rest) refl have
        (λ r is. array_fits place r a is (fits_there place (slice_get heap a) _ effect has))
    address_here (Some place) ws _ below effect have has = absurd has
    address_here None ws stack below effect have has = absurd has

    store_at : (place : Place) (ws : List Var) (x n : ℤ) (value : Value) (rest below : List Value) (a : Option ℕ) → reference_of value ≡ Some a
        → HaveValues number array ws (values.Int x ∷ values.Int n ∷ value ∷ rest ++ below)
        → ((r : ℕ) → reference_of value ≡ Some (array r) → FitsArray heap place (array r))
        → Faulting (element_of (slice_get ws 2) (slice_get ws 1)) (stores place i f heap (values.Int x ∷ values.Int n ∷ value ∷ rest))
    store_at place ws x n value rest below a is have fits =
        let put = first_any ws (values.Int x) (values.Int n ∷ value ∷ rest ++ below) have in
        let top = first_number put.rest (values.Int n) (value ∷ rest ++ below) n refl put.have in
        let next = first_reference top.rest value (rest ++ below) a is top.have in
        subst (λ (vs : List Var). Faulting (element_of (slice_get vs 2) (slice_get vs 1)) (stores place i f heap (values.Int x ∷ values.Int n ∷ value ∷ rest)))
        (sym (put.is ∙ ap (λ (vs : List Var). put.v ∷ vs) (top.is ∙ ap (λ (vs : List Var). vars.Number top.e ∷ vs) next.is)))
        (subst (λ (m : ℤ). Faulting (Some (operations.Element next.r top.e))
        (stores place i f heap (values.Int x ∷ values.Int m ∷ value ∷ rest)))
        (sym top.worth_is) (store_effects place next.r top.e x i f heap number array value rest next.array_is (fits next.r next.array_is)))

    store_here : (place : Place) (ws : List Var) (stack below : List Value) (effect : Effect) → HaveValues number array ws (stack ++ below)
        → HasEffect (stores place i f heap stack) effect → Faulting (element_of (slice_get ws 2) (slice_get ws 1)) (stores place i f heap stack)
    store_here place ws (values.Int x ∷ values.Int n ∷ values.Null ∷ rest) below effect have has =
        store_at place ws x n values.Null rest below None refl have (λ r is. null_fits place r is)
    store_here place ws (values.Int x ∷ values.Int n ∷ values.Array a ∷ rest) below effect have has =
        store_at place ws x n (values.Array a) rest below (Some a) refl have (λ r is. array_fits place r a is (fits_there place (slice_get heap a) _ effect has))
    store_here place ws _ below effect have has = absurd has

    arithmetic_here : (op : BinOp) (ws : List Var) (stack below : List Value) (effect : Effect) → HaveValues number array ws (stack ++ below)
        → HasEffect (arithmetic op i f heap stack) effect → Faulting (binary_of op (slice_get ws 1) (slice_get ws 0)) (arithmetic op i f heap stack)
    arithmetic_here op ws (values.Int b ∷ values.Int a ∷ rest) below effect have has =
        let top = first_number ws (values.Int b) (values.Int a ∷ rest ++ below) b refl have in
        let next = first_number top.rest (values.Int a) (rest ++ below) a refl top.have in
        subst (λ (vs : List Var). Faulting (binary_of op (slice_get vs 1) (slice_get vs 0)) (arithmetic op i f heap (values.Int b ∷ values.Int a ∷ rest)))
        (sym (top.is ∙ ap (λ (vs : List Var). vars.Number top.e ∷ vs) next.is))
        (subst (λ (m : ℤ). EffectsFaultWhereUnmet (operator_conditions op next.e top.e) heap number array (arithmetic op i f heap (values.Int m ∷ values.Int a ∷ rest))) (sym top.worth_is)
        (subst (λ (m : ℤ). EffectsFaultWhereUnmet (operator_conditions op next.e top.e) heap number array
        (arithmetic op i f heap (values.Int (worth number top.e) ∷ values.Int m ∷ rest))) (sym next.worth_is) (operator_effects op next.e top.e i f heap number array rest)))
    arithmetic_here op ws _ below effect have has = absurd has

    -- a comparison owes nothing
    free_binary : (op : BinOp) (es : List Effect) (v w : Option Var) → ((a b : Expr) → operator_conditions op a b ≡ []) → HasNoFault es → Faulting (binary_of op v w) es
    free_binary op es (Some (vars.Number a)) (Some (vars.Number b)) nothing none = rw (nothing a b) (free es none)
    free_binary op es None w nothing none = free es none
    free_binary op es (Some v) None nothing none = by v
      where
        by : (v : Var) → Faulting (binary_of op (Some v) None) es
        by (vars.Number e) = free es none
        by (vars.Reference r) = free es none
        by vars.Text = free es none
        by (vars.Address r e) = free es none
    free_binary op es (Some (vars.Number a)) (Some (vars.Reference q)) nothing none = free es none
    free_binary op es (Some (vars.Number a)) (Some vars.Text) nothing none = free es none
    free_binary op es (Some (vars.Number a)) (Some (vars.Address q e)) nothing none = free es none
    free_binary op es (Some (vars.Reference r)) (Some w) nothing none = free es none
    free_binary op es (Some vars.Text) (Some w) nothing none = free es none
    free_binary op es (Some (vars.Address r e)) (Some w) nothing none = free es none

    compared_here : (op : BinOp) (cmp : CmpOp) (ws : List Var) (stack : List Value) → ((a b : Expr) → operator_conditions op a b ≡ [])
        → Faulting (binary_of op (slice_get ws 1) (slice_get ws 0)) (comparison cmp i f heap stack)
    compared_here op cmp ws stack nothing =
        free_binary op (comparison cmp i f heap stack) (slice_get ws 1) (slice_get ws 0) nothing
        (quiet.no_fault i f heap (comparison cmp i f heap stack) (quiet.quiet_comparison i f heap cmp stack))

    binary_here : (op : BinOp) (ws : List Var) (stack below : List Value) (effect : Effect) → HaveValues number array ws (stack ++ below)
        → HasEffect (binary op (comparison_of op) i f heap stack) effect
        → Faulting (binary_of op (slice_get ws 1) (slice_get ws 0)) (binary op (comparison_of op) i f heap stack)
    binary_here operators.Ceq ws stack below effect have has = compared_here operators.Ceq comparisons.Eq ws stack (λ a b. refl)
    binary_here operators.Cgt ws stack below effect have has = compared_here operators.Cgt comparisons.Gt ws stack (λ a b. refl)
    binary_here operators.CgtUn ws stack below effect have has = compared_here operators.CgtUn comparisons.GtUn ws stack (λ a b. refl)
    binary_here operators.Clt ws stack below effect have has = compared_here operators.Clt comparisons.Lt ws stack (λ a b. refl)
    binary_here operators.CltUn ws stack below effect have has = compared_here operators.CltUn comparisons.LtUn ws stack (λ a b. refl)
    binary_here operators.Add ws stack below effect have has = arithmetic_here operators.Add ws stack below effect have has
    binary_here operators.Sub ws stack below effect have has = arithmetic_here operators.Sub ws stack below effect have has
    binary_here operators.Mul ws stack below effect have has = arithmetic_here operators.Mul ws stack below effect have has
    binary_here operators.Div ws stack below effect have has = arithmetic_here operators.Div ws stack below effect have has
    binary_here operators.DivUn ws stack below effect have has = arithmetic_here operators.DivUn ws stack below effect have has
    binary_here operators.Rem ws stack below effect have has = arithmetic_here operators.Rem ws stack below effect have has
    binary_here operators.RemUn ws stack below effect have has = arithmetic_here operators.RemUn ws stack below effect have has
    binary_here operators.And ws stack below effect have has = arithmetic_here operators.And ws stack below effect have has
    binary_here operators.Or ws stack below effect have has = arithmetic_here operators.Or ws stack below effect have has
    binary_here operators.Xor ws stack below effect have has = arithmetic_here operators.Xor ws stack below effect have has
    binary_here operators.Shl ws stack below effect have has = arithmetic_here operators.Shl ws stack below effect have has
    binary_here operators.Shr ws stack below effect have has = arithmetic_here operators.Shr ws stack below effect have has
    binary_here operators.ShrUn ws stack below effect have has = arithmetic_here operators.ShrUn ws stack below effect have has
    binary_here operators.AddOvf ws stack below effect have has = arithmetic_here operators.AddOvf ws stack below effect have has
    binary_here operators.MulOvf ws stack below effect have has = arithmetic_here operators.MulOvf ws stack below effect have has
    binary_here operators.SubOvf ws stack below effect have has = arithmetic_here operators.SubOvf ws stack below effect have has

    -- ---- calls

    asserted_here : (ws : List Var) (stack below : List Value) (effect : Effect) → HaveValues number array ws (stack ++ below)
        → HasEffect (tests_condition (Faults faults.Assert) i f heap (Some stack)) effect
        → Faulting (assertion_of (slice_get ws 0)) (tests_condition (Faults faults.Assert) i f heap (Some stack))
    asserted_here ws (values.Int n ∷ rest) below effect have has =
        let top = first_number ws (values.Int n) (rest ++ below) n refl have in
        subst (λ (vs : List Var). Faulting (assertion_of (slice_get vs 0)) (tests_condition (Faults faults.Assert) i f heap (Some (values.Int n ∷ rest)))) (sym top.is)
        (subst (λ (m : ℤ). Faulting (Some (operations.Assert top.e)) (tests_condition (Faults faults.Assert) i f heap (Some (values.Int m ∷ rest)))) (sym top.worth_is)
        (assert_effects top.e i f heap number array rest))
    asserted_here ws _ below effect have has = absurd has

    messaged_here : (ws : List Var) (stack below : List Value) (effect : Effect) → HaveValues number array ws (stack ++ below)
        → HasEffect (tests_condition (Faults faults.Assert) i f heap (below_message true stack)) effect
        → Faulting (assertion_of (slice_get ws 1)) (tests_condition (Faults faults.Assert) i f heap (below_message true stack))
    messaged_here ws (values.Text ∷ rest) below effect have has =
        let top = first_any ws values.Text (rest ++ below) have in
        subst (λ (vs : List Var). Faulting (assertion_of (slice_get vs 1)) (tests_condition (Faults faults.Assert) i f heap (Some rest))) (sym top.is)
        (asserted_here top.rest rest below effect top.have has)
    messaged_here ws _ below effect have has = absurd has

    call_here : (call : Option UnitCall) (known : StateFacts) (below : List Value) (effect : Effect)
        → HaveValues number array (reverse known.variables) (f.stack ++ below) → HasEffect (contract_call call i f heap) effect
        → Faulting (call_operation call known) (contract_call call i f heap)
    call_here (Some (calls.Assert false)) known below effect have has = asserted_here (reverse known.variables) f.stack below effect have has
    call_here (Some (calls.Assert true)) known below effect have has = messaged_here (reverse known.variables) f.stack below effect have has
    call_here (Some (calls.Assume message)) known below effect have has =
        free (contract_call (Some (calls.Assume message)) i f heap)
        (quiet.no_fault i f heap (contract_call (Some (calls.Assume message)) i f heap) (quiet.quiet_assumption i f heap (below_message message f.stack)))
    call_here _ known below effect have has = absurd has

    -- ---- instructions

    free_here : (op : Op) (unit : MethodUnit) → quiet.AreQuiet i f heap (effects_of op unit i f heap)
        → EffectsFaultWhereUnmet [] heap number array (effects_of op unit i f heap)
    free_here op unit all = free (effects_of op unit i f heap) (quiet.no_fault i f heap (effects_of op unit i f heap) all)

    effects_here : (op : Op) (unit : MethodUnit) (known : StateFacts) (below : List Value) (effect : Effect)
        → HaveValues number array (reverse known.variables) (f.stack ++ below) → HasEffect (effects_of op unit i f heap) effect
        → Faulting (operation_of op known) (effects_of op unit i f heap)
    unfolding operation_of
    effects_here ops.Length unit known below effect have has = length_here (reverse known.variables) f.stack below effect have has
    effects_here (ops.LoadElem place) unit known below effect have has = load_here place (reverse known.variables) f.stack below effect have has
    effects_here (ops.StoreElem place) unit known below effect have has = store_here place (reverse known.variables) f.stack below effect have has
    effects_here (ops.LoadAddr n) unit known below effect have has =
        address_here (array_place n) (reverse known.variables) f.stack below effect have has
    effects_here (ops.NewArray n) unit known below effect have has = new_here (array_place n) (reverse known.variables) f.stack below effect have has
    effects_here (ops.Bin op) unit known below effect have has = binary_here op (reverse known.variables) f.stack below effect have has
    effects_here (ops.Call n) unit known below effect have has = call_here (unit_call n) known below effect have has
    effects_here ops.Nop unit known below effect have has = free_here ops.Nop unit (tt, tt)
    effects_here (ops.LoadArg n) unit known below effect have has = free_here (ops.LoadArg n) unit (quiet.quiet_pushes i f heap f.stack (slice_get f.args n))
    effects_here (ops.StoreArg n) unit known below effect have has = free_here (ops.StoreArg n) unit (quiet.quiet_stores_arg i f heap unit n f.stack)
    effects_here (ops.LoadLocal n) unit known below effect have has = free_here (ops.LoadLocal n) unit (quiet.quiet_pushes i f heap f.stack (slice_get f.locals n))
    effects_here (ops.StoreLocal n) unit known below effect have has = free_here (ops.StoreLocal n) unit (quiet.quiet_stores_local i f heap unit n f.stack)
    effects_here ops.Null unit known below effect have has = free_here ops.Null unit (tt, tt)
    effects_here (ops.Const n) unit known below effect have has = free_here (ops.Const n) unit (tt, tt)
    effects_here ops.Dup unit known below effect have has = free_here ops.Dup unit (quiet.quiet_duplicates i f heap f.stack)
    effects_here ops.Pop unit known below effect have has = free_here ops.Pop unit (quiet.quiet_pops i f heap f.stack)
    effects_here ops.Return unit known below effect have has = absurd has
    effects_here (ops.Branch test target) unit known below effect have has = free_here (ops.Branch test target) unit (quiet.quiet_tests i f heap test target f.stack)
    effects_here (ops.Switch targets) unit known below effect have has = free_here (ops.Switch targets) unit (quiet.quiet_switches i f heap targets f.stack)
    effects_here ops.Neg unit known below effect have has = free_here ops.Neg unit (quiet.quiet_changes i f heap unary.Neg f.stack)
    effects_here ops.Not unit known below effect have has = free_here ops.Not unit (quiet.quiet_changes i f heap unary.Not f.stack)
    effects_here ops.ConvI4 unit known below effect have has = free_here ops.ConvI4 unit (quiet.quiet_converts i f heap f.stack)
    effects_here (ops.Text token) unit known below effect have has = free_here (ops.Text token) unit (tt, tt)
    effects_here (ops.LoadInd place) unit known below effect have has =
        free_here (ops.LoadInd place) unit (quiet.quiet_loads_through i f heap place f.stack)
    effects_here (ops.StoreInd place) unit known below effect have has =
        free_here (ops.StoreInd place) unit (quiet.quiet_stores_through i f heap place f.stack)

    -- ---- items of addresses

    abbrev AreAllMet : Option Operation → Type 0
    AreAllMet o = AreMet (option_map_or conditions_of o []) heap number array

    item_here : (ws : List Var) (a n : ℕ) (vs : List Value) → HaveValues number array ws (values.Addr a n ∷ vs)
        → IsValue heap (values.Addr a n) → AreAllMet (item_of (slice_get ws 0))
    item_here ws a n vs have is =
        let top = first_address ws a n vs have in
        subst (λ (us : List Var). AreAllMet (item_of (slice_get us 0))) (sym top.is)
        (address_is_met top.r top.e heap number array (values.Addr a n) top.address_is is)

    loaded_through : (place : Place) (ws : List Var) (stack below : List Value) (effect : Effect)
        → HaveValues number array ws (stack ++ below) → AllByRecursion (IsValue heap) stack
        → HasEffect (loads_through place i f heap stack) effect → AreAllMet (item_of (slice_get ws 0))
    loaded_through place ws (values.Addr a n ∷ rest) below effect have are has =
        item_here ws a n (rest ++ below) have are.0
    loaded_through place ws _ below effect have are has = absurd has

    stored_through : (place : Place) (ws : List Var) (stack below : List Value) (effect : Effect)
        → HaveValues number array ws (stack ++ below) → AllByRecursion (IsValue heap) stack
        → HasEffect (stores_through place i f heap stack) effect → AreAllMet (item_of (slice_get ws 1))
    stored_through place ws (values.Int v ∷ values.Addr a n ∷ rest) below effect have are has =
        let put = first_any ws (values.Int v) (values.Addr a n ∷ rest ++ below) have in
        subst (λ (vs : List Var). AreAllMet (item_of (slice_get vs 1))) (sym put.is)
        (item_here put.rest a n (rest ++ below) put.have are.1.0)
    stored_through place ws _ below effect have are has = absurd has

    -- What is assumed after an instruction is so, where it did anything at all and what it is judged by is met.
    assumed_here : (op : Op) (unit : MethodUnit) (known : StateFacts) (below : List Value) (effect : Effect)
        → HaveValues number array (reverse known.variables) (f.stack ++ below) → AllByRecursion (IsValue heap) f.stack
        → HasEffect (effects_of op unit i f heap) effect → AreMet (conditions_at op known) heap number array
        → AreMet (conditions_after op known) heap number array
    assumed_here (ops.LoadInd place) unit known below effect have are has met =
        loaded_through place (reverse known.variables) f.stack below effect have are has
    assumed_here (ops.StoreInd place) unit known below effect have are has met =
        stored_through place (reverse known.variables) f.stack below effect have are has
    assumed_here _ unit known below effect have are has met = met

on_stack : (f : Frame) (known : StateFacts) (number : ℕ → ℤ) (array : ℕ → Option ℕ)
    → HaveValues number array known.variables (variables_of f)
    → HaveValues number array (reverse known.variables) (f.stack ++ below_stack f)
on_stack f known number array have =
    subst (HaveValues number array (reverse known.variables)) (stack_first f)
    (have_reversed number array known.variables (variables_of f) have)

-- Of an instruction that does anything at all.
pub faults_where_unmet : (unit : MethodUnit) (i : Instr) (f : Frame) (heap : Heap) (known : StateFacts) (number : ℕ → ℤ) (array : ℕ → Option ℕ) (effect : Effect)
    → HaveValues number array known.variables (variables_of f) → HasEffect (effects unit i f heap) effect
    → EffectsFaultWhereUnmet (conditions_at i.op known) heap number array (effects unit i f heap)
faults_where_unmet unit i f heap known number array effect have has =
    effects_here number array i f heap i.op unit known (below_stack f) effect (on_stack f known number array have) has

pub assumed_where_met : (unit : MethodUnit) (i : Instr) (f : Frame) (heap : Heap) (known : StateFacts) (number : ℕ → ℤ)
    (array : ℕ → Option ℕ) (effect : Effect) → HaveValues number array known.variables (variables_of f)
    → AllByRecursion (IsValue heap) f.stack → HasEffect (effects unit i f heap) effect
    → AreMet (conditions_at i.op known) heap number array → AreMet (conditions_after i.op known) heap number array
assumed_where_met unit i f heap known number array effect have are has met =
    assumed_here number array i f heap i.op unit known (below_stack f) effect (on_stack f known number array have) are
    has met
