-- What is known behind an operation holds where the machine goes on by it.
use Rattle.std.proofs.Common.{◌≡◌, ℕ, zero, suc, ◌+◌, ◌<◌, ℤ, pos, negsuc, ◌-ℤ◌, neg_ℤ, Bool, true, false, int_eq, int_le, int_lt, Option, Some, None, List, [], ◌∷◌, ◌++◌, length, Ok, Err, refl, sym, ap, subst, ◌∙◌, FitsSigned, w32, arith, length-append, inl, inr}
use Rattle.std.specs.Prelude.{Result, if◌then◌else◌, nat_lt, replicate, reverse, set, slice_get, unsigned_abs}
use Rattle.std.specs.List.{AllByRecursion}
use Rattle.std.specs.Option.{option_map}
use Rattle.std.proofs.lemmas.Bool.{cond_both, false≢true, ltb-true}
use Rattle.std.proofs.lemmas.Bool.Decides.{Decides-int_eq}
use Rattle.std.proofs.lemmas.Int.{ints, int_wrap_fits}
use Rattle.std.proofs.lemmas.List.{length-replicate}
use Rattle.std.proofs.lemmas.Option.{none-some}
use Rattle.cc_base.specs.Wrap.{wrap32}
use Rattle.cil_model.specs.Arithmetic as machine
use Rattle.cil_model.specs.Arithmetic.{truth, unsigned}
use Rattle.cil_model.specs.Comparisons.{comparison_of, compares_values, is_true, number_of, pushed_comparison}
use Rattle.cil_model.specs.Effects as rows
use Rattle.cil_model.specs.Effects.{Effect, GoesOn, Faults, Assumes, HasEffect, effects, effects_of, goes_on, goes_to}
use Rattle.cil_model.specs.UnitCalls.{array_place, unit_call}
use Rattle.cil_model.specs.Values.{Heap, IsHeap, IsValue, put, same_place}
use Rattle.cil_model.specs.declared.instruction.BinOp.{BinOp}
use Rattle.cil_model.specs.declared.instruction.BinOp.TheVariants as operators
use Rattle.cil_model.specs.declared.instruction.CmpOp.{CmpOp}
use Rattle.cil_model.specs.declared.instruction.Instr.{Instr}
use Rattle.cil_model.specs.declared.instruction.Op.{Op}
use Rattle.cil_model.specs.declared.instruction.Op.TheVariants as ops
use Rattle.cil_model.specs.declared.instruction.Test.{Test}
use Rattle.cil_model.specs.declared.instruction.Test.TheVariants as tests
use Rattle.cil_model.specs.declared.instruction.UnOp.TheVariants as unary
use Rattle.cil_model.specs.declared.machine.ArrayCell.{ArrayCell}
use Rattle.cil_model.specs.declared.machine.FaultKind.{FaultKind}
use Rattle.cil_model.specs.declared.machine.FaultKind.TheVariants as faults
use Rattle.cil_model.specs.declared.machine.Frame.{Frame}
use Rattle.cil_model.specs.declared.machine.Value.{Value}
use Rattle.cil_model.specs.declared.machine.Value.TheVariants.{Int, Native, Null, Array, Addr, Text}
use Rattle.cil_model.specs.declared.place.Place.{Place}
use Rattle.cil_model.specs.declared.unit.Unit.{Unit as MethodUnit}
use Rattle.cil_model.specs.declared.unit_numbers.UnitCall.{UnitCall}
use Rattle.cil_model.specs.declared.unit_numbers.UnitCall.TheVariants as calls
use Rattle.clause_trees.proofs.KeptNodes.{same_by_number}
use Rattle.frame_names.specs.declared.var.Var.{Var}
use Rattle.frame_names.specs.declared.var.Var.TheVariants as vars
use Rattle.machine_points.specs.Points.{IsPointOf}
use Rattle.machine_points.specs.declared.point.Point.{Point}
use Rattle.number_spans.specs.Constants.{constant}
use Rattle.state_facts.specs.Forms.{HasForm, HasReference, HasVar}
use Rattle.state_facts.specs.Holds.{HasValue, HoldsBy, HoldsIn, length_of_array, variables_of}
use Rattle.state_facts.specs.Keeps.{HoldsOn}
use Rattle.state_facts.specs.Moves.{popped, pushed, with_item}
use Rattle.state_facts.specs.StateFacts.{StateFacts, State, length_at}
use Rattle.state_facts.proofs.MoveForms.{popped_form}
use Rattle.state_facts.proofs.ArraysHold.{new_array_keeps}
use Rattle.state_facts.proofs.ComparisonsHold.{compare_keeps}
use Rattle.state_facts.proofs.MovesHold.{push_keeps}
use Rattle.state_obligations.proofs.ConditionLaws.{met_is_kept}
use Rattle.state_obligations.specs.declared.condition.Condition.TheVariants as conditions
use Rattle.symbolic_values.specs.Worth.{worth}
use Rattle.transfer_rules.specs.Acts.{acted, arg_place, behind_call, behind_test, calculated, complemented, duplicated, left, loaded, local_place, negated, operated, put_into, stored, taken_from, type_of, with_address, with_condition, with_item_at, with_item_of, with_item_put, with_length, with_new, with_put_at}
use Rattle.transfer_rules.specs.Operands.{on_condition, on_one, on_three, on_two}
use Rattle.transfer_rules.specs.Laws.Items as accesses
use Rattle.transfer_rules.specs.Laws.Moves.{constant_is, constant_of, for_some, from_popped, into_holds, is_stored, length_is, result_holds, same_on, taken_is, type_found}
use Rattle.transfer_rules.specs.Laws.Tops.{HasSizes, IsNumberOf, arg_at, arg_put, as_number, as_reference, has_at, has_sizes, has_top, local_at, local_put, on_one_over, on_two_over, over, over_pushed, place_below, top_as, var_below}

-- ---- one instruction

same_frame : (g h : Frame) (after heap : Heap) → GoesOn g after ≡ GoesOn h heap → (g ≡ h) × (after ≡ heap)
same_frame g h after heap is = (cc, cc)

module _ (unit : MethodUnit) (known : StateFacts) (f : Frame) (form : HasForm known) (sizes : HasSizes unit f)
    (heap : Heap) (is_heap : IsHeap heap)
    (number : ℕ → ℤ) (array : ℕ → Option ℕ) (i : Instr) (g : Frame) (after : Heap) where
  -- The state holds where the machine goes on.
  abbrev Behind : State → Type 0
  Behind state = HoldsOn (Some known) state (variables_of g) after number array

  abbrev Over : List Value → Type 0
  Over stack = HoldsBy known (over f stack) heap number array

  -- With another frame or heap than before.
  goes_so : (h : Frame) (state : State) (at : ℕ) (stack : List Value) (new : Heap)
      → HoldsOn (Some known) state (over h stack) new number array
      → HasEffect (goes_to at h new stack) (GoesOn g after) → Behind state
  goes_so h state at stack new on has = elim has [
    | inl is ↦
        let same = same_frame g (record h { at = at; stack = stack }) after new is in
        subst (λ (x : Frame). HoldsOn (Some known) state (variables_of x) after number array) (sym same.0)
        (subst (λ (x : Heap). HoldsOn (Some known) state (over h stack) x number array) (sym same.1) on)
    | inr none ↦ elim none [ ]
  ]

  same_so : (state : State) (at : ℕ) (stack : List Value) → HoldsIn state (over f stack) heap number array
      → HasEffect (goes_to at f heap stack) (GoesOn g after) → Behind state
  same_so state at stack holds has =
      goes_so f state at stack heap (same_on known state (over f stack) heap number array holds) has

  -- A value comes on top.
  top_so : (state : State) (value : Value) (rest : List Value) (new : Heap)
      → HoldsOn (Some known) state (over f rest ++ value ∷ []) new number array
      → HasEffect (goes_on i f new (value ∷ rest)) (GoesOn g after) → Behind state
  top_so state value rest new on has =
      goes_so f state (i.at + i.size) (value ∷ rest) new
      (subst (λ (vs : List Value). HoldsOn (Some known) state vs new number array) (sym (over_pushed f value rest)) on)
      has

  push_so : (var : Var) (value : Value) (stack : List Value) → Over stack → HasValue number array var value
      → HasEffect (goes_on i f heap (value ∷ stack)) (GoesOn g after) → Behind (Some (pushed known var))
  push_so var value stack holds is has =
      top_so (Some (pushed known var)) value stack heap (same_on known (Some (pushed known var))
      (over f stack ++ value ∷ []) heap number array
      (push_keeps var (Some known) (over f stack) heap number array value holds is)) has

  -- ---- moves

  load_so : (k : ℕ) (stack : List Value) (o : Option Value) → Over stack
      → ((v : Value) → o ≡ Some v → slice_get (over f stack) k ≡ Some v)
      → HasEffect (rows.pushes i f heap stack o) (GoesOn g after) → Behind (loaded k known)
  unfolding loaded
  load_so k stack None holds at has = elim has [ ]
  load_so k stack (Some v) holds at has =
      let found = has_at known (over f stack) heap number array k v form holds (at v refl) in
      rw found.is (push_so found.var v stack holds found.has has)

  load_arg : (n : ℕ) (stack : List Value) → Over stack
      → HasEffect (rows.pushes i f heap stack (slice_get f.args n)) (GoesOn g after)
      → Behind (loaded (arg_place unit n) known)
  load_arg n stack holds has =
      load_so (arg_place unit n) stack (slice_get f.args n) holds
      (λ v there. subst (λ (k : ℕ). slice_get (over f stack) (k + n) ≡ Some v) sizes.entry (arg_at f stack n v there))
      has

  -- where the locals begin
  both_args : length f.entry_args + length f.args ≡ length unit.args + length unit.args
  both_args = omega (arith, sizes.entry, sizes.args)

  load_local : (n : ℕ) (stack : List Value) → Over stack
      → HasEffect (rows.pushes i f heap stack (slice_get f.locals n)) (GoesOn g after)
      → Behind (loaded (local_place unit n) known)
  load_local n stack holds has =
      load_so (local_place unit n) stack (slice_get f.locals n) holds
      (λ v there. subst (λ (k : ℕ). slice_get (over f stack) (k + n) ≡ Some v) both_args (local_at f stack n v there))
      has

  -- The top goes into a variable.
  store_so : (k : ℕ) (place : Place) (v new : Value) (rest : List Value) (h : Frame) → Over (v ∷ rest)
      → put heap place v ≡ Some new → k < length (over f rest) → set (over f rest) k new ≡ over h rest
      → HasEffect (goes_on i h heap rest) (GoesOn g after) → Behind (stored k place known)
  unfolding stored
  store_so k place v new rest h holds is below same has =
      goes_so h (on_one (put_into k place) known) (i.at + i.size) rest heap
      (subst (λ (vs : List Value). HoldsOn (Some known) (on_one (put_into k place) known) vs heap number array) same
      (on_one_over (λ (s : State). HoldsOn (Some known) s (set (over f rest) k new) heap number array)
      (put_into k place) known f v rest heap number array form holds
      (λ top. from_popped known (put_into k place top.var (popped known)) (set (over f rest) k new) heap number array
      (into_holds k place top.var (popped known) (over f rest) heap number array v new top.form top.there top.rest
      top.has is below)))) has

  arg_so : (n : ℕ) (v : Value) (rest : List Value) (o : Option (List Value)) → Over (v ∷ rest)
      → rows.stored heap unit.args n v f.args ≡ o → HasEffect (rows.with_args i f heap rest o) (GoesOn g after)
      → Behind (stored (arg_place unit n) (type_of unit.args n) known)
  arg_so n v rest None holds given has = elim has [ ]
  arg_so n v rest (Some args) holds given has =
      let parts = is_stored heap unit.args n v f.args args given in
      let below : n < length f.args =
      subst (λ (k : ℕ). n < k) (sym sizes.args) (place_below unit.args n parts.place parts.place_is) in
      let at : arg_place unit n ≡ length f.entry_args + n = ap (λ (k : ℕ). k + n) (sym sizes.entry) in
      store_so (arg_place unit n) (type_of unit.args n) v parts.value rest (record f { args = args }) holds
      (ap (λ (p : Place). put heap p v) (type_found unit.args n parts.place parts.place_is) ∙ parts.put_is)
      (arg_lies below)
      (ap (λ (k : ℕ). set (over f rest) k parts.value) at ∙ arg_put f rest n parts.value below
      ∙ ap (λ (xs : List Value). over (record f { args = xs }) rest) (sym parts.new_is)) has
    where
      arg_lies : n < length f.args → arg_place unit n < length (over f rest)
      arg_lies below = omega (
        arith,
        below,
        sizes.entry,
        length-append (f.entry_args ++ f.args ++ f.locals) (reverse rest),
        length-append (f.entry_args ++ f.args) f.locals,
        length-append f.entry_args f.args,
      )

  local_so : (n : ℕ) (v : Value) (rest : List Value) (o : Option (List Value)) → Over (v ∷ rest)
      → rows.stored heap unit.locals n v f.locals ≡ o → HasEffect (rows.with_locals i f heap rest o) (GoesOn g after)
      → Behind (stored (local_place unit n) (type_of unit.locals n) known)
  local_so n v rest None holds given has = elim has [ ]
  local_so n v rest (Some locals) holds given has =
      let parts = is_stored heap unit.locals n v f.locals locals given in
      let below : n < length f.locals =
      subst (λ (k : ℕ). n < k) (sym sizes.locals) (place_below unit.locals n parts.place parts.place_is) in
      let at : local_place unit n ≡ length f.entry_args + length f.args + n = ap (λ (k : ℕ). k + n) (sym both_args) in
      store_so (local_place unit n) (type_of unit.locals n) v parts.value rest (record f { locals = locals }) holds
      (ap (λ (p : Place). put heap p v) (type_found unit.locals n parts.place parts.place_is) ∙ parts.put_is)
      (local_lies below)
      (ap (λ (k : ℕ). set (over f rest) k parts.value) at ∙ local_put f rest n parts.value below
      ∙ ap (λ (xs : List Value). over (record f { locals = xs }) rest) (sym parts.new_is)) has
    where
      local_lies : n < length f.locals → local_place unit n < length (over f rest)
      local_lies below = omega (
        arith,
        below,
        sizes.entry,
        sizes.args,
        length-append (f.entry_args ++ f.args ++ f.locals) (reverse rest),
        length-append (f.entry_args ++ f.args) f.locals,
        length-append f.entry_args f.args,
      )

  store_arg : (n : ℕ) (stack : List Value) → Over stack
      → HasEffect (rows.stores_arg unit n i f heap stack) (GoesOn g after)
      → Behind (stored (arg_place unit n) (type_of unit.args n) known)
  store_arg n [] holds has = elim has [ ]
  store_arg n (v ∷ rest) holds has = arg_so n v rest (rows.stored heap unit.args n v f.args) holds refl has

  store_local : (n : ℕ) (stack : List Value) → Over stack
      → HasEffect (rows.stores_local unit n i f heap stack) (GoesOn g after)
      → Behind (stored (local_place unit n) (type_of unit.locals n) known)
  store_local n [] holds has = elim has [ ]
  store_local n (v ∷ rest) holds has = local_so n v rest (rows.stored heap unit.locals n v f.locals) holds refl has

  double_so : (stack : List Value) → Over stack → HasEffect (rows.duplicates i f heap stack) (GoesOn g after)
      → Behind (duplicated known)
  unfolding duplicated
  double_so [] holds has = elim has [ ]
  double_so (v ∷ rest) holds has =
      let top = has_top known (over f rest) v heap number array form
      (subst (λ (vs : List Value). HoldsBy known vs heap number array) (over_pushed f v rest) holds) in
      rw top.is (push_so top.var v (v ∷ rest) holds top.has has)

  -- One value is taken, and two are.
  one_taken : (state : StateFacts) (v : Value) (rest : List Value) → HasForm state
      → HoldsBy state (over f (v ∷ rest)) heap number array → HoldsBy (popped state) (over f rest) heap number array
  one_taken state v rest formed holds =
      (has_top state (over f rest) v heap number array formed
      (subst (λ (vs : List Value). HoldsBy state vs heap number array) (over_pushed f v rest) holds)).rest

  pop_so : (at : ℕ) (v : Value) (rest : List Value) → Over (v ∷ rest)
      → HasEffect (goes_to at f heap rest) (GoesOn g after) → Behind (Some (popped known))
  pop_so at v rest holds has = same_so (Some (popped known)) at rest (one_taken known v rest form holds) has

  pop_two_so : (at : ℕ) (b a : Value) (rest : List Value) → Over (b ∷ a ∷ rest)
      → HasEffect (goes_to at f heap rest) (GoesOn g after) → Behind (Some (popped (popped known)))
  pop_two_so at b a rest holds has =
      same_so (Some (popped (popped known))) at rest (one_taken (popped known) a rest (popped_form known form)
      (one_taken known b (a ∷ rest) form holds)) has

  pops_so : (stack : List Value) → Over stack → HasEffect (rows.pops i f heap stack) (GoesOn g after)
      → Behind (Some (popped known))
  pops_so [] holds has = elim has [ ]
  pops_so (v ∷ rest) holds has = pop_so (i.at + i.size) v rest holds has

  -- ---- operators

  result_so : (op : BinOp) (b a : ℤ) (rest : List Value) (r : Result ℤ FaultKind) → Over (Int b ∷ Int a ∷ rest)
      → FitsSigned w32 a → FitsSigned w32 b → machine.operated op a b ≡ r
      → HasEffect (rows.gives i f heap rest r) (GoesOn g after) → Behind (on_two (calculated op None) known)
  result_so op b a rest (Err kind) holds a_fits b_fits is has = absurd (no_fault kind has)
    where
      no_fault : (kind : FaultKind) → HasEffect (Faults kind ∷ []) (GoesOn g after) → ⊥
      no_fault kind has = elim has [ inl same ↦ absurd cc | inr none ↦ none ]
  result_so op b a rest (Ok c) holds a_fits b_fits is has =
      top_so (on_two (calculated op None) known) (Int c) rest heap
      (on_two_over (λ (s : State). HoldsOn (Some known) s (over f rest ++ Int c ∷ []) heap number array)
      (calculated op None) known f (Int b) (Int a) rest heap number array form holds
      (λ upper lower.
      let below = popped (popped known) in
      let first = as_number below lower.var (Int a) a number array lower.there lower.has refl in
      let second =
      as_number below upper.var (Int b) b number array (var_below (popped known) upper.var upper.there) upper.has
      refl in
      let state = calculated op None lower.var upper.var below in
      from_popped known state (over f rest ++ Int c ∷ []) heap number array
      (from_popped (popped known) state (over f rest ++ Int c ∷ []) heap number array
      (result_holds op below lower.var upper.var a b c (over f rest) heap number array lower.form first second a_fits
      b_fits lower.rest is)))) has

  arithmetic_so : (op : BinOp) (stack : List Value) → Over stack → AllByRecursion (IsValue heap) stack
      → HasEffect (rows.arithmetic op i f heap stack) (GoesOn g after) → Behind (on_two (calculated op None) known)
  arithmetic_so op (Int b ∷ Int a ∷ rest) holds are has =
      result_so op b a rest (machine.operated op a b) holds are.1.0 are.0 refl has
  arithmetic_so op _ holds are has = elim has [ ]

  compared_so : (op : BinOp) (cmp : CmpOp) (b a : Value) (rest : List Value) (o : Option Bool) → Over (b ∷ a ∷ rest)
      → IsValue heap b → IsValue heap a → comparison_of op ≡ Some cmp → pushed_comparison cmp a b ≡ o
      → HasEffect (rows.pushes i f heap rest (option_map (λ so. Int (truth so)) o)) (GoesOn g after)
      → Behind (on_two (calculated op (Some cmp)) known)
  compared_so op cmp b a rest None holds b_is a_is compares is has = elim has [ ]
  compared_so op cmp b a rest (Some so) holds b_is a_is compares is has =
      top_so (on_two (calculated op (Some cmp)) known) (Int (truth so)) rest heap
      (on_two_over (λ (s : State). HoldsOn (Some known) s (over f rest ++ Int (truth so) ∷ []) heap number array)
      (calculated op (Some cmp)) known f b a rest heap number array form
      holds
      (λ upper lower.
      let below = popped (popped known) in
      let state = calculated op (Some cmp) lower.var upper.var below in
      from_popped known state (over f rest ++ Int (truth so) ∷ []) heap number array
      (from_popped (popped known) state (over f rest ++ Int (truth so) ∷ []) heap number array
      (compare_keeps op lower.var upper.var (Some below) (for_some HasForm below lower.form)
      (for_some (λ (x : StateFacts). HasVar x lower.var) below lower.there)
      (for_some (λ (x : StateFacts). HasVar x upper.var) below (var_below (popped known) upper.var upper.there))
      (over f rest) heap number array a b cmp so lower.rest lower.has upper.has a_is b_is compares is)))) has

  comparison_so : (op : BinOp) (cmp : CmpOp) (stack : List Value) → Over stack → AllByRecursion (IsValue heap) stack
      → comparison_of op ≡ Some cmp → HasEffect (rows.comparison cmp i f heap stack) (GoesOn g after)
      → Behind (on_two (calculated op (Some cmp)) known)
  comparison_so op cmp [] holds are compares has = elim has [ ]
  comparison_so op cmp (b ∷ []) holds are compares has = elim has [ ]
  comparison_so op cmp (b ∷ a ∷ rest) holds are compares has =
      compared_so op cmp b a rest (pushed_comparison cmp a b) holds are.0 are.1.0 compares refl has

  operator_so : (op : BinOp) (o : Option CmpOp) (stack : List Value) → Over stack → AllByRecursion (IsValue heap) stack
      → comparison_of op ≡ o → HasEffect (rows.binary op o i f heap stack) (GoesOn g after)
      → Behind (on_two (calculated op o) known)
  operator_so op None stack holds are is has = arithmetic_so op stack holds are has
  operator_so op (Some cmp) stack holds are is has = comparison_so op cmp stack holds are is has

  -- Differences from 0 and from -1.
  taken_so : (n a c : ℤ) (rest : List Value) → FitsSigned w32 n → Over (Int a ∷ rest) → FitsSigned w32 a
      → wrap32 (n -ℤ a) ≡ c → HasEffect (goes_on i f heap (Int c ∷ rest)) (GoesOn g after)
      → Behind (on_one (taken_from n) known)
  taken_so n a c rest n_fits holds a_fits gives has =
      top_so (on_one (taken_from n) known) (Int c) rest heap
      (on_one_over (λ (s : State). HoldsOn (Some known) s (over f rest ++ Int c ∷ []) heap number array) (taken_from n)
      known f (Int a) rest heap number array form holds
      (λ top.
      let below = popped known in
      let one = as_number below top.var (Int a) a number array top.there top.has refl in
      from_popped known (taken_from n top.var below) (over f rest ++ Int c ∷ []) heap number array
      (subst (λ (s : State). HoldsOn (Some below) s (over f rest ++ Int c ∷ []) heap number array)
      (sym (taken_is n top.var below a number one))
      (result_holds operators.Sub below (vars.Number (constant n)) top.var n a c (over f rest) heap number array
      top.form
      (constant_of below (over f rest) heap number array n n_fits top.rest) one n_fits a_fits top.rest
      (ap (λ (x : ℤ). Ok x) gives))))) has

  negated_so : (stack : List Value) → Over stack → AllByRecursion (IsValue heap) stack
      → HasEffect (rows.changes unary.Neg i f heap stack) (GoesOn g after) → Behind (negated known)
  unfolding negated
  negated_so (Int a ∷ rest) holds are has =
      taken_so (pos 0) a (wrap32 (neg_ℤ a)) rest (omega (arith, ints)) holds are.0 (ap wrap32 (from_zero a)) has
    where
      from_zero : (m : ℤ) → pos 0 -ℤ m ≡ neg_ℤ m
      from_zero m = omega (arith, ints)
  negated_so _ holds are has = elim has [ ]

  complemented_so : (stack : List Value) → Over stack → AllByRecursion (IsValue heap) stack
      → HasEffect (rows.changes unary.Not i f heap stack) (GoesOn g after) → Behind (complemented known)
  unfolding complemented
  complemented_so (Int a ∷ rest) holds are has =
      taken_so (negsuc 0) a (negsuc 0 -ℤ a) rest (omega (arith, ints)) holds are.0
      (int_wrap_fits w32 (negsuc 0 -ℤ a) (in_range a are.0)) has
    where
      in_range : (m : ℤ) → FitsSigned w32 m → FitsSigned w32 (negsuc 0 -ℤ m)
      in_range m fits = omega (arith, ints, fits)
  complemented_so _ holds are has = elim has [ ]

  -- A length becomes an int32, which is the same number.
  converted_so : (stack : List Value) → Over stack → HasEffect (rows.converts i f heap stack) (GoesOn g after)
      → Behind (Some known)
  converted_so (Native n ∷ rest) holds has =
      same_so (Some known) (i.at + i.size) (Int (pos n) ∷ rest)
      (top_as known f (Native n) (Int (pos n)) rest heap number array holds (λ v is. as_int v is)) has
    where
      as_int : (v : Var) → HasValue number array v (Native n) → HasValue number array v (Int (pos n))
      as_int (vars.Number e) is = is
      as_int (vars.Reference r) is = absurd (none-some (array r) is)
      as_int vars.Text is = absurd cc
      as_int (vars.Address r e) is = absurd (none-some (array r, worth number e) is)
  converted_so (Int n ∷ rest) holds has = same_so (Some known) (i.at + i.size) (Int n ∷ rest) holds has
  converted_so _ holds has = elim has [ ]

  -- ---- arrays

  made_so : (place : Place) (n : ℤ) (value : Value) (rest : List Value) → Over (value ∷ rest)
      → number_of value ≡ Some n → HasEffect (rows.makes place n i f heap rest) (GoesOn g after)
      → Behind (on_one (with_new (Some place)) known)
  made_so place n value rest holds is has =
      cond_both (int_lt n (pos 0)) _ _ (λ (es : List Effect). HasEffect es (GoesOn g after)
      → Behind (on_one (with_new (Some place)) known))
      (λ low goes. elim goes [ inl same ↦ absurd cc | inr none ↦ elim none [ ] ])
      (λ high goes. elim goes [ inl same ↦ absurd cc | inr more ↦ room high more ]) has
    where
      cell : ArrayCell
      cell = rows.zeros place (unsigned_abs n)

      many : (m : ℤ) → int_lt m (pos 0) ≡ false → m ≡ pos (unsigned_abs m)
      many m high = omega (arith, ints, high)

      all_zeros : (k : ℕ) → AllByRecursion (λ (m : ℤ). m ≡ pos 0) (replicate k (pos 0))
      all_zeros zero = tt
      all_zeros (suc k) = (refl, all_zeros k)

      room : int_lt n (pos 0) ≡ false → HasEffect (goes_on i f (heap ++ cell ∷ []) (Array (length heap) ∷ rest))
          (GoesOn g after) → Behind (on_one (with_new (Some place)) known)
      room high more =
          top_so (on_one (with_new (Some place)) known) (Array (length heap)) rest (heap ++ cell ∷ [])
          (on_one_over (λ (s : State). HoldsOn (Some known) s (over f rest ++ Array (length heap) ∷ [])
          (heap ++ cell ∷ []) number array) (with_new (Some place)) known f value rest heap number
          array form holds
          (λ top.
          let below = popped known in
          let one = as_number below top.var value n number array top.there top.has is in
          from_popped known (with_new (Some place) top.var below) (over f rest ++ Array (length heap) ∷ [])
          (heap ++ cell ∷ []) number array
          (rw one.is
          (new_array_keeps place one.expr (Some below) (for_some HasForm below top.form) (over f rest) heap number
          array cell top.rest refl
          (one.worth_is ∙ many n high ∙ ap (λ (k : ℕ). pos k) (sym (length-replicate (unsigned_abs n) (pos 0))))
          (all_zeros (unsigned_abs n))))))
          more

  number_made : (place : Place) (o : Option ℤ) (value : Value) (rest : List Value) → Over (value ∷ rest)
      → number_of value ≡ o → HasEffect (rows.makes_number (Some place) o i f heap rest) (GoesOn g after)
      → Behind (on_one (with_new (Some place)) known)
  number_made place None value rest holds is has = elim has [ ]
  number_made place (Some n) value rest holds is has = made_so place n value rest holds is has

  array_so : (o : Option Place) (stack : List Value) → Over stack
      → HasEffect (rows.new_array o i f heap stack) (GoesOn g after) → Behind (on_one (with_new o) known)
  array_so o [] holds has = elim has [ ]
  array_so None (value ∷ rest) holds has = elim has [ ]
  array_so (Some place) (value ∷ rest) holds has = number_made place (number_of value) value rest holds refl has

  measured_so : (a : ℕ) (rest : List Value) (o : Option ArrayCell) → Over (Array a ∷ rest) → slice_get heap a ≡ o
      → HasEffect (rows.pushes i f heap rest (option_map (λ cell. Native (length cell.items)) o)) (GoesOn g after)
      → Behind (on_one with_length known)
  measured_so a rest None holds at has = elim has [ ]
  measured_so a rest (Some cell) holds at has =
      top_so (on_one with_length known) (Native (length cell.items)) rest heap
      (on_one_over (λ (s : State). HoldsOn (Some known) s (over f rest ++ Native (length cell.items) ∷ []) heap number
      array) with_length known f (Array a) rest heap number array form holds
      (λ top.
      let below = popped known in
      let one = as_reference below top.var (Array a) (Some a) number array top.there top.has refl in
      from_popped known (with_length top.var below) (over f rest ++ Native (length cell.items) ∷ []) heap number array
      (rw one.is
      (same_on below (Some (pushed below (vars.Number (length_at below one.reference))))
      (over f rest ++ Native (length cell.items) ∷ []) heap number array
      (push_keeps (vars.Number (length_at below one.reference)) (Some below) (over f rest) heap number array
      (Native (length cell.items)) top.rest
      (ap (λ (n : ℤ). Some n) (long below one.reference top.rest one.there one.array_is))))))) has
    where
      length_there : length_of_array heap (Some a) ≡ pos (length cell.items)
      length_there = rw at refl

      long : (below : StateFacts) (r : ℕ) → HoldsBy below (over f rest) heap number array → HasReference below r
          → array r ≡ Some a → pos (length cell.items) ≡ worth number (length_at below r)
      long below r by there is =
          sym (length_is below (over f rest) heap number array r by there ∙ ap (length_of_array heap) is ∙ length_there)

  length_so : (stack : List Value) → Over stack → HasEffect (rows.array_length i f heap stack) (GoesOn g after)
      → Behind (on_one with_length known)
  length_so (Array a ∷ rest) holds has = measured_so a rest (slice_get heap a) holds refl has
  length_so (Null ∷ rest) holds has = elim has [ inl same ↦ absurd cc | inr none ↦ elim none [ ] ]
  length_so _ holds has = elim has [ ]

  -- What is done at an index of an array of the type that is there, which is one of its items'.
  record IsDoneAt (cell : ArrayCell) (n : ℤ) (done : List Effect) : Type 0 where
    index_is : n ≡ pos (unsigned_abs n)
    below : unsigned_abs n < length cell.items
    goes : HasEffect done (GoesOn g after)

  at_index_so : (cell : ArrayCell) (n : ℤ) (done : List Effect)
      → HasEffect (rows.at_index cell n done) (GoesOn g after) → IsDoneAt cell n done
  at_index_so cell n done has =
      cond_both (int_lt n (pos 0)) _ _ (λ (es : List Effect). HasEffect es (GoesOn g after) → IsDoneAt cell n done)
      (λ low goes. elim goes [ inl same ↦ absurd cc | inr none ↦ elim none [ ] ])
      (λ low. cond_both (int_le (pos (length cell.items)) n) _ _
      (λ (es : List Effect). HasEffect es (GoesOn g after) → IsDoneAt cell n done)
      (λ high goes. elim goes [ inl same ↦ absurd cc | inr none ↦ elim none [ ] ])
      (λ high goes. record {
        index_is = omega (arith, ints, low);
        below = omega (arith, ints, low, high);
        goes = goes;
      })) has

  of_place_so : (place : Place) (o : Option ArrayCell) (done : ArrayCell → List Effect) (state : State)
      → ((cell : ArrayCell) → same_place cell.place place ≡ true → o ≡ Some cell
      → HasEffect (done cell) (GoesOn g after) → Behind state)
      → HasEffect (rows.of_place place o done) (GoesOn g after) → Behind state
  of_place_so place None done state so has = elim has [ ]
  of_place_so place (Some cell) done state so has =
      cond_both (same_place cell.place place) _ _ (λ (es : List Effect). HasEffect es (GoesOn g after) → Behind state)
      (λ same goes. so cell same refl goes)
      (λ other goes. elim goes [ ]) has

  item_so : (n : ℤ) (a : ℕ) (rest : List Value) (cell : ArrayCell) (o : Option ℤ) → Over (Int n ∷ Array a ∷ rest)
      → n ≡ pos (unsigned_abs n) → slice_get heap a ≡ Some cell → slice_get cell.items (unsigned_abs n) ≡ o
      → HasEffect (rows.pushes i f heap rest (option_map Int o)) (GoesOn g after) → Behind (on_two with_item_of known)
  item_so n a rest cell None holds above at item_is has = elim has [ ]
  item_so n a rest cell (Some item) holds above at item_is has =
      top_so (on_two with_item_of known) (Int item) rest heap
      (accesses.item_loaded f heap is_heap number array known form n a rest cell item holds above at item_is) has

  item_loaded : (place : Place) (stack : List Value) → Over stack
      → HasEffect (rows.loads place i f heap stack) (GoesOn g after) → Behind (on_two with_item_of known)
  item_loaded place (Int n ∷ Null ∷ rest) holds has = elim has [ inl same ↦ absurd cc | inr none ↦ elim none [ ] ]
  item_loaded place (Int n ∷ Array a ∷ rest) holds has =
      of_place_so place (slice_get heap a) (λ cell. rows.at_index cell n
      (rows.pushes i f heap rest (rows.item_value cell n))) (on_two with_item_of known)
      (λ cell same at goes.
      let done = at_index_so cell n (rows.pushes i f heap rest (rows.item_value cell n)) goes in
      item_so n a rest cell (slice_get cell.items (unsigned_abs n)) holds done.index_is at refl done.goes) has
  item_loaded place _ holds has = elim has [ ]

  item_put : (v n : ℤ) (a : ℕ) (rest : List Value) (cell : ArrayCell) (new : Heap)
      → Over (Int v ∷ Int n ∷ Array a ∷ rest) → FitsSigned w32 v → slice_get heap a ≡ Some cell
      → n ≡ pos (unsigned_abs n) → unsigned_abs n < length cell.items
      → rows.with_item heap a cell (unsigned_abs n) (rows.item_of cell.place v) ≡ new
      → HasEffect (goes_on i f new rest) (GoesOn g after) → Behind (on_three with_item_put known)
  item_put v n a rest cell new holds fits at above below_length new_is has =
      goes_so f (on_three with_item_put known) (i.at + i.size) rest new
      (accesses.item_stored f heap is_heap number array known form v n a rest cell new holds fits at above below_length
      new_is) has

  -- A number as it is stored in an array of the place that the instruction names.
  same_item : (cell : ArrayCell) (place : Place) (v : ℤ) → same_place cell.place place ≡ true
      → rows.item_of cell.place v ≡ rows.item_of place v
  same_item cell place v same = ap (λ (p : Place). rows.item_of p v) (same_by_number cell.place place same)

  item_stored : (place : Place) (stack : List Value) → Over stack → AllByRecursion (IsValue heap) stack
      → HasEffect (rows.stores place i f heap stack) (GoesOn g after) → Behind (on_three with_item_put known)
  item_stored place (Int v ∷ Int n ∷ Null ∷ rest) holds are has =
      elim has [ inl same ↦ absurd cc | inr none ↦ elim none [ ] ]
  item_stored place (Int v ∷ Int n ∷ Array a ∷ rest) holds are has =
      of_place_so place (slice_get heap a)
      (λ cell. rows.at_index cell n (goes_on i f (rows.with_item heap a cell (unsigned_abs n) (rows.item_of place v))
      rest)) (on_three with_item_put known)
      (λ cell same at goes.
      let new = rows.with_item heap a cell (unsigned_abs n) (rows.item_of place v) in
      let done = at_index_so cell n (goes_on i f new rest) goes in
      item_put v n a rest cell new holds are.0 at done.index_is done.below
      (ap (rows.with_item heap a cell (unsigned_abs n)) (same_item cell place v same)) done.goes) has
  item_stored place _ holds are has = elim has [ ]

  -- ---- addresses

  address_so : (place : Place) (stack : List Value) → Over stack
      → HasEffect (rows.addresses place i f heap stack) (GoesOn g after) → Behind (on_two with_address known)
  address_so place (Int n ∷ Null ∷ rest) holds has = elim has [ inl same ↦ absurd cc | inr none ↦ elim none [ ] ]
  address_so place (Int n ∷ Array a ∷ rest) holds has =
      of_place_so place (slice_get heap a)
      (λ cell. rows.at_index cell n (goes_on i f heap (Addr a (unsigned_abs n) ∷ rest))) (on_two with_address known)
      (λ cell same at goes.
      let done = at_index_so cell n (goes_on i f heap (Addr a (unsigned_abs n) ∷ rest)) goes in
      top_so (on_two with_address known) (Addr a (unsigned_abs n)) rest heap
      (accesses.address_taken f heap is_heap number array known form n a rest holds done.index_is) done.goes) has
  address_so place _ holds has = elim has [ ]

  address_taken : (o : Option Place) (stack : List Value) → Over stack
      → HasEffect (rows.takes_address o i f heap stack) (GoesOn g after) → Behind (on_two with_address known)
  address_taken None stack holds has = elim has [ ]
  address_taken (Some place) stack holds has = address_so place stack holds has

  item_at_so : (a n : ℕ) (rest : List Value) (cell : ArrayCell) (o : Option ℤ) → Over (Addr a n ∷ rest)
      → slice_get heap a ≡ Some cell → slice_get cell.items n ≡ o
      → HasEffect (rows.pushes i f heap rest (option_map Int o)) (GoesOn g after) → Behind (on_one with_item_at known)
  item_at_so a n rest cell None holds at item_is has = elim has [ ]
  item_at_so a n rest cell (Some item) holds at item_is has =
      top_so (on_one with_item_at known) (Int item) rest heap
      (accesses.item_loaded_at f heap is_heap number array known form a n rest cell item holds at item_is) has

  loaded_through : (place : Place) (stack : List Value) → Over stack
      → HasEffect (rows.loads_through place i f heap stack) (GoesOn g after) → Behind (on_one with_item_at known)
  loaded_through place (Addr a n ∷ rest) holds has =
      of_place_so place (slice_get heap a) (λ cell. rows.pushes i f heap rest (option_map Int (slice_get cell.items n)))
      (on_one with_item_at known)
      (λ cell same at goes. item_at_so a n rest cell (slice_get cell.items n) holds at refl goes) has
  loaded_through place _ holds has = elim has [ ]

  put_at_so : (place : Place) (v : ℤ) (a n : ℕ) (rest : List Value) (cell : ArrayCell) → Over (Int v ∷ Addr a n ∷ rest)
      → FitsSigned w32 v → slice_get heap a ≡ Some cell → same_place cell.place place ≡ true
      → n < length cell.items
      → HasEffect (goes_on i f (rows.with_item heap a cell n (rows.item_of place v)) rest) (GoesOn g after)
      → Behind (on_two with_put_at known)
  put_at_so place v a n rest cell holds fits at same within goes =
      let new = rows.with_item heap a cell n (rows.item_of place v) in
      goes_so f (on_two with_put_at known) (i.at + i.size) rest new
      (accesses.item_stored_at f heap is_heap number array known form v a n rest cell new holds fits at within
      (ap (rows.with_item heap a cell n) (same_item cell place v same))) goes

  stored_through : (place : Place) (stack : List Value) → Over stack → AllByRecursion (IsValue heap) stack
      → HasEffect (rows.stores_through place i f heap stack) (GoesOn g after) → Behind (on_two with_put_at known)
  stored_through place (Int v ∷ Addr a n ∷ rest) holds are has =
      of_place_so place (slice_get heap a)
      (λ cell. if nat_lt n (length cell.items) then
      goes_on i f (rows.with_item heap a cell n (rows.item_of place v)) rest else []) (on_two with_put_at known)
      (λ cell same at goes.
      cond_both (nat_lt n (length cell.items)) _ _
      (λ (es : List Effect). HasEffect es (GoesOn g after) → Behind (on_two with_put_at known))
      (λ within on. put_at_so place v a n rest cell holds are.0 at same (ltb-true n (length cell.items) within) on)
      (λ beyond none. elim none [ ]) goes) has
  stored_through place _ holds are has = elim has [ ]

  -- ---- Assert and Assume

  -- What a rule makes of a condition that is not 0 holds.
  abbrev IsSoOfCondition : (Var → StateFacts → State) → Type 0
  IsSoOfCondition rule =
      (below : StateFacts) (v : Var) (n : ℤ) (rest : List Value) → HasForm below → IsNumberOf below v n number
      → FitsSigned w32 n → int_eq n (pos 0) ≡ false → HoldsBy below (over f rest) heap number array
      → HoldsIn (rule v below) (over f rest) heap number array

  left_holds : IsSoOfCondition left
  left_holds below v n rest formed is fits nonzero holds = holds

  condition_holds : IsSoOfCondition with_condition
  condition_holds below v n rest formed is fits nonzero holds =
      rw is.is
      (met_is_kept (conditions.Assert is.expr) below formed is.there (over f rest) heap number array is_heap holds
      (subst (FitsSigned w32) (sym is.worth_is) fits)
      (λ none. false≢true (sym nonzero ∙ (Decides-int_eq n (pos 0)).1 (sym is.worth_is ∙ none))))

  passed_so : (otherwise : Effect) (n : ℤ) (rest : List Value) → (otherwise ≡ GoesOn g after → ⊥)
      → HasEffect (rows.tests_condition otherwise i f heap (Some (Int n ∷ rest))) (GoesOn g after)
      → (int_eq n (pos 0) ≡ false) × HasEffect (goes_on i f heap rest) (GoesOn g after)
  passed_so otherwise n rest other has =
      cond_both (int_eq n (pos 0)) _ _
      (λ (es : List Effect). HasEffect es (GoesOn g after)
      → (int_eq n (pos 0) ≡ false) × HasEffect (goes_on i f heap rest) (GoesOn g after))
      (λ none goes. elim goes [ inl same ↦ absurd (other (sym same)) | inr none ↦ elim none [ ] ])
      (λ some goes. (some, goes)) has

  condition_so : (message : Bool) (rule : Var → StateFacts → State) (otherwise : Effect) (stack : List Value)
      → (otherwise ≡ GoesOn g after → ⊥) → IsSoOfCondition rule → Over stack → AllByRecursion (IsValue heap) stack
      → HasEffect (rows.tests_condition otherwise i f heap (rows.below_message message stack)) (GoesOn g after)
      → Behind (on_condition message rule known)
  condition_so false rule otherwise (Int n ∷ rest) other so holds are has =
      let goes = passed_so otherwise n rest other has in
      goes_so f (on_one rule known) (i.at + i.size) rest heap
      (on_one_over (λ (s : State). HoldsOn (Some known) s (over f rest) heap number array) rule known f (Int n) rest
      heap number array form holds
      (λ top.
      let below = popped known in
      same_on known (rule top.var below) (over f rest) heap number array
      (so below top.var n rest top.form (as_number below top.var (Int n) n number array top.there top.has refl) are.0
      goes.0 top.rest))) goes.1
  condition_so true rule otherwise (Text ∷ Int n ∷ rest) other so holds are has =
      let goes = passed_so otherwise n rest other has in
      goes_so f (on_two (λ condition text. rule condition) known) (i.at + i.size) rest heap
      (on_two_over (λ (s : State). HoldsOn (Some known) s (over f rest) heap number array)
      (λ condition text. rule condition) known f Text (Int n) rest heap number array form holds
      (λ upper lower.
      let below = popped (popped known) in
      same_on known (rule lower.var below) (over f rest) heap number array
      (so below lower.var n rest lower.form (as_number below lower.var (Int n) n number array lower.there lower.has
      refl) are.1.0 goes.0 lower.rest))) goes.1
  condition_so false rule otherwise _ other so holds are has = elim has [ ]
  condition_so true rule otherwise _ other so holds are has = elim has [ ]

  call_so : (call : Option UnitCall) → Over f.stack → AllByRecursion (IsValue heap) f.stack
      → HasEffect (rows.contract_call call i f heap) (GoesOn g after) → Behind (behind_call unit call known)
  unfolding behind_call
  call_so (Some (calls.Assert message)) holds are has =
      condition_so message left (Faults faults.Assert) f.stack (λ same. absurd cc) left_holds holds are has
  call_so (Some (calls.Assume message)) holds are has =
      condition_so message with_condition Assumes f.stack (λ same. absurd cc) condition_holds holds are has
  call_so _ holds are has = elim has [ ]

  -- ---- branches

  one_branch : (target : ℕ) (v : Value) (rest : List Value) (o : Option Bool) → Over (v ∷ rest)
      → HasEffect (rows.branches target i f heap rest o) (GoesOn g after) → Behind (Some (popped known))
  one_branch target v rest None holds has = elim has [ ]
  one_branch target v rest (Some true) holds has = pop_so target v rest holds has
  one_branch target v rest (Some false) holds has = pop_so (i.at + i.size) v rest holds has

  two_branch : (target : ℕ) (b a : Value) (rest : List Value) (o : Option Bool) → Over (b ∷ a ∷ rest)
      → HasEffect (rows.branches target i f heap rest o) (GoesOn g after) → Behind (Some (popped (popped known)))
  two_branch target b a rest None holds has = elim has [ ]
  two_branch target b a rest (Some true) holds has = pop_two_so target b a rest holds has
  two_branch target b a rest (Some false) holds has = pop_two_so (i.at + i.size) b a rest holds has

  test_so : (test : Test) (target : ℕ) (stack : List Value) → Over stack
      → HasEffect (rows.branches_by test target i f heap stack) (GoesOn g after) → Behind (behind_test test known)
  unfolding behind_test
  test_so tests.Always target stack holds has = same_so (Some known) target stack holds has
  test_so tests.True target (v ∷ rest) holds has = one_branch target v rest (is_true v) holds has
  test_so tests.True target [] holds has = elim has [ ]
  test_so tests.False target (v ∷ rest) holds has = one_branch target v rest _ holds has
  test_so tests.False target [] holds has = elim has [ ]
  test_so (tests.Cmp op) target (b ∷ a ∷ rest) holds has = two_branch target b a rest (compares_values op a b) holds has
  test_so (tests.Cmp op) target (b ∷ []) holds has = elim has [ ]
  test_so (tests.Cmp op) target [] holds has = elim has [ ]

  case_so : (v : Value) (rest : List Value) (o : Option ℕ) → Over (v ∷ rest)
      → HasEffect (rows.switches_to i f heap rest o) (GoesOn g after) → Behind (Some (popped known))
  case_so v rest None holds has = pop_so (i.at + i.size) v rest holds has
  case_so v rest (Some target) holds has = pop_so target v rest holds has

  switch_so : (targets : List ℕ) (stack : List Value) → Over stack
      → HasEffect (rows.switches targets i f heap stack) (GoesOn g after) → Behind (Some (popped known))
  switch_so targets (Int n ∷ rest) holds has = case_so (Int n) rest (slice_get targets (unsigned n)) holds has
  switch_so targets _ holds has = elim has [ ]

  -- ---- each operation

  acted_so : (op : Op) → Over f.stack → AllByRecursion (IsValue heap) f.stack
      → HasEffect (effects_of op unit i f heap) (GoesOn g after) → Behind (acted unit op known)
  unfolding acted operated
  acted_so ops.Nop holds are has = same_so (Some known) (i.at + i.size) f.stack holds has
  acted_so (ops.LoadArg n) holds are has = load_arg n f.stack holds has
  acted_so (ops.StoreArg n) holds are has = store_arg n f.stack holds has
  acted_so (ops.LoadLocal n) holds are has = load_local n f.stack holds has
  acted_so (ops.StoreLocal n) holds are has = store_local n f.stack holds has
  acted_so ops.Null holds are has =
      push_so (vars.Reference 0) Null f.stack holds (ap (λ (a : Option ℕ). Some a) (sym holds.null)) has
  acted_so (ops.Const n) holds are has =
      push_so (vars.Number (constant n)) (Int n) f.stack holds
      (ap (λ (m : ℤ). Some m) (sym (constant_is known (over f f.stack) heap number array n holds))) has
  acted_so (ops.Text token) holds are has = push_so vars.Text Text f.stack holds refl has
  acted_so ops.Dup holds are has = double_so f.stack holds has
  acted_so ops.Pop holds are has = pops_so f.stack holds has
  acted_so (ops.Call call) holds are has = call_so (unit_call call) holds are has
  acted_so ops.Return holds are has = elim has [ ]
  acted_so (ops.Branch test target) holds are has = test_so test target f.stack holds has
  acted_so (ops.Switch targets) holds are has = switch_so targets f.stack holds has
  acted_so (ops.Bin op) holds are has = operator_so op (comparison_of op) f.stack holds are refl has
  acted_so ops.Neg holds are has = negated_so f.stack holds are has
  acted_so ops.Not holds are has = complemented_so f.stack holds are has
  acted_so ops.ConvI4 holds are has = converted_so f.stack holds has
  acted_so (ops.NewArray type) holds are has = array_so (array_place type) f.stack holds has
  acted_so ops.Length holds are has = length_so f.stack holds has
  acted_so (ops.LoadElem place) holds are has = item_loaded place f.stack holds has
  acted_so (ops.StoreElem place) holds are has = item_stored place f.stack holds are has
  acted_so (ops.LoadAddr type) holds are has = address_taken (array_place type) f.stack holds has
  acted_so (ops.LoadInd place) holds are has = loaded_through place f.stack holds has
  acted_so (ops.StoreInd place) holds are has = stored_through place f.stack holds are has

-- What is known behind an instruction holds where it goes on, by a choice that is as before for what was there.
pub act_keeps : (unit : MethodUnit) (i : Instr) (p q : Point) (known : StateFacts) (number : ℕ → ℤ)
    (array : ℕ → Option ℕ) → HasForm known → IsPointOf unit p
    → HoldsBy known (variables_of p.frame) p.heap number array
    → HasEffect (effects unit i p.frame p.heap) (GoesOn q.frame q.heap)
    → HoldsOn (Some known) (acted unit i.op known) (variables_of q.frame) q.heap number array
act_keeps unit i p q known number array form of holds goes =
    acted_so unit known p.frame form (has_sizes unit p.heap p.frame of.frame) p.heap of.heap number array i q.frame
    q.heap i.op holds of.frame.stack goes
