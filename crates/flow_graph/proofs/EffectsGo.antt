-- Where a frame goes on: at one of the offsets to which its instruction goes on.
use Rattle.std.proofs.Common.{◌≡◌, ℕ, ◌+◌, ℤ, pos, int_lt, int_le, int_eq, nat_lt, Bool, true, false, not, List, [], ◌∷◌, ◌++◌, length, slice_get, Option, Some, None, option_map, Result, Ok, Err, refl, sym, subst, inl, inr}
use Rattle.std.specs.List.{AllByRecursion}
use Rattle.std.proofs.lemmas.Bool.{cond_both}
use Rattle.cil_model.specs.Arithmetic.{operated, unsigned}
use Rattle.cil_model.specs.Comparisons.{comparison_of, comparison_value, compares_values, is_true, number_of}
use Rattle.cil_model.specs.Effects.{Effect, GoesOn, Faults, Assumes, HasEffect, addresses, arithmetic, array_length, at_index, below_message, binary, branches, branches_by, changes, comparison, contract_call, converts, duplicates, effects, effects_of, gives, goes_to, item_value, loads, loads_through, makes_number, new_array, of_place, pops, pushes, stored, stores, stores_arg, stores_local, stores_through, switches, switches_to, takes_address, tests_condition, with_args, with_locals}
use Rattle.cil_model.specs.Passes.{successors}
use Rattle.cil_model.specs.UnitCalls.{array_place, unit_call}
use Rattle.cil_model.specs.Values.{Heap, same_place}
use Rattle.cil_model.specs.declared.instruction.BinOp.{BinOp}
use Rattle.cil_model.specs.declared.instruction.CmpOp.{CmpOp}
use Rattle.cil_model.specs.declared.instruction.Instr.{Instr}
use Rattle.cil_model.specs.declared.instruction.Op.{Op}
use Rattle.cil_model.specs.declared.instruction.Op.TheVariants as ops
use Rattle.cil_model.specs.declared.instruction.Test.{Test}
use Rattle.cil_model.specs.declared.instruction.Test.TheVariants as tests
use Rattle.cil_model.specs.declared.instruction.UnOp.{UnOp}
use Rattle.cil_model.specs.declared.instruction.UnOp.TheVariants as unary
use Rattle.cil_model.specs.declared.machine.ArrayCell.{ArrayCell}
use Rattle.cil_model.specs.declared.machine.FaultKind.{FaultKind}
use Rattle.cil_model.specs.declared.machine.FaultKind.TheVariants as faults
use Rattle.cil_model.specs.declared.machine.Frame.{Frame}
use Rattle.cil_model.specs.declared.machine.Value.{Value}
use Rattle.cil_model.specs.declared.machine.Value.TheVariants.{Int, Native, Null, Array, Addr}
use Rattle.cil_model.specs.declared.place.Place.{Place}
use Rattle.cil_model.specs.declared.unit.Unit.{Unit as MethodUnit}
use Rattle.cil_model.specs.declared.unit_numbers.UnitCall.{UnitCall}
use Rattle.cil_model.specs.declared.unit_numbers.UnitCall.TheVariants as calls
use Rattle.flow_graph.proofs.Items.{in_prefix, last_there}

-- The offset is one of these, at some place.
abbrev pub IsOneOf : List ℕ → ℕ → Type 0
IsOneOf ats at = (n : ℕ) × (slice_get ats n ≡ Some at)

-- Where the effect lets the frame go on, it is at one of these offsets.
abbrev pub GoesToOne : List ℕ → Effect → Type 0
GoesToOne ats (GoesOn new after) = IsOneOf ats new.at
GoesToOne ats _ = Unit {0}

abbrev EachGoes : List ℕ → List Effect → Type 0
EachGoes ats es = AllByRecursion (GoesToOne ats) es

module _ (ats : List ℕ) (unit : MethodUnit) (i : Instr) (f : Frame) (heap : Heap) (next : IsOneOf ats (i.at + i.size)) where
  abbrev Go : List Effect → Type 0
  Go es = EachGoes ats es

  -- ---- forms of rows

  pushes_go : (rest : List Value) (value : Option Value) → Go (pushes i f heap rest value)
  pushes_go rest None = tt
  pushes_go rest (Some v) = (next, tt)

  gives_go : (rest : List Value) (outcome : Result ℤ FaultKind) → Go (gives i f heap rest outcome)
  gives_go rest (Ok n) = (next, tt)
  gives_go rest (Err kind) = (tt, tt)

  args_go : (rest : List Value) (args : Option (List Value)) → Go (with_args i f heap rest args)
  args_go rest None = tt
  args_go rest (Some args) = (next, tt)

  locals_go : (rest : List Value) (locals : Option (List Value)) → Go (with_locals i f heap rest locals)
  locals_go rest None = tt
  locals_go rest (Some locals) = (next, tt)

  tests_go : (otherwise : Effect) (below : Option (List Value)) → GoesToOne ats otherwise → Go (tests_condition otherwise i f heap below)
  tests_go otherwise (Some (Int n ∷ rest)) other = cond_both (int_eq n (pos 0)) _ _ Go (λ e. (other, tt)) (λ e. (next, tt))
  tests_go otherwise _ other = tt

  at_index_goes : (cell : ArrayCell) (n : ℤ) (done : List Effect) → Go done → Go (at_index cell n done)
  at_index_goes cell n done go =
      cond_both (int_lt n (pos 0)) _ _ Go (λ e. (tt, tt)) (λ e. cond_both (int_le (pos (length cell.items)) n) _ _ Go (λ h. (tt, tt)) (λ h. go))

  of_place_goes : (place : Place) (found : Option ArrayCell) (done : ArrayCell → List Effect) → ((cell : ArrayCell) → Go (done cell))
      → Go (of_place place found done)
  of_place_goes place None done go = tt
  of_place_goes place (Some cell) done go = cond_both (same_place cell.place place) _ _ Go (λ e. go cell) (λ e. tt)

  -- ---- rows

  stores_arg_goes : (n : ℕ) (stack : List Value) → Go (stores_arg unit n i f heap stack)
  stores_arg_goes n [] = tt
  stores_arg_goes n (v ∷ rest) = args_go rest (stored heap unit.args n v f.args)

  stores_local_goes : (n : ℕ) (stack : List Value) → Go (stores_local unit n i f heap stack)
  stores_local_goes n [] = tt
  stores_local_goes n (v ∷ rest) = locals_go rest (stored heap unit.locals n v f.locals)

  duplicates_goes : (stack : List Value) → Go (duplicates i f heap stack)
  duplicates_goes [] = tt
  duplicates_goes (v ∷ rest) = (next, tt)

  pops_goes : (stack : List Value) → Go (pops i f heap stack)
  pops_goes [] = tt
  pops_goes (v ∷ rest) = (next, tt)

  arithmetic_goes : (operator : BinOp) (stack : List Value) → Go (arithmetic operator i f heap stack)
  arithmetic_goes operator (Int b ∷ Int a ∷ rest) = gives_go rest (operated operator a b)
  arithmetic_goes operator _ = tt

  comparison_goes : (op : CmpOp) (stack : List Value) → Go (comparison op i f heap stack)
  comparison_goes op (b ∷ a ∷ rest) = pushes_go rest (comparison_value op a b)
  comparison_goes op [] = tt
  comparison_goes op (b ∷ []) = tt

  binary_goes : (operator : BinOp) (op : Option CmpOp) (stack : List Value) → Go (binary operator op i f heap stack)
  binary_goes operator None stack = arithmetic_goes operator stack
  binary_goes operator (Some op) stack = comparison_goes op stack

  changes_goes : (operator : UnOp) (stack : List Value) → Go (changes operator i f heap stack)
  changes_goes operator (Int a ∷ rest) = (next, tt)
  changes_goes operator _ = tt

  converts_goes : (stack : List Value) → Go (converts i f heap stack)
  converts_goes (Native n ∷ rest) = (next, tt)
  converts_goes (Int n ∷ rest) = (next, tt)
  converts_goes _ = tt

  makes_number_goes : (place : Option Place) (n : Option ℤ) (rest : List Value) → Go (makes_number place n i f heap rest)
  makes_number_goes (Some place) (Some n) rest = cond_both (int_lt n (pos 0)) _ _ Go (λ e. (tt, tt)) (λ e. (tt, (next, tt)))
  makes_number_goes None n rest = tt
  makes_number_goes (Some place) None rest = tt

  new_array_goes : (place : Option Place) (stack : List Value) → Go (new_array place i f heap stack)
  new_array_goes place [] = tt
  new_array_goes place (v ∷ rest) = makes_number_goes place (number_of v) rest

  array_length_goes : (stack : List Value) → Go (array_length i f heap stack)
  array_length_goes (Null ∷ rest) = (tt, tt)
  array_length_goes (Array a ∷ rest) = pushes_go rest (option_map (λ cell. Native (length cell.items)) (slice_get heap a))
  array_length_goes _ = tt

  loads_go : (place : Place) (stack : List Value) → Go (loads place i f heap stack)
  loads_go place (Int n ∷ Null ∷ rest) = (tt, tt)
  loads_go place (Int n ∷ Array a ∷ rest) =
      of_place_goes place (slice_get heap a) _ (λ cell. at_index_goes cell n _ (pushes_go rest (item_value cell n)))
  loads_go place _ = tt

  stores_go : (place : Place) (stack : List Value) → Go (stores place i f heap stack)
  stores_go place (Int v ∷ Int n ∷ Null ∷ rest) = (tt, tt)
  stores_go place (Int v ∷ Int n ∷ Array a ∷ rest) = of_place_goes place (slice_get heap a) _ (λ cell. at_index_goes cell n _ (next, tt))
  stores_go place _ = tt

  addresses_go : (place : Place) (stack : List Value) → Go (addresses place i f heap stack)
  addresses_go place (Int n ∷ Null ∷ rest) = (tt, tt)
  addresses_go place (Int n ∷ Array a ∷ rest) = of_place_goes place (slice_get heap a) _ (λ cell. at_index_goes cell n _ (next, tt))
  addresses_go place _ = tt

  takes_address_goes : (place : Option Place) (stack : List Value) → Go (takes_address place i f heap stack)
  takes_address_goes None stack = tt
  takes_address_goes (Some place) stack = addresses_go place stack

  loads_through_go : (place : Place) (stack : List Value) → Go (loads_through place i f heap stack)
  loads_through_go place (Addr a n ∷ rest) =
      of_place_goes place (slice_get heap a) _ (λ cell. pushes_go rest (option_map Int (slice_get cell.items n)))
  loads_through_go place _ = tt

  stores_through_go : (place : Place) (stack : List Value) → Go (stores_through place i f heap stack)
  stores_through_go place (Int v ∷ Addr a n ∷ rest) =
      of_place_goes place (slice_get heap a) _ (λ cell. cond_both (nat_lt n (length cell.items)) _ _ Go (λ within. (next, tt)) (λ beyond. tt))
  stores_through_go place _ = tt

  contract_call_goes : (call : Option UnitCall) → Go (contract_call call i f heap)
  contract_call_goes (Some (calls.Assert message)) = tests_go (Faults faults.Assert) (below_message message f.stack) tt
  contract_call_goes (Some (calls.Assume message)) = tests_go Assumes (below_message message f.stack) tt
  contract_call_goes _ = tt

  -- ---- branches

  module _ (target : ℕ) (there : IsOneOf ats target) where
    branches_go : (rest : List Value) (test : Option Bool) → Go (branches target i f heap rest test)
    branches_go rest None = tt
    branches_go rest (Some true) = (there, tt)
    branches_go rest (Some false) = (next, tt)

    branches_by_goes : (test : Test) (stack : List Value) → Go (branches_by test target i f heap stack)
    branches_by_goes tests.Always stack = (there, tt)
    branches_by_goes tests.True (v ∷ rest) = branches_go rest (is_true v)
    branches_by_goes tests.False (v ∷ rest) = branches_go rest (option_map not (is_true v))
    branches_by_goes (tests.Cmp op) (b ∷ a ∷ rest) = branches_go rest (compares_values op a b)
    branches_by_goes tests.True [] = tt
    branches_by_goes tests.False [] = tt
    branches_by_goes (tests.Cmp op) [] = tt
    branches_by_goes (tests.Cmp op) (b ∷ []) = tt

  switches_to_goes : (rest : List Value) (target : Option ℕ) → ((at : ℕ) → target ≡ Some at → IsOneOf ats at) → Go (switches_to i f heap rest target)
  switches_to_goes rest None there = (next, tt)
  switches_to_goes rest (Some target) there = (there target refl, tt)

  switches_go : (targets : List ℕ) (stack : List Value) → ((n at : ℕ) → slice_get targets n ≡ Some at → IsOneOf ats at)
      → Go (switches targets i f heap stack)
  switches_go targets (Int n ∷ rest) there = switches_to_goes rest (slice_get targets (unsigned n)) (λ at e. there (unsigned n) at e)
  switches_go targets _ there = tt

-- ---- targets

always_goes : (target : ℕ) (f : Frame) (heap : Heap) (stack : List Value) → EachGoes (target ∷ []) (goes_to target f heap stack)
always_goes target f heap stack = ((0, refl), tt)

-- ---- all rows

module _ (unit : MethodUnit) (i : Instr) (f : Frame) (heap : Heap) where
  abbrev Next : ℕ
  Next = i.at + i.size

  effects_of_go : (op : Op) → EachGoes (successors op Next) (effects_of op unit i f heap)
  effects_of_go ops.Nop = ((0, refl), tt)
  effects_of_go (ops.LoadArg n) = pushes_go (Next ∷ []) unit i f heap (0, refl) f.stack (slice_get f.args n)
  effects_of_go (ops.StoreArg n) = stores_arg_goes (Next ∷ []) unit i f heap (0, refl) n f.stack
  effects_of_go (ops.LoadLocal n) = pushes_go (Next ∷ []) unit i f heap (0, refl) f.stack (slice_get f.locals n)
  effects_of_go (ops.StoreLocal n) = stores_local_goes (Next ∷ []) unit i f heap (0, refl) n f.stack
  effects_of_go ops.Null = ((0, refl), tt)
  effects_of_go (ops.Const n) = ((0, refl), tt)
  effects_of_go ops.Dup = duplicates_goes (Next ∷ []) unit i f heap (0, refl) f.stack
  effects_of_go ops.Pop = pops_goes (Next ∷ []) unit i f heap (0, refl) f.stack
  effects_of_go (ops.Call number) = contract_call_goes (Next ∷ []) unit i f heap (0, refl) (unit_call number)
  effects_of_go ops.Return = tt
  effects_of_go (ops.Branch tests.Always target) = always_goes target f heap f.stack
  effects_of_go (ops.Branch test target) = branches_by_goes (target ∷ Next ∷ []) unit i f heap (1, refl) target (0, refl) test f.stack
  effects_of_go (ops.Switch targets) =
      switches_go (targets ++ Next ∷ []) unit i f heap (length targets, last_there targets Next) targets f.stack (λ n at e. (n, in_prefix targets (Next ∷ []) n at e))
  effects_of_go (ops.Bin operator) = binary_goes (Next ∷ []) unit i f heap (0, refl) operator (comparison_of operator) f.stack
  effects_of_go ops.Neg = changes_goes (Next ∷ []) unit i f heap (0, refl) unary.Neg f.stack
  effects_of_go ops.Not = changes_goes (Next ∷ []) unit i f heap (0, refl) unary.Not f.stack
  effects_of_go ops.ConvI4 = converts_goes (Next ∷ []) unit i f heap (0, refl) f.stack
  effects_of_go (ops.Text token) = ((0, refl), tt)
  effects_of_go (ops.NewArray number) = new_array_goes (Next ∷ []) unit i f heap (0, refl) (array_place number) f.stack
  effects_of_go ops.Length = array_length_goes (Next ∷ []) unit i f heap (0, refl) f.stack
  effects_of_go (ops.LoadElem place) = loads_go (Next ∷ []) unit i f heap (0, refl) place f.stack
  effects_of_go (ops.StoreElem place) = stores_go (Next ∷ []) unit i f heap (0, refl) place f.stack
  effects_of_go (ops.LoadAddr number) = takes_address_goes (Next ∷ []) unit i f heap (0, refl) (array_place number) f.stack
  effects_of_go (ops.LoadInd place) = loads_through_go (Next ∷ []) unit i f heap (0, refl) place f.stack
  effects_of_go (ops.StoreInd place) = stores_through_go (Next ∷ []) unit i f heap (0, refl) place f.stack

  has_goes : (ats : List ℕ) (es : List Effect) (effect : Effect) → EachGoes ats es → HasEffect es effect → GoesToOne ats effect
  has_goes ats [] effect go has = absurd has
  has_goes ats (e ∷ es) effect go (inl same) = subst (GoesToOne ats) (sym same) go.0
  has_goes ats (e ∷ es) effect go (inr others) = has_goes ats es effect go.1 others

  -- Whatever an instruction does to its own frame, it goes on where the instruction does.
  pub effect_goes : (effect : Effect) → HasEffect (effects unit i f heap) effect → GoesToOne (successors i.op Next) effect
  effect_goes effect has = has_goes (successors i.op Next) (effects unit i f heap) effect (effects_of_go i.op) has
