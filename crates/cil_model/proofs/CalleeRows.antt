-- What calls name, and in which order callees are called.
use Rattle.std.proofs.Common.{◌≡◌, [], ◌∷◌, Some, None, refl, arith, inl, inr}
use Rattle.cil_model.specs.UnitCalls.{unit_call}
use Rattle.cil_model.specs.WellFormed.{InOrderOfUse, NamesSomething, called_by}
use Rattle.cil_model.specs.declared.instruction.Op.TheVariants.{Call, NewArray, Nop, Text}

callee_is_called : called_by (Call 101) ≡ Some 1
unfolding unit_call
callee_is_called = refl

assert_calls_no_callee : called_by (Call 5) ≡ None
unfolding unit_call
assert_calls_no_callee = refl

nop_calls_none : called_by Nop ≡ None
nop_calls_none = refl

-- ---- order

-- The first and the second of two callees, and the first again.
in_order : InOrderOfUse 0 2 (0 ∷ 1 ∷ 0 ∷ [])
in_order = inr (refl, inr (refl, inl (omega arith, refl)))

second_is_first : InOrderOfUse 0 2 (1 ∷ 0 ∷ []) → ⊥
second_is_first (inl earlier) = let below = earlier.0 in omega arith
second_is_first (inr next) = let same = next.0 in omega arith

first_is_not_called : InOrderOfUse 0 1 [] → ⊥
first_is_not_called same = omega arith

one_too_many : InOrderOfUse 0 0 (0 ∷ []) → ⊥
one_too_many (inl earlier) = let below = earlier.0 in omega arith
one_too_many (inr next) = let all = next.1 in omega arith

-- ---- operands that name nothing

call_of_10 : NamesSomething (Call 10) → ⊥
unfolding unit_call
call_of_10 names = cc

array_of_0 : NamesSomething (NewArray 0) → ⊥
array_of_0 names = cc

text_is_0 : NamesSomething (Text 0)
text_is_0 = refl
