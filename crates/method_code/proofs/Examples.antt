-- Numbers of calls and of arrays, and callees, that were worked out by hand.
use Rattle.std.proofs.Common.{◌≡◌, ℕ, List, [], ◌∷◌, Option, Some, None, refl, if◌then◌else◌}
use Rattle.std.specs.Prelude.{◌==◌}
use Rattle.cil_model.specs.declared.instruction.Instr.{Instr}
use Rattle.cil_model.specs.declared.instruction.Op.TheVariants as ops
use Rattle.cil_model.specs.declared.place.Place.{Place}
use Rattle.cil_model.specs.declared.place.Place.TheVariants as places
use Rattle.cil_model.proofs.Laid.{laid_from}
use Rattle.method_code.specs.Called.{callees_of}
use Rattle.method_code.specs.Meanings.{Meaning}
use Rattle.method_code.specs.Numbering.{array_number, call_number, numbered}
use Rattle.method_code.specs.declared.call.Call.{Call}
use Rattle.method_code.specs.declared.call.Call.TheVariants.{Callee, Contract, Unknown}

-- The methods 5 and 2 are the callees, in this order.
abbrev five_two : List ℕ
five_two = 5 ∷ 2 ∷ []

-- The first callee, the second, a method that is none of them, Requires with a message, OldValue of int32, and anything
-- else.
call_numbers :
    (call_number five_two (Callee 5) ≡ 100)
    × ((call_number five_two (Callee 2) ≡ 101)
    × ((call_number five_two (Callee 3) ≡ 0)
    × ((call_number five_two (Contract 2) ≡ 2)
    × ((call_number five_two (Contract 22) ≡ 22)
    × (call_number five_two Unknown ≡ 0)))))
call_numbers = (refl, (refl, (refl, (refl, (refl, refl)))))

array_numbers : (array_number (Some places.Bool) ≡ 1) × ((array_number (Some places.Int) ≡ 2) × ((array_number (Some places.Ints) ≡ 0) × (array_number None ≡ 0)))
array_numbers = (refl, (refl, (refl, refl)))

-- The token 3 is that of bool, and 2 that of int32.
abbrev element_of : ℕ → Option Place
element_of token = if token == 3 then Some places.Bool else if token == 2 then Some places.Int else None

-- The tokens 7 and 4 call methods whose keys are 70 and 40, the token 8 calls Requires, and no other calls anything.
abbrev call_of : ℕ → Call
call_of token = if token == 7 then Callee 70 else if token == 4 then Callee 40 else if token == 8 then Contract 1 else Unknown

abbrev meaning : Meaning
meaning = record { call = call_of; element = element_of }

-- Calls of the tokens 7, 4, 9, 7, 8 and 4, with a nop between.
abbrev calls : List Instr
calls = laid_from 0 ((5, ops.Call 7) ∷ (5, ops.Call 4) ∷ (1, ops.Nop) ∷ (5, ops.Call 9) ∷ (5, ops.Call 7) ∷ (5, ops.Call 8) ∷ (5, ops.Call 4) ∷ [])

-- The callees are these two, in order of first use, and each call has its number.
two_callees : callees_of meaning calls ≡ 70 ∷ 40 ∷ []
two_callees = refl

calls_numbered : numbered meaning calls
    ≡ laid_from 0 ((5, ops.Call 100) ∷ (5, ops.Call 101) ∷ (1, ops.Nop) ∷ (5, ops.Call 0) ∷ (5, ops.Call 100) ∷ (5, ops.Call 1) ∷ (5, ops.Call 101) ∷ [])
calls_numbered = refl

-- New arrays and addresses of items, of these tokens and of another one; a load through an address has no token.
arrays_numbered : numbered meaning
    (laid_from 0 ((5, ops.NewArray 3) ∷ (5, ops.LoadAddr 3) ∷ (5, ops.NewArray 2) ∷ (5, ops.LoadAddr 2) ∷ (5, ops.LoadAddr 5) ∷ (1, ops.LoadInd places.Ints) ∷ []))
    ≡ laid_from 0 ((5, ops.NewArray 1) ∷ (5, ops.LoadAddr 1) ∷ (5, ops.NewArray 2) ∷ (5, ops.LoadAddr 2) ∷ (5, ops.LoadAddr 0) ∷ (1, ops.LoadInd places.Ints) ∷ [])
arrays_numbered = refl

no_callees : callees_of meaning (laid_from 0 ((1, ops.Nop) ∷ (1, ops.Return) ∷ [])) ≡ []
no_callees = refl
