-- What it means that a condition is entailed, and that it is assumed.
use Rattle.std.specs.Prelude.{◌≡◌, ◌≢◌, ℕ, ℤ, pos, negsuc, ◌≤ℤ◌, ◌<ℤ◌, FitsSigned, List, Option, None}
use Rattle.std.specs.Int.{w32}
use Rattle.std.specs.List.{AllByRecursion}
use Rattle.cil_model.specs.Arithmetic.{LEAST, GREATEST}
use Rattle.cil_model.specs.Values.{Heap, IsHeap}
use Rattle.cil_model.specs.declared.machine.Value.{Value}
use Rattle.number_facts.specs.Results.{IsExact}
use Rattle.state_facts.specs.Holds.{HoldsIn, length_of_array}
use Rattle.state_facts.specs.StateFacts.{State}
use Rattle.symbolic_values.specs.Worth.{worth}
use Rattle.state_obligations.specs.declared.condition.Condition.{Condition}
use Rattle.state_obligations.specs.declared.condition.Condition.TheVariants as conditions

-- Not both: a dividend is the least int32, and the divisor is -1.
abbrev pub IsNoDivisionOverflow : ℤ → ℤ → Type 0
IsNoDivisionOverflow a b = a ≡ LEAST → b ≢ negsuc 0

-- A condition is so of a number for each symbol, and of null or an array of the heap for each reference.
abbrev pub IsMet : Condition → Heap → (ℕ → ℤ) → (ℕ → Option ℕ) → Type 0
IsMet (conditions.NullUse r) heap number array = array r ≢ None
IsMet (conditions.Lower i) heap number array = pos 0 ≤ℤ worth number i
IsMet (conditions.Upper r i) heap number array = worth number i <ℤ length_of_array heap (array r)
IsMet (conditions.ArraySize n) heap number array = pos 0 ≤ℤ worth number n
IsMet (conditions.Shift n) heap number array = (pos 0 ≤ℤ worth number n) × (worth number n ≤ℤ pos 31)
IsMet (conditions.DivZero b) heap number array = worth number b ≢ pos 0
IsMet (conditions.DivOverflow a b) heap number array = IsNoDivisionOverflow (worth number a) (worth number b)
IsMet (conditions.Overflow op a b) heap number array =
    (n : ℤ) → IsExact op (worth number a) (worth number b) n → (LEAST ≤ℤ n) × (n ≤ℤ GREATEST)
IsMet (conditions.Assert e) heap number array = worth number e ≢ pos 0

abbrev pub AreMet : List Condition → Heap → (ℕ → ℤ) → (ℕ → Option ℕ) → Type 0
AreMet cs heap number array = AllByRecursion (λ c. IsMet c heap number array) cs

-- The operands of a condition are int32, as numbers on a stack are.
abbrev pub IsOfInt32 : Condition → (ℕ → ℤ) → Type 0
IsOfInt32 (conditions.NullUse r) number = Unit {0}
IsOfInt32 (conditions.Lower i) number = FitsSigned w32 (worth number i)
IsOfInt32 (conditions.Upper r i) number = FitsSigned w32 (worth number i)
IsOfInt32 (conditions.ArraySize n) number = FitsSigned w32 (worth number n)
IsOfInt32 (conditions.Shift n) number = FitsSigned w32 (worth number n)
IsOfInt32 (conditions.DivZero b) number = FitsSigned w32 (worth number b)
IsOfInt32 (conditions.DivOverflow a b) number = FitsSigned w32 (worth number a) × FitsSigned w32 (worth number b)
IsOfInt32 (conditions.Overflow op a b) number = FitsSigned w32 (worth number a) × FitsSigned w32 (worth number b)
IsOfInt32 (conditions.Assert e) number = FitsSigned w32 (worth number e)

abbrev pub AreOfInt32 : List Condition → (ℕ → ℤ) → Type 0
AreOfInt32 cs number = AllByRecursion (λ c. IsOfInt32 c number) cs

-- Wherever the state holds of int32, the condition is met.
abbrev pub EntailsIt : Condition → State → Type 0
EntailsIt condition state =
    (vs : List Value) (heap : Heap) (number : ℕ → ℤ) (array : ℕ → Option ℕ)
    → HoldsIn state vs heap number array → IsOfInt32 condition number → IsMet condition heap number array

-- Where the state before holds of int32 and the condition is met, the state after holds by the same choice.
abbrev pub AssumesIt : Condition → State → State → Type 0
AssumesIt condition before after =
    (vs : List Value) (heap : Heap) (number : ℕ → ℤ) (array : ℕ → Option ℕ)
    → IsHeap heap → HoldsIn before vs heap number array → IsOfInt32 condition number
    → IsMet condition heap number array → HoldsIn after vs heap number array

-- The same of conditions one after another.
abbrev pub EntailsThem : List Condition → State → Type 0
EntailsThem cs state =
    (vs : List Value) (heap : Heap) (number : ℕ → ℤ) (array : ℕ → Option ℕ)
    → IsHeap heap → HoldsIn state vs heap number array → AreOfInt32 cs number → AreMet cs heap number array

abbrev pub AssumesThem : List Condition → State → State → Type 0
AssumesThem cs before after =
    (vs : List Value) (heap : Heap) (number : ℕ → ℤ) (array : ℕ → Option ℕ)
    → IsHeap heap → HoldsIn before vs heap number array → AreOfInt32 cs number
    → AreMet cs heap number array → HoldsIn after vs heap number array
