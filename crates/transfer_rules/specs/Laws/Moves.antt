-- What single moves keep of values, apart from the frame that they are in.
use Rattle.std.proofs.Common.{◌≡◌, ℕ, zero, suc, ◌<◌, ℤ, pos, true, Option, Some, None, List, [], ◌∷◌, ◌++◌, length, Ok, refl, sym, ap, subst, ◌∙◌, FitsSigned, w32, arith, lt-ltb}
use Rattle.std.specs.Prelude.{nat_lt, set, slice_get, slice_set}
use Rattle.std.specs.Option.{ForSome, option_and_then, option_map}
use Rattle.std.proofs.lemmas.Int.{ints}
use Rattle.std.proofs.lemmas.Option.{none-some, same_Some}
use Rattle.cil_model.specs.Arithmetic as machine
use Rattle.cil_model.specs.Effects as rows
use Rattle.cil_model.specs.Values.{Heap, put}
use Rattle.cil_model.specs.declared.instruction.BinOp.{BinOp}
use Rattle.cil_model.specs.declared.instruction.BinOp.TheVariants as operators
use Rattle.cil_model.specs.declared.machine.Value.{Value}
use Rattle.cil_model.specs.declared.machine.Value.TheVariants.{Int}
use Rattle.cil_model.specs.declared.place.Place.{Place}
use Rattle.frame_names.specs.declared.reference.Reference.{Reference}
use Rattle.frame_names.specs.declared.var.Var.{Var}
use Rattle.frame_names.specs.declared.var.Var.TheVariants as vars
use Rattle.number_facts.proofs.Knowing.{constant_worth}
use Rattle.number_spans.specs.Constants.{constant}
use Rattle.state_facts.specs.Forms.{HasForm, HasNumber, HasReference, HasVar}
use Rattle.state_facts.specs.Holds.{HasValue, HoldsBy, HoldsIn, length_of_array}
use Rattle.state_facts.specs.Keeps.{HoldsOn}
use Rattle.state_facts.specs.Moves.{popped}
use Rattle.state_facts.specs.StateFacts.{StateFacts, State, length_at, length_of, reference_at}
use Rattle.state_facts.proofs.Agreeing.{as_many}
use Rattle.state_facts.proofs.ArraysHold.{present_at}
use Rattle.state_facts.proofs.MovesHold.{put_keeps}
use Rattle.state_facts.proofs.ResultsHold.{arith_keeps}
use Rattle.symbolic_values.specs.Worth.{worth}
use Rattle.transfer_rules.specs.Acts.{calculated, put_into, taken_from, type_of}
use Rattle.transfer_rules.specs.Laws.Tops.{IsNumberOf}

-- ---- choices

pub for_some : {X : Type 0} (P : X → Type 0) (x : X) → P x → ForSome (Some x) P
for_some P x is = λ y same. subst P (same_Some x y same) is

-- The same choice serves.
pub same_on : (known : StateFacts) (after : State) (vs : List Value) (heap : Heap) (number : ℕ → ℤ)
    (array : ℕ → Option ℕ) → HoldsIn after vs heap number array → HoldsOn (Some known) after vs heap number array
same_on known after vs heap number array holds =
    record {
      later = number;
      later_array = array;
      agrees = λ s there. refl;
      agrees_arrays = λ r there. refl;
      holds =
          holds;
    }

-- Without the top there are the same symbols and references.
pub from_popped : (known : StateFacts) (after : State) (vs : List Value) (heap : Heap) (number : ℕ → ℤ)
    (array : ℕ → Option ℕ) → HoldsOn (Some (popped known)) after vs heap number array
    → HoldsOn (Some known) after vs heap number array
unfolding popped
from_popped known after vs heap number array on =
    record {
      later = on.later;
      later_array = on.later_array;
      agrees = on.agrees;
      agrees_arrays = on.agrees_arrays;
      holds = on.holds;
    }

pub constant_is : (known : StateFacts) (vs : List Value) (heap : Heap) (number : ℕ → ℤ) (array : ℕ → Option ℕ) (n : ℤ)
    → HoldsBy known vs heap number array → worth number (constant n) ≡ n
constant_is known vs heap number array n holds = constant_worth known.facts number (constant n) holds.facts.allowed refl

-- The length that is known of a reference is that of its array.
pub length_is : (known : StateFacts) (vs : List Value) (heap : Heap) (number : ℕ → ℤ) (array : ℕ → Option ℕ) (r : ℕ)
    → HoldsBy known vs heap number array → HasReference known r
    → worth number (length_at known r) ≡ length_of_array heap (array r)
unfolding reference_at
length_is known vs heap number array zero holds there =
    constant_is known vs heap number array (pos 0) holds ∙ sym (ap (length_of_array heap) holds.null)
length_is known vs heap number array (suc r) holds there =
    let found = present_at known.references (suc r) (omega arith) there in
    ap (λ (o : Option Reference). worth number (length_of o)) found.1
    ∙ (holds.references (suc r) found.0 found.1).length_is

-- ---- puts

-- What is stored in variables of these types.
pub record IsStored (heap : Heap) (types : List Place) (n : ℕ) (v : Value) (old new : List Value) : Type 0 where
  pub place : Place
  pub value : Value
  pub place_is : slice_get types n ≡ Some place
  pub put_is : put heap place v ≡ Some value
  pub new_is : new ≡ slice_set old n value

pub is_stored : (heap : Heap) (types : List Place) (n : ℕ) (v : Value) (old new : List Value)
    → rows.stored heap types n v old ≡ Some new → IsStored heap types n v old new
is_stored heap types n v old new is = by_place (slice_get types n) refl is
  where
    by_put : (place : Place) (o : Option Value) → slice_get types n ≡ Some place → put heap place v ≡ o
        → option_map (λ x. slice_set old n x) o ≡ Some new → IsStored heap types n v old new
    by_put place None at given there = absurd (none-some new there)
    by_put place (Some x) at given there =
        record { place = place; value = x; place_is = at; put_is = given; new_is = sym (same_Some _ new there) }

    by_place : (o : Option Place) → slice_get types n ≡ o
        → option_map (λ x. slice_set old n x) (option_and_then (λ place. put heap place v) o) ≡ Some new
        → IsStored heap types n v old new
    by_place None at there = absurd (none-some new there)
    by_place (Some place) at there = by_put place (put heap place v) at refl there

pub type_found : (types : List Place) (n : ℕ) (place : Place) → slice_get types n ≡ Some place → type_of types n ≡ place
type_found [] n place at = absurd (none-some place at)
type_found (p ∷ types) zero place at = same_Some p place at
type_found (p ∷ types) (suc n) place at = type_found types n place at

-- A value goes into a variable that is there.
pub into_holds : (k : ℕ) (place : Place) (v : Var) (known : StateFacts) (vs : List Value) (heap : Heap)
    (number : ℕ → ℤ) (array : ℕ → Option ℕ) (value new : Value) → HasForm known → HasVar known v
    → HoldsBy known vs heap number array → HasValue number array v value → put heap place value ≡ Some new
    → k < length vs → HoldsOn (Some known) (put_into k place v known) (set vs k new) heap number array
into_holds k place v known vs heap number array value new form there holds has is below =
    let many : k < length known.variables =
    subst (λ (n : ℕ). k < n) (sym (as_many number array known.variables vs holds.variables)) below in
    let inside : nat_lt k (length known.variables) ≡ true = lt-ltb k (length known.variables) many in
    rw inside
    (put_keeps k v place (Some known) (for_some HasForm known form)
    (for_some (λ (x : StateFacts). HasVar x v) known there) vs heap number array value new holds has is)

-- ---- operators

-- An operator of two int32.
pub result_holds : (op : BinOp) (known : StateFacts) (v w : Var) (a b c : ℤ) (vs : List Value) (heap : Heap)
    (number : ℕ → ℤ) (array : ℕ → Option ℕ) → HasForm known → IsNumberOf known v a number → IsNumberOf known w b number
    → FitsSigned w32 a → FitsSigned w32 b → HoldsBy known vs heap number array → machine.operated op a b ≡ Ok c
    → HoldsOn (Some known) (calculated op None v w known) (vs ++ Int c ∷ []) heap number array
result_holds op known v w a b c vs heap number array form first second a_fits b_fits holds is =
    rw (first.is, second.is)
    (arith_keeps op first.expr second.expr (Some known) (for_some HasForm known form)
    (for_some (λ (x : StateFacts). HasNumber x first.expr) known first.there)
    (for_some (λ (x : StateFacts). HasNumber x second.expr) known second.there) vs heap number array a b c holds
    (record {
      first_is = ap (λ (n : ℤ). Some n) (sym first.worth_is);
      second_is = ap (λ (n : ℤ). Some n) (sym second.worth_is);
      first_fits = a_fits;
      second_fits = b_fits;
    }) is)

-- A constant is a number of any state.
pub constant_there : (known : StateFacts) (n : ℤ) → FitsSigned w32 n → HasNumber known (constant n)
constant_there known n fits =
    record {
      there = omega arith;
      near = record {
        least = omega (arith, ints, fits);
        greatest = omega
            (arith, ints, fits);
      };
    }

pub constant_of : (known : StateFacts) (vs : List Value) (heap : Heap) (number : ℕ → ℤ) (array : ℕ → Option ℕ) (n : ℤ)
    → FitsSigned w32 n → HoldsBy known vs heap number array → IsNumberOf known (vars.Number (constant n)) n number
constant_of known vs heap number array n fits holds = record {
  expr = constant n;
  is = refl;
  there = constant_there known n fits;
  worth_is = constant_is known vs heap number array n holds;
}

-- A difference from a constant is one of two numbers.
pub taken_is : (n : ℤ) (v : Var) (known : StateFacts) (a : ℤ) (number : ℕ → ℤ) → IsNumberOf known v a number
    → taken_from n v known ≡ calculated operators.Sub None (vars.Number (constant n)) v known
taken_is n v known a number is = rw is.is refl
