-- What pushes, pops, puts, loads and stores keep.
use Rattle.std.proofs.Common.{◌≡◌, ◌≢◌, ℕ, ◌-◌, ℤ, pos, negsuc, ◌≤ℤ◌, Bool, true, int_le, Option, Some, None, List, [], ◌∷◌, ◌++◌, length, FitsSigned, w32, refl, sym, ap, subst, ◌∙◌, arith}
use Rattle.std.specs.Prelude.{set, take, Ok}
use Rattle.std.specs.Int.{int_rem_euclid}
use Rattle.std.specs.Option.{ForSome, option_map}
use Rattle.std.proofs.lemmas.Bool.{and_parts, cond_both}
use Rattle.std.proofs.lemmas.Int.{ints}
use Rattle.alias_facts.specs.Arrays.{is_no_array}
use Rattle.cil_model.proofs.ArithmeticFits.{low_bits_are_byte}
use Rattle.cil_model.specs.Comparisons.{number_of, reference_of}
use Rattle.cil_model.specs.Values as machine
use Rattle.cil_model.specs.Values.{FitItems, Heap, IsArray, IsByte, IsHeap, KeepsForms, has_array, same_place}
use Rattle.cil_model.specs.declared.machine.Value.{Value}
use Rattle.cil_model.specs.declared.machine.Value.TheVariants as values
use Rattle.cil_model.specs.declared.place.Place.{Place}
use Rattle.cil_model.specs.declared.place.Place.TheVariants as places
use Rattle.domain_api.specs.declared.expr.Expr.{Expr}
use Rattle.number_facts.proofs.Knowing.{range_has}
use Rattle.number_facts.proofs.NewSymbols.{fresh_where_ok}
use Rattle.number_facts.specs.Ends.{range_of}
use Rattle.number_facts.specs.Facts.{Facts, IsNamed}
use Rattle.number_facts.specs.Fresh.{Made, expr_made, facts_made, fresh}
use Rattle.number_facts.specs.Holds.{AreNamed, Holds, HoldsWith, YieldsSome}
use Rattle.symbolic_values.specs.Worth.{worth}
use Rattle.state_facts.specs.Forms.{HasForm, IsNumber, IsVar}
use Rattle.state_facts.specs.Holds.{HasValue, HaveValues, HoldsBy, address_of}
use Rattle.state_facts.specs.Keeps.{HoldsOn, KeepsPop, KeepsPush, KeepsPut}
use Rattle.state_facts.specs.Moves.{in_variable, is_byte, on_top, placed, popped, with_number, with_placed, with_put}
use Rattle.state_facts.specs.StateFacts.{StateFacts, State}
use Rattle.state_facts.specs.States as calls
use Rattle.frame_names.specs.declared.var.Var.{Var}
use Rattle.frame_names.specs.declared.var.Var.TheVariants as vars
use Rattle.state_facts.proofs.Agreeing.{have_pushed, have_set, have_taken, as_many, made_holds}
use Rattle.state_facts.proofs.ArrayItems.{byte_fits}

-- ---- pushes and pops

pub push_keeps : (v : Var) (state : State) → KeepsPush v state (calls.push v state)
push_keeps v None = λ vs heap number array value holds has. elim holds [ ]
push_keeps v (Some known) = λ vs heap number array value holds has. record {
  null = holds.null;
  facts = holds.facts;
  variables = have_pushed number array known.variables vs v value holds.variables has;
  references = holds.references;
  apart = holds.apart;
  contents = holds.contents;
}

pub pop_keeps : (state : State) → KeepsPop state (calls.pop state)
unfolding popped
pop_keeps None = λ vs heap number array holds. elim holds [ ]
pop_keeps (Some known) = λ vs heap number array holds.
    let many = as_many number array known.variables vs holds.variables in
    record {
      null = holds.null;
      facts = holds.facts;
      variables = subst (λ (n : ℕ). HaveValues number array (take (length known.variables - 1) known.variables) (take (n - 1) vs)) many
          (have_taken number array (length known.variables - 1) known.variables vs holds.variables);
      references = holds.references;
      apart = holds.apart;
      contents = holds.contents;
    }

-- ---- numbers that are made

no_hole : (n : ℤ) → None ≢ Some n
no_hole n = λ is. cc

pub fresh_yields : (facts : Facts) (lo hi n : ℤ) (number : ℕ → ℤ) (is_null : ℕ → Bool) → AreNamed facts → Holds facts number is_null → FitsSigned w32 n
    → lo ≤ℤ n → n ≤ℤ hi → YieldsSome facts (facts_made facts (fresh facts lo hi None [])) number is_null (expr_made (fresh facts lo hi None [])) n
fresh_yields facts lo hi n number is_null named holds fits above below =
    fresh_where_ok {E = ℕ} facts lo hi None (Ok (expr_made (fresh facts lo hi None []))) (facts_made facts (fresh facts lo hi None [])) refl refl
    number is_null n named holds fits above below (no_hole n)

pub each_yields : (facts : Facts) (o : Option Made) (number : ℕ → ℤ) (is_null : ℕ → Bool) (n : ℤ) (P : Option Made → Type 0)
    → YieldsSome facts (facts_made facts o) number is_null (expr_made o) n
    → ((made : Made) → HoldsWith facts made.facts number is_null made.expr n → P (Some made)) → P o
each_yields facts None number is_null n P yields next = elim yields [ ]
each_yields facts (Some made) number is_null n P yields next = next made yields

-- a number that is made is pushed
pub top_keeps : (n : ℤ) (known : StateFacts) (o : Option Made) (vs : List Value) (heap : Heap) (number : ℕ → ℤ) (array : ℕ → Option ℕ) (value : Value)
    → HasForm known → HoldsBy known vs heap number array → number_of value ≡ Some n
    → YieldsSome known.facts (facts_made known.facts o) number (λ r. is_no_array (array r)) (expr_made o) n
    → HoldsOn (Some known) (option_map (on_top known) o) (vs ++ value ∷ []) heap number array
top_keeps n known o vs heap number array value form holds is yields =
    each_yields known.facts o number (λ r. is_no_array (array r)) n (λ o. HoldsOn (Some known) (option_map (on_top known) o) (vs ++ value ∷ []) heap number array) yields
    (λ made more. made_holds known made (known.variables ++ vars.Number made.expr ∷ []) vs (vs ++ value ∷ []) heap number array n form holds more
    (λ later have worth_is. have_pushed later array known.variables vs (vars.Number made.expr) value have (is ∙ ap (λ (m : ℤ). Some m) (sym worth_is))))

pub number_keeps : (lo hi n : ℤ) (known : StateFacts) (vs : List Value) (heap : Heap) (number : ℕ → ℤ) (array : ℕ → Option ℕ) (value : Value)
    → HasForm known → HoldsBy known vs heap number array → number_of value ≡ Some n → FitsSigned w32 n → lo ≤ℤ n → n ≤ℤ hi
    → HoldsOn (Some known) (with_number lo hi known) (vs ++ value ∷ []) heap number array
unfolding with_number
number_keeps lo hi n known vs heap number array value form holds is fits above below =
    top_keeps n known (fresh known.facts lo hi None []) vs heap number array value form holds is
    (fresh_yields known.facts lo hi n number (λ r. is_no_array (array r)) form.named holds.facts fits above below)

-- ---- puts

stays_byte : (n : ℤ) → pos 0 ≤ℤ n → n ≤ℤ pos 255 → int_rem_euclid n (pos 256) ≡ n
stays_byte (pos n) above below = omega (arith, ints, below)
stays_byte (negsuc n) above below = absurd (omega (arith, ints, above))

pub same_with : (facts : Facts) (number : ℕ → ℤ) (is_null : ℕ → Bool) (e : Expr) (n : ℤ) → Holds facts number is_null → worth number e ≡ n
    → HoldsWith facts facts number is_null e n
same_with facts number is_null e n holds is = record { later = number; agrees = λ s there. refl; holds = holds; is = is }

in_byte : (facts : Facts) (number : ℕ → ℤ) (is_null : ℕ → Bool) (e : Expr) → IsNamed facts e → Holds facts number is_null → is_byte (range_of facts e) ≡ true
    → worth number e ≡ int_rem_euclid (worth number e) (pos 256)
in_byte facts number is_null e there holds is =
    let parts = and_parts (int_le (pos 0) (range_of facts e).lo) _ is in
    let has = range_has facts number e holds.allowed there in
    sym (stays_byte (worth number e) (omega (arith, ints, parts.0, has.above)) (omega (arith, ints, parts.1, has.below)))

-- a byte that is made is the low byte of what is put
pub byte_placed : (known : StateFacts) (e : Expr) (number : ℕ → ℤ) (is_null : ℕ → Bool) (P : Option Made → Type 0) → HasForm known → IsNamed known.facts e
    → Holds known.facts number is_null
    → ((made : Made) → HoldsWith known.facts made.facts number is_null made.expr (int_rem_euclid (worth number e) (pos 256)) → P (Some made))
    → P (placed known.facts e places.Bool)
unfolding placed
byte_placed known e number is_null P form there holds next =
    cond_both (is_byte (range_of known.facts e)) _ _ P
    (λ is. next (record { expr = e; facts = known.facts })
    (same_with known.facts number is_null e (int_rem_euclid (worth number e) (pos 256)) holds (in_byte known.facts number is_null e there holds is)))
    (λ other.
    let byte = low_bits_are_byte (worth number e) in
    each_yields known.facts (fresh known.facts (pos 0) (pos 255) None []) number is_null (int_rem_euclid (worth number e) (pos 256)) P
    (fresh_yields known.facts (pos 0) (pos 255) (int_rem_euclid (worth number e) (pos 256)) number is_null form.named holds (byte_fits _ byte) byte.0
    (omega (arith, ints, byte.1)))
    next)

put_number_keeps : (known : StateFacts) (i : ℕ) (made : Made) (vs : List Value) (heap : Heap) (number : ℕ → ℤ) (array : ℕ → Option ℕ) (n : ℤ) (value : Value)
    → HasForm known → HoldsBy known vs heap number array → number_of value ≡ Some n
    → HoldsWith known.facts made.facts number (λ r. is_no_array (array r)) made.expr n
    → HoldsOn (Some known) (Some (in_variable known i made)) (set vs i value) heap number array
put_number_keeps known i made vs heap number array n value form holds is more =
    made_holds known made (set known.variables i (vars.Number made.expr)) vs (set vs i value) heap number array n form holds more
    (λ later have worth_is. have_set later array known.variables vs i (vars.Number made.expr) value have (is ∙ ap (λ (m : ℤ). Some m) (sym worth_is)))

same_value : (x y : Value) → Some x ≡ Some y → x ≡ y
same_value x y is = cc

same_number : (m n : ℤ) → Some m ≡ Some n → m ≡ n
same_number m n is = cc

no_value : {X : Type 0} (x : X) → None ≡ Some x → ⊥
no_value x is = cc

-- a number that is put into a place, by the value
put_made : (place : Place) (known : StateFacts) (i : ℕ) (e : Expr) (vs : List Value) (heap : Heap) (number : ℕ → ℤ) (array : ℕ → Option ℕ) (value stored : Value)
    → HasForm known → IsNumber (length known.facts.ranges) e → HoldsBy known vs heap number array → number_of value ≡ Some (worth number e)
    → machine.put heap place value ≡ Some stored → HoldsOn (Some known) (with_placed i e place known) (set vs i stored) heap number array
unfolding with_placed placed
put_made places.Bool known i e vs heap number array (values.Int n) stored form named holds has is =
    let low = int_rem_euclid (worth number e) (pos 256) in
    let stored_is : values.Int low ≡ stored = ap (λ (m : ℤ). values.Int (int_rem_euclid m (pos 256))) (sym (same_number n (worth number e) has)) ∙ same_value _ stored is in
    subst (λ (s : Value). HoldsOn (Some known) (option_map (in_variable known i) (placed known.facts e places.Bool)) (set vs i s) heap number array) stored_is
    (byte_placed known e number (λ r. is_no_array (array r)) (λ o. HoldsOn (Some known) (option_map (in_variable known i) o) (set vs i (values.Int low)) heap number array)
    form named.there holds.facts
    (λ made more. put_number_keeps known i made vs heap number array low (values.Int low) form holds refl more))
put_made places.Int known i e vs heap number array (values.Int n) stored form named holds has is =
    put_number_keeps known i (record { expr = e; facts = known.facts }) vs heap number array (worth number e) stored form holds
    (ap number_of (sym (same_value _ stored is)) ∙ has) (same_with known.facts number (λ r. is_no_array (array r)) e (worth number e) holds.facts refl)
put_made places.Void known i e vs heap number array (values.Int n) stored form named holds has is = elim (no_value stored is) [ ]
put_made places.Bools known i e vs heap number array (values.Int n) stored form named holds has is = elim (no_value stored is) [ ]
put_made places.Ints known i e vs heap number array (values.Int n) stored form named holds has is = elim (no_value stored is) [ ]
put_made places.Bool known i e vs heap number array (values.Native n) stored form named holds has is = elim (no_value stored is) [ ]
put_made places.Int known i e vs heap number array (values.Native n) stored form named holds has is = elim (no_value stored is) [ ]
put_made places.Void known i e vs heap number array (values.Native n) stored form named holds has is = elim (no_value stored is) [ ]
put_made places.Bools known i e vs heap number array (values.Native n) stored form named holds has is = elim (no_value stored is) [ ]
put_made places.Ints known i e vs heap number array (values.Native n) stored form named holds has is = elim (no_value stored is) [ ]
put_made place known i e vs heap number array values.Null stored form named holds has is = elim (no_value _ has) [ ]
put_made place known i e vs heap number array (values.Array a) stored form named holds has is = elim (no_value _ has) [ ]
put_made place known i e vs heap number array (values.Addr a n) stored form named holds has is = elim (no_value _ has) [ ]
put_made place known i e vs heap number array values.Text stored form named holds has is = elim (no_value _ has) [ ]

-- a reference is put as it is
put_reference : (place : Place) (heap : Heap) (value stored : Value) (a : Option ℕ) → reference_of value ≡ Some a → machine.put heap place value ≡ Some stored
    → value ≡ stored
put_reference places.Bools heap values.Null stored a has is = same_value _ stored is
put_reference places.Ints heap values.Null stored a has is = same_value _ stored is
put_reference places.Void heap values.Null stored a has is = elim (no_value stored is) [ ]
put_reference places.Bool heap values.Null stored a has is = elim (no_value stored is) [ ]
put_reference places.Int heap values.Null stored a has is = elim (no_value stored is) [ ]
put_reference places.Bools heap (values.Array i) stored a has is =
    cond_both (has_array heap places.Bools i) _ _ (λ (o : Option Value). o ≡ Some stored → values.Array i ≡ stored) (λ e so. same_value _ stored so)
    (λ e so. elim (no_value stored so) [ ]) is
put_reference places.Ints heap (values.Array i) stored a has is =
    cond_both (has_array heap places.Ints i) _ _ (λ (o : Option Value). o ≡ Some stored → values.Array i ≡ stored) (λ e so. same_value _ stored so)
    (λ e so. elim (no_value stored so) [ ]) is
put_reference places.Void heap (values.Array i) stored a has is = elim (no_value stored is) [ ]
put_reference places.Bool heap (values.Array i) stored a has is = elim (no_value stored is) [ ]
put_reference places.Int heap (values.Array i) stored a has is = elim (no_value stored is) [ ]
put_reference place heap (values.Int n) stored a has is = elim (no_value a has) [ ]
put_reference place heap (values.Native n) stored a has is = elim (no_value a has) [ ]
put_reference place heap (values.Addr b n) stored a has is = elim (no_value a has) [ ]
put_reference place heap values.Text stored a has is = elim (no_value a has) [ ]

no_text : (place : Place) (heap : Heap) (stored : Value) → machine.put heap place values.Text ≡ Some stored → ⊥
no_text places.Void heap stored is = no_value stored is
no_text places.Bool heap stored is = no_value stored is
no_text places.Int heap stored is = no_value stored is
no_text places.Bools heap stored is = no_value stored is
no_text places.Ints heap stored is = no_value stored is

no_address : (place : Place) (heap : Heap) (value stored : Value) (x : Option ℕ × ℤ) → address_of value ≡ Some x
    → machine.put heap place value ≡ Some stored → ⊥
no_address places.Void heap (values.Addr a n) stored x has is = no_value stored is
no_address places.Bool heap (values.Addr a n) stored x has is = no_value stored is
no_address places.Int heap (values.Addr a n) stored x has is = no_value stored is
no_address places.Bools heap (values.Addr a n) stored x has is = no_value stored is
no_address places.Ints heap (values.Addr a n) stored x has is = no_value stored is
no_address place heap (values.Int n) stored x has is = no_value x has
no_address place heap (values.Native n) stored x has is = no_value x has
no_address place heap values.Null stored x has is = no_value x has
no_address place heap (values.Array a) stored x has is = no_value x has
no_address place heap values.Text stored x has is = no_value x has

pub same_choice : (known after : StateFacts) (vs : List Value) (heap : Heap) (number : ℕ → ℤ) (array : ℕ → Option ℕ) → HoldsBy after vs heap number array
    → HoldsOn (Some known) (Some after) vs heap number array
same_choice known after vs heap number array holds =
    record { later = number; later_array = array; agrees = λ s there. refl; agrees_arrays = λ r there. refl; holds = holds }

set_keeps : (i : ℕ) (v : Var) (known : StateFacts) (vs : List Value) (heap : Heap) (number : ℕ → ℤ) (array : ℕ → Option ℕ) (value : Value)
    → HoldsBy known vs heap number array → HasValue number array v value → HoldsOn (Some known) (Some (record known { variables = set known.variables i v })) (set vs i value) heap number array
set_keeps i v known vs heap number array value holds has =
    same_choice known _ (set vs i value) heap number array (record {
      null = holds.null;
      facts = holds.facts;
      variables = have_set number array known.variables vs i v value holds.variables has;
      references = holds.references;
      apart = holds.apart;
      contents = holds.contents;
    })

with_put_keeps : (i : ℕ) (v : Var) (place : Place) (known : StateFacts) (vs : List Value) (heap : Heap) (number : ℕ → ℤ) (array : ℕ → Option ℕ) (value stored : Value)
    → HasForm known → IsVar (length known.facts.ranges) (length known.references) v → HoldsBy known vs heap number array → HasValue number array v value
    → machine.put heap place value ≡ Some stored → HoldsOn (Some known) (with_put i v place known) (set vs i stored) heap number array
unfolding with_put
with_put_keeps i (vars.Number e) place known vs heap number array value stored form named holds has is =
    put_made place known i e vs heap number array value stored form named holds has is
with_put_keeps i (vars.Reference r) place known vs heap number array value stored form named holds has is =
    let same = put_reference place heap value stored (array r) has is in
    set_keeps i (vars.Reference r) known vs heap number array stored holds (subst (λ (x : Value). reference_of x ≡ Some (array r)) same has)
with_put_keeps i vars.Text place known vs heap number array value stored form named holds has is =
    elim (no_text place heap stored (subst (λ (x : Value). machine.put heap place x ≡ Some stored) has is)) [ ]
with_put_keeps i (vars.Address r e) place known vs heap number array value stored form named holds has is =
    elim (no_address place heap value stored (array r, worth number e) has is) [ ]

pub put_keeps : (i : ℕ) (v : Var) (place : Place) (state : State) → ForSome state HasForm
    → ForSome state (λ known. IsVar (length known.facts.ranges) (length known.references) v) → KeepsPut i v place state (calls.put i v place state)
put_keeps i v place None form named = λ vs heap number array value stored holds has is. elim holds [ ]
put_keeps i v place (Some known) form named = λ vs heap number array value stored holds has is.
    with_put_keeps i v place known vs heap number array value stored (form known refl) (named known refl) holds has is
