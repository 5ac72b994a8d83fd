-- Moves of the code, of a state that may be reached or not.
use Rattle.std.proofs.Common.{◌≡◌, ◌≤◌, ◌<◌, ℕ, Bool, true, false, nat_lt, Option, Some, None, length, refl, sym, ap, subst, ◌∙◌, arith, slice_get}
use Rattle.std.specs.Prelude.{if◌then◌else◌, reverse}
use Rattle.std.specs.Option.{ForSome, option_and_then}
use Rattle.std.proofs.lemmas.Option.{slice_get_past}
use Rattle.cil_model.specs.declared.place.Place.{Place}
use Rattle.frame_names.specs.declared.var.Var.{Var}
use Rattle.state_facts.specs.StateFacts.{StateFacts, State, variables_in}
use Rattle.state_facts.specs.States as states
use Rattle.transfer_rules.specs.Acts.{duplicated, given, loaded, put_into, stored}
use Rattle.transfer_rules.specs.Operands.{Took, on_one, with_one}

-- ---- variables

pub load_is : (i : ℕ) (v : Var) (state : State) → slice_get (variables_in state) i ≡ Some v → states.push v state ≡ option_and_then (loaded i) state
unfolding loaded
load_is i v None there = refl
load_is i v (Some known) there = ap (λ (o : Option Var). with_one given o known) (sym there)

pub load_past : (i : ℕ) (state : State) → length (variables_in state) ≤ i → None ≡ option_and_then (loaded i) state
unfolding loaded
load_past i None past = refl
load_past i (Some known) past = ap (λ (o : Option Var). with_one given o known) (sym (slice_get_past known.variables i past))

pub double_is : (v : Var) (state : State) → Some v ≡ slice_get (reverse (variables_in state)) 0 → states.push v state ≡ option_and_then duplicated state
unfolding duplicated
double_is v None there = refl
double_is v (Some known) there = ap (λ (o : Option Var). with_one given o known) there

pub double_none : (state : State) → None ≡ slice_get (reverse (variables_in state)) 0 → None ≡ option_and_then duplicated state
unfolding duplicated
double_none None none = refl
double_none (Some known) none = ap (λ (o : Option Var). with_one given o known) none

-- ---- puts

put_there : (i : ℕ) (place : Place) (v : Var) (known : StateFacts) (is : Bool) → nat_lt i (length known.variables) ≡ is
    → (if is then states.put i v place (Some known) else None) ≡ put_into i place v known
put_there i place v known is same = ap (λ (b : Bool). if b then states.put i v place (Some known) else None) (sym same)

pub put_is : (i : ℕ) (place : Place) (v : Var) (state : State) → i < length (variables_in state)
    → states.put i v place state ≡ option_and_then (put_into i place v) state
put_is i place v None within = refl
put_is i place v (Some known) within = put_there i place v known true (grind (arith, within))

pub put_past : (i : ℕ) (place : Place) (v : Var) (state : State) → length (variables_in state) ≤ i → None ≡ option_and_then (put_into i place v) state
put_past i place v None past = refl
put_past i place v (Some known) past = put_there i place v known false (grind (arith, past))

pub within_there : (i : ℕ) (state : State) → i < length (variables_in state) → ForSome state (λ known. i < length known.variables)
within_there i None within = λ x is. absurd cc
within_there i (Some known) within = λ x is. subst (λ (k : StateFacts). i < length k.variables) (same known x is) within
  where
    same : (a b : StateFacts) → Some a ≡ Some b → a ≡ b
    same a b e = cc

on_stored : (i : ℕ) (place : Place) (state : State) → option_and_then (on_one (put_into i place)) state ≡ option_and_then (stored i place) state
unfolding stored
on_stored i place None = refl
on_stored i place (Some known) = refl

pub store_is : (i : ℕ) (place : Place) (v : Var) (state after : State) → Took (Some v) state after
    → option_and_then (put_into i place v) after ≡ option_and_then (stored i place) state
store_is i place v state after took = sym (took (put_into i place)) ∙ on_stored i place state

pub store_none : (i : ℕ) (place : Place) (state after : State) → Took None state after → None ≡ option_and_then (stored i place) state
store_none i place state after took = sym (took (put_into i place)) ∙ on_stored i place state

pub ruleset moving = (load_is, load_past, double_is, double_none, put_is, put_past, within_there, store_is, store_none)
