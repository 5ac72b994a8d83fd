-- What is known of the arguments and the locals alone, where a method begins.
use Rattle.std.proofs.Common.{◌≡◌, ℕ, zero, suc, ◌≤◌, ℤ, pos, ◌+ℤ◌, List, [], ◌∷◌, ◌++◌, map, Option, Some, None, refl, sym, ap, subst, append-nil, append_assoc, arith}
use Rattle.std.specs.List.{AllByRecursion}
use Rattle.std.specs.Option.{ForSome, option_map}
use Rattle.std.proofs.lemmas.Int.{ints}
use Rattle.std.proofs.lemmas.Option.{none-some, same_Some}
use Rattle.cil_model.specs.Values.{FitPlaces, Heap, IsHeap, zero_of}
use Rattle.cil_model.specs.WellFormed.{HoldValues, IsWellFormed}
use Rattle.cil_model.specs.declared.machine.Value.{Value}
use Rattle.cil_model.specs.declared.place.Kind.{Kind}
use Rattle.cil_model.specs.declared.place.Place.{Place}
use Rattle.cil_model.specs.declared.place.Place.TheVariants as places
use Rattle.cil_model.specs.declared.unit.Unit.{Unit as MethodUnit}
use Rattle.frame_names.specs.declared.reference.Reference.{Reference}
use Rattle.frame_names.specs.declared.var.Var.{Var}
use Rattle.merged_states.specs.Following.{HoldsOver}
use Rattle.merged_states.specs.Laws.Numbers.{zero_is}
use Rattle.number_facts.specs.Facts.{range_at}
use Rattle.number_spans.specs.Stored.{Allows}
use Rattle.state_facts.proofs.Growing.{grown, same_facts}
use Rattle.state_facts.proofs.UnknownValues.{unknown_is_kept}
use Rattle.state_facts.specs.Forms.{HasForm, HasVar}
use Rattle.state_facts.specs.Holds.{HaveValues}
use Rattle.state_facts.specs.StateFacts.{StateFacts, State, reference_at}
use Rattle.state_facts.specs.UnknownValues.{push_unknown}
use Rattle.transfer_rules.specs.Entry.{begun, no_variables, twice, with_more, with_unknown, zero_in}
use Rattle.transfer_rules.specs.Forms.{FitKinds, FitsKind, FitsStack, HasKinds, kind_in}
use Rattle.transfer_rules.specs.Laws.Fitting.{AreKinds, fit_both, fit_stays, over_stack, places_same}
use Rattle.transfer_rules.specs.Laws.KindForms.{zero_of_place}
use Rattle.transfer_rules.specs.Laws.UnknownLaws.{no_kinds, types_kept, unknown_kept}

-- ---- lists

pub both_all : {X : Type 0} (P : X → Type 0) (xs ys : List X) → AllByRecursion P xs → AllByRecursion P ys
    → AllByRecursion P (xs ++ ys)
both_all P [] ys first second = second
both_all P (x ∷ xs) ys first second = (first.0, both_all P xs ys first.1 second)

both_have : (number : ℕ → ℤ) (array : ℕ → Option ℕ) (vs ws : List Var) (xs ys : List Value)
    → HaveValues number array vs xs
    → HaveValues number array ws ys → HaveValues number array (vs ++ ws) (xs ++ ys)
both_have number array [] ws [] ys first second = second
both_have number array [] ws (x ∷ xs) ys first second = elim first [ ]
both_have number array (v ∷ vs) ws [] ys first second = elim first [ ]
both_have number array (v ∷ vs) ws (x ∷ xs) ys first second =
    (first.0, both_have number array vs ws xs ys first.1 second)

-- ---- variables that come on top

more_kinds : (ks js : List Kind) (known : StateFacts) (vs : List Var) → HasKinds ks known
    → AllByRecursion (HasVar known) vs
    → FitKinds known js vs → HasKinds (ks ++ js) (with_more vs known)
more_kinds ks js known vs has there fits =
    let new = with_more vs known in
    let same = places_same known new refl in
    record {
      form = grown known known.facts (known.variables ++ vs) has.form (same_facts known has.form)
          (both_all (HasVar known) known.variables vs has.form.variables there);
      fit =
          fit_both new ks js known.variables vs (fit_stays known new ks known.variables same has.form.variables has.fit)
          (fit_stays known new js vs same there fits);
    }

zero_kind : (known : StateFacts) (place : Place) → FitsKind known (kind_in place) (zero_in place)
zero_kind known places.Bools = zero_of_place known places.Bools 0 refl
zero_kind known places.Ints = zero_of_place known places.Ints 0 refl
zero_kind known places.Void = tt
zero_kind known places.Bool = tt
zero_kind known places.Int = tt

zero_there : (known : StateFacts) (place : Place) → HasVar known (zero_in place)
zero_there known places.Bools = omega arith
zero_there known places.Ints = omega arith
zero_there known places.Void = record {
  there = omega arith;
  near = record { least = omega (arith, ints); greatest = omega (arith, ints) };
}
zero_there known places.Bool = record {
  there = omega arith;
  near = record { least = omega (arith, ints); greatest = omega (arith, ints) };
}
zero_there known places.Int = record {
  there = omega arith;
  near = record { least = omega (arith, ints); greatest = omega (arith, ints) };
}

zeros_fit : (known : StateFacts) (types : List Place) → FitKinds known (map kind_in types) (map zero_in types)
zeros_fit known [] = tt
zeros_fit known (place ∷ types) = (zero_kind known place, zeros_fit known types)

zeros_there : (known : StateFacts) (types : List Place) → AllByRecursion (HasVar known) (map zero_in types)
zeros_there known [] = tt
zeros_there known (place ∷ types) = (zero_there known place, zeros_there known types)

begun_from : (args locals : List Kind) (types : List Place) (state : State) → locals ≡ map kind_in types
    → AreKinds args state
    → AreKinds (args ++ args ++ locals) (option_map (with_more (map zero_in types)) (option_map twice state))
begun_from args locals types None same are = tt
begun_from args locals types (Some known) same has =
    let double = more_kinds args args known known.variables has has.form.variables has.fit in
    more_kinds (args ++ args) locals (twice known) (map zero_in types) double (zeros_there (twice known) types)
    (subst (λ ks. FitKinds (twice known) ks (map zero_in types)) (sym same) (zeros_fit (twice known) types))

-- The kinds of the variables where a method begins.
abbrev pub entry_kinds : MethodUnit → List Kind
entry_kinds unit = map kind_in unit.args ++ map kind_in unit.args ++ map kind_in unit.locals

pub begun_kinds : (unit : MethodUnit) → IsWellFormed unit → AreKinds (entry_kinds unit) (begun unit)
begun_kinds unit formed =
    begun_from (map kind_in unit.args) (map kind_in unit.locals) unit.locals
    (with_unknown unit.args (Some no_variables)) refl
    (types_kept unit.args [] (Some no_variables) formed.args no_kinds)

-- Nothing is on the stack there.
pub on_no_stack : (unit : MethodUnit) (state : State) → AreKinds (entry_kinds unit) state
    → FitsStack unit (Some []) state
on_no_stack unit state are =
    over_stack unit [] state (subst (λ ks. AreKinds ks state) (sym (append-nil (entry_kinds unit))) are)

pub begun_fits : (unit : MethodUnit) → IsWellFormed unit → FitsStack unit (Some []) (begun unit)
begun_fits unit formed = on_no_stack unit (begun unit) (begun_kinds unit formed)

-- ---- what holds

pub forms_of : (ks : List Kind) (state : State) → AreKinds ks state → ForSome state HasForm
forms_of ks None are = λ x is. absurd (none-some x is)
forms_of ks (Some known) has = λ x is. subst HasForm (same_Some known x is) has.form

no_range : (s : ℕ) → s ≤ 0 → Allows (range_at (no_variables.facts) s) (pos 0)
unfolding range_at
no_range zero there = record { above = omega (arith, ints); below = omega (arith, ints); no_hole = λ none. cc }
no_range (suc s) there = absurd (omega (arith, there))

no_reference : (r : ℕ) (known : Reference) → reference_at [] r ≡ Some known → ⊥
unfolding reference_at
no_reference zero known is = none-some known is
no_reference (suc r) known is = none-some known is

nothing_over : (heap : Heap) → HoldsOver (Some no_variables) [] heap
nothing_over heap = record {
  number = λ s. pos 0;
  array = λ r. None;
  holds = record {
    null = refl;
    facts = record { allowed = record { ranges = λ s there. no_range s there; bounds = tt }; definitions = tt };
    variables = tt;
    references = λ r known is. absurd (no_reference r known is);
    apart = tt;
    contents = λ i segments is. absurd (none-some segments is);
  };
}

types_over : (types : List Place) (ks : List Kind) (state : State) (vs xs : List Value) (heap : Heap) → HoldValues types
    → AreKinds ks state
    → HoldsOver state vs heap → IsHeap heap → FitPlaces heap types xs
    → HoldsOver (with_unknown types state) (vs ++ xs) heap
types_over [] ks state vs [] heap hold are over is fit = subst (λ l. HoldsOver state l heap) (sym (append-nil vs)) over
types_over [] ks state vs (x ∷ xs) heap hold are over is fit = elim fit [ ]
types_over (place ∷ types) ks state vs [] heap hold are over is fit = elim fit [ ]
types_over (place ∷ types) ks state vs (x ∷ xs) heap hold are over is fit =
    let step =
    unknown_is_kept place state (forms_of ks state are) vs heap over.number over.array x over.holds is fit.0 in
    let next : HoldsOver (push_unknown place state) (vs ++ x ∷ []) heap =
    record { number = step.later; array = step.later_array; holds = step.holds } in
    subst (λ l. HoldsOver (with_unknown types (push_unknown place state)) l heap) (append_assoc vs (x ∷ []) xs)
    (types_over types (ks ++ kind_in place ∷ []) (push_unknown place state) (vs ++ x ∷ []) xs heap hold.1
    (unknown_kept ks place state hold.0 are) next is fit.1)

zero_number : (n : ℤ) → n ≡ pos 0 → pos 0 ≡ n +ℤ pos 0
zero_number n is = omega (arith, ints, is)

zeros_have : (number : ℕ → ℤ) (array : ℕ → Option ℕ) (types : List Place) → number 0 ≡ pos 0 → array 0 ≡ None
    → HaveValues number array (map zero_in types) (map zero_of types)
zeros_have number array [] origin null = tt
zeros_have number array (places.Bools ∷ types) origin null =
    (ap Some (sym null), zeros_have number array types origin null)
zeros_have number array (places.Ints ∷ types) origin null =
    (ap Some (sym null), zeros_have number array types origin null)
zeros_have number array (places.Void ∷ types) origin null =
    (ap Some (zero_number (number 0) origin), zeros_have number array types origin null)
zeros_have number array (places.Bool ∷ types) origin null =
    (ap Some (zero_number (number 0) origin), zeros_have number array types origin null)
zeros_have number array (places.Int ∷ types) origin null =
    (ap Some (zero_number (number 0) origin), zeros_have number array types origin null)

both_over : (types : List Place) (state : State) (xs : List Value) (heap : Heap) → HoldsOver state xs heap
    → HoldsOver (option_map (with_more (map zero_in types)) (option_map twice state))
    (xs ++ xs ++ map zero_of types) heap
both_over types None xs heap over = elim over.holds [ ]
both_over types (Some known) xs heap over =
    let so = over.holds in
    let number = over.number in
    let array = over.array in
    record {
      number = number;
      array = array;
      holds = record {
        null = so.null;
        facts = so.facts;
        variables =
            both_have number array (known.variables ++ known.variables) (map zero_in types) (xs ++ xs)
            (map zero_of types)
            (both_have number array known.variables known.variables xs xs so.variables so.variables)
            (zeros_have number array types (zero_is known.facts number so.facts.allowed) so.null);
        references = so.references;
        apart = so.apart;
        contents = so.contents;
      };
    }

pub begun_over : (unit : MethodUnit) (args : List Value) (heap : Heap) → IsWellFormed unit → IsHeap heap
    → FitPlaces heap unit.args args
    → HoldsOver (begun unit) (args ++ args ++ map zero_of unit.locals) heap
begun_over unit args heap formed is fit =
    both_over unit.locals (with_unknown unit.args (Some no_variables)) args heap
    (types_over unit.args [] (Some no_variables) [] args heap formed.args no_kinds (nothing_over heap) is fit)
