-- Addresses of which little is known: their form, and what they keep.
use Rattle.std.proofs.Common.{◌≡◌, ℕ, ◌+◌, ◌≤◌, nat_lt, ℤ, pos, ◌≤ℤ◌, true, false, Option, Some, None, List, [], ◌∷◌, ◌++◌, length, refl, subst, ◌∙◌, arith}
use Rattle.std.specs.Prelude.{slice_get}
use Rattle.std.specs.Option.{ForSome, option_and_then, option_map, option_map_or}
use Rattle.std.proofs.lemmas.Bool.{false≢true}
use Rattle.std.proofs.lemmas.Int.{ints}
use Rattle.alias_facts.specs.Arrays.{is_no_array}
use Rattle.cil_model.proofs.HeapsKept.{array_of_heap, item_within}
use Rattle.cil_model.specs.Values.{HasItemOf, Heap, IsHeap, has_item}
use Rattle.cil_model.specs.declared.machine.ArrayCell.{ArrayCell}
use Rattle.cil_model.specs.declared.machine.Value.{Value}
use Rattle.cil_model.specs.declared.machine.Value.TheVariants as values
use Rattle.cil_model.specs.declared.place.Place.{Place}
use Rattle.frame_names.specs.declared.var.Var.TheVariants as vars
use Rattle.number_facts.specs.Fresh.{Made, fresh}
use Rattle.symbolic_values.specs.Worth.{worth}
use Rattle.state_facts.specs.Calls.{returned, with_returned}
use Rattle.state_facts.specs.Forms.{HasForm, IsArrayPlace, IsVar}
use Rattle.state_facts.specs.Holds.{HoldsBy, address_of}
use Rattle.state_facts.specs.Keeps.{HoldsOn, references_in, symbols_in}
use Rattle.state_facts.specs.StateFacts.{StateFacts, State}
use Rattle.state_facts.specs.UnknownValues as rule
use Rattle.state_facts.specs.UnknownValues.{KeepsUnknownAddress, addressed, with_index, with_unknown_address}
use Rattle.state_facts.proofs.Agreeing.{have_before, have_pushed, made_holds, pairs_agree}
use Rattle.state_facts.proofs.ArraysHold.{earlier_same, returned_keeps, with_one}
use Rattle.state_facts.proofs.Growing.{Formed, all_pushed, all_weaker, grown, one_longer, var_stays}
use Rattle.state_facts.proofs.MadeNumbers.{EachMade, IsMade, each_formed, fresh_made, made_grows}
use Rattle.state_facts.proofs.MoveForms.{more_ends, returned_formed}
use Rattle.state_facts.proofs.MovesHold.{each_yields, fresh_yields}

-- ---- their form

-- what is known is formed where an array came, and where its reference is not on top but an address
came_form : (place : Place) (known : StateFacts) (made : Made) → HasForm known → IsArrayPlace place → IsMade known.facts made
    → HasForm (returned known.apart place known made)
came_form place known made form fits is = returned_formed known.apart place known made form fits (more_ends known form) is

addressed_form : (place : Place) (known : StateFacts) (made index : Made) → HasForm known → IsArrayPlace place → IsMade known.facts made
    → IsMade made.facts index → HasForm (addressed known (returned known.apart place known made) index)
addressed_form place known made index form fits is so =
    let later = returned known.apart place known made in
    let later_form = came_form place known made form fits is in
    let size : length later.references ≡ length known.references + 1 = one_longer known.references _ in
    let more : length known.facts.ranges ≤ length made.facts.ranges = is.form.there in
    let still_more : length made.facts.ranges ≤ length index.facts.ranges = so.form.there in
    grown later index.facts _ later_form (made_grows later index later_form so)
    (all_pushed (IsVar (length index.facts.ranges) (length later.references)) known.variables (vars.Address (length known.references + 1) index.expr)
    (all_weaker (IsVar (length known.facts.ranges) (length known.references)) (IsVar (length index.facts.ranges) (length later.references)) known.variables
    (λ v has.
    var_stays (length known.facts.ranges) (length index.facts.ranges) (length known.references) (length later.references) v
    (omega (arith, more, still_more)) (omega (arith, size)) has)
    form.variables)
    (omega (arith, size), so.number))

pub unknown_address_form : (place : Place) (known : StateFacts) → HasForm known → IsArrayPlace place → Formed (with_unknown_address place known)
unfolding with_unknown_address with_returned
unknown_address_form place known form fits = each (fresh known.facts (pos 0) (pos 2147483647) None []) (fresh_made known.facts (pos 0) (pos 2147483647))
  where
    each : (o : Option Made) → EachMade known.facts o → Formed (option_and_then (with_index known) (option_map (returned known.apart place known) o))
    each None made = tt
    each (Some made) is =
        each_formed made.facts (fresh made.facts (pos 0) (pos 2147483647) None []) (addressed known (returned known.apart place known made))
        (fresh_made made.facts (pos 0) (pos 2147483647)) (λ index so. addressed_form place known made index form fits is so)

-- ---- what they keep

item_small : (heap : Heap) (a n : ℕ) → IsHeap heap → has_item heap a n ≡ true → pos n ≤ℤ pos 2147483646
item_small heap a n is_heap has = each (slice_get heap a) refl
  where
    each : (o : Option ArrayCell) → slice_get heap a ≡ o → pos n ≤ℤ pos 2147483646
    each None is =
        absurd (false≢true (subst (λ (o : Option ArrayCell). option_map_or (λ (c : ArrayCell). nat_lt n (length c.items)) o false ≡ true) is has))
    each (Some cell) is =
        let short = (array_of_heap heap a cell is_heap is).1 in
        let within = item_within heap a n cell is has in
        omega (arith, ints, short, within)

-- a choice that says more of what is between says more of what was before
then_holds : (before between after : State) (xs ys : List Value) (heap : Heap) (number : ℕ → ℤ) (array : ℕ → Option ℕ)
    → symbols_in before ≤ symbols_in between → references_in before ≤ references_in between
    → (first : HoldsOn before between xs heap number array) → HoldsOn between after ys heap first.later first.later_array
    → HoldsOn before after ys heap number array
then_holds before between after xs ys heap number array symbols references first second = record {
  later = second.later;
  later_array = second.later_array;
  agrees = λ s there. second.agrees s (omega (arith, there, symbols)) ∙ first.agrees s there;
  agrees_arrays = λ r there. second.agrees_arrays r (omega (arith, there, references)) ∙ first.agrees_arrays r there;
  holds = second.holds;
}

-- the address, where the reference is this array
address_is : (a n : ℕ) (o : Option ℕ) (m : ℤ) → Some (Some a) ≡ Some o → m ≡ pos n → address_of (values.Addr a n) ≡ Some (o, m)
address_is a n o m is worth_is = cc

index_keeps : (place : Place) (known : StateFacts) (made : Made) (vs : List Value) (heap : Heap) (number : ℕ → ℤ) (array : ℕ → Option ℕ) (a n : ℕ)
    → HasForm known → IsArrayPlace place → IsMade known.facts made → pos n ≤ℤ pos 2147483646
    → HoldsBy (returned known.apart place known made) (vs ++ values.Array a ∷ []) heap number array
    → HoldsOn (Some (returned known.apart place known made)) (with_index known (returned known.apart place known made)) (vs ++ values.Addr a n ∷ []) heap number array
index_keeps place known made vs heap number array a n form fits is small holds =
    let later = returned known.apart place known made in
    let later_form = came_form place known made form fits is in
    let naming = vars.Reference (length known.references + 1) in
    each_yields made.facts (fresh made.facts (pos 0) (pos 2147483647) None []) number (λ r. is_no_array (array r)) (pos n)
    (λ o. HoldsOn (Some later) (option_map (addressed known later) o) (vs ++ values.Addr a n ∷ []) heap number array)
    (fresh_yields made.facts (pos 0) (pos 2147483647) (pos n) number (λ r. is_no_array (array r)) later_form.named holds.facts
    (omega (arith, ints, small)) (omega (arith, ints)) (omega (arith, ints, small)))
    (λ index more.
    made_holds later index (known.variables ++ vars.Address (length known.references + 1) index.expr ∷ []) (vs ++ values.Array a ∷ [])
    (vs ++ values.Addr a n ∷ []) heap number array (pos n) later_form holds more
    (λ newer have worth_is.
    let before = have_before newer array known.variables vs naming (values.Array a) have in
    have_pushed newer array known.variables vs (vars.Address (length known.references + 1) index.expr) (values.Addr a n) before.0
    (address_is a n (array (length known.references + 1)) (worth newer index.expr) before.1 worth_is)))

address_so : (place : Place) (known : StateFacts) (vs : List Value) (heap : Heap) (number : ℕ → ℤ) (array : ℕ → Option ℕ) (a n : ℕ) → HasForm known
    → IsArrayPlace place → HoldsBy known vs heap number array → IsHeap heap → HasItemOf heap place a n
    → HoldsOn (Some known) (with_unknown_address place known) (vs ++ values.Addr a n ∷ []) heap number array
unfolding with_unknown_address with_returned
address_so place known vs heap number array a n form fits holds is_heap has =
    each (fresh known.facts (pos 0) (pos 2147483647) None []) (fresh_made known.facts (pos 0) (pos 2147483647))
    (returned_keeps place known known.apart vs (values.Array a) heap number array (Some a) form holds is_heap has.0 refl
    (pairs_agree (length known.facts.ranges) (length known.references) number number array (with_one array (length known.references + 1) (Some a)) known.apart
    (record { numbers = λ s there. refl; arrays = λ r there. earlier_same array (length known.references) (Some a) r there }) form.pairs holds.apart))
  where
    each : (o : Option Made) → EachMade known.facts o
        → HoldsOn (Some known) (option_map (returned known.apart place known) o) (vs ++ values.Array a ∷ []) heap number array
        → HoldsOn (Some known) (option_and_then (with_index known) (option_map (returned known.apart place known) o)) (vs ++ values.Addr a n ∷ []) heap number
        array
    each None made first = elim first.holds [ ]
    each (Some made) is first =
        let later = returned known.apart place known made in
        let size : length later.references ≡ length known.references + 1 = one_longer known.references _ in
        then_holds (Some known) (Some later) (with_index known later) (vs ++ values.Array a ∷ []) (vs ++ values.Addr a n ∷ []) heap number array
        is.form.there (omega (arith, size)) first
        (index_keeps place known made vs heap first.later first.later_array a n form fits is (item_small heap a n is_heap has.1) first.holds)

pub unknown_address_is_kept : (place : Place) (state : State) → ForSome state HasForm → IsArrayPlace place
    → KeepsUnknownAddress place state (rule.push_unknown_address place state)
unknown_address_is_kept place None form fits = λ vs heap number array a n holds is_heap has. elim holds [ ]
unknown_address_is_kept place (Some known) form fits = λ vs heap number array a n holds is_heap has.
    address_so place known vs heap number array a n (form known refl) fits holds is_heap has
