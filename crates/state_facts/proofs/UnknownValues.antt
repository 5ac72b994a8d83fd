-- Values of which little is known: their form, and what they keep.
use Rattle.std.proofs.Common.{ℕ, ◌+◌, ℤ, pos, Option, Some, None, List, [], ◌∷◌, ◌++◌, length, FitsSigned, w32, refl, arith}
use Rattle.std.specs.Prelude.{Ok}
use Rattle.std.specs.Option.{ForSome}
use Rattle.std.proofs.lemmas.Int.{ints}
use Rattle.alias_facts.specs.Arrays.{is_no_array}
use Rattle.cil_model.specs.Arithmetic.{LEAST, GREATEST}
use Rattle.cil_model.specs.Values.{FitsPlace, Heap, IsHeap}
use Rattle.cil_model.specs.declared.machine.Value.{Value}
use Rattle.cil_model.specs.declared.machine.Value.TheVariants as values
use Rattle.cil_model.specs.declared.place.Place.{Place}
use Rattle.cil_model.specs.declared.place.Place.TheVariants as places
use Rattle.number_facts.proofs.NewSymbols.{fresh_where_ok}
use Rattle.number_facts.specs.Fresh.{expr_made, facts_made, fresh}
use Rattle.number_facts.specs.Holds.{YieldsSome}
use Rattle.number_spans.specs.Spans.{Has}
use Rattle.number_spans.specs.declared.span.Span.{Span}
use Rattle.state_facts.specs.Calls.{with_returned}
use Rattle.state_facts.specs.Forms.{HasForm, IsArrayPlace}
use Rattle.state_facts.specs.Holds.{HoldsBy}
use Rattle.state_facts.specs.Keeps.{HoldsOn}
use Rattle.state_facts.specs.Moves.{on_top}
use Rattle.state_facts.specs.StateFacts.{StateFacts, State}
use Rattle.state_facts.specs.UnknownValues as rule
use Rattle.state_facts.specs.UnknownValues.{KeepsUnknown, KeepsWithin, with_unknown, with_within}
use Rattle.state_facts.proofs.Agreeing.{pairs_agree}
use Rattle.state_facts.proofs.ArraysHold.{byte_value, earlier_same, fitting_value, number_value, returned_keeps, with_one}
use Rattle.state_facts.proofs.Growing.{Formed}
use Rattle.state_facts.proofs.MadeNumbers.{each_formed, made_grows, on_top_form, within_made}
use Rattle.state_facts.proofs.MoveForms.{more_ends, number_form, returned_form}
use Rattle.state_facts.proofs.MovesHold.{number_keeps, top_keeps}

-- ---- their form

pub within_form : (r : Span) (known : StateFacts) → HasForm known → Formed (with_within r known)
unfolding with_within
within_form r known form =
    each_formed known.facts (fresh known.facts r.lo r.hi r.hole []) (on_top known) (within_made known.facts r.lo r.hi r.hole)
    (λ made is. on_top_form known made form (made_grows known made form is) is.number)

pub unknown_form : (place : Place) (known : StateFacts) → HasForm known → Formed (with_unknown place known)
unfolding with_unknown
unknown_form places.Void known form = form
unknown_form places.Bool known form = number_form _ _ known form
unknown_form places.Int known form = number_form _ _ known form
unknown_form places.Bools known form = returned_form known.apart places.Bools known form tt (more_ends known form)
unknown_form places.Ints known form = returned_form known.apart places.Ints known form tt (more_ends known form)

-- ---- numbers of a span

within_yields : (r : Span) (n : ℤ) (known : StateFacts) (vs : List Value) (heap : Heap) (number : ℕ → ℤ) (array : ℕ → Option ℕ)
    → HasForm known → HoldsBy known vs heap number array → FitsSigned w32 n → Has r n
    → YieldsSome known.facts (facts_made known.facts (fresh known.facts r.lo r.hi r.hole [])) number (λ q. is_no_array (array q))
    (expr_made (fresh known.facts r.lo r.hi r.hole [])) n
within_yields r n known vs heap number array form holds fits has =
    fresh_where_ok {E = ℕ} known.facts r.lo r.hi r.hole (Ok (expr_made (fresh known.facts r.lo r.hi r.hole [])))
    (facts_made known.facts (fresh known.facts r.lo r.hi r.hole [])) refl refl
    number (λ q. is_no_array (array q)) n form.named holds.facts fits has.above has.below has.no_hole

within_so : (r : Span) (n : ℤ) (known : StateFacts) (vs : List Value) (heap : Heap) (number : ℕ → ℤ) (array : ℕ → Option ℕ)
    → HasForm known → HoldsBy known vs heap number array → FitsSigned w32 n → Has r n
    → HoldsOn (Some known) (with_within r known) (vs ++ values.Int n ∷ []) heap number array
unfolding with_within
within_so r n known vs heap number array form holds fits has =
    top_keeps n known (fresh known.facts r.lo r.hi r.hole []) vs heap number array (values.Int n) form holds refl
    (within_yields r n known vs heap number array form holds fits has)

pub within_is_kept : (r : Span) (state : State) → ForSome state HasForm → KeepsWithin r state (rule.push_within r state)
within_is_kept r None form = λ vs heap number array n holds fits has. elim holds [ ]
within_is_kept r (Some known) form = λ vs heap number array n holds fits has.
    within_so r n known vs heap number array (form known refl) holds fits has

-- ---- values of a type

-- an array that may be each one that is there, or null, with a length of its own
any_array : (place : Place) (known : StateFacts) (vs : List Value) (heap : Heap) (number : ℕ → ℤ) (array : ℕ → Option ℕ) (value : Value)
    → HasForm known → IsArrayPlace place → HoldsBy known vs heap number array → IsHeap heap → FitsPlace heap place value
    → HoldsOn (Some known) (with_returned known.apart place known) (vs ++ value ∷ []) heap number array
any_array place known vs heap number array value form fits_place holds is_heap fits =
    let count = length known.references in
    let found = fitting_value heap place value fits_place fits in
    returned_keeps place known known.apart vs value heap number array found.0 form holds is_heap found.2 found.1
    (pairs_agree (length known.facts.ranges) count number number array (with_one array (count + 1) found.0) known.apart
    (record { numbers = λ s there. refl; arrays = λ r there. earlier_same array count found.0 r there }) form.pairs holds.apart)

unknown_so : (place : Place) (known : StateFacts) (vs : List Value) (heap : Heap) (number : ℕ → ℤ) (array : ℕ → Option ℕ) (value : Value)
    → HasForm known → HoldsBy known vs heap number array → IsHeap heap → FitsPlace heap place value
    → HoldsOn (Some known) (with_unknown place known) (vs ++ value ∷ []) heap number array
unfolding with_unknown
unknown_so places.Void known vs heap number array value form holds is_heap fits = elim fits [ ]
unknown_so places.Bool known vs heap number array value form holds is_heap fits =
    let found = byte_value heap value fits in
    number_keeps (pos 0) (pos 255) found.0 known vs heap number array value form holds found.1
    (omega (arith, ints, found.2.0, found.2.1)) found.2.0 (omega (arith, ints, found.2.1))
unknown_so places.Int known vs heap number array value form holds is_heap fits =
    let found = number_value heap value fits in
    number_keeps LEAST GREATEST found.0 known vs heap number array value form holds found.1 found.2
    (omega (arith, ints, found.2)) (omega (arith, ints, found.2))
unknown_so places.Bools known vs heap number array value form holds is_heap fits =
    any_array places.Bools known vs heap number array value form tt holds is_heap fits
unknown_so places.Ints known vs heap number array value form holds is_heap fits =
    any_array places.Ints known vs heap number array value form tt holds is_heap fits

pub unknown_is_kept : (place : Place) (state : State) → ForSome state HasForm → KeepsUnknown place state (rule.push_unknown place state)
unknown_is_kept place None form = λ vs heap number array value holds is_heap fits. elim holds [ ]
unknown_is_kept place (Some known) form = λ vs heap number array value holds is_heap fits.
    unknown_so place known vs heap number array value (form known refl) holds is_heap fits
