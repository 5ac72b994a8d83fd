-- Moves keep the form of what is known.
use Rattle.std.proofs.Common.{◌≡◌, ℕ, zero, suc, ◌+◌, ◌-◌, ◌≤◌, ℤ, pos, Bool, true, false, Option, Some, None, List, [], ◌∷◌, ◌++◌, length, map, refl, sym, ap, ◌∙◌, arith}
use Rattle.std.specs.Prelude.{nat_lt, set, slice_get}
use Rattle.std.specs.List.{AllByRecursion, range_with_len}
use Rattle.std.specs.Option.{option_and_then, option_map}
use Rattle.std.specs.Int.{int_max, int_min}
use Rattle.std.proofs.lemmas.Bool.{cond_both}
use Rattle.std.proofs.lemmas.Int.{ints, clamps}
use Rattle.std.proofs.lemmas.List.FromFn.{get_or-map-range_with_len, length-map-range_with_len}
use Rattle.std.proofs.lemmas.Option.{get_or_from_slice_get, slice_get_within}
use Rattle.array_contents.proofs.FormLaws.{HasNarrowItems, forgotten_formed, stored_formed, whole_formed}
use Rattle.array_contents.proofs.NarrowContents.{byte_narrow, full_narrow, zero_narrow}
use Rattle.array_contents.specs.Contents.{AreFormed, Contents}
use Rattle.array_contents.specs.Storing.{forgotten, loaded_at, stored}
use Rattle.array_contents.specs.declared.forgetting.Unknown.{Unknown}
use Rattle.interval_domain.specs.Interval.{Interval, one}
use Rattle.alias_facts.specs.PairsOf.{Pair, all_inserted, comes_before, inserted, is_proper, ordered, pairs_up_to, same_pair}
use Rattle.cil_model.specs.Arithmetic.{LEAST, GREATEST}
use Rattle.cil_model.specs.declared.place.Place.{Place}
use Rattle.cil_model.specs.declared.place.Place.TheVariants as places
use Rattle.domain_api.specs.declared.expr.Expr.{Expr}
use Rattle.number_facts.specs.Ends.{range_of}
use Rattle.number_spans.proofs.NarrowRanges.{SomeNarrow, range_without_narrow}
use Rattle.number_spans.specs.Stored.{IsNarrow}
use Rattle.number_spans.specs.declared.span.Span.{Span}
use Rattle.number_facts.specs.Fresh.{Made, fresh}
use Rattle.number_facts.specs.Gaps.{gap}
use Rattle.state_facts.specs.Calls.{apart_from_all, apart_with, changed_at, changed_unless, items_of, passed, returned, with_call, with_result, with_result_array, with_returned, without_items}
use Rattle.state_facts.specs.Forms.{IsNumber, IsReference, IsVar, IsArrayPlace, HasForm, EndsBy, lengths_of}
use Rattle.state_facts.specs.Moves.{beside, in_variable, int32_in, is_byte, item_place, may_be_zero, on_top, others, place_at, placed, popped, pushed, with_array, with_item, with_items, with_number, with_one_of, with_placed, with_put, with_stored, with_written}
use Rattle.state_facts.specs.StateFacts.{StateFacts, reference_at}
use Rattle.frame_names.specs.declared.reference.Reference.{Reference}
use Rattle.frame_names.specs.declared.var.Var.{Var}
use Rattle.frame_names.specs.declared.var.Var.TheVariants as vars
use Rattle.state_facts.proofs.Growing.{Formed, grown, variables_stay, same_facts, with_reference, all_weaker, all_pushed, all_set, all_taken}
use Rattle.state_facts.proofs.MadeNumbers.{IsMade, EachMade, fresh_made, made_grows, on_top_form, each_formed, within_made}

-- ---- pushes and pops

pub pushed_form : (known : StateFacts) (v : Var) → HasForm known → IsVar (length known.facts.ranges) (length known.references) v → HasForm (pushed known v)
pushed_form known v form is =
    grown known known.facts (known.variables ++ v ∷ []) form (same_facts known form)
    (all_pushed (IsVar (length known.facts.ranges) (length known.references)) known.variables v form.variables is)

pub popped_form : (known : StateFacts) → HasForm known → HasForm (popped known)
unfolding popped
popped_form known form =
    grown known known.facts _ form (same_facts known form)
    (all_taken (IsVar (length known.facts.ranges) (length known.references)) (length known.variables - 1) known.variables form.variables)

pub number_form : (lo hi : ℤ) (known : StateFacts) → HasForm known → Formed (with_number lo hi known)
unfolding with_number
number_form lo hi known form =
    each_formed known.facts (fresh known.facts lo hi None []) (on_top known) (fresh_made known.facts lo hi)
    (λ made is. on_top_form known made form (made_grows known made form is) is.number)

-- ---- puts

same_made : (known : StateFacts) (e : Expr) → HasForm known → IsNumber (length known.facts.ranges) e → IsMade known.facts (record { expr = e; facts = known.facts })
same_made known e form is = record { form = (same_facts known form).form; definitions = refl; number = is }

pub placed_made : (known : StateFacts) (e : Expr) (place : Place) → HasForm known → IsNumber (length known.facts.ranges) e → EachMade known.facts (placed known.facts e place)
unfolding placed
placed_made known e places.Bool form is =
    cond_both (is_byte (range_of known.facts e)) _ _ (EachMade known.facts) (λ byte. same_made known e form is) (λ other. fresh_made known.facts (pos 0) (pos 255))
placed_made known e places.Void form is = same_made known e form is
placed_made known e places.Int form is = same_made known e form is
placed_made known e places.Bools form is = same_made known e form is
placed_made known e places.Ints form is = same_made known e form is

in_variable_form : (known : StateFacts) (i : ℕ) (made : Made) → HasForm known → IsMade known.facts made → HasForm (in_variable known i made)
in_variable_form known i made form is =
    let grows = made_grows known made form is in
    grown known made.facts _ form grows
    (all_set (IsVar (length made.facts.ranges) (length known.references)) known.variables i (vars.Number made.expr) (variables_stay known made.facts form grows) is.number)

with_placed_form : (i : ℕ) (e : Expr) (place : Place) (known : StateFacts) → HasForm known → IsNumber (length known.facts.ranges) e → Formed (with_placed i e place known)
unfolding with_placed
with_placed_form i e place known form is =
    each_formed known.facts (placed known.facts e place) (in_variable known i) (placed_made known e place form is) (λ made so. in_variable_form known i made form so)

set_form : (i : ℕ) (v : Var) (known : StateFacts) → HasForm known → IsVar (length known.facts.ranges) (length known.references) v
    → HasForm (record known { variables = set known.variables i v })
set_form i v known form is =
    grown known known.facts _ form (same_facts known form)
    (all_set (IsVar (length known.facts.ranges) (length known.references)) known.variables i v form.variables is)

pub put_form : (i : ℕ) (v : Var) (place : Place) (known : StateFacts) → HasForm known → IsVar (length known.facts.ranges) (length known.references) v
    → Formed (with_put i v place known)
unfolding with_put
put_form i (vars.Number e) place known form is = with_placed_form i e place known form is
put_form i (vars.Reference r) place known form is = set_form i (vars.Reference r) known form is
put_form i vars.Text place known form is = set_form i vars.Text known form is
put_form i (vars.Address r e) place known form is = set_form i (vars.Address r e) known form is

-- ---- arrays

pub item_form : (r : ℕ) (at : Expr) (known : StateFacts) → HasForm known → Formed (with_item r at known)
unfolding with_item with_one_of
item_form r at known form =
    let range = loaded_at (gap known.facts) known.contents r at in
    each_formed known.facts (fresh known.facts range.lo range.hi range.hole []) (on_top known) (within_made known.facts range.lo range.hi range.hole)
    (λ made is. on_top_form known made form (made_grows known made form is) is.number)

-- other segments of the same references
pub items_form : (known : StateFacts) (items : Contents) → HasForm known → AreFormed (length known.facts.ranges) (lengths_of known.references) items
    → HasForm (with_items known items)
items_form known items form are = record {
  narrow = form.narrow;
  named = form.named;
  rising = form.rising;
  tests = form.tests;
  variables = form.variables;
  references = form.references;
  pairs = form.pairs;
  contents = are;
}

pub beside_form : (known : StateFacts) (made : Made) → HasForm known → IsMade known.facts made → HasForm (beside known made)
beside_form known made form is =
    let grows = made_grows known made form is in
    grown known made.facts known.variables form grows (variables_stay known made.facts form grows)

pub int32_narrow : (r : Span) → SomeNarrow (int32_in r)
unfolding int32_in
int32_narrow r = range_without_narrow (int_max r.lo LEAST) (int_min r.hi GREATEST) r.hole (omega (arith, ints, clamps)) (omega (arith, ints, clamps))

written_form : (r : ℕ) (at : Expr) (known : StateFacts) (made : Made) → HasForm known → IsNumber (length known.facts.ranges) at → IsMade known.facts made
    → Formed (with_written r at known made)
unfolding with_written
written_form r at known made form is so = each (int32_in (range_of made.facts made.expr)) (int32_narrow (range_of made.facts made.expr))
  where
    each : (o : Option Interval) → SomeNarrow o
        → Formed (option_map (λ range. with_items (beside known made) (stored (gap made.facts) r at range (others known r) known.contents)) o)
    each None narrow = tt
    each (Some range) narrow =
        let before = beside_form known made form so in
        let more = so.form.there in
        items_form (beside known made) (stored (gap made.facts) r at range (others known r) known.contents) before
        (stored_formed (gap made.facts) (length made.facts.ranges) (lengths_of known.references) known.contents r at range (others known r)
        (omega (arith, more, is.there)) narrow before.contents)

pub stored_form : (r : ℕ) (at value : Expr) (known : StateFacts) → HasForm known → IsNumber (length known.facts.ranges) at
    → IsNumber (length known.facts.ranges) value → Formed (with_stored r at value known)
unfolding with_stored
stored_form r at value known form is value_is =
    each (placed known.facts value (item_place (place_at known r))) (placed_made known value (item_place (place_at known r)) form value_is)
  where
    each : (o : Option Made) → EachMade known.facts o → Formed (option_and_then (with_written r at known) o)
    each None made = tt
    each (Some made) so = written_form r at known made form is so

items_narrow : (place : Place) → IsNarrow (items_of place)
items_narrow places.Bools = byte_narrow
items_narrow places.Void = full_narrow
items_narrow places.Bool = full_narrow
items_narrow places.Int = full_narrow
items_narrow places.Ints = full_narrow

inserted_ends : (n : ℕ) (p : Pair) (pairs : List Pair) → EndsBy n p → AllByRecursion (EndsBy n) pairs → AllByRecursion (EndsBy n) (inserted p pairs)
inserted_ends n p [] is all = (is, tt)
inserted_ends n p (x ∷ xs) is all =
    cond_both (comes_before x p) _ _ (AllByRecursion (EndsBy n)) (λ before. (all.0, inserted_ends n p xs is all.1))
    (λ behind. cond_both (same_pair p x) _ _ (AllByRecursion (EndsBy n)) (λ same. all) (λ other. (is, all)))

before_ends : (n lower : ℕ) (pairs : List Pair) → lower ≤ n → AllByRecursion (EndsBy n) pairs → AllByRecursion (EndsBy n) (all_inserted (pairs_up_to lower n) pairs)
before_ends n zero pairs there all = all
before_ends n (suc lower) pairs there all = inserted_ends n (suc lower, n) _ (there, omega arith) (before_ends n lower pairs (omega (arith, there)) all)

pub more_ends : (known : StateFacts) → HasForm known → AllByRecursion (EndsBy (length known.references + 1)) known.apart
more_ends known form = all_weaker (EndsBy (length known.references)) (EndsBy (length known.references + 1)) known.apart (λ p is. (omega (arith, is.0), omega (arith, is.1))) form.pairs

pub array_form : (place : Place) (e : Expr) (known : StateFacts) → HasForm known → IsArrayPlace place → IsNumber (length known.facts.ranges) e
    → HasForm (with_array place e known)
unfolding with_array
array_form place e known form fits is =
    with_reference known known.facts _ _ _ form (same_facts known form) (record { place = fits; length_is = is })
    (before_ends (length known.references + 1) (length known.references + 1 - 1) known.apart (omega arith) (more_ends known form))
    (whole_formed (length known.facts.ranges) e (one (pos 0)) (may_be_zero known.facts e) is.there zero_narrow)

-- ---- calls

ordered_ends : (n q : ℕ) → q ≤ n → EndsBy n (ordered n q)
ordered_ends n q there = cond_both (nat_lt q n) _ _ (EndsBy n) (λ e. (there, self_le n)) (λ e. (self_le n, there))
  where
    self_le : (m : ℕ) → m ≤ m
    self_le m = omega arith

apart_with_ends : (test : ℕ → Bool) (n count : ℕ) (pairs : List Pair) → count ≤ n → AllByRecursion (EndsBy n) pairs
    → AllByRecursion (EndsBy n) (apart_with test n count pairs)
apart_with_ends test n zero pairs there all = all
apart_with_ends test n (suc q) pairs there all =
    let rest = apart_with_ends test n q pairs (omega (arith, there)) all in
    cond_both (test (suc q)) _ _ (AllByRecursion (EndsBy n))
    (λ apart. cond_both (is_proper (ordered n (suc q))) _ _ (AllByRecursion (EndsBy n)) (λ proper. inserted_ends n (ordered n (suc q)) _ (ordered_ends n (suc q) there) rest) (λ not. rest))
    (λ not. rest)

pub returned_formed : (apart : List Pair) (place : Place) (known : StateFacts) (made : Made) → HasForm known → IsArrayPlace place
    → AllByRecursion (EndsBy (length known.references + 1)) apart → IsMade known.facts made → HasForm (returned apart place known made)
returned_formed apart place known made form fits ends is =
    with_reference known made.facts _ apart _ form (made_grows known made form is) (record { place = fits; length_is = is.number }) ends
    (whole_formed (length made.facts.ranges) made.expr (items_of place) true is.number.there (items_narrow place))

pub returned_form : (apart : List Pair) (place : Place) (known : StateFacts) → HasForm known → IsArrayPlace place
    → AllByRecursion (EndsBy (length known.references + 1)) apart → Formed (with_returned apart place known)
unfolding with_returned
returned_form apart place known form fits ends =
    each_formed known.facts (fresh known.facts (pos 0) (pos 2147483647) None []) (returned apart place known) (fresh_made known.facts (pos 0) (pos 2147483647))
    (λ made is. returned_formed apart place known made form fits ends is)

pub result_form : (first args : ℕ) (place : Place) (known : StateFacts) → HasForm known → IsArrayPlace place → Formed (with_result_array first args place known)
result_form first args place known form fits =
    returned_form _ place known form fits
    (apart_with_ends (apart_from_all known (passed first args known)) (length known.references + 1) (length known.references) known.apart (omega arith)
    (more_ends known form))

lengths_there : (symbols : ℕ) (references : List Reference) → AllByRecursion (IsReference symbols) references
    → AllByRecursion (λ (e : Expr). e.sym ≤ symbols) (lengths_of references)
lengths_there symbols [] are = tt
lengths_there symbols (r ∷ references) are = (are.0.length_is.there, lengths_there symbols references are.1)

length_there : (references : List Reference) (i : ℕ) (e : Expr) → slice_get (lengths_of references) i ≡ Some e
    → (x : Reference) × (slice_get references i ≡ Some x) × (x.length ≡ e)
length_there [] zero e there = absurd cc
length_there [] (suc i) e there = absurd cc
length_there (r ∷ references) zero e there = (r, refl, same r.length e there)
  where
    same : (a b : Expr) → Some a ≡ Some b → a ≡ b
    same a b is = cc
length_there (r ∷ references) (suc i) e there = length_there references i e there

-- what is forgotten of a reference keeps its length
changed_length : (b : Bool) (o : Option Reference) (x : Reference) (array : Unknown) → o ≡ Some x → changed_unless b o ≡ Some array → array.length ≡ x.length
changed_length true o x array is so = absurd (no_array so)
  where
    no_array : None ≡ Some array → ⊥
    no_array so = cc
changed_length false None x array is so = absurd (no_reference is)
  where
    no_reference : None ≡ Some x → ⊥
    no_reference is = cc
changed_length false (Some y) x array is so =
    sym (ap (λ (u : Unknown). u.length) (same_unknown _ array so)) ∙ ap (λ (r : Reference). r.length) (same_reference y x is)
  where
    same_unknown : (u v : Unknown) → Some u ≡ Some v → u ≡ v
    same_unknown u v is = cc

    same_reference : (r q : Reference) → Some r ≡ Some q → r ≡ q
    same_reference r q is = cc

unknown_narrow : (b : Bool) (o : Option Reference) → HasNarrowItems (changed_unless b o)
unknown_narrow true o = tt
unknown_narrow false None = tt
unknown_narrow false (Some r) = items_narrow r.place

each_narrow : (known : StateFacts) (passed_vars : List Var) (qs : List ℕ) → AllByRecursion HasNarrowItems (map (changed_at known passed_vars) qs)
each_narrow known passed_vars [] = tt
each_narrow known passed_vars (q ∷ qs) =
    (unknown_narrow (apart_from_all known passed_vars q) (reference_at known.references q), each_narrow known passed_vars qs)

pub without_form : (passed_vars : List Var) (known : StateFacts) → HasForm known → HasForm (without_items passed_vars known)
unfolding reference_at
without_form passed_vars known form =
    let count = length known.references in
    let changed = map (changed_at known passed_vars) (range_with_len 1 count) in
    items_form known (forgotten changed known.contents) form
    (forgotten_formed (length known.facts.ranges) (lengths_of known.references) known.contents changed (lengths_there (length known.facts.ranges) known.references form.references)
    (λ i e array there is.
    let found = length_there known.references i e there in
    let here : changed_at known passed_vars (suc i) ≡ Some array = changed_here i array is in
    changed_length (apart_from_all known passed_vars (suc i)) (slice_get known.references i) found.0 array found.1 here ∙ found.2)
    (each_narrow known passed_vars (range_with_len 1 count)) form.contents)
  where
    changed_here : (i : ℕ) (array : Unknown) → slice_get (map (changed_at known passed_vars) (range_with_len 1 (length known.references))) i ≡ Some (Some array)
        → changed_at known passed_vars (suc i) ≡ Some array
    changed_here i array is =
        let changed = map (changed_at known passed_vars) (range_with_len 1 (length known.references)) in
        let below = slice_get_within changed i (Some array) is in
        let size = length-map-range_with_len (changed_at known passed_vars) 1 (length known.references) in
        sym (get_or-map-range_with_len (changed_at known passed_vars) 1 (length known.references) i (suc i) None (omega (arith, below, size)) (omega arith))
        ∙ get_or_from_slice_get changed i (Some array) None is

given_form : (first args : ℕ) (place : Place) (known : StateFacts) → HasForm known → Formed (with_result first args place known)
unfolding with_result
given_form first args places.Void known form = form
given_form first args places.Bool known form = number_form _ _ known form
given_form first args places.Int known form = number_form _ _ known form
given_form first args places.Bools known form = result_form first args places.Bools known form tt
given_form first args places.Ints known form = result_form first args places.Ints known form tt

pub call_form : (first args : ℕ) (place : Place) (known : StateFacts) → HasForm known → Formed (with_call first args place known)
unfolding with_call
call_form first args place known form =
    given_form first args place (without_items (passed first args known) known) (without_form (passed first args known) known form)
