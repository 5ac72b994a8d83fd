-- What loads and stores keep.
use Rattle.std.proofs.Common.{◌≡◌, ◌≢◌, ℕ, zero, suc, ◌==◌, ◌≤◌, ◌<◌, ℤ, pos, ◌+ℤ◌, Bool, true, false, not, ◌||◌, Option, Some, None, List, [], length, get_or, FitsSigned, w32, inl, inr, refl, sym, ap, subst, ◌∙◌, arith}
use Rattle.std.specs.Prelude.{Ok, nat_le, slice_get, slice_set, if◌then◌else◌}
use Rattle.std.specs.Int.{int_max, int_min, int_rem_euclid}
use Rattle.std.specs.Option.{ForSome, option_and_then, option_map, option_map_or}
use Rattle.std.proofs.lemmas.Bool.{cases_Bool, eqb-true, false≢true}
use Rattle.std.proofs.lemmas.Int.{ints, clamps}
use Rattle.std.proofs.lemmas.List.Elements.{Contains-get_or}
use Rattle.std.proofs.lemmas.List.FromFn.{get_or-map-range_with_len, length-map-range_with_len}
use Rattle.std.proofs.lemmas.List.{get_or_past, length-map, length-set}
use Rattle.alias_facts.specs.Arrays.{is_no_array}
use Rattle.array_contents.proofs.FormLaws.{stored_formed}
use Rattle.array_contents.proofs.HeldLaws.{held_agree, loaded_has, stored_held}
use Rattle.array_contents.specs.Contents.{AreHeld}
use Rattle.array_contents.specs.Meaning.{IsBehindStore}
use Rattle.array_contents.specs.Storing.{loaded_at, stored}
use Rattle.array_segments.specs.Meaning.{IsIndex, Obeys, item}
use Rattle.cil_model.proofs.ArithmeticFits.{low_bits_are_byte}
use Rattle.cil_model.proofs.HeapsKept.{array_of_heap, keeps_others}
use Rattle.cil_model.specs.Arithmetic.{LEAST, GREATEST}
use Rattle.cil_model.specs.Effects.{item_of, with_item}
use Rattle.cil_model.specs.Values.{Heap, has_array, same_place}
use Rattle.cil_model.specs.declared.machine.ArrayCell.{ArrayCell}
use Rattle.cil_model.specs.declared.machine.Value.{Value}
use Rattle.cil_model.specs.declared.machine.Value.TheVariants as values
use Rattle.cil_model.specs.declared.place.Place.{Place}
use Rattle.cil_model.specs.declared.place.Place.TheVariants as places
use Rattle.domain_api.specs.declared.expr.Expr.{Expr}
use Rattle.interval_domain.specs.Interval as ranges
use Rattle.interval_domain.specs.Interval.{Interval}
use Rattle.number_facts.proofs.Knowing.{range_has}
use Rattle.number_facts.proofs.NewSymbols.{fresh_where_ok}
use Rattle.number_facts.specs.Ends.{range_of}
use Rattle.number_facts.specs.Facts.{Facts}
use Rattle.number_facts.specs.Fresh.{Made, expr_made, facts_made, fresh}
use Rattle.number_facts.specs.Gaps.{gap}
use Rattle.number_facts.specs.Holds.{Holds, HoldsWith}
use Rattle.number_facts.specs.Laws.Allowing.{AllowsNumbers, gap_allowed}
use Rattle.number_spans.proofs.Lost.{range_without_allows}
use Rattle.number_spans.specs.Spans.{Has}
use Rattle.number_spans.proofs.NarrowRanges.{SomeNarrow}
use Rattle.number_spans.specs.Stored.{IsNarrow, SomeAllows}
use Rattle.number_spans.specs.declared.span.Span.{Span}
use Rattle.symbolic_values.specs.Worth.{worth}
use Rattle.frame_names.specs.declared.reference.Reference.{Reference}
use Rattle.state_facts.specs.Forms.{HasForm, HasNumber, HasReference, IsNumber, lengths_of}
use Rattle.state_facts.specs.Holds.{FitsArray, HoldsBy, items_of_array}
use Rattle.state_facts.specs.Keeps.{HasItem, HoldsOn, KeepsLoad, KeepsStore}
use Rattle.state_facts.specs.Moves.{beside, int32_in, item_place, may_be, others, place_at, place_of, placed, with_item as with_loaded, with_items, with_one_of, with_stored, with_written}
use Rattle.state_facts.specs.StateFacts.{StateFacts, State, are_apart}
use Rattle.state_facts.specs.States as calls
use Rattle.state_facts.proofs.Agreeing.{as_many_contents, contents_agree, made_by, over_heap}
use Rattle.state_facts.proofs.ArrayItems.{behind_store, byte_fits, is_written, item_fits, items_here}
use Rattle.state_facts.proofs.ArraysHold.{are_apart_differ, present_at}
use Rattle.state_facts.proofs.MadeNumbers.{EachMade, IsMade}
use Rattle.state_facts.proofs.MoveForms.{beside_form, int32_narrow, placed_made}
use Rattle.state_facts.proofs.MovesHold.{byte_placed, same_with, top_keeps}

-- ---- both

-- gaps say nothing false of numbers that are allowed
obeyed : (facts : Facts) (number : ℕ → ℤ) → AllowsNumbers facts number → Obeys (gap facts) number
obeyed facts number allowed = λ s t k is. gap_allowed facts number s t k is allowed

-- the index of an item of the array of a reference
index_is : (heap : Heap) (number : ℕ → ℤ) (a : Option ℕ) (at : Expr) (i : ℕ) (cell : ArrayCell) (index : ℕ) → HasItem heap number a at i cell index
    → IsIndex number at (items_of_array heap a) index
index_is heap number a at i cell index has =
    record { same = has.index_is; below = rw (items_here heap a i cell has.array_is has.cell_is) has.below }

-- ---- loads

pub load_keeps : (r : ℕ) (at : Expr) (state : State) → ForSome state HasForm → ForSome state (λ known. HasReference known r)
    → KeepsLoad r at state (calls.load r at state)
unfolding with_loaded with_one_of
load_keeps r at None form there = λ vs heap number array i cell index holds is_heap has. elim holds [ ]
load_keeps r at (Some known) form there = λ vs heap number array i cell index holds is_heap has.
    let f = form known refl in
    let n = get_or cell.items index (pos 0) in
    let range = loaded_at (gap known.facts) known.contents r at in
    let fits = item_fits cell.place cell.items n (array_of_heap heap i cell is_heap has.cell_is).0 (Contains-get_or cell.items index (pos 0) has.below) in
    let loaded = loaded_has (gap known.facts) number (λ q. items_of_array heap (array q)) (length known.facts.ranges) (lengths_of known.references) known.contents r at index
    (obeyed known.facts number holds.facts.allowed) f.contents (ap (items_of_array heap) holds.null)
    (subst (λ (m : ℕ). r ≤ m) (sym (as_many_contents known f)) (there known refl)) holds.contents (index_is heap number (array r) at i cell index has) in
    let inside : ranges.Contains range n = subst (λ (items : List ℤ). ranges.Contains range (item items index)) (items_here heap (array r) i cell has.array_is has.cell_is) loaded in
    top_keeps n known (fresh known.facts range.lo range.hi range.hole []) vs heap number array (values.Int n) f holds refl
    (fresh_where_ok {E = ℕ} known.facts range.lo range.hi range.hole (Ok (expr_made (fresh known.facts range.lo range.hi range.hole [])))
    (facts_made known.facts (fresh known.facts range.lo range.hi range.hole [])) refl refl
    number (λ q. is_no_array (array q)) n f.named holds.facts fits inside.above inside.below inside.no_hole)

-- ---- the number that is stored

-- There is a range, and it has the number.
abbrev SomeHas : Option Interval → ℤ → Type 0
SomeHas None n = ⊥
SomeHas (Some r) n = ranges.Contains r n × IsNarrow r

int32_has : (r : Span) (n : ℤ) → Has r n → FitsSigned w32 n → SomeHas (int32_in r) n
unfolding int32_in
int32_has r n has fits =
    each _ (int32_narrow r) (range_without_allows (int_max r.lo LEAST) (int_min r.hi GREATEST) n r.hole
    (omega (arith, ints, clamps, has.above, fits)) (omega (arith, ints, clamps, has.below, fits)) has.no_hole)
  where
    each : (o : Option Interval) → SomeNarrow o → SomeAllows o n → SomeHas o n
    each None narrow allows = elim allows [ ]
    each (Some q) narrow allows =
        (record { fits = omega (arith, ints, fits); above = allows.above; below = allows.below; no_hole = allows.no_hole }, narrow)

-- ---- what a store leaves of each reference

-- the arrays of the references that are there
abbrev within : (ℕ → Option ℕ) → ℕ → ℕ → Option ℕ
within array count q = if nat_le q count then array q else None

there_within : (array : ℕ → Option ℕ) (count q : ℕ) → q ≤ count → within array count q ≡ array q
there_within array count q there = rw (is_le q count there) refl
  where
    is_le : (q count : ℕ) → q ≤ count → nat_le q count ≡ true
    is_le q count there = grind (arith, there)

-- another reference is not the array, unless it may be
other_differs : (known : StateFacts) (vs : List Value) (heap : Heap) (number : ℕ → ℤ) (array : ℕ → Option ℕ) (r q i : ℕ) → HoldsBy known vs heap number array
    → r ≤ length known.references → q ≤ length known.references → q ≢ r → array r ≡ Some i → may_be known r q ≡ false → array q ≡ Some i → ⊥
other_differs known vs heap number array r q i holds first second other is apart same =
    are_apart_differ known vs heap number array r q holds first second (known_apart (q == r) (are_apart known r q) refl apart) i is same
  where
    known_apart : (b c : Bool) → (q == r) ≡ b → not (b || c) ≡ false → c ≡ true
    known_apart true c e so = absurd (other (eqb-true q r e))
    known_apart false true e so = refl
    known_apart false false e so = absurd (false≢true (sym so))

-- those that may be the array, by their index
other_at : (known : StateFacts) (r j : ℕ) → j < length known.references → get_or (others known r) j false ≡ may_be known r (suc j)
other_at known r j below = get_or-map-range_with_len (may_be known r) 1 (length known.references) j (suc j) false below (omega arith)

-- The choice that holds behind a store, of an array of these references.
record IsStored (known : StateFacts) (heap : Heap) (number : ℕ → ℤ) (array : ℕ → Option ℕ) (r : ℕ) (at : Expr) (i : ℕ) (cell : ArrayCell) (index : ℕ) : Type 0 where
  there : r ≤ length known.references
  named : at.sym ≤ length known.facts.ranges
  has : HasItem heap number (array r) at i cell index

each_behind : (known : StateFacts) (vs : List Value) (heap : Heap) (number : ℕ → ℤ) (array : ℕ → Option ℕ) (r : ℕ) (at : Expr) (i : ℕ) (cell : ArrayCell) (index : ℕ) (n : ℤ)
    → HoldsBy known vs heap number array → IsStored known heap number array r at i cell index → (j : ℕ) → suc j ≢ r
    → IsBehindStore number at n (get_or (others known r) j false) (items_of_array heap (within array (length known.references) (suc j)))
    (items_of_array (with_item heap i cell index n) (within array (length known.references) (suc j)))
each_behind known vs heap number array r at i cell index n holds so j other = elim (cases_Bool (nat_le (suc j) (length known.references))) [
  | inl is ↦
      let there : suc j ≤ length known.references = grind (arith, is) in
      let same = there_within array (length known.references) (suc j) there in
      subst (λ (a : Option ℕ). IsBehindStore number at n (get_or (others known r) j false) (items_of_array heap a) (items_of_array (with_item heap i cell index n) a)) (sym same)
      (behind_store heap number (array (suc j)) i cell at index n (get_or (others known r) j false) so.has.cell_is so.has.index_is so.has.below
      (λ apart it_is. other_differs known vs heap number array r (suc j) i holds so.there there other so.has.array_is (sym (other_at known r j (omega (arith, there))) ∙ apart) it_is))
  | inr past ↦
      let far : length known.references ≤ j = grind (arith, past) in
      let size = length-map-range_with_len (may_be known r) 1 (length known.references) in
      let none : get_or (others known r) j false ≡ false = get_or_past (others known r) j false (omega (arith, size, far)) in
      rw (none, past) refl
]

stored_items : (known : StateFacts) (vs : List Value) (heap : Heap) (number : ℕ → ℤ) (array : ℕ → Option ℕ) (r : ℕ) (at : Expr) (i : ℕ) (cell : ArrayCell) (index : ℕ)
    (range : Interval) (n : ℤ) → HasForm known → HoldsBy known vs heap number array → IsStored known heap number array r at i cell index → ranges.Contains range n → IsNarrow range
    → AreHeld number (λ q. items_of_array (with_item heap i cell index n) (array q)) (stored (gap known.facts) r at range (others known r) known.contents)
stored_items known vs heap number array r at i cell index range n form holds so inside narrow =
    let count = length known.references in
    let new = with_item heap i cell index n in
    let old_items : ℕ → List ℤ = λ q. items_of_array heap (within array count q) in
    let new_items : ℕ → List ℤ = λ q. items_of_array new (within array count q) in
    let held = contents_agree known number number (λ q. items_of_array heap (array q)) old_items form (λ s there. refl)
    (λ q there. ap (items_of_array heap) (there_within array count q there)) holds.contents in
    let written = is_written heap number (within array count r) i cell at index n (there_within array count r so.there ∙ so.has.array_is) so.has.cell_is so.has.index_is so.has.below in
    let behind = stored_held (gap known.facts) number old_items new_items (length known.facts.ranges) (lengths_of known.references) known.contents r at range (others known r) n
    (obeyed known.facts number holds.facts.allowed) form.contents held inside written
    (λ j other. each_behind known vs heap number array r at i cell index n holds so j other) in
    let formed = stored_formed (gap known.facts) (length known.facts.ranges) (lengths_of known.references) known.contents r at range (others known r) so.named narrow form.contents in
    held_agree (length known.facts.ranges) (lengths_of known.references) (stored (gap known.facts) r at range (others known r) known.contents) number number new_items
    (λ q. items_of_array new (array q)) formed (λ s there. refl)
    (λ q there. ap (items_of_array new) (sym (there_within array count q (subst (λ (m : ℕ). q ≤ m) (length-map known.references (λ (x : Reference). x.length)) there)))) behind

-- ---- stores

written_keeps : (r : ℕ) (at : Expr) (known : StateFacts) (made : Made) (vs : List Value) (heap : Heap) (number : ℕ → ℤ) (array : ℕ → Option ℕ) (i : ℕ) (cell : ArrayCell)
    (index : ℕ) (n : ℤ) → HasForm known → HoldsBy known vs heap number array → IsStored known heap number array r at i cell index → IsMade known.facts made
    → FitsSigned w32 n → HoldsWith known.facts made.facts number (λ q. is_no_array (array q)) made.expr n
    → HoldsOn (Some known) (with_written r at known made) vs (with_item heap i cell index n) number array
unfolding with_written are_apart
written_keeps r at known made vs heap number array i cell index n form holds so is_made fits more =
    each (int32_in (range_of made.facts made.expr))
    (int32_has (range_of made.facts made.expr) n
    (subst (Has (range_of made.facts made.expr)) more.is (range_has made.facts more.later made.expr more.holds.allowed is_made.number.there)) fits)
  where
    new : Heap
    new = with_item heap i cell index n

    each : (o : Option Interval) → SomeHas o n
        → HoldsOn (Some known)
        (option_map (λ range. with_items (beside known made) (stored (gap made.facts) r at range (others known r) known.contents)) o) vs new number array
    each None inside = elim inside [ ]
    each (Some range) inside =
        let before = beside_form known made form is_made in
        let by : HoldsBy (beside known made) vs heap more.later array =
        made_by known made known.variables vs vs heap number array n form holds more (λ later have worth_is. have) in
        let larger = is_made.form.there in
        let stays : IsStored (beside known made) heap more.later array r at i cell index = record {
          there = so.there;
          named = omega (arith, larger, so.named);
          has = record {
            array_is = so.has.array_is;
            cell_is = so.has.cell_is;
            index_is = ap (λ (m : ℤ). m +ℤ at.k) (more.agrees at.sym so.named) ∙ so.has.index_is;
            below = so.has.below;
          };
        } in
        record {
          later = more.later;
          later_array = array;
          agrees = more.agrees;
          agrees_arrays = λ q there. refl;
          holds = over_heap (beside known made) (stored (gap made.facts) r at range (others known r) known.contents) vs heap new more.later array before by
              (keeps_others heap i cell (record cell { items = slice_set cell.items index n }) so.has.cell_is refl (length-set cell.items index n))
              (stored_items (beside known made) vs heap more.later array r at i cell index range n before by stays inside.0 inside.1);
        }

-- a number is stored as it is put into an item's place
item_same : (own place : Place) (n : ℤ) → same_place own place ≡ true → item_of own n ≡ item_of place n
item_same places.Bools places.Bools n same = refl
item_same places.Bools _ n same = absurd (false≢true same)
item_same _ places.Bools n same = absurd (false≢true same)
item_same _ _ n same = refl

stored_fits : (place : Place) (n : ℤ) → FitsSigned w32 n → FitsSigned w32 (item_of place n)
stored_fits places.Bools n fits = byte_fits (int_rem_euclid n (pos 256)) (low_bits_are_byte n)
stored_fits _ n fits = fits

placed_so : (place : Place) (known : StateFacts) (value : Expr) (number : ℕ → ℤ) (is_null : ℕ → Bool) (P : Option Made → Type 0) → HasForm known
    → IsNumber (length known.facts.ranges) value → Holds known.facts number is_null
    → ((made : Made) → HoldsWith known.facts made.facts number is_null made.expr (item_of place (worth number value)) → P (Some made))
    → P (placed known.facts value (item_place place))
unfolding placed
placed_so places.Bools known value number is_null P form named holds next = byte_placed known value number is_null P form named.there holds next
placed_so places.Void known value number is_null P form named holds next =
    next (record { expr = value; facts = known.facts }) (same_with known.facts number is_null value (worth number value) holds refl)
placed_so places.Bool known value number is_null P form named holds next =
    next (record { expr = value; facts = known.facts }) (same_with known.facts number is_null value (worth number value) holds refl)
placed_so places.Int known value number is_null P form named holds next =
    next (record { expr = value; facts = known.facts }) (same_with known.facts number is_null value (worth number value) holds refl)
placed_so places.Ints known value number is_null P form named holds next =
    next (record { expr = value; facts = known.facts }) (same_with known.facts number is_null value (worth number value) holds refl)

stored_keeps : (r : ℕ) (at value : Expr) (known : StateFacts) (vs : List Value) (heap : Heap) (number : ℕ → ℤ) (array : ℕ → Option ℕ) (i : ℕ) (cell : ArrayCell) (index : ℕ)
    → HasForm known → IsNumber (length known.facts.ranges) value → HoldsBy known vs heap number array → IsStored known heap number array r at i cell index
    → FitsSigned w32 (worth number value)
    → HoldsOn (Some known) (with_stored r at value known) vs (with_item heap i cell index (item_of (place_at known r) (worth number value))) number array
unfolding with_stored
stored_keeps r at value known vs heap number array i cell index form named holds so fits =
    placed_so (place_at known r) known value number (λ q. is_no_array (array q))
    (λ o. EachMade known.facts o → HoldsOn (Some known) (option_and_then (with_written r at known) o) vs
    (with_item heap i cell index (item_of (place_at known r) (worth number value))) number array)
    form named holds.facts
    (λ made more is_made.
    written_keeps r at known made vs heap number array i cell index (item_of (place_at known r) (worth number value)) form holds so is_made
    (stored_fits (place_at known r) (worth number value) fits) more)
    (placed_made known value (item_place (place_at known r)) form named)

-- the type of a reference is that of its array
place_is : (known : StateFacts) (vs : List Value) (heap : Heap) (number : ℕ → ℤ) (array : ℕ → Option ℕ) (r i : ℕ) (cell : ArrayCell) → HoldsBy known vs heap number array
    → r ≤ length known.references → array r ≡ Some i → slice_get heap i ≡ Some cell → same_place cell.place (place_at known r) ≡ true
place_is known vs heap number array zero i cell holds there is cell_is = absurd (no_array (sym holds.null ∙ is))
  where
    no_array : None ≡ Some i → ⊥
    no_array e = cc
place_is known vs heap number array (suc q) i cell holds there is cell_is =
    let found = present_at known.references (suc q) (omega arith) there in
    let fits : has_array heap (found.0).place i ≡ true = subst (FitsArray heap (found.0).place) is (holds.references (suc q) found.0 found.1).fits in
    subst (λ (o : Option Reference). same_place cell.place (place_of o) ≡ true) (sym found.1)
    (subst (λ (o : Option ArrayCell). option_map_or (λ (c : ArrayCell). same_place c.place (found.0).place) o false ≡ true) cell_is fits)

pub store_keeps : (r : ℕ) (at value : Expr) (state : State) → ForSome state HasForm → ForSome state (λ known. HasReference known r)
    → ForSome state (λ known. HasNumber known at) → ForSome state (λ known. HasNumber known value) → KeepsStore r at value state (calls.store r at value state)
store_keeps r at value None form there named value_named = λ vs heap number array i cell index holds is_heap has fits. elim holds [ ]
store_keeps r at value (Some known) form there named value_named = λ vs heap number array i cell index holds is_heap has fits.
    let same = item_same cell.place (place_at known r) (worth number value)
    (place_is known vs heap number array r i cell holds (there known refl) has.array_is has.cell_is) in
    subst (λ (n : ℤ). HoldsOn (Some known) (with_stored r at value known) vs (with_item heap i cell index n) number array) (sym same)
    (stored_keeps r at value known vs heap number array i cell index (form known refl) (value_named known refl) holds
    (record { there = there known refl; named = (named known refl).there; has = has }) fits)
