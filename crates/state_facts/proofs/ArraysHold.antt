-- What new arrays and calls keep.
use Rattle.std.proofs.Common.{◌≡◌, ℕ, zero, suc, ◌==◌, ◌+◌, ◌≤◌, ◌<◌, ℤ, pos, ◌≤ℤ◌, Bool, true, false, not, Option, Some, None, List, [], ◌∷◌, ◌++◌, length, map, get_or, FitsSigned, w32, ◌⊎◌, append-nil, inl, inr, refl, sym, ap, subst, ◌∙◌, arith}
use Rattle.std.specs.Prelude.{Contains, drop, take, slice_get, if◌then◌else◌}
use Rattle.std.specs.List.{AllByRecursion, range_with_len}
use Rattle.std.specs.Option.{ForSome, option_map, option_map_or}
use Rattle.std.proofs.lemmas.Bool.{and_parts, cases_Bool, eqb-true, false≢true}
use Rattle.std.proofs.lemmas.Int.{ints}
use Rattle.std.proofs.lemmas.List.Elements.{All-contains, All-from_recursion}
use Rattle.std.proofs.lemmas.List.FromFn.{get_or-map-range_with_len}
use Rattle.alias_facts.proofs.ApartLaws.{contained_differ, must_differ_sound, with_all_before_differ, with_pair_differ}
use Rattle.alias_facts.specs.Arrays.{AllDiffer, Differ, DiffersFromEarlier, is_no_array}
use Rattle.alias_facts.specs.NullnessOf.{Agrees}
use Rattle.alias_facts.specs.declared.nullness.Nullness.{Nullness}
use Rattle.alias_facts.specs.declared.nullness.Nullness.TheVariants.{May}
use Rattle.alias_facts.specs.PairsOf.{Pair, contains, ordered, with_all_before}
use Rattle.array_contents.proofs.HeldLaws.{forgotten_held, pushed_held, whole_held}
use Rattle.array_contents.specs.Contents.{Segments}
use Rattle.array_contents.specs.Meaning.{AreIn, IsBehindCall}
use Rattle.array_contents.specs.Storing.{forgotten}
use Rattle.array_contents.specs.declared.forgetting.Unknown.{Unknown}
use Rattle.array_segments.specs.Meaning as segments
use Rattle.array_segments.specs.SegmentLists.{whole}
use Rattle.cil_model.proofs.HeapsKept.{array_of_heap, keeps_before, keeps_itself}
use Rattle.cil_model.specs.Arithmetic.{LEAST, GREATEST}
use Rattle.cil_model.specs.Calls.{FitsResult, IsPassedOrNew, KeepsArrays}
use Rattle.cil_model.specs.Comparisons.{number_of, reference_of}
use Rattle.cil_model.specs.Values.{FitsPlace, Heap, IsArray, IsByte, IsHeap, same_place}
use Rattle.cil_model.specs.declared.machine.ArrayCell.{ArrayCell}
use Rattle.cil_model.specs.declared.machine.Value.{Value}
use Rattle.cil_model.specs.declared.machine.Value.TheVariants as values
use Rattle.cil_model.specs.declared.place.Place.{Place}
use Rattle.cil_model.specs.declared.place.Place.TheVariants as places
use Rattle.domain_api.specs.declared.expr.Expr.{Expr}
use Rattle.interval_domain.specs.Interval as ranges
use Rattle.interval_domain.specs.Interval.{one}
use Rattle.number_facts.proofs.Knowing.{at_most_holds, zero_number}
use Rattle.number_facts.specs.Facts.{Facts}
use Rattle.number_facts.specs.Fresh.{Made, expr_made, facts_made, fresh}
use Rattle.number_facts.specs.Gaps.{less}
use Rattle.number_facts.specs.Holds.{Holds, HoldsWith, YieldsSome}
use Rattle.number_facts.specs.Laws.Allowing.{AllowsNumbers}
use Rattle.number_spans.specs.Constants.{constant}
use Rattle.symbolic_values.specs.Worth.{worth}
use Rattle.state_facts.specs.Calls.{apart_from, apart_from_all, apart_with, changed_at, changed_unless, items_of, passed, returned, with_call, with_result, with_returned, without_items}
use Rattle.state_facts.specs.Forms.{HasForm, IsArrayPlace, IsVar}
use Rattle.state_facts.specs.Holds.{HasValue, HaveValues, HoldsBy, IsSo, FitsArray, address_of, items_of_array, length_in, length_of_array}
use Rattle.state_facts.specs.Keeps.{HoldsOn, KeepsCall, KeepsNewArray, listed}
use Rattle.state_facts.specs.Moves.{may_be_zero, with_array}
use Rattle.state_facts.specs.StateFacts.{StateFacts, State, are_apart, both_of_same_place, nullness_at, of_same_place, reference_at}
use Rattle.state_facts.specs.States as calls
use Rattle.frame_names.specs.declared.reference.Reference.{Reference}
use Rattle.frame_names.specs.declared.var.Var.{Var}
use Rattle.frame_names.specs.declared.var.Var.TheVariants as vars
use Rattle.state_facts.proofs.Agreeing.{Agree, as_many_contents, contents_agree, facts_agree, has_there, have_pushed, have_taken, over_heap, pairs_agree, references_agree, values_agree}
use Rattle.state_facts.proofs.ArrayItems.{all_items, items_before, items_here, length_of_items}
use Rattle.state_facts.proofs.Growing.{Grows, all_taken, same_facts}
use Rattle.state_facts.proofs.MadeNumbers.{EachMade, IsMade, fresh_made, made_grows}
use Rattle.state_facts.proofs.MoveForms.{without_form}
use Rattle.state_facts.proofs.MovesHold.{fresh_yields, number_keeps, same_choice}

-- ---- one reference more

abbrev pub with_one : (ℕ → Option ℕ) → ℕ → Option ℕ → ℕ → Option ℕ
with_one array t a r = if r == t then a else array r

pub earlier_same : (array : ℕ → Option ℕ) (count : ℕ) (a : Option ℕ) (r : ℕ) → r ≤ count → with_one array (count + 1) a r ≡ array r
earlier_same array count a r there = rw (other r count there) refl
  where
    other : (r count : ℕ) → r ≤ count → (r == (count + 1)) ≡ false
    other r count there = elim (cases_Bool (r == (count + 1))) [
      | inl is ↦ let same : r ≡ count + 1 = eqb-true r (count + 1) is in absurd (omega (arith, there, same))
      | inr is ↦ is
    ]

pub new_same : (array : ℕ → Option ℕ) (count : ℕ) (a : Option ℕ) → with_one array (count + 1) a (count + 1) ≡ a
new_same array count a = rw (self (count + 1)) refl
  where
    self : (n : ℕ) → (n == n) ≡ true
    self n = grind arith

got_of : (xs : List Reference) (x y : Reference) (i : ℕ) → slice_get (xs ++ x ∷ []) i ≡ Some y
    → (slice_get xs i ≡ Some y) ⊎ ((i ≡ length xs) × (x ≡ y))
got_of [] x y zero is = inr (refl, same x y is)
  where
    same : (x y : Reference) → Some x ≡ Some y → x ≡ y
    same x y is = cc
got_of [] x y (suc i) is = absurd cc
got_of (z ∷ xs) x y zero is = inl is
got_of (z ∷ xs) x y (suc i) is = elim (got_of xs x y i is) [ inl there ↦ inl there | inr last ↦ inr (ap suc last.0, last.1) ]

pub found_of : (xs : List Reference) (x y : Reference) (r : ℕ) → reference_at (xs ++ x ∷ []) r ≡ Some y
    → (reference_at xs r ≡ Some y) ⊎ ((r ≡ length xs + 1) × (x ≡ y))
unfolding reference_at
found_of xs x y zero is = absurd cc
found_of xs x y (suc r) is = elim (got_of xs x y r is) [
  | inl there ↦ inl there
  | inr last ↦ inr (next r (length xs) last.0, last.1)
]
  where
    next : (m n : ℕ) → m ≡ n → suc m ≡ n + 1
    next m n is = omega (arith, is)

-- All but the pairs that are apart is so of one reference more, which is null or this array, of which these segments
-- hold.
pub reference_holds : (known : StateFacts) (facts : Facts) (x : Reference) (apart : List Pair) (one : Segments) (vs : List Value) (value : Value) (heap : Heap)
    (number later : ℕ → ℤ) (array : ℕ → Option ℕ) (a : Option ℕ)
    → HasForm known → HoldsBy known vs heap number array → Grows known facts
    → ((s : ℕ) → s ≤ length known.facts.ranges → later s ≡ number s) → Holds facts later (λ r. is_no_array (array r)) → IsSo heap later x a
    → reference_of value ≡ Some a → AllDiffer (with_one array (length known.references + 1) a) apart
    → segments.Holds ranges.Contains later (items_of_array heap a) one
    → HoldsOn (Some known) (Some (record {
      variables = known.variables ++ vars.Reference (length known.references + 1) ∷ [];
      facts = facts;
      references = known.references ++ x ∷ [];
      apart = apart;
      contents = known.contents ++ one ∷ [];
    })) (vs ++ value ∷ []) heap number array
reference_holds known facts x apart one vs value heap number later array a form holds grows agrees facts_hold so is differ held =
    let count = length known.references in
    let more = with_one array (count + 1) a in
    let agree : Agree (length known.facts.ranges) count number array later more = record { numbers = agrees; arrays = λ r there. earlier_same array count a r there } in
    let before = references_agree heap heap (length known.facts.ranges) number later array more known.references agree (keeps_itself heap) form.references holds.references in
    let next : suc (length known.contents) ≡ count + 1 = next_is (length known.contents) count (as_many_contents known form) in
    record {
      later = later;
      later_array = more;
      agrees = agrees;
      agrees_arrays = λ r there. earlier_same array count a r there;
      holds = record {
        null = earlier_same array count a 0 (omega arith) ∙ holds.null;
        facts = facts_agree facts later count (λ r. is_no_array (array r)) (λ r. is_no_array (more r))
            (λ r there. ap is_no_array (earlier_same array count a r there)) grows.tests facts_hold;
        variables = have_pushed later more known.variables vs (vars.Reference (count + 1)) value
            (values_agree (length known.facts.ranges) count number later array more known.variables vs agree form.variables holds.variables)
            (is ∙ ap (λ (o : Option ℕ). Some o) (sym (new_same array count a)));
        references = λ r y at. elim (found_of known.references x y r at) [
          | inl there ↦ before r y there
          | inr last ↦ rw (last.0, new_same array count a) (subst (λ (z : Reference). IsSo heap later z a) last.1 so)
        ];
        apart = differ;
        contents = pushed_held later (λ r. items_of_array heap (more r)) known.contents one
            (contents_agree known number later (λ r. items_of_array heap (array r)) (λ r. items_of_array heap (more r)) form agrees
            (λ r there. ap (items_of_array heap) (earlier_same array count a r there)) holds.contents)
            (subst (λ (items : List ℤ). segments.Holds ranges.Contains later items one)
            (ap (items_of_array heap) (sym (new_same array count a)) ∙ ap (λ (r : ℕ). items_of_array heap (more r)) (sym next)) held);
      };
    }
  where
    next_is : (m n : ℕ) → m ≡ n → suc m ≡ n + 1
    next_is m n is = omega (arith, is)

-- a reference that is there is null or an array of the heap
present : (xs : List Reference) (i : ℕ) → i < length xs → (x : Reference) × (slice_get xs i ≡ Some x)
present [] i there = absurd (omega (arith, there))
present (x ∷ xs) zero there = (x, refl)
present (x ∷ xs) (suc i) there = present xs i (omega (arith, there))

pub present_at : (xs : List Reference) (r : ℕ) → 0 < r → r ≤ length xs → (x : Reference) × (reference_at xs r ≡ Some x)
unfolding reference_at
present_at xs zero least there = absurd (omega (arith, least))
present_at xs (suc r) least there = present xs r (omega (arith, there))

fits_below : (heap : Heap) (place : Place) (o : Option ℕ) (n : ℕ) → FitsArray heap place o → o ≡ Some n → n < length heap
fits_below heap place None n fits is = absurd cc
fits_below heap place (Some i) n fits is = subst (λ (m : ℕ). m < length heap) (same i is) (has_there heap place i fits)
  where
    same : (i : ℕ) → Some i ≡ Some n → i ≡ n
    same i is = cc

pub below_heap : (known : StateFacts) (vs : List Value) (heap : Heap) (number : ℕ → ℤ) (array : ℕ → Option ℕ) (q n : ℕ) → HoldsBy known vs heap number array
    → q ≤ length known.references → array q ≡ Some n → n < length heap
below_heap known vs heap number array zero n holds there is = absurd (none_some n (sym holds.null ∙ is))
  where
    none_some : (n : ℕ) → None ≡ Some n → ⊥
    none_some n is = cc
below_heap known vs heap number array (suc q) n holds there is =
    let found = present_at known.references (suc q) (omega arith) there in
    fits_below heap (found.0).place (array (suc q)) n (holds.references (suc q) found.0 found.1).fits is

-- ---- new arrays

last_place : (heap : Heap) (cell : ArrayCell) → slice_get (heap ++ cell ∷ []) (length heap) ≡ Some cell
last_place [] cell = refl
last_place (c ∷ heap) cell = last_place heap cell

place_is_itself : (p : Place) → same_place p p ≡ true
place_is_itself places.Void = refl
place_is_itself places.Bool = refl
place_is_itself places.Int = refl
place_is_itself places.Bools = refl
place_is_itself places.Ints = refl

new_array_so : (known : StateFacts) (place : Place) (e : Expr) (heap : Heap) (cell : ArrayCell) (number : ℕ → ℤ) (x : Reference) → cell.place ≡ place
    → x.place ≡ place → Agrees x.nullness false → x.length ≡ e → worth number e ≡ pos (length cell.items)
    → IsSo (heap ++ cell ∷ []) number x (Some (length heap))
new_array_so known place e heap cell number x cell_is x_is agrees length_is is =
    let got = last_place heap cell in
    record {
      fits = rw got (rw (cell_is, x_is) (place_is_itself place));
      agrees = agrees;
      length_is = ap (worth number) length_is ∙ is ∙ ap (λ (o : Option ArrayCell). pos (option_map_or (λ (c : ArrayCell). length c.items) o 0)) (sym got);
    }

new_differs : (known : StateFacts) (vs : List Value) (heap : Heap) (number : ℕ → ℤ) (array : ℕ → Option ℕ) (j : ℕ) → HoldsBy known vs heap number array
    → length heap ≤ j → DiffersFromEarlier (with_one array (length known.references + 1) (Some j)) (length known.references + 1)
new_differs known vs heap number array j holds past = λ q least before n first second.
    let count = length known.references in
    let there : q ≤ count = omega (arith, before) in
    let old = below_heap known vs heap number array q n holds there (sym (earlier_same array count (Some j) q there) ∙ first) in
    let same : j ≡ n = equal j n (sym (new_same array count (Some j)) ∙ second) in
    omega (arith, old, same, past)
  where
    equal : (j n : ℕ) → Some j ≡ Some n → j ≡ n
    equal j n is = cc

-- what was so is so where an array comes behind the others
grown_heap : (known : StateFacts) (vs : List Value) (heap more : Heap) (number : ℕ → ℤ) (array : ℕ → Option ℕ) → HasForm known
    → HoldsBy known vs heap number array → HoldsBy known vs (heap ++ more) number array
grown_heap known vs heap more number array form holds =
    over_heap known known.contents vs heap (heap ++ more) number array form holds (keeps_before heap more)
    (contents_agree known number number (λ r. items_of_array heap (array r)) (λ r. items_of_array (heap ++ more) (array r)) form (λ s there. refl)
    (λ r there. items_before heap more (array r) (λ i is. below_heap known vs heap number array r i holds there is)) holds.contents)

-- a number that is known not to be 0 is that of an array with items
not_empty : (known : StateFacts) (e : Expr) (number : ℕ → ℤ) (count : ℕ) → AllowsNumbers known.facts number → worth number e ≡ pos count
    → may_be_zero known.facts e ≡ false → 0 < count
not_empty known e number count allowed is more = below (less known.facts (constant (pos 0)) e) refl more
  where
    below : (b : Bool) → less known.facts (constant (pos 0)) e ≡ b → not b ≡ false → 0 < count
    below true so same =
        let least = at_most_holds known.facts number (constant (pos 0)) (pos 1) e allowed so in
        let none = zero_number known.facts number allowed in
        omega (arith, ints, least, none, is)
    below false so same = absurd (false≢true (sym same))

zeros_in : (items : List ℤ) → AllByRecursion (λ n. n ≡ pos 0) items → AreIn (one (pos 0)) items
zeros_in [] are = λ index below. absurd (omega (arith, below))
zeros_in (n ∷ items) are = each (zeros_in items are.1)
  where
    each : AreIn (one (pos 0)) items → AreIn (one (pos 0)) (n ∷ items)
    each rest zero below =
        let is : n ≡ pos 0 = are.0 in
        record { fits = omega (arith, ints, is); above = omega (arith, ints, is); below = omega (arith, ints, is); no_hole = λ e. cc }
    each rest (suc index) below = rest index (omega (arith, below))

pub new_array_keeps : (place : Place) (e : Expr) (state : State) → ForSome state HasForm → KeepsNewArray place e state (calls.new_array place e state)
unfolding with_array
new_array_keeps place e None form = λ vs heap number array cell holds is many zeros. elim holds [ ]
new_array_keeps place e (Some known) form = λ vs heap number array cell holds is many zeros.
    let count = length known.references in
    let f = form known refl in
    let items = items_here (heap ++ cell ∷ []) (Some (length heap)) (length heap) cell refl (last_place heap cell) in
    reference_holds known known.facts _ (with_all_before (count + 1) known.apart) (whole e (one (pos 0)) (may_be_zero known.facts e)) vs (values.Array (length heap))
    (heap ++ cell ∷ []) number number array
    (Some (length heap)) f (grown_heap known vs heap (cell ∷ []) number array f holds) (same_facts known f) (λ s there. refl) holds.facts
    (new_array_so known place e heap cell number _ is refl refl refl many) refl
    (with_all_before_differ known.apart (with_one array (count + 1) (Some (length heap))) (count + 1)
    (pairs_agree (length known.facts.ranges) count number number array (with_one array (count + 1) (Some (length heap))) known.apart
    (record { numbers = λ s there. refl; arrays = λ r there. earlier_same array count (Some (length heap)) r there }) f.pairs holds.apart)
    (new_differs known vs heap number array (length heap) holds (omega arith)))
    (subst (λ (ns : List ℤ). segments.Holds ranges.Contains number ns (whole e (one (pos 0)) (may_be_zero known.facts e))) (sym items)
    (whole_held number cell.items e (one (pos 0)) (may_be_zero known.facts e) (zero_number known.facts number holds.facts.allowed) many
    (λ more. not_empty known e number (length cell.items) holds.facts.allowed many more) (zeros_in cell.items zeros)))

-- ---- calls

pub each_made_yields : (known : StateFacts) (o : Option Made) (number : ℕ → ℤ) (is_null : ℕ → Bool) (n : ℤ) (P : Option Made → Type 0) → EachMade known.facts o
    → YieldsSome known.facts (facts_made known.facts o) number is_null (expr_made o) n
    → ((made : Made) → IsMade known.facts made → HoldsWith known.facts made.facts number is_null made.expr n → P (Some made)) → P o
each_made_yields known None number is_null n P each yields next = elim yields [ ]
each_made_yields known (Some made) number is_null n P each yields next = next made each yields

-- what is known of a reference agrees with what it is
pub nullness_agrees : (known : StateFacts) (vs : List Value) (heap : Heap) (number : ℕ → ℤ) (array : ℕ → Option ℕ) (r : ℕ) → HoldsBy known vs heap number array
    → r ≤ length known.references → Agrees (nullness_at known r) (is_no_array (array r))
unfolding reference_at
nullness_agrees known vs heap number array zero holds there = ap is_no_array holds.null
nullness_agrees known vs heap number array (suc r) holds there =
    let found = present known.references r there in
    rw found.1 (holds.references (suc r) found.0 found.1).agrees

-- arrays of different types are not the same
places_differ : (heap : Heap) (number : ℕ → ℤ) (a b : Option Reference) (i j : Option ℕ) (n : ℕ)
    → ((x : Reference) → a ≡ Some x → IsSo heap number x i) → ((x : Reference) → b ≡ Some x → IsSo heap number x j)
    → both_of_same_place a b ≡ false → i ≡ Some n → j ≡ Some n → ⊥
places_differ heap number None b i j n first second other is also = absurd (false≢true (sym other))
places_differ heap number (Some x) None i j n first second other is also = absurd (false≢true (sym other))
places_differ heap number (Some x) (Some y) i j n first second other is also =
    let one : FitsArray heap x.place (Some n) = subst (FitsArray heap x.place) is (first x refl).fits in
    let two : FitsArray heap y.place (Some n) = subst (FitsArray heap y.place) also (second y refl).fits in
    both (slice_get heap n) one two
  where
    same_places : (p q o : Place) → same_place o p ≡ true → same_place o q ≡ true → same_place p q ≡ true
    same_places p q o one two = grind (arith, one, two)

    both : (o : Option ArrayCell) → option_map_or (λ (c : ArrayCell). same_place c.place x.place) o false ≡ true
        → option_map_or (λ (c : ArrayCell). same_place c.place y.place) o false ≡ true → ⊥
    both None one two = absurd (false≢true one)
    both (Some c) one two = absurd (false≢true (sym other ∙ same_places x.place y.place c.place one two))

pub are_apart_differ : (known : StateFacts) (vs : List Value) (heap : Heap) (number : ℕ → ℤ) (array : ℕ → Option ℕ) (r q : ℕ) → HoldsBy known vs heap number array
    → r ≤ length known.references → q ≤ length known.references → are_apart known r q ≡ true → Differ array r q
unfolding are_apart
are_apart_differ known vs heap number array r q holds first second apart =
    must_differ_sound array r q (contains known.apart (ordered r q)) (of_same_place known r q) (nullness_at known r) (nullness_at known q)
    (λ kept. contained_differ known.apart array r q kept holds.apart)
    (λ other n is also.
    places_differ heap number (reference_at known.references r) (reference_at known.references q) (array r) (array q) n (λ x so. holds.references r x so)
    (λ x so. holds.references q x so) other is also)
    (nullness_agrees known vs heap number array r holds first) (nullness_agrees known vs heap number array q holds second) apart

-- A reference is this array, and another one is known not to be the same as it.
pub record IsPassed (known : StateFacts) (array : ℕ → Option ℕ) (q j : ℕ) : Type 0 where
  pub reference : ℕ
  pub there : reference ≤ length known.references
  pub is : array reference ≡ Some j
  pub apart : are_apart known q reference ≡ true

-- an array that was passed is that of a reference that was
passed_one : (known : StateFacts) (number : ℕ → ℤ) (array : ℕ → Option ℕ) (v : Var) (x : Value) (j q : ℕ) → HasValue number array v x
    → IsVar (length known.facts.ranges) (length known.references) v → apart_from known q v ≡ true → x ≡ values.Array j → IsPassed known array q j
passed_one known number array (vars.Number e) x j q has is apart so = absurd (no_number (subst (λ (y : Value). number_of y ≡ Some (worth number e)) so has))
  where
    no_number : None ≡ Some (worth number e) → ⊥
    no_number is = cc
passed_one known number array (vars.Reference r) x j q has is apart so =
    record { reference = r; there = is; is = same (array r) (subst (λ (y : Value). reference_of y ≡ Some (array r)) so has); apart = apart }
  where
    same : (o : Option ℕ) → Some (Some j) ≡ Some o → o ≡ Some j
    same o is = cc
passed_one known number array vars.Text x j q has is apart so = absurd (no_text (sym so ∙ has))
  where
    no_text : values.Array j ≡ values.Text → ⊥
    no_text is = cc
passed_one known number array (vars.Address r e) x j q has is apart so =
    absurd (no_address (array r, worth number e) (subst (λ (y : Value). address_of y ≡ Some (array r, worth number e)) so has))
  where
    no_address : (at : Option ℕ × ℤ) → None ≡ Some at → ⊥
    no_address at is = cc

each_passed : (known : StateFacts) (number : ℕ → ℤ) (array : ℕ → Option ℕ) (vs : List Var) (xs : List Value) (j q : ℕ) → HaveValues number array vs xs
    → AllByRecursion (IsVar (length known.facts.ranges) (length known.references)) vs → apart_from_all known vs q ≡ true
    → AllByRecursion (λ x. x ≡ values.Array j → IsPassed known array q j) xs
each_passed known number array [] [] j q have are apart = tt
each_passed known number array [] (x ∷ xs) j q have are apart = elim have [ ]
each_passed known number array (v ∷ vs) [] j q have are apart = elim have [ ]
each_passed known number array (v ∷ vs) (x ∷ xs) j q have are apart =
    let parts = and_parts (apart_from known q v) (apart_from_all known vs q) apart in
    (passed_one known number array v x j q have.0 are.0 parts.0, each_passed known number array vs xs j q have.1 are.1 parts.1)

-- a reference that is apart from all that was passed is not the array that a call gives
result_differs : (known : StateFacts) (vs : List Value) (heap : Heap) (number : ℕ → ℤ) (array : ℕ → Option ℕ) (passed_vars : List Var) (xs : List Value) (j q : ℕ)
    → HoldsBy known vs heap number array → AllByRecursion (IsVar (length known.facts.ranges) (length known.references)) passed_vars
    → HaveValues number array passed_vars xs → (Contains xs (values.Array j)) ⊎ (length heap ≤ j) → q ≤ length known.references
    → apart_from_all known passed_vars q ≡ true → array q ≡ Some j → ⊥
result_differs known vs heap number array passed_vars xs j q holds are have passed_or_new there apart is = elim passed_or_new [
  | inl among ↦
      let found = All-contains (λ x. x ≡ values.Array j → IsPassed known array q j) xs (values.Array j)
      (All-from_recursion (λ x. x ≡ values.Array j → IsPassed known array q j) xs (each_passed known number array passed_vars xs j q have are apart)) among refl in
      are_apart_differ known vs heap number array q found.reference holds there found.there found.apart j is found.is
  | inr past ↦ let below = below_heap known vs heap number array q j holds there is in omega (arith, below, past)
]

-- the pairs with one for each reference that passes a test, where that is not the new array
apart_with_differ : (test : ℕ → Bool) (array : ℕ → Option ℕ) (new count : ℕ) (pairs : List Pair) → AllDiffer array pairs
    → ((q : ℕ) → q ≤ count → test q ≡ true → Differ array new q) → AllDiffer array (apart_with test new count pairs)
apart_with_differ test array new zero pairs all differ = all
apart_with_differ test array new (suc q) pairs all differ =
    let rest = apart_with_differ test array new q pairs all (λ r there. differ r (omega (arith, there))) in
    elim (cases_Bool (test (suc q))) [
      | inl is ↦ rw is (with_pair_differ _ array new (suc q) rest (differ (suc q) (omega arith) is))
      | inr is ↦ rw is rest
    ]

-- the pairs behind the result of a call, which is null or this array
call_differs : (known : StateFacts) (vs : List Value) (heap : Heap) (number : ℕ → ℤ) (array : ℕ → Option ℕ) (passed_vars : List Var) (xs : List Value) (a : Option ℕ)
    → HasForm known → HoldsBy known vs heap number array → AllByRecursion (IsVar (length known.facts.ranges) (length known.references)) passed_vars
    → HaveValues number array passed_vars xs → ((j : ℕ) → a ≡ Some j → (Contains xs (values.Array j)) ⊎ (length heap ≤ j))
    → AllDiffer (with_one array (length known.references + 1) a)
    (apart_with (apart_from_all known passed_vars) (length known.references + 1) (length known.references) known.apart)
call_differs known vs heap number array passed_vars xs a form holds are have passed_or_new =
    let count = length known.references in
    let more = with_one array (count + 1) a in
    apart_with_differ (apart_from_all known passed_vars) more (count + 1) count known.apart
    (pairs_agree (length known.facts.ranges) count number number array more known.apart
    (record { numbers = λ s there. refl; arrays = λ r there. earlier_same array count a r there }) form.pairs holds.apart)
    (λ q there apart n first second.
    let a_is : a ≡ Some n = sym (new_same array count a) ∙ first in
    let q_is : array q ≡ Some n = sym (earlier_same array count a q there) ∙ second in
    result_differs known vs heap number array passed_vars xs n q holds are have (passed_or_new n a_is) there apart q_is)

-- an array that a call gives, or null, with a length of its own
pub result_so : (place : Place) (new : Heap) (later : ℕ → ℤ) (x : Reference) (a : Option ℕ) → x.place ≡ place → x.nullness ≡ May → FitsArray new place a
    → worth later x.length ≡ length_of_array new a → IsSo new later x a
result_so place new later x a place_is nullness_is fits is = record {
  fits = subst (λ (p : Place). FitsArray new p a) (sym place_is) fits;
  agrees = subst (λ (n : Nullness). Agrees n (is_no_array a)) (sym nullness_is) tt;
  length_is = is;
}

long_enough : (heap : Heap) (i : ℕ) → IsHeap heap → (pos 0 ≤ℤ pos (length_in heap i)) × (pos (length_in heap i) ≤ℤ pos 2147483647)
long_enough heap i is = each (slice_get heap i) (λ cell so. array_of_heap heap i cell is so)
  where
    each : (o : Option ArrayCell) → ((cell : ArrayCell) → o ≡ Some cell → IsArray cell)
        → (pos 0 ≤ℤ pos (option_map_or (λ (c : ArrayCell). length c.items) o 0)) × (pos (option_map_or (λ (c : ArrayCell). length c.items) o 0) ≤ℤ pos 2147483647)
    each None are = (omega (arith, ints), omega (arith, ints))
    each (Some cell) are = let short = (are cell refl).1 in (omega (arith, ints), omega (arith, ints, short))

pub array_long : (heap : Heap) (a : Option ℕ) → IsHeap heap → (pos 0 ≤ℤ length_of_array heap a) × (length_of_array heap a ≤ℤ pos 2147483647)
array_long heap None is = (omega (arith, ints), omega (arith, ints))
array_long heap (Some i) is = long_enough heap i is

-- an array of which only its length and its place are known holds of what it is
any_items : (place : Place) (facts : Facts) (e : Expr) (heap : Heap) (number : ℕ → ℤ) (a : Option ℕ) → AllowsNumbers facts number → IsHeap heap
    → FitsArray heap place a → worth number e ≡ length_of_array heap a → segments.Holds ranges.Contains number (items_of_array heap a) (whole e (items_of place) true)
any_items place facts e heap number a allowed is_heap fits is =
    whole_held number (items_of_array heap a) e (items_of place) true (zero_number facts number allowed) (is ∙ length_of_items heap a)
    (λ more. absurd (false≢true (sym more))) (all_items heap place a is_heap fits)

-- a reference more, which is null or this array
pub returned_keeps : (place : Place) (known : StateFacts) (apart : List Pair) (vs : List Value) (value : Value) (heap : Heap) (number : ℕ → ℤ)
    (array : ℕ → Option ℕ) (a : Option ℕ) → HasForm known → HoldsBy known vs heap number array → IsHeap heap
    → FitsArray heap place a → reference_of value ≡ Some a → AllDiffer (with_one array (length known.references + 1) a) apart
    → HoldsOn (Some known) (with_returned apart place known) (vs ++ value ∷ []) heap number array
unfolding with_returned
returned_keeps place known apart vs value heap number array a form holds is_heap fits is differ =
    let ends = array_long heap a is_heap in
    each_made_yields known (fresh known.facts (pos 0) (pos 2147483647) None []) number (λ r. is_no_array (array r)) (length_of_array heap a)
    (λ o. HoldsOn (Some known) (option_map (returned apart place known) o) (vs ++ value ∷ []) heap number array)
    (fresh_made known.facts (pos 0) (pos 2147483647))
    (fresh_yields known.facts (pos 0) (pos 2147483647) (length_of_array heap a) number (λ r. is_no_array (array r)) form.named holds.facts
    (omega (arith, ints, ends.0, ends.1)) ends.0 ends.1)
    (λ made is_made more.
    reference_holds known made.facts _ apart (whole made.expr (items_of place) true) vs value heap number more.later array a form holds (made_grows known made form is_made)
    more.agrees more.holds (result_so place heap more.later _ a refl refl fits more.is) is differ
    (any_items place made.facts made.expr heap more.later a more.holds.allowed is_heap fits more.is))

-- ---- what a call gives, by its type

pub fitting_value : (new : Heap) (place : Place) (value : Value) → IsArrayPlace place → FitsPlace new place value
    → (a : Option ℕ) × (reference_of value ≡ Some a) × FitsArray new place a
fitting_value new places.Bools values.Null is fits = (None, refl, tt)
fitting_value new places.Bools (values.Array i) is fits = (Some i, refl, fits)
fitting_value new places.Ints values.Null is fits = (None, refl, tt)
fitting_value new places.Ints (values.Array i) is fits = (Some i, refl, fits)
fitting_value new places.Bools (values.Int n) is fits = elim fits [ ]
fitting_value new places.Bools (values.Native n) is fits = elim fits [ ]
fitting_value new places.Bools (values.Addr a n) is fits = elim fits [ ]
fitting_value new places.Bools values.Text is fits = elim fits [ ]
fitting_value new places.Ints (values.Int n) is fits = elim fits [ ]
fitting_value new places.Ints (values.Native n) is fits = elim fits [ ]
fitting_value new places.Ints (values.Addr a n) is fits = elim fits [ ]
fitting_value new places.Ints values.Text is fits = elim fits [ ]
fitting_value new places.Void value is fits = elim is [ ]
fitting_value new places.Bool value is fits = elim is [ ]
fitting_value new places.Int value is fits = elim is [ ]

array_of_value : (value : Value) (j : ℕ) → reference_of value ≡ Some (Some j) → value ≡ values.Array j
array_of_value values.Null j is = absurd cc
array_of_value (values.Array i) j is = cc
array_of_value (values.Int n) j is = absurd cc
array_of_value (values.Native n) j is = absurd cc
array_of_value (values.Addr a n) j is = absurd cc
array_of_value values.Text j is = absurd cc

have_dropped : (number : ℕ → ℤ) (array : ℕ → Option ℕ) (n : ℕ) (vs : List Var) (xs : List Value) → HaveValues number array vs xs
    → HaveValues number array (drop n vs) (drop n xs)
have_dropped number array zero vs xs have = have
have_dropped number array (suc n) [] [] have = tt
have_dropped number array (suc n) [] (x ∷ xs) have = elim have [ ]
have_dropped number array (suc n) (v ∷ vs) [] have = elim have [ ]
have_dropped number array (suc n) (v ∷ vs) (x ∷ xs) have = have_dropped number array n vs xs have.1

all_dropped : {X : Type 0} (P : X → Type 0) (n : ℕ) (xs : List X) → AllByRecursion P xs → AllByRecursion P (drop n xs)
all_dropped P zero xs all = all
all_dropped P (suc n) [] all = tt
all_dropped P (suc n) (x ∷ xs) all = all_dropped P n xs all.1

passed_named : (first args : ℕ) (known : StateFacts) → HasForm known
    → AllByRecursion (IsVar (length known.facts.ranges) (length known.references)) (passed first args known)
passed_named first args known form =
    all_taken (IsVar (length known.facts.ranges) (length known.references)) args (drop first known.variables)
    (all_dropped (IsVar (length known.facts.ranges) (length known.references)) first known.variables form.variables)

passed_have : (first args : ℕ) (known : StateFacts) (vs : List Value) (heap : Heap) (number : ℕ → ℤ) (array : ℕ → Option ℕ) → HoldsBy known vs heap number array
    → HaveValues number array (passed first args known) (take args (drop first vs))
passed_have first args known vs heap number array holds =
    have_taken number array args (drop first known.variables) (drop first vs) (have_dropped number array first known.variables vs holds.variables)

pub number_value : (new : Heap) (value : Value) → FitsPlace new places.Int value → (n : ℤ) × (number_of value ≡ Some n) × FitsSigned w32 n
number_value new (values.Int n) fits = (n, refl, fits)
number_value new (values.Native n) fits = elim fits [ ]
number_value new values.Null fits = elim fits [ ]
number_value new (values.Array i) fits = elim fits [ ]
number_value new (values.Addr a n) fits = elim fits [ ]
number_value new values.Text fits = elim fits [ ]

pub byte_value : (new : Heap) (value : Value) → FitsPlace new places.Bool value → (n : ℤ) × (number_of value ≡ Some n) × IsByte n
byte_value new (values.Int n) fits = (n, refl, fits)
byte_value new (values.Native n) fits = elim fits [ ]
byte_value new values.Null fits = elim fits [ ]
byte_value new (values.Array i) fits = elim fits [ ]
byte_value new (values.Addr a n) fits = elim fits [ ]
byte_value new values.Text fits = elim fits [ ]

-- ---- what a call leaves of arrays

-- what a call left of a reference
abbrev LeavesItems : (ℕ → ℤ) → Heap → Heap → Option ℕ → Option Unknown → Type 0
LeavesItems number heap new a array = IsBehindCall number array (items_of_array heap a) (items_of_array new a)

kept_items : (known : StateFacts) (passed_vars : List Var) (vs xs : List Value) (heap new : Heap) (number : ℕ → ℤ) (array : ℕ → Option ℕ) (q : ℕ)
    → HoldsBy known vs heap number array → AllByRecursion (IsVar (length known.facts.ranges) (length known.references)) passed_vars
    → HaveValues number array passed_vars xs → KeepsArrays heap new xs → q ≤ length known.references → apart_from_all known passed_vars q ≡ true
    → items_of_array new (array q) ≡ items_of_array heap (array q)
kept_items known passed_vars vs xs heap new number array q holds are have kept there apart = each (array q) refl
  where
    each : (a : Option ℕ) → array q ≡ a → items_of_array new a ≡ items_of_array heap a
    each None is = refl
    each (Some j) is =
        ap (λ (o : Option ArrayCell). option_map_or (λ (c : ArrayCell). c.items) o [])
        (kept.items j (below_heap known vs heap number array q j holds there is)
        (λ among. result_differs known vs heap number array passed_vars xs j q holds are have (inl among) there apart is))

left_items : (known : StateFacts) (passed_vars : List Var) (heap new : Heap) (number : ℕ → ℤ) (a : Option ℕ) (b : Bool) (o : Option Reference) (x : Reference)
    → o ≡ Some x → IsHeap new → IsSo new number x a → (b ≡ true → items_of_array new a ≡ items_of_array heap a)
    → LeavesItems number heap new a (changed_unless b o)
left_items known passed_vars heap new number a true o x is is_heap so kept = kept refl
left_items known passed_vars heap new number a false None x is is_heap so kept = absurd (no_reference is)
  where
    no_reference : None ≡ Some x → ⊥
    no_reference is = cc
left_items known passed_vars heap new number a false (Some y) x is is_heap so kept =
    let found : IsSo new number y a = subst (λ (r : Reference). IsSo new number r a) (sym (same_reference y x is)) so in
    (found.length_is ∙ length_of_items new a, all_items new y.place a is_heap found.fits)
  where
    same_reference : (r q : Reference) → Some r ≡ Some q → r ≡ q
    same_reference r q is = cc

pub forgotten_holds : (known : StateFacts) (passed_vars : List Var) (vs xs : List Value) (heap new : Heap) (number : ℕ → ℤ) (array : ℕ → Option ℕ)
    → HasForm known → HoldsBy known vs heap number array → IsHeap new → KeepsArrays heap new xs
    → AllByRecursion (IsVar (length known.facts.ranges) (length known.references)) passed_vars → HaveValues number array passed_vars xs
    → HoldsBy (without_items passed_vars known) vs new number array
unfolding reference_at
forgotten_holds known passed_vars vs xs heap new number array form holds is_heap kept are have =
    over_heap known (forgotten changed known.contents) vs heap new number array form holds kept.forms
    (forgotten_held number (λ r. items_of_array heap (array r)) (λ r. items_of_array new (array r)) known.contents changed
    (zero_number known.facts number holds.facts.allowed) (λ i below. left i (subst (λ (n : ℕ). i < n) (as_many_contents known form) below)) holds.contents)
  where
    changed : List (Option Unknown)
    changed = map (changed_at known passed_vars) (range_with_len 1 (length known.references))

    left : (i : ℕ) → i < length known.references → LeavesItems number heap new (array (suc i)) (get_or changed i None)
    left i below =
        let here = get_or-map-range_with_len (changed_at known passed_vars) 1 (length known.references) i (suc i) None below (omega arith) in
        let found = present known.references i below in
        let agree : Agree (length known.facts.ranges) (length known.references) number array number array = record { numbers = λ s there. refl; arrays = λ r there. refl } in
        let so = references_agree heap new (length known.facts.ranges) number number array array known.references agree kept.forms form.references holds.references in
        subst (LeavesItems number heap new (array (suc i))) (sym here)
        (left_items known passed_vars heap new number (array (suc i)) (apart_from_all known passed_vars (suc i)) (slice_get known.references i) found.0 found.1 is_heap
        (so (suc i) found.0 found.1)
        (λ apart. kept_items known passed_vars vs xs heap new number array (suc i) holds are have kept (omega (arith, below)) apart))

-- ---- what a call gives

-- another state with as many symbols and references, from which something holds
from_same : (known before : StateFacts) (after : State) (vs : List Value) (heap : Heap) (number : ℕ → ℤ) (array : ℕ → Option ℕ)
    → before.facts ≡ known.facts → before.references ≡ known.references → HoldsOn (Some before) after vs heap number array
    → HoldsOn (Some known) after vs heap number array
from_same known before after vs heap number array facts references on = record {
  later = on.later;
  later_array = on.later_array;
  agrees = subst (λ (f : Facts). (s : ℕ) → s ≤ length f.ranges → on.later s ≡ number s) facts on.agrees;
  agrees_arrays = subst (λ (rs : List Reference). (r : ℕ) → r ≤ length rs → on.later_array r ≡ array r) references on.agrees_arrays;
  holds = on.holds;
}

-- The result of a call, over the heap behind it. What was passed is told by the heap before it.
given : (first args : ℕ) (place : Place) (known : StateFacts) (vs : List Value) (new : Heap) (number : ℕ → ℤ) (array : ℕ → Option ℕ) (result : Option Value)
    → HasForm known → HoldsBy known vs new number array → IsHeap new → FitsResult new place result
    → ((value : Value) (a : Option ℕ) → result ≡ Some value → reference_of value ≡ Some a → AllDiffer (with_one array (length known.references + 1) a)
    (apart_with (apart_from_all known (passed first args known)) (length known.references + 1) (length known.references) known.apart))
    → HoldsOn (Some known) (with_result first args place known) (vs ++ listed result) new number array
unfolding with_result
given first args places.Void known vs new number array None form holds is_heap fits differ = rw append-nil (same_choice known known vs new number array holds)
given first args places.Void known vs new number array (Some value) form holds is_heap fits differ = elim fits [ ]
given first args places.Bool known vs new number array None form holds is_heap fits differ = elim fits [ ]
given first args places.Int known vs new number array None form holds is_heap fits differ = elim fits [ ]
given first args places.Bools known vs new number array None form holds is_heap fits differ = elim fits [ ]
given first args places.Ints known vs new number array None form holds is_heap fits differ = elim fits [ ]
given first args places.Bool known vs new number array (Some value) form holds is_heap fits differ =
    let found = byte_value new value fits in
    number_keeps (pos 0) (pos 255) found.0 known vs new number array value form holds found.1 (omega (arith, ints, found.2.0, found.2.1)) found.2.0
    (omega (arith, ints, found.2.1))
given first args places.Int known vs new number array (Some value) form holds is_heap fits differ =
    let found = number_value new value fits in
    number_keeps LEAST GREATEST found.0 known vs new number array value form holds found.1 found.2 (omega (arith, ints, found.2)) (omega (arith, ints, found.2))
given first args places.Bools known vs new number array (Some value) form holds is_heap fits differ =
    let found = fitting_value new places.Bools value tt fits in
    returned_keeps places.Bools known _ vs value new number array found.0 form holds is_heap found.2 found.1 (differ value found.0 refl found.1)
given first args places.Ints known vs new number array (Some value) form holds is_heap fits differ =
    let found = fitting_value new places.Ints value tt fits in
    returned_keeps places.Ints known _ vs value new number array found.0 form holds is_heap found.2 found.1 (differ value found.0 refl found.1)

call_result : (first args : ℕ) (place : Place) (known : StateFacts) (vs : List Value) (heap new : Heap) (number : ℕ → ℤ) (array : ℕ → Option ℕ) (result : Option Value)
    → HasForm known → HoldsBy known vs heap number array → IsHeap new → KeepsArrays heap new (take args (drop first vs)) → FitsResult new place result
    → IsPassedOrNew heap (take args (drop first vs)) result → HoldsOn (Some known) (with_call first args place known) (vs ++ listed result) new number array
unfolding with_call are_apart
call_result first args place known vs heap new number array result form holds is_heap kept fits passed_or_new =
    let are = passed_named first args known form in
    let have = passed_have first args known vs heap number array holds in
    from_same known (without_items (passed first args known) known) _ (vs ++ listed result) new number array refl refl
    (given first args place (without_items (passed first args known) known) vs new number array result (without_form (passed first args known) known form)
    (forgotten_holds known (passed first args known) vs (take args (drop first vs)) heap new number array form holds is_heap kept are have) is_heap fits
    (λ value a is a_is.
    call_differs known vs heap number array (passed first args known) (take args (drop first vs)) a form holds are have
    (λ j so. subst (λ (v : Value). IsPassedOrNew heap (take args (drop first vs)) (Some v))
    (array_of_value value j (a_is ∙ ap (λ (o : Option ℕ). Some o) so)) (subst (IsPassedOrNew heap (take args (drop first vs))) is passed_or_new))))

pub call_keeps : (first args : ℕ) (place : Place) (state : State) → ForSome state HasForm → KeepsCall first args place state (calls.forget first args place state)
call_keeps first args place None form = λ vs heap new number array result holds is_heap kept fits passed_or_new. elim holds [ ]
call_keeps first args place (Some known) form = λ vs heap new number array result holds is_heap kept fits passed_or_new.
    call_result first args place known vs heap new number array result (form known refl) holds is_heap kept fits passed_or_new
