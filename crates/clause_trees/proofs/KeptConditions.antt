-- What conditions keep: the value of the branch that is taken is one of what is seen.
use Rattle.std.proofs.Common.{◌≡◌, ◌≢◌, ℕ, zero, suc, ◌==◌, ℤ, pos, int_eq, Bool, true, false, not, List, [], ◌∷◌, ◌++◌, length, Option, Some, None, FitsSigned, w32, refl, ap, subst, sym, ◌∙◌, arith}
use Rattle.std.specs.Option.{option_and_then, option_or}
use Rattle.std.proofs.lemmas.Bool.{cond_both, false≢true}
use Rattle.std.proofs.lemmas.Grind.{common_steps}
use Rattle.std.proofs.lemmas.Int.{clamps, ints}
use Rattle.std.proofs.lemmas.Option.{none-some, same_Some}
use Rattle.cil_model.specs.Comparisons.{compares_values, is_true, number_of, reference_of}
use Rattle.cil_model.specs.FitKinds.{FitsKind}
use Rattle.cil_model.specs.Passes.{merged_kind}
use Rattle.cil_model.specs.Values.{FitsPlace, Heap, IsHeap, IsValue}
use Rattle.cil_model.specs.declared.instruction.CmpOp.TheVariants as comparisons
use Rattle.cil_model.specs.declared.machine.Value.{Value}
use Rattle.cil_model.specs.declared.machine.Value.TheVariants as values
use Rattle.cil_model.specs.declared.place.Kind.{Kind}
use Rattle.cil_model.specs.declared.place.Kind.TheVariants as kinds
use Rattle.cil_model.specs.declared.place.Place.{Place}
use Rattle.cil_model.specs.declared.place.Place.TheVariants as places
use Rattle.frame_names.specs.declared.var.Var.{Var}
use Rattle.frame_names.specs.declared.var.Var.TheVariants as vars
use Rattle.merged_numbers.specs.Spans.{hull, kept_hole}
use Rattle.number_facts.specs.Ends.{range_of}
use Rattle.number_facts.proofs.Knowing.{constant_worth, range_has}
use Rattle.number_spans.specs.Constants.{constant}
use Rattle.number_spans.specs.Spans.{Has, excludes}
use Rattle.number_spans.specs.declared.span.Span.{Span}
use Rattle.number_spans.proofs.ComparingLaws.{excluded_apart}
use Rattle.symbolic_values.specs.Worth.{worth}
use Rattle.state_facts.specs.Forms.{HasForm, HasVar, IsArrayPlace}
use Rattle.state_facts.specs.Holds.{FitsArray, HasValue, HoldsBy, HoldsIn}
use Rattle.state_facts.specs.Keeps.{HoldsOn}
use Rattle.state_facts.specs.Moves.{place_of}
use Rattle.state_facts.specs.StateFacts.{StateFacts, State}
use Rattle.state_facts.proofs.Agreeing.{reference_of_form}
use Rattle.state_facts.proofs.AssumptionsHold.{assume_keeps}
use Rattle.state_facts.proofs.MovesHold.{push_keeps}
use Rattle.state_facts.proofs.UnknownValues.{unknown_is_kept, within_is_kept}
use Rattle.state_obligations.specs.Following.{StaysThere, StaysThereIn}
use Rattle.clause_trees.specs.TreeValues.{Step, branch, condition_value, in_state, push_seen, seen_in, seen_of, seen_of_both, seen_of_reached, seen_on_top, true_known}
use Rattle.clause_trees.specs.VariableKinds.{IsOfKind}
use Rattle.clause_trees.specs.declared.conditions.Seen.{Seen}
use Rattle.clause_trees.specs.declared.conditions.Seen.TheVariants as seen
use Rattle.clause_trees.proofs.KeptSteps.{comes, for_known, held_so, top_value}
use Rattle.clause_trees.proofs.PushedTrees.{IsSeen, IsSeenIf, PushesBehind, branch_seen, left_seen, reference_found, true_follows}
use Rattle.clause_trees.proofs.PushedValues.{constant_there}
use Rattle.clause_trees.proofs.Stays.{pushed_there, top_is}
use Rattle.clause_trees.proofs.Typing.{is_of_tree, merged_swaps}

-- ---- spans

either_apart : (a b : Option ℤ) (n : ℤ) → a ≢ Some n → b ≢ Some n → option_or a b ≢ Some n
either_apart None b n first second = second
either_apart (Some k) b n first second = first

kept_own : (hole : Option ℤ) (other : Span) (n : ℤ) → hole ≢ Some n → kept_hole hole other ≢ Some n
kept_own None other n apart = apart
kept_own (Some k) other n apart =
    cond_both (excludes other k) (Some k) None (λ o. o ≢ Some n) (λ e. apart) (λ e is. none-some n is)

kept_other : (hole : Option ℤ) (other : Span) (n : ℤ) → Has other n → kept_hole hole other ≢ Some n
kept_other None other n has = λ is. none-some n is
kept_other (Some k) other n has =
    cond_both (excludes other k) (Some k) None (λ o. o ≢ Some n)
    (λ e is. excluded_apart other k n has e (same_Some k n is))
    (λ e is. none-some n is)

hull_first : (a b : Span) (n : ℤ) → Has a n → Has (hull a b) n
unfolding hull
hull_first a b n has = record {
  above = omega (arith, ints, clamps, has.above);
  below = omega (arith, ints, clamps, has.below);
  no_hole = either_apart (kept_hole a.hole b) (kept_hole b.hole a) n (kept_own a.hole b n has.no_hole)
      (kept_other b.hole a n has);
}

hull_second : (a b : Span) (n : ℤ) → Has b n → Has (hull a b) n
unfolding hull
hull_second a b n has = record {
  above = omega (arith, ints, clamps, has.above);
  below = omega (arith, ints, clamps, has.below);
  no_hole = either_apart (kept_hole a.hole b) (kept_hole b.hole a) n (kept_other a.hole b n has)
      (kept_own b.hole a n has.no_hole);
}

-- ---- what a value is seen as

pub record IsNumberOf (r : Span) (is : Value) : Type 0 where
  pub n : ℤ
  pub is_int : is ≡ values.Int n
  pub fits : FitsSigned w32 n
  pub has : Has r n

-- A value is one of those that are seen.
abbrev pub Describes : Heap → Seen → Value → Type 0
Describes heap (seen.Number r) is = IsNumberOf r is
Describes heap seen.Null is = is ≡ values.Null
Describes heap (seen.Array place) is = FitsPlace heap place is

null_fits : (heap : Heap) (place : Place) → IsArrayPlace place → FitsPlace heap place values.Null
null_fits heap places.Bools array = tt
null_fits heap places.Ints array = tt
null_fits heap _ array = elim array [ ]

array_fits : (heap : Heap) (place : Place) (i : ℕ) → IsArrayPlace place → FitsArray heap place (Some i)
    → FitsPlace heap place (values.Array i)
array_fits heap places.Bools i array fits = fits
array_fits heap places.Ints i array fits = fits
array_fits heap _ i array fits = elim array [ ]

array_described : (heap : Heap) (place : Place) (is : Value) (a : Option ℕ) → IsArrayPlace place
    → FitsArray heap place a
    → reference_of is ≡ Some a → FitsPlace heap place is
array_described heap place values.Null a array fits has = null_fits heap place array
array_described heap place (values.Array i) a array fits has =
    array_fits heap place i array (subst (FitsArray heap place) (sym (same_Some (Some i) a has)) fits)
array_described heap place _ a array fits has = absurd (none-some a has)

null_is : (is : Value) (a : Option ℕ) → a ≡ None → reference_of is ≡ Some a → is ≡ values.Null
null_is values.Null a none has = refl
null_is (values.Array i) a none has = absurd (none-some i (sym none ∙ sym (same_Some (Some i) a has)))
null_is _ a none has = absurd (none-some a has)

int_described : (heap : Heap) (r : Span) (is : Value) (n : ℤ) → FitsKind heap kinds.Int is → number_of is ≡ Some n
    → Has r n → IsNumberOf r is
int_described heap r (values.Int m) n fits has in_range =
    record { n = m; is_int = refl; fits = fits; has = subst (Has r) (sym (same_Some m n has)) in_range }
int_described heap r _ n fits has in_range = elim fits [ ]

-- What the top has is seen.
abbrev DescribesIf : Heap → Option Seen → Value → Type 0
DescribesIf heap None is = ⊥
DescribesIf heap (Some s) is = Describes heap s is

reference_described : (after : StateFacts) (ws : List Value) (heap : Heap) (number : ℕ → ℤ) (array : ℕ → Option ℕ)
    (r : ℕ) (is : Value)
    → HasVar after (vars.Reference r) → HasForm after → HoldsBy after ws heap number array
    → HasValue number array (vars.Reference r) is
    → DescribesIf heap (seen_of after (vars.Reference r)) is
reference_described after ws heap number array zero is there form holds has = null_is is (array 0) holds.null has
reference_described after ws heap number array (suc r) is there form holds has =
    let (x, found) = reference_found after r there in
    subst (λ p. FitsPlace heap p is) (sym (ap place_of found))
    (array_described heap x.place is (array (suc r))
    (reference_of_form after.references (length after.facts.ranges) (suc r) x form.references found).place
    (holds.references (suc r) x found).fits has)

top_described : (after : StateFacts) (kind : Kind) (v : Var) (ws : List Value) (heap : Heap) (number : ℕ → ℤ)
    (array : ℕ → Option ℕ) (is : Value)
    → HasVar after v → HasForm after → is_of_tree kind ≡ true → IsOfKind after kind v → FitsKind heap kind is
    → HoldsBy after ws heap number array
    → HasValue number array v is → DescribesIf heap (seen_of after v) is
top_described after kinds.Int (vars.Number e) ws heap number array is there form of_tree of_kind fits holds has =
    int_described heap (range_of after.facts e) is (worth number e) fits has
    (range_has after.facts number e holds.facts.allowed there.there)
top_described after kind (vars.Reference r) ws heap number array is there form of_tree of_kind fits holds has =
    reference_described after ws heap number array r is there form holds has
top_described after kinds.AddrInts (vars.Address r e) ws heap number array is there form of_tree of_kind fits holds
    has = absurd (false≢true of_tree)
top_described after kinds.AddrBools (vars.Address r e) ws heap number array is there form of_tree of_kind fits holds
    has = absurd (false≢true of_tree)
top_described after _ _ ws heap number array is there form of_tree of_kind fits holds has = elim of_kind [ ]

-- ---- either branch

null_of : (heap : Heap) (kind : Kind) (t : Seen) → IsSeen kind t → IsSeen kind seen.Null → Describes heap t values.Null
null_of heap kinds.Ints seen.Null so null = refl
null_of heap kinds.Ints (seen.Array place) so null = subst (λ p. FitsPlace heap p values.Null) (sym so) tt
null_of heap kinds.Bools seen.Null so null = refl
null_of heap kinds.Bools (seen.Array place) so null = subst (λ p. FitsPlace heap p values.Null) (sym so) tt
null_of heap kinds.NullRef seen.Null so null = refl
null_of heap kinds.Int _ so null = elim null [ ]
null_of heap _ _ so null = elim so [ ]

first_described : (heap : Heap) (kind : Kind) (s t : Seen) (is : Value) → IsSeen kind s → IsSeen kind t
    → Describes heap s is
    → Describes heap (seen_of_both s t) is
first_described heap kinds.Int (seen.Number r) (seen.Number q) is one two so =
    record { n = so.n; is_int = so.is_int; fits = so.fits; has = hull_first r q so.n so.has }
first_described heap kinds.Int (seen.Number r) _ is one two so = elim two [ ]
first_described heap kind seen.Null t is one two so = subst (Describes heap t) (sym so) (null_of heap kind t two one)
first_described heap kind (seen.Array place) t is one two so = so
first_described heap _ _ _ is one two so = elim one [ ]

second_described : (heap : Heap) (kind : Kind) (s t : Seen) (is : Value) → IsSeen kind s → IsSeen kind t
    → Describes heap t is
    → Describes heap (seen_of_both s t) is
second_described heap kinds.Int (seen.Number r) (seen.Number q) is one two so =
    record { n = so.n; is_int = so.is_int; fits = so.fits; has = hull_second r q so.n so.has }
second_described heap kinds.Int (seen.Number r) _ is one two so = elim two [ ]
second_described heap kind seen.Null t is one two so = so
second_described heap kind (seen.Array place) seen.Null is one two so =
    subst (Describes heap (seen.Array place)) (sym so) (null_of heap kind (seen.Array place) one two)
second_described heap kinds.Ints (seen.Array place) (seen.Array other) is one two so =
    subst (λ p. FitsPlace heap p is) (two ∙ sym one) so
second_described heap kinds.Ints (seen.Array place) _ is one two so = elim two [ ]
second_described heap kinds.Bools (seen.Array place) (seen.Array other) is one two so =
    subst (λ p. FitsPlace heap p is) (two ∙ sym one) so
second_described heap kinds.Bools (seen.Array place) _ is one two so = elim two [ ]
second_described heap _ _ _ is one two so = elim one [ ]

reached_first : (heap : Heap) (a b kind : Kind) (s t : Option Seen) (is : Value) → merged_kind a b ≡ Some kind
    → IsSeenIf a s → IsSeenIf b t
    → DescribesIf heap s is → DescribesIf heap (seen_of_reached s t) is
reached_first heap a b kind None t is merged one two so = elim so [ ]
reached_first heap a b kind (Some s) None is merged one two so = so
reached_first heap a b kind (Some s) (Some t) is merged one two so =
    first_described heap kind s t is (left_seen a b kind s merged one)
    (left_seen b a kind t (merged_swaps a b kind merged) two) so

reached_second : (heap : Heap) (a b kind : Kind) (s t : Option Seen) (is : Value) → merged_kind a b ≡ Some kind
    → IsSeenIf a s → IsSeenIf b t
    → DescribesIf heap t is → DescribesIf heap (seen_of_reached s t) is
reached_second heap a b kind s None is merged one two so = elim so [ ]
reached_second heap a b kind None (Some t) is merged one two so = so
reached_second heap a b kind (Some s) (Some t) is merged one two so =
    second_described heap kind s t is (left_seen a b kind s merged one)
    (left_seen b a kind t (merged_swaps a b kind merged) two) so

seen_kept : (known : StateFacts) (o : Option Seen) (is : Value) (vs : List Value) (heap : Heap) (number : ℕ → ℤ)
    (array : ℕ → Option ℕ)
    → HasForm known → IsHeap heap → HoldsBy known vs heap number array → DescribesIf heap o is
    → HoldsOn (Some known) (push_seen o known) (vs ++ is ∷ []) heap number array
seen_kept known None is vs heap number array form is_heap holds so = elim so [ ]
seen_kept known (Some (seen.Number r)) is vs heap number array form is_heap holds so =
    subst (λ v. HoldsOn (Some known) (push_seen (Some (seen.Number r)) known) (vs ++ v ∷ []) heap number array)
    (sym so.is_int)
    (within_is_kept r (Some known) (for_known known HasForm form) vs heap number array so.n holds so.fits so.has)
seen_kept known (Some seen.Null) is vs heap number array form is_heap holds so =
    held_so known _ (vs ++ is ∷ []) heap number array
    (push_keeps (vars.Reference 0) (Some known) vs heap number array is holds
    (ap reference_of so ∙ ap Some (sym holds.null)))
seen_kept known (Some (seen.Array place)) is vs heap number array form is_heap holds so =
    unknown_is_kept place (Some known) (for_known known HasForm form) vs heap number array is holds is_heap so

-- ---- tests

number_truth : (x : Value) (n : ℤ) → number_of x ≡ Some n → compares_values comparisons.NeUn x
    (values.Int (pos 0)) ≡ is_true x
number_truth (values.Int m) n has = refl
number_truth (values.Native m) n has =
    let same : int_eq (pos m) (pos 0) ≡ (m == 0) = grind (arith, ints, common_steps) in ap (λ b. Some (not b)) same
number_truth _ n has = absurd (none-some n has)

reference_truth : (x : Value) (a : Option ℕ) → reference_of x ≡ Some a
    → compares_values comparisons.NeUn x values.Null ≡ is_true x
reference_truth values.Null a has = refl
reference_truth (values.Array i) a has = refl
reference_truth _ a has = absurd (none-some a has)

-- Where the test's value is so, the state that assumes it holds by the same choice.
pub true_kept : (so : Bool) (known : StateFacts) (v : Var) (x : Value) (vs : List Value) (heap : Heap) (number : ℕ → ℤ)
    (array : ℕ → Option ℕ)
    → HasForm known → HasVar known v → IsValue heap x → HoldsBy known vs heap number array → HasValue number array v x
    → is_true x ≡ Some so
    → HoldsIn (true_known so v known) vs heap number array
true_kept so known (vars.Number e) x vs heap number array form there value holds has is =
    assume_keeps comparisons.NeUn (vars.Number e) (vars.Number (constant (pos 0))) so (Some known)
    (for_known known HasForm form)
    (for_known known (λ k. HasVar k (vars.Number e)) there)
    (for_known known (λ k. HasVar k (vars.Number (constant (pos 0))))
    (constant_there known (pos 0) (omega (arith, ints))))
    vs heap number array x (values.Int (pos 0)) holds has
    (ap Some (sym (constant_worth known.facts number (constant (pos 0)) holds.facts.allowed refl))) value
    (omega (arith, ints))
    (number_truth x (worth number e) has ∙ is)
true_kept so known (vars.Reference r) x vs heap number array form there value holds has is =
    assume_keeps comparisons.NeUn (vars.Reference r) (vars.Reference 0) so (Some known) (for_known known HasForm form)
    (for_known known (λ k. HasVar k (vars.Reference r)) there)
    (for_known known (λ k. HasVar k (vars.Reference 0)) (omega arith))
    vs heap number array x values.Null holds has (ap Some (sym holds.null)) value tt
    (reference_truth x (array r) has ∙ is)
true_kept so known vars.Text x vs heap number array form there value holds has is = holds
true_kept so known (vars.Address r e) x vs heap number array form there value holds has is = holds

-- ---- conditions

-- What a branch keeps that is taken.
abbrev pub KeepsBehind : StateFacts → Step → List Value → Value → Heap → (ℕ → ℤ) → (ℕ → Option ℕ) → Type 0
KeepsBehind known inside vs is heap number array =
    (x : StateFacts) → StaysThere known x → HoldsBy x vs heap number array
    → HoldsOn (Some x) (inside x).state (vs ++ is ∷ []) heap number array

taken_described : (known : StateFacts) (kind : Kind) (inside : Step) (so : Bool) (v : Var) (is : Value)
    (vs : List Value) (heap : Heap)
    (number : ℕ → ℤ) (array : ℕ → Option ℕ) → StaysThereIn known (true_known so v known)
    → HoldsIn (true_known so v known) vs heap number array → is_of_tree kind ≡ true
    → FitsKind heap kind is → PushesBehind known kind inside → KeepsBehind known inside vs is heap number array
    → DescribesIf heap (seen_in (branch inside so v known)) is
taken_described known kind inside so v is vs heap number array stays holds of_tree fits pushes keeps =
    by (true_known so v known) stays holds
  where
    by : (o : State) → StaysThereIn known o → HoldsIn o vs heap number array
        → DescribesIf heap (seen_in (in_state inside o)) is
    by None stays holds = elim holds [ ]
    by (Some x) stays holds =
        let first = comes x kind (inside x).state (vs ++ is ∷ []) heap number array (pushes x stays)
        (keeps x stays holds) in
        let top = first.pushed.top in
        subst (λ s. DescribesIf heap (option_and_then seen_on_top s) is) (sym first.state_is)
        (subst (λ t. DescribesIf heap (option_and_then (seen_of first.after) t) is)
        (sym (top_is x first.after kind first.pushed))
        (top_described first.after kind top (vs ++ is ∷ []) heap first.later first.later_array is
        (pushed_there x first.after kind first.pushed)
        first.pushed.grown.form of_tree first.pushed.of_kind fits first.holds
        (top_value x first.after kind vs is heap first.later first.later_array first.pushed first.holds)))

pub condition_kept : (known : StateFacts) (left right kind : Kind) (a b : Step) (v : Var) (so : Bool) (x is : Value)
    (vs : List Value) (heap : Heap)
    (number : ℕ → ℤ) (array : ℕ → Option ℕ) → HasForm known → HasVar known v → IsHeap heap → IsValue heap x
    → HoldsBy known vs heap number array
    → HasValue number array v x → is_true x ≡ Some so → merged_kind left right ≡ Some kind
    → is_of_tree left ≡ true → is_of_tree right ≡ true → PushesBehind known left a → PushesBehind known right b
    → (so ≡ true → FitsKind heap left is × KeepsBehind known a vs is heap number array)
    → (so ≡ false → FitsKind heap right is × KeepsBehind known b vs is heap number array)
    → HoldsOn (Some known) (condition_value a b v known).state (vs ++ is ∷ []) heap number array
condition_kept known left right kind a b v true x is vs heap number array form there is_heap value holds has so merged
    of_left of_right first second one two =
    let taken = one refl in
    seen_kept known _ is vs heap number array form is_heap holds
    (reached_first heap left right kind (seen_in (branch a true v known)) (seen_in (branch b false v known)) is merged
    (branch_seen known left a true v form there first) (branch_seen known right b false v form there second)
    (taken_described known left a true v is vs heap number array (true_follows true v known form there)
    (true_kept true known v x vs heap number array form there value holds has so) of_left taken.0 first taken.1))
condition_kept known left right kind a b v false x is vs heap number array form there is_heap value holds has so merged
    of_left of_right first second one two =
    let taken = two refl in
    seen_kept known _ is vs heap number array form is_heap holds
    (reached_second heap left right kind (seen_in (branch a true v known)) (seen_in (branch b false v known)) is merged
    (branch_seen known left a true v form there first) (branch_seen known right b false v form there second)
    (taken_described known right b false v is vs heap number array (true_follows false v known form there)
    (true_kept false known v x vs heap number array form there value holds has so) of_right taken.0 second taken.1))
