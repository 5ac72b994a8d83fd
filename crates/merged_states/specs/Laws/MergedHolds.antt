-- Where a state holds, what it is in new names holds too: the two states that are made one, and the normal form.
use Rattle.std.proofs.Common.{◌≡◌, ℕ, zero, suc, ◌+◌, ◌≤◌, ℤ, pos, Bool, true, false, List, [], ◌∷◌, length, map, get_or, slice_get, Option, Some, None, FitsSigned, w32, refl, sym, ap, ◌∙◌, subst, arith}
use Rattle.std.specs.Prelude.{if◌then◌else◌}
use Rattle.std.specs.List.{AllByRecursion, list_all}
use Rattle.std.proofs.lemmas.Bool.Decides.{Decides-eqb}
use Rattle.std.proofs.lemmas.Int.{ints}
use Rattle.domain_api.specs.declared.expr.Expr.{Expr}
use Rattle.alias_facts.specs.Arrays.{AllDiffer, is_no_array}
use Rattle.alias_facts.specs.PairsOf.{Pair}
use Rattle.array_contents.specs.Contents.{AreHeld, Contents}
use Rattle.cil_model.specs.Places.{place_number}
use Rattle.cil_model.specs.Values.{Heap, IsHeap}
use Rattle.cil_model.specs.declared.machine.Value.{Value}
use Rattle.cil_model.specs.declared.place.Place.{Place}
use Rattle.frame_names.specs.Frames.{AreAlike, length_at, numbers_of, place_in, references_of}
use Rattle.frame_names.specs.MergedReferences.{merged_references}
use Rattle.frame_names.specs.Meaning.{arrays_behind, numbers_behind}
use Rattle.frame_names.proofs.SaidLaws.{frames_have_lengths, frames_say}
use Rattle.frame_names.specs.PairedFrames.{FramePairing, exprs_of, is_near, named_frame, old_of, paired_frames, pairing_by, pairs_of}
use Rattle.frame_names.specs.declared.reference.Reference.{Reference}
use Rattle.frame_names.specs.declared.var.Var.{Var}
use Rattle.frame_names.specs.declared.var.Var.TheVariants as vars
use Rattle.interval_domain.specs.Interval.{one}
use Rattle.merged_numbers.specs.Known.{Known}
use Rattle.merged_numbers.specs.Meaning.{AreInt32, Keeps, SomeSo}
use Rattle.merged_numbers.specs.Meaning as numbers
use Rattle.merged_numbers.specs.Merging.{Outcome}
use Rattle.number_facts.specs.Facts.{Facts, range_at}
use Rattle.number_facts.specs.Holds.{IsDefined, is_below}
use Rattle.number_facts.specs.Laws.Allowing.{AllowsNumbers}
use Rattle.number_spans.specs.Stored.{Allows}
use Rattle.pentagon_domain.specs.Gaps as by_bounds
use Rattle.symbolic_values.specs.Meaning.{told}
use Rattle.symbolic_values.specs.Names.{as_expr}
use Rattle.symbolic_values.specs.Pairing.{Pairing, origin, paired, use_of, uses_of}
use Rattle.symbolic_values.specs.Worth.{behind_uses, worth, worth_of_use}
use Rattle.symbolic_values.specs.declared.def.Def.{Def}
use Rattle.symbolic_values.specs.declared.pairs.Key.{Key}
use Rattle.symbolic_values.proofs.WorthLaws.{zero_behind}
use Rattle.state_facts.specs.Holds.{AreSo, HaveValues, HoldsBy, items_of_array, length_of_array}
use Rattle.merged_states.specs.Merging.{known_as}
use Rattle.merged_states.specs.Alike.{AreLike}
use Rattle.merged_states.specs.Following.{AreNoneBeyond, AreOfMachine}
use Rattle.merged_states.specs.Parts.{are_numbered, entry_of, if_numbered, numbers_known, unknown_array}
use Rattle.state_facts.specs.StateFacts as states
use Rattle.state_facts.specs.StateFacts.{StateFacts, State}
use Rattle.merged_states.specs.Laws.Definitions.{definitions_so}
use Rattle.merged_states.specs.Laws.Frames.{IsEntry, alike_of, both_fit, entries_so, have_same, key_lengths_fit, length_fits, same_entry, vars_fit}
use Rattle.merged_states.specs.Laws.Items.{each_worth, items_full, items_long, unknown_held}
use Rattle.merged_states.specs.Laws.Numbers.{numbers_allowed, zero_is}
use Rattle.merged_states.specs.Laws.References.{HaveOnePlace, OldEntry, all_so, are_so}
use Rattle.merged_states.specs.Laws.Uses.{AllFit, all_keys, exprs_near, keys_fit}

-- ---- references of like variables have one place

some_place : (p q : Place) → Some p ≡ Some q → p ≡ q
some_place p q same = cc

places_of : (x y : Option Reference) (p q : Place) → states.both_of_same_place x y ≡ true
    → place_in x ≡ Some p → place_in y ≡ Some q
    → place_number p ≡ place_number q
places_of None y p q same first second = absurd cc
places_of (Some x) None p q same first second = absurd cc
places_of (Some x) (Some y) p q same first second =
    ap place_number (sym (some_place x.place p first))
    ∙ (Decides-eqb (place_number x.place) (place_number y.place)).0 same
    ∙ ap place_number (some_place y.place q second)

one_place_of : (a b : StateFacts) (r q : ℕ)
    → states.both_of_same_place (states.reference_at a.references r) (states.reference_at b.references q) ≡ true
    → HaveOnePlace a.references b.references (use_of (as_expr r) (as_expr q))
one_place_of a b r q same p t first second =
    places_of (states.reference_at a.references r) (states.reference_at b.references q) p t same
    (ap place_in (same_entry a.references r) ∙ first) (ap place_in (same_entry b.references q) ∙ second)

use_places : (a b : StateFacts) (xs ys : List Var) → AreLike a b xs ys
    → AllByRecursion (HaveOnePlace a.references b.references)
    (uses_of (map as_expr (references_of xs)) (map as_expr (references_of ys)))
use_places a b [] [] like = tt
use_places a b [] (y ∷ ys) like = absurd like
use_places a b (x ∷ xs) [] like = absurd like
use_places a b (vars.Number e ∷ xs) (vars.Number f ∷ ys) like = use_places a b xs ys like.1
use_places a b (vars.Reference r ∷ xs) (vars.Reference q ∷ ys) like =
    (one_place_of a b r q like.0, use_places a b xs ys like.1)
use_places a b (vars.Text ∷ xs) (vars.Text ∷ ys) like = use_places a b xs ys like.1
use_places a b (vars.Address r e ∷ xs) (vars.Address q f ∷ ys) like =
    (one_place_of a b r q like.0, use_places a b xs ys like.1)
use_places a b (x ∷ xs) (y ∷ ys) like = absurd like.0

origin_place : (a b : StateFacts) → HaveOnePlace a.references b.references origin
origin_place a b p q first second = absurd cc

pub key_places : (a b : StateFacts) → AreLike a b a.variables b.variables
    → AllByRecursion (HaveOnePlace a.references b.references) (pairs_of a.variables b.variables).keys
key_places a b like =
    all_keys (HaveOnePlace a.references b.references) (map as_expr (references_of a.variables))
    (map as_expr (references_of b.variables))
    (origin_place a b) (use_places a b a.variables b.variables like)

-- ---- what a state that holds knows, as its parts

pub record PartsSo (variables : List Var) (references : List Reference) (definitions : List (ℕ × Def))
    (pairs : List Pair) (contents : Contents) (known : Known) (vs : List Value)
    (heap : Heap) (number : ℕ → ℤ) (array : ℕ → Option ℕ) : Type 0 where
  pub origin_is : number 0 ≡ pos 0
  pub null : array 0 ≡ None
  pub allowed : numbers.AllowsKnown known number
  pub defined : AllByRecursion (IsDefined number (λ r. is_no_array (array r))) definitions
  pub have : HaveValues number array variables vs
  pub fit : AllFit number (numbers_of variables)
  pub lengths : (r : ℕ) → FitsSigned w32 (worth number (length_at references r))
  pub entries : (r : ℕ) → IsEntry heap number references r (array r)
  pub differ : AllDiffer array pairs
  pub held : AreHeld number (λ r. items_of_array heap (array r)) contents
  pub arrays : IsHeap heap

pub parts_so : (known : StateFacts) (vs : List Value) (heap : Heap) (number : ℕ → ℤ) (array : ℕ → Option ℕ)
    → HoldsBy known vs heap number array
    → AreNoneBeyond known array → AreOfMachine vs heap
    → PartsSo known.variables known.references known.facts.definitions known.apart known.contents
    (numbers_known known.facts) vs heap number array
parts_so known vs heap number array so beyond machine =
    let start : number 0 ≡ pos 0 = zero_is known.facts number so.facts.allowed in
    record {
      origin_is = start;
      null = so.null;
      allowed = numbers_allowed known.facts number so.facts.allowed;
      defined = so.facts.definitions;
      have = so.variables;
      fit = vars_fit number array known.variables vs so.variables machine.numbers;
      lengths =
          λ r. subst (FitsSigned w32)
          (sym (entries_so heap known number array r start so.references beyond).length_is)
          (length_fits heap (array r) machine.arrays);
      entries = λ r. entries_so heap known number array r start so.references beyond;
      differ = so.apart;
      held = so.contents;
      arrays = machine.arrays;
    }

-- The parts of one of two states.
abbrev pub SideSo : Bool → StateFacts → StateFacts → List Value → Heap → (ℕ → ℤ) → (ℕ → Option ℕ) → Type 0
SideSo is_first a b vs heap number array =
    PartsSo (if is_first then a.variables else b.variables) (if is_first then a.references else b.references)
    (if is_first then a.facts.definitions else b.facts.definitions) (if is_first then a.apart else b.apart)
    (if is_first then a.contents else b.contents)
    (if is_first then numbers_known a.facts else numbers_known b.facts) vs heap number array

-- ---- the frame

pub pairing : StateFacts → StateFacts → Pairing
pairing a b = pairing_by (pairs_of a.variables b.variables) a.variables a.references b.variables b.references

unfoldable pub frame : StateFacts → StateFacts → FramePairing
frame a b =
    named_frame a.variables (pairs_of a.variables b.variables)
    (pairing_by (pairs_of a.variables b.variables) a.variables a.references b.variables b.references)

first_exprs : StateFacts → StateFacts → List Expr
first_exprs a b = exprs_of a.variables a.references true (pairs_of a.variables b.variables).keys

second_exprs : StateFacts → StateFacts → List Expr
second_exprs a b = exprs_of b.variables b.references false (pairs_of a.variables b.variables).keys

exprs_fit : (is_first : Bool) (a b : StateFacts) (vs : List Value) (heap : Heap) (number : ℕ → ℤ)
    (array : ℕ → Option ℕ) → SideSo is_first a b vs heap number array
    → AllFit number (if is_first then first_exprs a b else second_exprs a b)
unfolding first_exprs second_exprs
exprs_fit true a b vs heap number array so =
    both_fit number (numbers_of a.variables) _ so.fit
    (key_lengths_fit true a.references number (pairs_of a.variables b.variables).keys so.lengths)
exprs_fit false a b vs heap number array so =
    both_fit number (numbers_of b.variables) _ so.fit
    (key_lengths_fit false b.references number (pairs_of a.variables b.variables).keys so.lengths)

if_true : {X : Type 0} (test : Bool) (x : X) → test ≡ true → (if test then Some x else None) ≡ Some x
if_true true x is = refl
if_true false x is = absurd cc

-- Where a side holds, the frames can be named.
pub frame_made : (is_first : Bool) (a b : StateFacts) (vs : List Value) (heap : Heap) (number : ℕ → ℤ)
    (array : ℕ → Option ℕ) → SideSo is_first a b vs heap number array
    → paired_frames a.variables a.references b.variables b.references ≡ Some (frame a b)
unfolding frame first_exprs second_exprs
frame_made is_first a b vs heap number array so =
    if_true (list_all is_near (paired (first_exprs a b) (second_exprs a b)).exprs) (frame a b)
    (exprs_near is_first number (first_exprs a b) (second_exprs a b) so.origin_is
    (exprs_fit is_first a b vs heap number array so))

pub keys_are_int32 : (is_first : Bool) (a b : StateFacts) (vs : List Value) (heap : Heap) (number : ℕ → ℤ)
    (array : ℕ → Option ℕ) → SideSo is_first a b vs heap number array
    → AreInt32 is_first number (frame a b).numbers.keys
unfolding frame first_exprs second_exprs
keys_are_int32 is_first a b vs heap number array so =
    keys_fit is_first number (first_exprs a b) (second_exprs a b) so.origin_is
    (exprs_fit is_first a b vs heap number array so)

-- ---- the new choice

abbrev pub later_of : Bool → StateFacts → StateFacts → (ℕ → ℤ) → ℕ → ℤ
later_of is_first a b number = numbers_behind is_first number (frame a b)

abbrev pub arrays_of : Bool → StateFacts → StateFacts → (ℕ → Option ℕ) → ℕ → Option ℕ
arrays_of is_first a b array = arrays_behind is_first array (frame a b)

vars_have : (is_first : Bool) (a b : StateFacts) (vs : List Value) (heap : Heap) (number : ℕ → ℤ)
    (array : ℕ → Option ℕ) → AreAlike a.variables b.variables
    → SideSo is_first a b vs heap number array
    → HaveValues (later_of is_first a b number) (arrays_of is_first a b array) (frame a b).vars vs
vars_have is_first a b vs heap number array alike so =
    have_same number (later_of is_first a b number) array (arrays_of is_first a b array) (frame a b).vars
    (if is_first then a.variables else b.variables) vs
    (frames_say a.variables b.variables a.references b.references (Some (frame a b)) alike
    (sym (frame_made is_first a b vs heap number array so))
    is_first number array) so.have

lengths_worth : (is_first : Bool) (a b : StateFacts) (vs : List Value) (heap : Heap) (number : ℕ → ℤ)
    (array : ℕ → Option ℕ) → AreAlike a.variables b.variables
    → SideSo is_first a b vs heap number array
    → map (worth (later_of is_first a b number)) (frame a b).lengths
    ≡ map (λ u. worth number (length_at (if is_first then a.references else b.references) (old_of is_first u)))
    (frame a b).references.keys
lengths_worth is_first a b vs heap number array alike so =
    frames_have_lengths a.variables b.variables a.references b.references (Some (frame a b)) alike
    (sym (frame_made is_first a b vs heap number array so))
    is_first number

old_entries : (is_first : Bool) (a b : StateFacts) (vs : List Value) (heap : Heap) (number : ℕ → ℤ)
    (array : ℕ → Option ℕ) (us : List Key)
    → SideSo is_first a b vs heap number array
    → AllByRecursion (λ u. OldEntry heap number is_first a.references b.references u (array (old_of is_first u))) us
old_entries is_first a b vs heap number array [] so = tt
old_entries is_first a b vs heap number array (u ∷ us) so =
    (so.entries (old_of is_first u), old_entries is_first a b vs heap number array us so)

references_so : (is_first : Bool) (a b : StateFacts) (vs : List Value) (heap : Heap) (number : ℕ → ℤ)
    (array : ℕ → Option ℕ) → AreLike a b a.variables b.variables
    → SideSo is_first a b vs heap number array
    → AreSo heap (later_of is_first a b number) (arrays_of is_first a b array)
    (map entry_of (merged_references a.references b.references (frame a b).references.keys (frame a b).lengths))
unfolding frame
references_so is_first a b vs heap number array like so =
    are_so heap (later_of is_first a b number) array is_first (pairs_of a.variables b.variables).keys _
    (all_so heap number (later_of is_first a b number) is_first a.references b.references
    (λ u. array (old_of is_first u))
    (pairs_of a.variables b.variables).keys (frame a b).lengths (key_places a b like)
    (old_entries is_first a b vs heap number array (pairs_of a.variables b.variables).keys so)
    (lengths_worth is_first a b vs heap number array (alike_of a b a.variables b.variables like) so))

-- ---- items

new_lengths : (is_first : Bool) (a b : StateFacts) (vs : List Value) (heap : Heap) (number : ℕ → ℤ)
    (array : ℕ → Option ℕ) → AreAlike a.variables b.variables
    → SideSo is_first a b vs heap number array → (i : ℕ) (e : Expr) → slice_get (frame a b).lengths i ≡ Some e
    → worth (later_of is_first a b number) e
    ≡ pos (length (items_of_array heap (arrays_of is_first a b array (suc i))))
new_lengths is_first a b vs heap number array alike so i e is =
    let old : ℕ = old_of is_first (get_or (frame a b).references.keys i origin) in
    each_worth (later_of is_first a b number)
    (λ u. worth number (length_at (if is_first then a.references else b.references) (old_of is_first u)))
    (frame a b).lengths (frame a b).references.keys (lengths_worth is_first a b vs heap number array alike so) i e is
    ∙ (so.entries old).length_is ∙ items_long heap (array old)

-- What is known of items, or no more than lengths where symbols have no numbers of 32 bits.
items_so : (is_first : Bool) (a b : StateFacts) (vs : List Value) (heap : Heap) (number : ℕ → ℤ)
    (array : ℕ → Option ℕ) (contents : Contents) → AreAlike a.variables b.variables
    → SideSo is_first a b vs heap number array
    → (are_numbered (frame a b) ≡ true → AreHeld (later_of is_first a b number)
    (λ r. items_of_array heap (arrays_of is_first a b array r)) contents)
    → AreHeld (later_of is_first a b number) (λ r. items_of_array heap (arrays_of is_first a b array r))
    (if_numbered (frame a b) contents)
items_so is_first a b vs heap number array contents alike so held = by (are_numbered (frame a b)) refl
  where
    by : (numbered : Bool) → are_numbered (frame a b) ≡ numbered
        → AreHeld (later_of is_first a b number) (λ r. items_of_array heap (arrays_of is_first a b array r))
        (if numbered then contents else map unknown_array (frame a b).lengths)
    by true is = held is
    by false is =
        unknown_held (later_of is_first a b number) (λ r. items_of_array heap (arrays_of is_first a b array r))
        (frame a b).lengths (zero_behind is_first number (frame a b).numbers.keys ∙ so.origin_is)
        (new_lengths is_first a b vs heap number array alike so)
        (λ r. items_full heap (arrays_of is_first a b array r) so.arrays)

-- ---- the whole

null_stays : (is_first : Bool) (a b : StateFacts) (array : ℕ → Option ℕ) → array 0 ≡ None
    → arrays_of is_first a b array 0 ≡ None
null_stays true a b array none = none
null_stays false a b array none = none

zero_allowed : (n : ℤ) → n ≡ pos 0 → Allows (one (pos 0)) n
zero_allowed n is = record { above = omega (arith, ints, is); below = omega (arith, ints, is); no_hole = λ wrong. cc }

pub new_allowed : (facts : Facts) (outcome : Outcome) (number : ℕ → ℤ) → facts.ranges ≡ outcome.ranges
    → facts.bounds ≡ outcome.bounds → number 0 ≡ pos 0
    → numbers.IsSo outcome number → AllowsNumbers facts number
unfolding range_at
new_allowed facts outcome number ranges bounds start so = record {
  ranges = λ s there. by s there;
  bounds = subst (λ rows. by_bounds.Allows rows number) (sym bounds) so.bounds;
}
  where
    by : (s : ℕ) → s ≤ length facts.ranges → Allows (range_at facts s) (number s)
    by zero there = zero_allowed (number 0) start
    by (suc i) there =
        subst (λ rs. Allows (get_or rs i (one (pos 0))) (number (suc i))) (sym ranges)
        (so.ranges i (omega (arith, there, ap length ranges)))

one_behind : (is_first : Bool) (number : ℕ → ℤ) (keys : List Key) (i : ℕ)
    → behind_uses is_first number (origin ∷ keys) (1 + i) ≡ worth_of_use is_first number (get_or keys i origin)
one_behind is_first number keys i = ap (behind_uses is_first number (origin ∷ keys)) (one_more i)
  where
    one_more : (n : ℕ) → 1 + n ≡ suc n
    one_more n = omega arith

zero_later : (is_first : Bool) (a b : StateFacts) (number : ℕ → ℤ) → later_of is_first a b number 0 ≡ number 0
zero_later is_first a b number = zero_behind is_first number (frame a b).numbers.keys

names_later : (is_first : Bool) (a b : StateFacts) (number : ℕ → ℤ) (i : ℕ)
    → later_of is_first a b number (1 + i) ≡ worth_of_use is_first number (get_or (frame a b).numbers.keys i origin)
names_later is_first a b number i = one_behind is_first number (frame a b).numbers.keys i

-- What both states know in new names holds of what one of them holds of.
pub new_holds : (is_first : Bool) (a b : StateFacts) (vs : List Value) (heap : Heap) (number : ℕ → ℤ)
    (array : ℕ → Option ℕ) (outcome : Outcome) (def : Key → Option Def)
    (pairs : List Pair) (contents : Contents) → AreLike a b a.variables b.variables
    → SideSo is_first a b vs heap number array
    → numbers.IsSo outcome (later_of is_first a b number)
    → ((u : Key) (d : Def) → def u ≡ Some d
    → worth_of_use is_first number u ≡ told is_below (later_of is_first a b number)
    (λ r. is_no_array (arrays_of is_first a b array r)) d)
    → AllDiffer (arrays_of is_first a b array) pairs
    → (are_numbered (frame a b) ≡ true → AreHeld (later_of is_first a b number)
    (λ r. items_of_array heap (arrays_of is_first a b array r)) contents)
    → HoldsBy (known_as a b (frame a b) outcome def pairs contents) vs heap (later_of is_first a b number)
    (arrays_of is_first a b array)
new_holds is_first a b vs heap number array outcome def pairs contents like so numbers_so says differ held = record {
  null = null_stays is_first a b array so.null;
  facts = record {
    allowed =
        new_allowed _ outcome (later_of is_first a b number) refl refl
        (zero_later is_first a b number ∙ so.origin_is) numbers_so;
    definitions =
        definitions_so (later_of is_first a b number) (λ r. is_no_array (arrays_of is_first a b array r))
        (worth_of_use is_first number) def 1
        (frame a b).numbers.keys (names_later is_first a b number) says;
  };
  variables = vars_have is_first a b vs heap number array (alike_of a b a.variables b.variables like) so;
  references = references_so is_first a b vs heap number array like so;
  apart = differ;
  contents =
      items_so is_first a b vs heap number array contents (alike_of a b a.variables b.variables like) so held;
}
