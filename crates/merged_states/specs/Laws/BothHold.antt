-- What two states know together holds wherever one of them does, and the normal form wherever its state does.
use Rattle.std.proofs.Common.{◌≡◌, ℕ, ◌+◌, ◌≤◌, ℤ, Bool, true, false, List, [], ◌∷◌, length, Option, Some, None, refl, sym, ap, subst}
use Rattle.std.specs.Prelude.{if◌then◌else◌}
use Rattle.std.specs.Option.{option_and_then, option_map}
use Rattle.std.proofs.lemmas.Bool.{eq-eqb}
use Rattle.alias_facts.specs.Arrays.{is_no_array}
use Rattle.array_contents.specs.Contents.{AreHeld}
use Rattle.array_contents.specs.Merging.{Making}
use Rattle.array_contents.proofs.FormLaws.{formed_each}
use Rattle.array_contents.proofs.MergeLaws.{KeepsBoth, hull_keeps, merged_held, old_items, renamed_held}
use Rattle.array_contents.proofs.MergeLaws as laws
use Rattle.array_contents.proofs.MergedForms.{each_is_named}
use Rattle.cil_model.specs.Places.{place_number}
use Rattle.cil_model.specs.Values.{Heap}
use Rattle.cil_model.specs.declared.machine.Value.{Value}
use Rattle.frame_names.specs.declared.reference.Reference.{Reference}
use Rattle.frame_names.specs.declared.var.Var.{Var}
use Rattle.frame_names.specs.declared.var.Var.TheVariants as vars
use Rattle.merged_numbers.specs.Meaning.{Keeps, SomeSo}
use Rattle.merged_numbers.specs.Merging as numbers
use Rattle.merged_numbers.specs.Merging.{Outcome}
use Rattle.merged_numbers.proofs.Laws.{normed_keeps}
use Rattle.merged_numbers.proofs.RuleLaws.{joined_first, joined_second, widened_first, widened_second}
use Rattle.symbolic_values.specs.OwnNames.{own_names}
use Rattle.symbolic_values.specs.declared.pairs.Key.{Key}
use Rattle.symbolic_values.proofs.OwnNameLaws.{own_names_agree}
use Rattle.state_facts.specs.Forms.{HasForm, lengths_of}
use Rattle.state_facts.specs.Holds.{HoldsIn, items_of_array}
use Rattle.merged_states.specs.Merging.{Rule, joining, merged_as, merged_by, merged_known, normal_as, normal_by, normal_known, widening}
use Rattle.merged_states.specs.Alike.{AreComparable, AreLike}
use Rattle.merged_states.specs.Parts.{are_numbered, contents_of_both, contents_of_one, numbers_known}
use Rattle.state_facts.specs.StateFacts.{StateFacts, both_of_same_place, reference_at}
use Rattle.merged_states.specs.Laws.Definitions.{both_says, one_says}
use Rattle.merged_states.specs.Laws.Frames.{alike_of}
use Rattle.merged_states.specs.Laws.Lengths.{keys_there, lengths_named, lengths_stand}
use Rattle.merged_states.specs.Laws.MergedHolds.{SideSo, arrays_of, frame, frame_made, keys_are_int32, later_of, new_holds}
use Rattle.merged_states.specs.Laws.References.{joined_differ, kept_differ}

-- A rule keeps what a side knows of numbers, whatever the keys, and of two ranges what either has.
pub record KeepsSide (is_first : Bool) (rule : Rule) (a b : StateFacts) : Type 0 where
  pub numbers : (keys : List Key)
      → Keeps is_first keys (if is_first then numbers_known a.facts else numbers_known b.facts)
      (rule.numbers keys (numbers_known a.facts) (numbers_known b.facts))
  pub ranges : KeepsBoth rule.making

-- ---- two states

side_there : (is_first : Bool) (a b : StateFacts) (u : Key)
    → (u.s ≤ length a.contents) × (u.t ≤ length b.contents)
    → (if is_first then u.s else u.t) ≤ length (if is_first then a.contents else b.contents)
side_there true a b u there = there.0
side_there false a b u there = there.1

-- What both states know of items holds of the items on each side.
both_held : (is_first : Bool) (making : Making) (a b : StateFacts) (vs : List Value) (heap : Heap) (number : ℕ → ℤ)
    (array : ℕ → Option ℕ) → KeepsBoth making → AreComparable a b → SideSo is_first a b vs heap number array
    → are_numbered (frame a b) ≡ true
    → AreHeld (later_of is_first a b number) (λ r. items_of_array heap (arrays_of is_first a b array r))
    (contents_of_both making (frame a b) a.contents b.contents)
unfolding frame
both_held is_first making a b vs heap number array keeps like so numbered =
    merged_held is_first making (frame a b).numbers a.contents b.contents (frame a b).references.keys
    (frame a b).lengths number (λ r. items_of_array heap (array r)) (λ r. items_of_array heap (arrays_of is_first a b array r)) keeps
    (formed_each (length a.facts.ranges) (lengths_of a.references) a.contents like.first.contents)
    (formed_each (length b.facts.ranges) (lengths_of b.references) b.contents like.second.contents)
    (lengths_stand a b (frame a b) like.first like.second (alike_of a b a.variables b.variables like.variables)
    (frame_made is_first a b vs heap number array so) numbered)
    so.origin_is (ap (items_of_array heap) so.null)
    (λ u has. side_there is_first a b u (keys_there a b like.first like.second u has))
    (old_items is_first (frame a b).references.keys (λ r. items_of_array heap (array r))) so.held

outcome_holds : (is_first : Bool) (making : Making) (a b : StateFacts) (vs : List Value) (heap : Heap) (number : ℕ → ℤ)
    (array : ℕ → Option ℕ) (outcome : Option Outcome) → KeepsBoth making
    → AreComparable a b → SideSo is_first a b vs heap number array
    → SomeSo outcome (later_of is_first a b number)
    → HoldsIn (option_map (merged_as making a b (frame a b)) outcome) vs heap (later_of is_first a b number)
    (arrays_of is_first a b array)
outcome_holds is_first making a b vs heap number array None keeps like so some = some
outcome_holds is_first making a b vs heap number array (Some outcome) keeps like so some =
    new_holds is_first a b vs heap number array outcome _ _ _ like.variables so some
    (λ u d is. both_says is_first number (λ r. is_no_array (array r)) (frame a b) a.facts.definitions
    b.facts.definitions u d so.defined is)
    (joined_differ heap number is_first a.references b.references a.apart b.apart array (frame a b).references.keys
    so.entries so.differ) (both_held is_first making a b vs heap number array keeps like so)

-- Wherever a side holds, both as one do, by the choice behind the names.
pub merged_holds : (is_first : Bool) (rule : Rule) (a b : StateFacts) (vs : List Value) (heap : Heap)
    (number : ℕ → ℤ) (array : ℕ → Option ℕ)
    → KeepsSide is_first rule a b → AreComparable a b → SideSo is_first a b vs heap number array
    → HoldsIn (merged_known rule a b) vs heap (later_of is_first a b number) (arrays_of is_first a b array)
merged_holds is_first rule a b vs heap number array keeps like so =
    subst
    (λ found. HoldsIn (option_and_then (merged_by rule a b) found) vs heap (later_of is_first a b number)
    (arrays_of is_first a b array))
    (sym (frame_made is_first a b vs heap number array so))
    (outcome_holds is_first rule.making a b vs heap number array
    (rule.numbers (frame a b).numbers.keys (numbers_known a.facts) (numbers_known b.facts)) keeps.ranges like so
    (keeps.numbers (frame a b).numbers.keys number so.allowed (keys_are_int32 is_first a b vs heap number array so)))

pub joined_keeps : (is_first : Bool) (a b : StateFacts) → KeepsSide is_first joining a b
joined_keeps true a b = record {
  numbers = λ keys. joined_first keys (numbers_known a.facts) (numbers_known b.facts);
  ranges = hull_keeps;
}
joined_keeps false a b = record {
  numbers = λ keys. joined_second keys (numbers_known a.facts) (numbers_known b.facts);
  ranges = hull_keeps;
}

pub widened_keeps : (is_first : Bool) (a b : StateFacts) → KeepsSide is_first widening a b
widened_keeps true a b = record {
  numbers = λ keys. widened_first keys (numbers_known a.facts) (numbers_known b.facts);
  ranges = laws.widened_keeps;
}
widened_keeps false a b = record {
  numbers = λ keys. widened_second keys (numbers_known a.facts) (numbers_known b.facts);
  ranges = laws.widened_keeps;
}

-- ---- one state

same_with_itself : (r : Option Reference) → both_of_same_place r r ≡ true
same_with_itself None = refl
same_with_itself (Some known) = eq-eqb (place_number known.place) (place_number known.place) refl

like_vars : (a : StateFacts) (vs : List Var) → AreLike a a vs vs
like_vars a [] = tt
like_vars a (vars.Number e ∷ vs) = (tt, like_vars a vs)
like_vars a (vars.Reference r ∷ vs) = (same_with_itself (reference_at a.references r), like_vars a vs)
like_vars a (vars.Text ∷ vs) = (tt, like_vars a vs)
like_vars a (vars.Address r e ∷ vs) = (same_with_itself (reference_at a.references r), like_vars a vs)

-- What is known of items holds in new names.
own_held : (a : StateFacts) (vs : List Value) (heap : Heap) (number : ℕ → ℤ) (array : ℕ → Option ℕ) → HasForm a
    → SideSo true a a vs heap number array → are_numbered (frame a a) ≡ true
    → AreHeld (later_of true a a number) (λ r. items_of_array heap (arrays_of true a a array r))
    (contents_of_one (frame a a) (length a.facts.ranges + 1) a.contents)
unfolding frame
own_held a vs heap number array form so numbered =
    renamed_held (own_names (frame a a).numbers (length a.facts.ranges + 1)) a.contents (frame a a).references.keys
    number (later_of true a a number) (λ r. items_of_array heap (array r))
    (λ r. items_of_array heap (arrays_of true a a array r))
    (formed_each (length a.facts.ranges) (lengths_of a.references) a.contents form.contents)
    (each_is_named (own_names (frame a a).numbers (length a.facts.ranges + 1)) a.contents (frame a a).references.keys
    (frame a a).lengths
    (lengths_named a (frame a a) form (frame_made true a a vs heap number array so) numbered))
    so.origin_is (ap (items_of_array heap) so.null)
    (λ u has. (keys_there a a form form u has).0)
    (λ s name at. sym (own_names_agree (frame a a).numbers (length a.facts.ranges + 1) number s name at))
    (old_items true (frame a a).references.keys (λ r. items_of_array heap (array r))) so.held

own_outcome_holds : (a : StateFacts) (vs : List Value) (heap : Heap) (number : ℕ → ℤ) (array : ℕ → Option ℕ)
    (outcome : Option Outcome)
    → HasForm a → SideSo true a a vs heap number array → SomeSo outcome (later_of true a a number)
    → HoldsIn (option_map (normal_as a (frame a a)) outcome) vs heap (later_of true a a number)
    (arrays_of true a a array)
own_outcome_holds a vs heap number array None form so some = some
own_outcome_holds a vs heap number array (Some outcome) form so some =
    new_holds true a a vs heap number array outcome _ _ _ (like_vars a a.variables) so some
    (λ u d is. one_says number (λ r. is_no_array (array r)) (frame a a) _ _ a.facts.definitions u d so.defined is)
    (kept_differ array a.apart (frame a a).references.keys so.differ) (own_held a vs heap number array form so)

-- Wherever a state holds, its normal form does, by the choice behind the names.
pub normal_holds : (a : StateFacts) (vs : List Value) (heap : Heap) (number : ℕ → ℤ) (array : ℕ → Option ℕ)
    → HasForm a → SideSo true a a vs heap number array
    → HoldsIn (normal_known a) vs heap (later_of true a a number) (arrays_of true a a array)
normal_holds a vs heap number array form so =
    subst
    (λ found. HoldsIn (option_and_then (normal_by a) found) vs heap (later_of true a a number)
    (arrays_of true a a array))
    (sym (frame_made true a a vs heap number array so))
    (own_outcome_holds a vs heap number array (numbers.normed (frame a a).numbers.keys (numbers_known a.facts)) form so
    (normed_keeps (frame a a).numbers.keys (numbers_known a.facts) number so.allowed
    (keys_are_int32 true a a vs heap number array so)))
