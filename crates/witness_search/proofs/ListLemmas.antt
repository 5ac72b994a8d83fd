-- Argument lists, from the first on.
use Rattle.std.proofs.Common.{◌≡◌, ◌≢◌, ℕ, zero, suc, ◌+◌, ◌<◌, ◌≤◌, Bool, true, false, not, List, [], ◌∷◌, ◌++◌, length, map, take, drop, get_or, Some, IfSome, slice_get, refl, sym, ap, subst, ◌∙◌, append_assoc, option_map, arith}
use Rattle.std.specs.List.{AllByRecursion}
use Rattle.std.proofs.lemmas.List.{append-nil, map-append, take_all, take_more}
use Rattle.cil_model.specs.WellFormed.{HoldValues}
use Rattle.cil_model.specs.declared.arg.Arg.{Arg}
use Rattle.cil_model.specs.declared.arg.Arg.TheVariants as args
use Rattle.cil_model.specs.declared.place.Place.{Place}
use Rattle.cil_model.specs.declared.place.Place.TheVariants as places
use Rattle.witness_search.specs.Choices.{argument_lists, choices, values_after, values_of}
use Rattle.witness_search.specs.ListsLeft.{AreChosen, IsMade, IsNextOf, begun, chosen_list, lists_from, lists_left, value_of, values_in}
use Rattle.witness_search.specs.declared.choice.Choice.{Choice}
use Rattle.witness_search.proofs.ChoiceLemmas.{first_choice}

-- ---- values

some_value : (earlier : List Place) (place : Place) → place ≢ places.Void → 0 < length (values_of earlier place)
some_value earlier places.Void some = absurd (some refl)
some_value earlier places.Int some = omega arith
some_value earlier places.Bool some = omega arith
some_value earlier places.Ints some = omega arith
some_value earlier places.Bools some = omega arith

some_at : (earlier types : List Place) (k : ℕ) (d : Place) → HoldValues types → k < length types → 0 < length (values_of earlier (get_or types k d))
some_at earlier [] k d hold few = absurd (omega (arith, few))
some_at earlier (place ∷ types) zero d hold few = some_value earlier place hold.0
some_at earlier (place ∷ types) (suc k) d hold few = some_at earlier types k d hold.1 (omega (arith, few))

-- Each parameter has a value.
pub some_values : (types : List Place) (k : ℕ) (d : Place) (values : List Arg) → values ≡ values_of (take k types) (get_or types k d) → HoldValues types → k < length types
    → 0 < length values
some_values types k d values is hold few = subst (λ values. 0 < length values) (sym is) (some_at (take k types) types k d hold few)

one_more : (earlier types : List Place) (place : Place) → values_after earlier (types ++ place ∷ []) ≡ values_after earlier types ++ values_of (earlier ++ types) place ∷ []
one_more earlier [] place = ap (λ all. values_of all place ∷ []) (sym (append-nil earlier))
one_more earlier (first ∷ types) place =
    ap (λ all. values_of earlier first ∷ all) (one_more (earlier ++ first ∷ []) types place
    ∙ ap (λ all. values_after (earlier ++ first ∷ []) types ++ values_of all place ∷ []) (append_assoc earlier (first ∷ []) types))

-- ---- the choice of the first values

pub begun_more : (types : List Place) (k : ℕ) (d : Place) (all : List Choice) (values : List Arg) → k < length types → values ≡ values_of (take k types) (get_or types k d)
    → all ≡ map begun (values_after [] (take k types)) → all ++ begun values ∷ [] ≡ map begun (values_after [] (take (k + 1) types))
begun_more types k d all values few is are =
    ap (λ all. all ++ begun values ∷ []) are
    ∙ ap (λ values. map begun (values_after [] (take k types)) ++ begun values ∷ []) is
    ∙ sym (ap (λ some. map begun (values_after [] some)) (take_more types k d few) ∙ ap (map begun) (one_more [] (take k types) (get_or types k d)) ∙ map-append begun (values_after [] (take k types)) (values_of (take k types) (get_or types k d) ∷ []))

made_more : (all : List Choice) (choice : Choice) → AllByRecursion IsMade all → IsMade choice → AllByRecursion IsMade (all ++ choice ∷ [])
made_more [] choice are is = (is, tt)
made_more (first ∷ all) choice are is = (are.0, made_more all choice are.1 is)

-- One parameter more.
pub chosen_more : (all : List Choice) (given : List Arg) (choice : Choice) (arg : Arg) → AreChosen all given → IsMade choice → arg ≡ value_of choice
    → AreChosen (all ++ choice ∷ []) (given ++ arg ∷ [])
chosen_more all given choice arg are is e = record {
  made = made_more all choice are.made is;
  given_are = ap (λ given. given ++ arg ∷ []) are.given_are ∙ ap (λ arg. chosen_list all ++ arg ∷ []) e ∙ sym (map-append value_of all (choice ∷ []));
}

values_again : (all : List (List Arg)) → map values_in (map begun all) ≡ all
values_again [] = refl
values_again (values ∷ all) = ap (λ rest. values ∷ rest) (values_again all)

all_begun : (all : List (List Arg)) → AllByRecursion IsMade (map begun all) → lists_from (map begun all) ≡ choices all
all_begun [] made = refl
all_begun (values ∷ all) made =
    ap (λ lists. map (λ rest. get_or values 0 args.Null ∷ rest) lists ++ choices (drop 1 values ∷ map values_in (map begun all))) (all_begun all made.1)
    ∙ ap (λ others. map (λ rest. get_or values 0 args.Null ∷ rest) (choices all) ++ choices (drop 1 values ∷ others)) (values_again all)
    ∙ first_choice values all made.0

-- From the first values on there are all lists.
pub begun_lists : (types : List Place) (k : ℕ) (all : List Choice) (given : List Arg) → length types ≤ k → all ≡ map begun (values_after [] (take k types)) → AreChosen all given
    → lists_from all ≡ argument_lists types
begun_lists types k all given whole is are =
    let begun_all : all ≡ map begun (values_after [] types) = is ∙ ap (λ some. map begun (values_after [] some)) (take_all k types whole) in
    ap lists_from begun_all ∙ all_begun (values_after [] types) (subst (AllByRecursion IsMade) begun_all are.made)

-- ---- the lists that are left

begins_with : (value : Arg) (first : List Arg) (lists more : List (List Arg)) → slice_get lists 0 ≡ Some first
    → slice_get (map (λ rest. value ∷ rest) lists ++ more) 0 ≡ Some (value ∷ first)
begins_with value first [] more e = absurd cc
begins_with value first (list ∷ lists) more e = ap (option_map (λ rest. value ∷ rest)) e

chosen_first : (all : List Choice) → slice_get (lists_from all) 0 ≡ Some (chosen_list all)
chosen_first [] = refl
chosen_first (choice ∷ all) =
    begins_with (value_of choice) (chosen_list all) (lists_from all) (choices (drop (choice.chosen + 1) choice.values ∷ map values_in all)) (chosen_first all)

pub first_left : (all : List Choice) (given : List Arg) → AreChosen all given → Some given ≡ slice_get (lists_from all) 0
first_left all given are = ap Some are.given_are ∙ sym (chosen_first all)

pub first_is : (done : Bool) (all : List Choice) (given : List Arg) → (done ≡ false → AreChosen all given) → IfSome (slice_get (lists_left done all) 0) (λ first. given ≡ first)
first_is true all given are = tt
first_is false all given are = subst (λ first. IfSome first (λ first. given ≡ first)) (first_left all given (are refl)) refl

pub left_after : (old new : List Choice) (more : Bool) → IsNextOf old new more → lists_left (not more) new ≡ drop 1 (lists_from old)
left_after old new true next = sym (ap (λ lists. drop 1 lists) next)
left_after old new false next = sym (ap (λ lists. drop 1 lists) next.0)
