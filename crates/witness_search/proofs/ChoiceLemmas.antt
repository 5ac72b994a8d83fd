-- The lists that come after some choices.
use Rattle.std.proofs.Common.{◌≡◌, ◌+◌, ◌<◌, ◌≤◌, nat_lt, Bool, true, false, if◌then◌else◌, List, [], ◌∷◌, ◌++◌, length, map, drop, get_or, refl, sym, ap, subst, ◌∙◌, arith}
use Rattle.std.proofs.lemmas.Bool.{lt-ltb, ltb-false, ltb-true}
use Rattle.std.proofs.Math.ListN.{drop_of_length-le}
use Rattle.std.proofs.lemmas.List.{drop_more}
use Rattle.cil_model.specs.declared.arg.Arg.{Arg}
use Rattle.cil_model.specs.declared.arg.Arg.TheVariants as args
use Rattle.witness_search.specs.Choices.{choices}
use Rattle.witness_search.specs.ListsLeft.{IsMade, IsNextOf, chosen_list, lists_from, value_of, values_in, went_on}
use Rattle.witness_search.specs.declared.choice.Choice.{Choice}

-- The choices from a list of values on for the first parameter.
abbrev with_first : Arg → List (List Arg) → List (List Arg)
with_first value lists = map (λ rest. value ∷ rest) lists

-- ---- the first list

pub first_choice : (values : List Arg) (others : List (List Arg)) → 0 < length values
    → with_first (get_or values 0 args.Null) (choices others) ++ choices (drop 1 values ∷ others) ≡ choices (values ∷ others)
first_choice [] others some = absurd (omega (arith, some))
first_choice (value ∷ values) others some = refl

-- ---- the next list

pub nothing_to_choose : (all : List Choice) → all ≡ [] → IsNextOf all all false
nothing_to_choose all none = subst (λ all. IsNextOf all all false) (sym none) (refl, refl)

pub after_others : (choice : Choice) (olds news : List Choice) → lists_from olds ≡ chosen_list olds ∷ lists_from news → map values_in news ≡ map values_in olds
    → lists_from (choice ∷ olds) ≡ chosen_list (choice ∷ olds) ∷ lists_from (choice ∷ news)
after_others choice olds news next same =
    ap (λ lists. with_first (value_of choice) lists ++ choices (drop (choice.chosen + 1) choice.values ∷ map values_in olds)) next
    ∙ ap (λ all. chosen_list (choice ∷ olds) ∷ (with_first (value_of choice) (lists_from news) ++ choices (drop (choice.chosen + 1) choice.values ∷ all))) (sym same)

-- The others are at their first list again.
module _ (old new : Choice) (olds news : List Choice) (last : lists_from olds ≡ chosen_list olds ∷ []) (again : lists_from news ≡ choices (map values_in news))
    (same : map values_in news ≡ map values_in olds) (values : new.values ≡ old.values) where
  here : lists_from (old ∷ olds) ≡ chosen_list (old ∷ olds) ∷ choices (drop (old.chosen + 1) old.values ∷ map values_in olds)
  here = ap (λ lists. with_first (value_of old) lists ++ choices (drop (old.chosen + 1) old.values ∷ map values_in olds)) last

  pub next_value : new.chosen ≡ old.chosen + 1 → new.chosen < length new.values → lists_from (old ∷ olds) ≡ chosen_list (old ∷ olds) ∷ lists_from (new ∷ news)
  next_value at more =
      let first : drop new.chosen new.values ≡ value_of new ∷ drop (new.chosen + 1) new.values = drop_more new.values new.chosen args.Null more in
      let rest : drop (old.chosen + 1) old.values ≡ value_of new ∷ drop (new.chosen + 1) new.values = ap (λ n. drop n old.values) (sym at) ∙ ap (λ all. drop new.chosen all) (sym values) ∙ first in
      here
      ∙ ap (λ all. chosen_list (old ∷ olds) ∷ choices (all ∷ map values_in olds)) rest
      ∙ ap (λ others. chosen_list (old ∷ olds) ∷ choices ((value_of new ∷ drop (new.chosen + 1) new.values) ∷ others)) (sym same)
      ∙ ap (λ lists. chosen_list (old ∷ olds) ∷ (with_first (value_of new) lists ++ choices (drop (new.chosen + 1) new.values ∷ map values_in news))) (sym again)

  pub last_value : length old.values ≤ old.chosen + 1 → lists_from (old ∷ olds) ≡ chosen_list (old ∷ olds) ∷ []
  last_value few = here ∙ ap (λ all. chosen_list (old ∷ olds) ∷ choices (all ∷ map values_in olds)) (drop_of_length-le old.values few)

  pub first_again : new.chosen ≡ 0 → 0 < length new.values → lists_from (new ∷ news) ≡ choices (map values_in (new ∷ news))
  first_again at some =
      ap (λ lists. with_first (value_of new) lists ++ choices (drop (new.chosen + 1) new.values ∷ map values_in news)) again
      ∙ ap (λ n. with_first (get_or new.values n args.Null) (choices (map values_in news)) ++ choices (drop (n + 1) new.values ∷ map values_in news)) at
      ∙ first_choice new.values (map values_in news) some

-- The first choice goes on, where the others have no next list.
pub first_goes_on : (old new : Choice) (olds news : List Choice) (all : List Choice) (others later : Bool) → all ≡ old ∷ olds → IsMade old → IsNextOf olds news others → others ≡ false
    → map values_in news ≡ map values_in olds → new ≡ went_on old → later ≡ nat_lt 0 new.chosen → IsNextOf all (new ∷ news) later
first_goes_on old new olds news all others later is made next none same went e =
    subst (λ all. IsNextOf all (new ∷ news) later) (sym is)
    (subst (λ new. later ≡ nat_lt 0 new.chosen → IsNextOf (old ∷ olds) (new ∷ news) later) (sym went) (by (nat_lt (old.chosen + 1) (length old.values)) refl) e)
  where
    last : IsNextOf olds news false
    last = subst (IsNextOf olds news) none next

    by : (more : Bool) → nat_lt (old.chosen + 1) (length old.values) ≡ more
        → later ≡ nat_lt 0 (went_on old).chosen → IsNextOf (old ∷ olds) (went_on old ∷ news) later
    by true more e =
        let at : (went_on old).chosen ≡ old.chosen + 1 = ap (λ b. if b then old.chosen + 1 else 0) more in
        subst (IsNextOf (old ∷ olds) (went_on old ∷ news)) (sym (e ∙ ap (λ n. nat_lt 0 n) at ∙ lt-ltb 0 (old.chosen + 1) (omega arith)))
        (next_value old (went_on old) olds news last.0 last.1 same refl at (omega (arith, at, ltb-true _ _ more)))
    by false more e =
        let at : (went_on old).chosen ≡ 0 = ap (λ b. if b then old.chosen + 1 else 0) more in
        subst (IsNextOf (old ∷ olds) (went_on old ∷ news)) (sym (e ∙ ap (λ n. nat_lt 0 n) at)) (
          last_value old (went_on old) olds news last.0 last.1 same refl (omega (arith, ltb-false _ _ more)),
          first_again old (went_on old) olds news last.0 last.1 same refl at (omega (arith, made)),
        )
