-- Tests whether rows are tight.
use Rattle.std.proofs.Common.{◌≡◌, ◌≢◌, ℕ, suc, ◌+◌, ◌<◌, ◌≤◌, ℤ, ◌+ℤ◌, ◌==◌, Bool, true, false, ◌||◌, List, [], ◌∷◌, ◌++◌, length, get_or, drop, Option, Some, None, pos, ◌≤ℤ◌, refl, sym, ◌∙◌, arith, add-one, drop-cons, inl, inr}
use Rattle.std.specs.Prelude.{EachIndex, option_and_then}
use Rattle.std.specs.List.{AllByRecursion}
use Rattle.std.proofs.Math.ListN.{get_or-eq_default}
use Rattle.std.proofs.lemmas.Bool.{cases_Bool, cases_lt, eqb-false, eqb-true}
use Rattle.std.proofs.lemmas.Int.{ints}
use Rattle.std.proofs.lemmas.List.{drop_all, get_or_append_left, get_or_push, length-append}
use Rattle.pentagon_domain.specs.declared.bound_row.BoundRow.{BoundRow}
use Rattle.pentagon_domain.specs.declared.ends.Ends.{Ends}
use Rattle.pentagon_domain.specs.Gaps.{AreBelow, cut, direct_gap}
use Rattle.pentagon_domain.specs.Rows.{rows_from, stored}
use Rattle.pentagon_domain.specs.Tight.{AddNothing, AreTightFrom, AreTightOver, AreTold, adds_nothing, apart, is_told, told_by}
use Rattle.pentagon_domain.proofs.TightGaps.{direct_apart, none_from}

-- ---- a loop over items that all pass

-- Where an item passes and the rest behind it, so does the rest with it.
pub rest_more : {X : Type 0} (P : X → Type 0) (xs : List X) (i : ℕ) (d : X) → i < length xs → P (get_or xs i d)
    → (AllByRecursion P (drop i xs) → AllByRecursion P xs) → AllByRecursion P (drop (i + 1) xs) → AllByRecursion P xs
rest_more P xs i d inside here so_far rest =
    let split : drop i xs ≡ get_or xs i d ∷ drop (suc i) xs = drop-cons xs i d inside in
    (rw split at so_far) (here, rw add-one at rest)

pub rest_none : {X : Type 0} (P : X → Type 0) (xs : List X) (i : ℕ) → length xs ≤ i → (AllByRecursion P (drop i xs) → AllByRecursion P xs) → AllByRecursion P xs
rest_none P xs i past so_far = let none : drop i xs ≡ [] = drop_all i xs past in (rw none at so_far) tt

pub ruleset rest = (rest_more, rest_none)

-- ---- what a row tells

told_none : (sum far : ℤ) (known : Option ℤ) → is_told sum None far ≡ true → is_told sum known far ≡ true
told_none sum far None told = told
told_none sum far (Some k) told = grind (arith, ints)

-- What a gap of 64 bits tells, the exact number tells.
told_cut : (sum far k : ℤ) → is_told sum (cut k) far ≡ true → is_told sum (Some k) far ≡ true
unfolding cut
told_cut sum far k told = grind (arith, ints)

told_exact : (sum far : ℤ) (known : Option ℤ) → is_told sum (option_and_then cut known) far ≡ true → is_told sum known far ≡ true
told_exact sum far None told = told
told_exact sum far (Some k) told = told_cut sum far k told

-- What is told by a row of what is stored is told by what is stored.
told_by_row : (rows : List BoundRow) (row : List (Option ℤ)) (s t : ℕ) (sum far : ℤ) → s ≢ t
    → EachIndex row (λ t. get_or row t None ≡ direct_gap rows s t) → is_told sum (get_or row t None) far ≡ true → is_told sum (stored rows s t) far ≡ true
told_by_row rows row s t sum far distinct written told =
    elim (cases_lt t (length row)) [
      | inl inside ↦ told_exact sum far (stored rows s t) (rw (written t inside ∙ direct_apart rows s t distinct) at told)
      | inr past ↦ told_none sum far (stored rows s t) (rw (get_or-eq_default row None past) at told)
    ]

pub nothing_by_row : (ends : List Ends) (rows : List BoundRow) (row : List (Option ℤ)) (s : ℕ) (k : ℤ) (nexts : List BoundRow)
    → EachIndex row (λ t. get_or row t None ≡ direct_gap rows s t) → AddNothing ends (λ t. get_or row t None) s k nexts
    → AddNothing ends (stored rows s) s k nexts
nothing_by_row ends rows row s k [] written nothing = tt
nothing_by_row ends rows row s k (next ∷ nexts) written nothing =
    let rest = nothing_by_row ends rows row s k nexts written nothing.1 in
    elim (cases_Bool (next.t == s)) [
      | inl back ↦ (rw back refl, rest)
      | inr on ↦
          let distinct : s ≢ next.t = λ e. eqb-false next.t s on (sym e) in
          (rw on (told_by_row rows row s next.t (k +ℤ next.k) (apart ends s next.t) distinct written (rw on at nothing.0)), rest)
    ]

-- ---- the greatest number that is told

told_most : (sum far : ℤ) (known : Option ℤ) → sum ≤ℤ told_by known far → is_told sum known far ≡ true
told_most sum far None less = grind (arith, ints)
told_most sum far (Some k) less = grind (arith, ints)

pub told_pushed : (ends : List Ends) (known : List (Option ℤ)) (told : List ℤ) (s t : ℕ) (n : ℤ) → length told ≡ t → AreTold ends known s told
    → n ≡ told_by (get_or known t None) (apart ends s t) → AreTold ends known s (told ++ n ∷ [])
told_pushed ends known told s t n many each is = λ i inside.
    elim (cases_Bool (i == length told)) [
      | inl same ↦
          let here : i ≡ length told = eqb-true i (length told) same in
          rw (get_or_push told n (pos 0) i (sym here), here, many) is
      | inr apart ↦
          let before : i < length told = omega (arith, eqb-false i (length told) apart, inside, length-append told (n ∷ [])) in
          rw (get_or_append_left told (n ∷ []) (pos 0) i before) (each i before)
    ]

-- A sum that is no greater than what is told adds nothing.
pub told_adds : (ends : List Ends) (known : List (Option ℤ)) (told : List ℤ) (s : ℕ) (k : ℤ) (next : BoundRow) → AreTold ends known s told
    → next.t < length told → (k +ℤ next.k) ≤ℤ get_or told next.t (pos 0) → adds_nothing ends (λ t. get_or known t None) s k next ≡ true
told_adds ends known told s k next each inside less =
    let told : is_told (k +ℤ next.k) (get_or known next.t None) (apart ends s next.t) ≡ true =
    told_most (k +ℤ next.k) (apart ends s next.t) (get_or known next.t None) (rw (each next.t inside) at less) in
    or_right (next.t == s) (is_told (k +ℤ next.k) (get_or known next.t None) (apart ends s next.t)) told
  where
    or_right : (p q : Bool) → q ≡ true → (p || q) ≡ true
    or_right true q is = refl
    or_right false q is = is

-- ---- all symbols

-- Beyond the ends no bound begins.
pub tight_all : (ends : List Ends) (rows : List BoundRow) → AllByRecursion (AreBelow (length ends)) rows
    → ((s : ℕ) → s < length ends → AreTightFrom ends rows s (rows_from rows s)) → AreTightOver ends rows
tight_all ends rows below each = record { below = below; sums = λ s. from s }
  where
    from : (s : ℕ) → AreTightFrom ends rows s (rows_from rows s)
    from s = elim (cases_lt s (length ends)) [
      | inl inside ↦ each s inside
      | inr past ↦ rw (none_from rows (length ends) s below past) tt
    ]
