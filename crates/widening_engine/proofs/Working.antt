-- How much work the rounds are.
use Rattle.std.proofs.Common.{◌≡◌, ℕ, zero, suc, ◌+◌, ◌<◌, ◌≤◌, nat_le, Bool, true, false, List, [], ◌∷◌, ◌++◌, cond, map, Option, Some, None, option_map, unwrap_or, refl, sym, ap, subst, ◌∙◌, arith, inl, inr, append_assoc}
use Rattle.std.specs.List.{find}
use Rattle.std.specs.Option.{option_or}
use Rattle.std.proofs.lemmas.Bool.{cases_lt}
use Rattle.std.proofs.lemmas.List.{map-append}
use Rattle.std.proofs.lemmas.List.Folds.{find-append}
use Rattle.widening_engine.specs.Rounds.{Flow, all_unknown, first_inductive, is_inductive, last_round, next, places, round, round_from}
use Rattle.widening_engine.specs.Work.{after_round, changes, changes_along, first_stop, rounds, sought, tried, work}
use Rattle.widening_engine.proofs.Lists.{range_one_more}

-- ---- the first number that passes

none_is_some : {X Y : Type 0} {x : X} → None ≡ Some x → Y
none_is_some e = cc

some_is : {X : Type 0} {x y : X} → Some x ≡ Some y → x ≡ y
some_is e = cc

module _ (p : ℕ → Bool) where
  find_step : (n : ℕ) → find p (places (n + 1)) ≡ option_or (find p (places n)) (cond (p n) (Some n) None)
  find_step n = ap (find p) (range_one_more n) ∙ find-append p (places n) (n ∷ [])

  pub none_step : (n : ℕ) → find p (places n) ≡ None → p n ≡ false → find p (places (n + 1)) ≡ None
  none_step n none not = find_step n ∙ (λ i. option_or (none i) (cond (not i) (Some n) None))

  pub some_step : (n m : ℕ) → n < m → find p (places n) ≡ None → p n ≡ true → find p (places m) ≡ Some n
  some_step n zero h none passes = absurd (omega arith)
  some_step n (suc m) h none passes =
      let longer : suc m ≡ m + 1 = omega arith in
      ap (λ (k : ℕ). find p (places k)) longer ∙ find_step m ∙ elim (cases_lt n m) [
        | inl before ↦ ap (λ (o : Option ℕ). option_or o (cond (p m) (Some m) None)) (some_step n m before none passes)
        | inr last ↦
            let same : m ≡ n = omega arith in
            subst (λ (k : ℕ). option_or (find p (places k)) (cond (p k) (Some k) None) ≡ Some n) (sym same)
            (λ i. option_or (none i) (cond (passes i) (Some n) None))
      ]

  last_found : (m n j : ℕ) → find p (places m) ≡ None → find p (places n) ≡ None → (t : Bool) → p n ≡ t → cond t (Some n) None ≡ Some j → m ≤ j
  last_found m n j none before false not found = none_is_some found
  last_found m n j none before true passes found =
      let here : n ≡ j = some_is found in
      elim (cases_lt n m) [
        | inl below ↦ none_is_some (sym none ∙ some_step n m below before passes)
        | inr above ↦ omega arith
      ]

  either_found : (m n j : ℕ) → find p (places m) ≡ None → ((i : ℕ) → find p (places n) ≡ Some i → m ≤ i) → (o : Option ℕ) → find p (places n) ≡ o
      → option_or o (cond (p n) (Some n) None) ≡ Some j → m ≤ j
  either_found m n j none before (Some i) is found = let same : i ≡ j = some_is found in subst (λ (k : ℕ). m ≤ k) same (before i is)
  either_found m n j none before None is found = last_found m n j none is (p n) refl found

  -- What is found is not below a number before which nothing is.
  pub found_above : (m n j : ℕ) → find p (places m) ≡ None → find p (places n) ≡ Some j → m ≤ j
  found_above m zero j none found = none_is_some found
  found_above m (suc n) j none found =
      let longer : suc n ≡ n + 1 = omega arith in
      either_found m n j none (λ i e. found_above m n i none e) (find p (places n)) refl (sym (find_step n) ∙ ap (λ (k : ℕ). find p (places k)) (sym longer) ∙ found)

-- The first state that passes is that of the first number.
pub find_by_number : {X : Type 0} (test : X → Bool) (f : ℕ → X) (ks : List ℕ) → find test (map f ks) ≡ option_map f (find (λ k. test (f k)) ks)
find_by_number test f [] = refl
find_by_number test f (k ∷ ks) = either (test (f k)) (find_by_number test f ks)
  where
    either : (t : Bool) → find test (map f ks) ≡ option_map f (find (λ j. test (f j)) ks) → cond t (Some (f k)) (find test (map f ks)) ≡ option_map f (cond t (Some k) (find (λ j. test (f j)) ks))
    either true rest = refl
    either false rest = rest

pub first_by_number : {S : Type 0} (flow : Flow S) (o : Option ℕ) → first_stop flow ≡ o → first_inductive flow ≡ unwrap_or (option_map (round flow) o) (all_unknown flow)
unfolding first_inductive
first_by_number flow o is =
    ap (λ (found : Option (List _)). unwrap_or found (all_unknown flow)) (find_by_number (is_inductive flow) (round flow) (places (last_round flow + 1)))
    ∙ ap (λ (k : Option ℕ). unwrap_or (option_map (round flow) k) (all_unknown flow)) is

-- A round later.
pub round_more : {S : Type 0} (flow : Flow S) (n : ℕ) → after_round flow (nat_le 3 (n + 1)) (round flow n) ≡ round flow (n + 1)
unfolding round round_from
round_more flow n =
    let longer : suc n ≡ n + 1 = omega arith in
    ap (λ (k : ℕ). round_from flow k (round flow n)) (sym longer) ∙ ap (round flow) longer

-- ---- changes between neighbours

module _ {S : Type 0} (equal : S → S → Bool) (flow : Flow S) where
  pub changes_split : (xs : List (List S)) (a : List S) (ys : List (List S)) → changes_along equal flow (xs ++ a ∷ ys) ≡ changes_along equal flow (xs ++ a ∷ []) + changes_along equal flow (a ∷ ys)
  changes_split [] a ys = omega arith
  changes_split (x ∷ []) a ys = omega arith
  changes_split (x ∷ y ∷ xs) a ys = let rest = changes_split (y ∷ xs) a ys in omega (arith, rest)

  -- Of the rounds up to this one.
  abbrev pub changes_up_to : ℕ → ℕ
  changes_up_to n = changes_along equal flow (map (round flow) (places (n + 1)))

  pub up_to_next : (n : ℕ) (states : List S) → changes_along equal flow (map (round flow) (places (n + 1)) ++ states ∷ []) ≡ changes_up_to n + changes equal flow (round flow n) states
  up_to_next n states =
      let xs : List (List S) = map (round flow) (places n) in
      let shorter : map (round flow) (places (n + 1)) ≡ xs ++ round flow n ∷ [] = ap (map (round flow)) (range_one_more n) ∙ map-append (round flow) (places n) (n ∷ []) in
      let longer : map (round flow) (places (n + 1)) ++ states ∷ [] ≡ xs ++ round flow n ∷ states ∷ [] =
      ap (λ (all : List (List S)). all ++ states ∷ []) shorter ∙ append_assoc xs (round flow n ∷ []) (states ∷ []) in
      let parts = changes_split xs (round flow n) (states ∷ []) in
      let whole = ap (changes_along equal flow) longer in
      let part = ap (changes_along equal flow) shorter in
      omega (arith, parts, whole, part)

  pub up_to_more : (n : ℕ) → changes_up_to (n + 1) ≡ changes_up_to n + changes equal flow (round flow n) (round flow (n + 1))
  up_to_more n =
      ap (λ (ks : List ℕ). changes_along equal flow (map (round flow) ks)) (range_one_more (n + 1))
      ∙ ap (changes_along equal flow) (map-append (round flow) (places (n + 1)) ((n + 1) ∷ []))
      ∙ up_to_next n (round flow (n + 1))

  pub up_to_most : (n m : ℕ) → n ≤ m → changes_up_to n ≤ changes_up_to m
  up_to_most n zero h =
      let same : n ≡ 0 = omega arith in
      subst (λ (k : ℕ). changes_up_to k ≤ changes_up_to 0) (sym same) (omega arith)
  up_to_most n (suc m) h =
      let longer : suc m ≡ m + 1 = omega arith in
      let more = up_to_more m in
      elim (cases_lt m n) [
        | inl past ↦
            let same : n ≡ suc m = omega arith in
            subst (λ (k : ℕ). changes_up_to k ≤ changes_up_to (suc m)) (sym same) (omega arith)
        | inr within ↦ subst (λ (k : ℕ). changes_up_to n ≤ changes_up_to k) (sym longer) (omega (arith, more, up_to_most n m within))
      ]

  -- Rounds that are not past the first inductive one are among those that are tried.
  pub up_to_tried : (n : ℕ) → find (λ number. is_inductive flow (round flow number)) (places n) ≡ None → n ≤ last_round flow
      → changes_up_to n ≤ changes_along equal flow (tried flow (first_stop flow))
  up_to_tried n none h = either (first_stop flow) refl
    where
      either : (o : Option ℕ) → first_stop flow ≡ o → changes_up_to n ≤ changes_along equal flow (tried flow o)
      either (Some m) is = up_to_most n m (found_above (λ number. is_inductive flow (round flow number)) n (last_round flow + 1) m none is)
      either None is = up_to_most n (last_round flow) h

  -- Where no round is inductive, one more list of states is sought than is tried.
  pub sought_none : first_stop flow ≡ None
      → changes_along equal flow (sought flow (first_stop flow)) ≡ changes_along equal flow (tried flow (first_stop flow)) + changes equal flow (round flow (last_round flow)) (all_unknown flow)
  sought_none none =
      subst (λ (o : Option ℕ). changes_along equal flow (sought flow o) ≡ changes_along equal flow (tried flow o) + changes equal flow (round flow (last_round flow)) (all_unknown flow)) (sym none)
      (up_to_next (last_round flow) (all_unknown flow))

  pub sought_most : changes_along equal flow (tried flow (first_stop flow)) ≤ changes_along equal flow (sought flow (first_stop flow))
  sought_most = either (first_stop flow)
    where
      either : (o : Option ℕ) → changes_along equal flow (tried flow o) ≤ changes_along equal flow (sought flow o)
      either (Some n) = omega arith
      either None = let more = up_to_next (last_round flow) (all_unknown flow) in omega (arith, more)

  sought_ends : (o : Option ℕ) → first_stop flow ≡ o → (before : List (List S)) × (sought flow o ≡ before ++ first_inductive flow ∷ [])
  sought_ends (Some n) is = (
    map (round flow) (places n),
    ap (map (round flow)) (range_one_more n) ∙ map-append (round flow) (places n) (n ∷ [])
        ∙ ap (λ (states : List S). map (round flow) (places n) ++ states ∷ []) (sym (first_by_number flow (Some n) is)),
  )
  sought_ends None is = (map (round flow) (places (last_round flow + 1)), ap (λ (states : List S). map (round flow) (places (last_round flow + 1)) ++ states ∷ []) (sym (first_by_number flow None is)))

  -- The work in three parts.
  pub work_is : work equal flow ≡ flow.edges + changes_along equal flow (sought flow (first_stop flow))
      + changes_along equal flow (first_inductive flow ∷ next flow (first_inductive flow) ∷ next flow (next flow (first_inductive flow)) ∷ [])
  unfolding work rounds
  work_is =
      let found : List S = first_inductive flow in
      let rest : List (List S) = next flow found ∷ next flow (next flow found) ∷ [] in
      let ends = sought_ends (first_stop flow) refl in
      let parts = changes_split ends.0 found rest in
      let whole = ap (λ (all : List (List S)). changes_along equal flow (all ++ rest)) ends.1 ∙ ap (changes_along equal flow) (append_assoc ends.0 (found ∷ []) rest) in
      let part = ap (changes_along equal flow) ends.1 in
      omega (arith, parts, whole, part)
