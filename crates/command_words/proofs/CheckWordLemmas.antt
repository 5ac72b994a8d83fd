-- The indexes of the words of a check.
use Rattle.std.proofs.Common.{◌≡◌, ℕ, zero, suc, ◌+◌, ◌-◌, ◌<◌, ◌≤◌, Bool, true, false, cond, not, ◌||◌, List, [], ◌∷◌, ◌++◌, length, get_or, take, drop, set, String, Global, Option, Some, None, option_to_list, arith, refl, ap, sym, ◌∙◌}
use Rattle.std.specs.Prelude.{All, IfSome, count_by, filter}
use Rattle.std.specs.String.{string_bytes}
use Rattle.std.specs.List.{AllByRecursion, range_with_len}
use Rattle.std.proofs.lemmas.Bool.{and_parts}
use Rattle.std.proofs.lemmas.List.Sums.{sum_by-cons}
use Rattle.std.proofs.lemmas.List.Elements.{All-append, All-from_recursion, recursion_from_All}
use Rattle.command_words.specs.Words.{MAX_REFS, are_refs_named, check_files, is_name_word, is_ref, names_file, padded, refs_from, refs_in, tells_ref, word_at, word_index, words_bytes}
use Rattle.command_words.specs.declared.check_words.CheckWords.{CheckWords}

kept_below : (keep : ℕ → Bool) (first n limit : ℕ) → first + n ≤ limit → AllByRecursion (λ index. index < limit) (filter keep (range_with_len first n))
kept_below keep first zero limit fits = tt
kept_below keep first (suc n) limit fits = by_test (keep first) (kept_below keep (first + 1) n limit (omega (arith, fits)))
  where
    others : List ℕ
    others = filter keep (range_with_len (first + 1) n)

    by_test : (kept : Bool) → AllByRecursion (λ index. index < limit) others → AllByRecursion (λ index. index < limit) (cond kept (first ∷ others) others)
    by_test true later = (omega (arith, fits), later)
    by_test false later = later

-- Those of files are indexes of words.
pub files_inside : (check : CheckWords) (limit : ℕ) → check.count ≡ limit → 1 ≤ limit → All (λ index. index < limit) (check_files check)
files_inside check limit count some =
    All-from_recursion (λ (index : ℕ). index < limit) (check_files check) (kept_below (names_file check) 1 (check.count - 1) limit (omega (arith, count, some)))

-- An index that is there is one of a word.
pub one_inside : (index : Option ℕ) (limit : ℕ) → IfSome index (λ i. i < limit) → All (λ i. i < limit) (option_to_list index)
one_inside None limit inside = All-from_recursion (λ (i : ℕ). i < limit) [] tt
one_inside (Some i) limit inside = All-from_recursion (λ (i : ℕ). i < limit) (i ∷ []) (inside, tt)

-- All indexes that a check uses are those of words.
pub used_inside : (check : CheckWords) (limit : ℕ) → check.count ≡ limit → 1 ≤ limit → IfSome check.cache (λ index. index < limit) → IfSome check.proof (λ index. index < limit)
    → All (λ index. index < limit) (check_files check ++ option_to_list check.cache ++ option_to_list check.proof)
used_inside check limit count some cache proof =
    All-append (λ (index : ℕ). index < limit) (check_files check ++ option_to_list check.cache) (option_to_list check.proof)
    (All-append (λ (index : ℕ). index < limit) (check_files check) (option_to_list check.cache) (files_inside check limit count some) (one_inside check.cache limit cache))
    (one_inside check.proof limit proof)

-- The index of a word after `check` that is there.
pub word_inside : (place : Option ℕ) (n : ℕ) → IfSome place (λ p. p < n) → IfSome (word_index place) (λ index. index < n + 1)
word_inside None n inside = tt
word_inside (Some p) n inside = omega (arith, inside)

-- ---- of a check with references

module _ (limit : ℕ) where
  abbrev IsBelow : ℕ → Type 0
  IsBelow index = index < limit

  -- Each name of a reference is one of the words.
  refs_below : (index : ℕ) (words : List (List ℕ)) → are_refs_named words ≡ true → index + length words ≤ limit → AllByRecursion IsBelow (refs_from index words)
  refs_below index [] named fits = tt
  refs_below index (word ∷ words) named fits =
      let parts = and_parts (not (is_ref word) || is_name_word (word_at words 0)) (are_refs_named words) named in
      by_test (is_ref word) parts.0 (refs_below (index + 1) words parts.1 (omega (arith, fits)))
    where
      later : List ℕ
      later = refs_from (index + 1) words

      there : (others : List (List ℕ)) → is_name_word (word_at others 0) ≡ true → 1 ≤ length others
      there [] none = absurd (let no : false ≡ true = none in cc)
      there (other ∷ others) is = omega arith

      by_test : (test : Bool) → (not test || is_name_word (word_at words 0)) ≡ true → AllByRecursion IsBelow later → AllByRecursion IsBelow (cond test ((index + 1) ∷ later) later)
      by_test true is below = (omega (arith, fits, there words is), below)
      by_test false is below = below

  first_below : (xs ys : List ℕ) → AllByRecursion IsBelow (xs ++ ys) → AllByRecursion IsBelow xs
  first_below [] ys all = tt
  first_below (x ∷ xs) ys all = (all.0, first_below xs ys all.1)

  last_below : (xs ys : List ℕ) → AllByRecursion IsBelow (xs ++ ys) → AllByRecursion IsBelow ys
  last_below [] ys all = all
  last_below (x ∷ xs) ys all = last_below xs ys all.1

  both_below : (xs ys : List ℕ) → AllByRecursion IsBelow xs → AllByRecursion IsBelow ys → AllByRecursion IsBelow (xs ++ ys)
  both_below [] ys all others = others
  both_below (x ∷ xs) ys all others = (all.0, both_below xs ys all.1 others)

  left_below : (keep : ℕ → Bool) (xs : List ℕ) → AllByRecursion IsBelow xs → AllByRecursion IsBelow (filter keep xs)
  left_below keep [] all = tt
  left_below keep (x ∷ xs) all = by_test (keep x) (left_below keep xs all.1)
    where
      by_test : (test : Bool) → AllByRecursion IsBelow (filter keep xs) → AllByRecursion IsBelow (cond test (x ∷ filter keep xs) (filter keep xs))
      by_test true later = (all.0, later)
      by_test false later = later

  in_room_below : (room : ℕ) (indexes : List ℕ) → AllByRecursion IsBelow indexes → AllByRecursion IsBelow (refs_in (padded room indexes))
  in_room_below zero indexes all = tt
  in_room_below (suc room) [] all = in_room_below room [] tt
  in_room_below (suc room) (index ∷ indexes) all = (all.0, in_room_below room indexes all.1)

  -- All indexes that a check with references uses are those of words.
  pub linked_inside : (check : CheckWords) (words : List (List ℕ)) → are_refs_named words ≡ true → 1 + length words ≤ limit
      → All IsBelow (check_files check ++ option_to_list check.cache ++ option_to_list check.proof)
      → All IsBelow (filter (λ index. not (tells_ref (padded MAX_REFS (refs_from 1 words)) index)) (check_files check) ++ refs_in (padded MAX_REFS (refs_from 1 words))
      ++ option_to_list check.cache ++ option_to_list check.proof)
  linked_inside check words named fits all =
      let own = option_to_list check.cache in
      let proof = option_to_list check.proof in
      let keep = λ (index : ℕ). not (tells_ref (padded MAX_REFS (refs_from 1 words)) index) in
      let kept = filter keep (check_files check) in
      let refs = refs_in (padded MAX_REFS (refs_from 1 words)) in
      let each = recursion_from_All IsBelow (check_files check ++ own ++ proof) all in
      let before = first_below (check_files check ++ own) proof each in
      All-from_recursion IsBelow (kept ++ refs ++ own ++ proof)
      (both_below (kept ++ refs ++ own) proof
      (both_below (kept ++ refs) own
      (both_below kept refs (left_below keep (check_files check) (first_below (check_files check) own before)) (in_room_below MAX_REFS (refs_from 1 words) (refs_below 1 words named fits)))
      (last_below (check_files check) own before)) (last_below (check_files check ++ own) proof each))

-- One more is noted after the last.
pub note_one : (room : ℕ) (indexes : List ℕ) (index : ℕ) → length indexes < room → set (padded room indexes) (length indexes) (Some index) ≡ padded room (indexes ++ index ∷ [])
note_one zero indexes index fits = absurd (omega (arith, fits))
note_one (suc room) [] index fits = refl
note_one (suc room) (first ∷ indexes) index fits = ap (λ (l : List (Option ℕ)). Some first ∷ l) (note_one room indexes index (omega (arith, fits)))

-- What stands behind the first element.
abbrev pub rest_of : {X : Type 0} → List X → List X
rest_of all = take (length all - 1) (drop 1 all)

all_taken : {X : Type 0} (all : List X) → take (length all) all ≡ all
all_taken [] = refl
all_taken {X} (x ∷ all) = ap (λ (l : List X). x ∷ l) (all_taken all)

rest_is : {X : Type 0} (x : X) (all : List X) → rest_of (x ∷ all) ≡ all
rest_is {X} x all = let many : length (x ∷ all) - 1 ≡ length all = omega arith in ap (λ (n : ℕ). take n all) many ∙ all_taken all

-- The references that words tell of which the first asks for one.
pub refs_of_first : (words : List (String Global)) (word : String Global) (index : ℕ) → 1 ≤ length words → word ≡ get_or words 0 word → true ≡ is_ref (string_bytes word)
    → refs_from index (words_bytes words) ≡ (index + 1) ∷ refs_from (index + 1) (words_bytes (rest_of words))
refs_of_first [] word index some first is = absurd (omega (arith, some))
refs_of_first (w ∷ words) word index some first is =
    let asks : is_ref (string_bytes w) ≡ true = ap (λ (s : String Global). is_ref (string_bytes s)) (sym first) ∙ sym is in
    let later = refs_from (index + 1) (words_bytes words) in
    ap (λ (b : Bool). cond b ((index + 1) ∷ later) later) asks ∙ ap (λ (l : List (String Global)). (index + 1) ∷ refs_from (index + 1) (words_bytes l)) (sym (rest_is w words))

-- Such words ask for at least one.
pub some_room : (words : List (String Global)) (word : String Global) → 1 ≤ length words → word ≡ get_or words 0 word → true ≡ is_ref (string_bytes word)
    → 1 ≤ count_by is_ref (words_bytes words)
some_room [] word some first is = absurd (omega (arith, some))
some_room (w ∷ words) word some first is =
    let asks : is_ref (string_bytes w) ≡ true = ap (λ (s : String Global). is_ref (string_bytes s)) (sym first) ∙ sym is in
    let counted = sum_by-cons (λ (b : List ℕ). cond (is_ref b) 1 0) (string_bytes w) (words_bytes words) in
    let one = ap (λ (b : Bool). number b) asks in
    omega (arith, counted, one)
  where
    number : Bool → ℕ
    number b = cond b 1 0
