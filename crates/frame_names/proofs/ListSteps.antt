-- Loops, step by step.
use Rattle.std.proofs.Common.{◌≡◌, ℕ, zero, suc, ◌+◌, ◌-◌, ◌<◌, ◌≤◌, Bool, true, false, List, [], ◌∷◌, ◌++◌, length, get_or, drop, Option, Some, None, if◌then◌else◌, refl, add-one, ap, sym, ◌∙◌, arith, append_assoc}
use Rattle.std.specs.List.{fold, range_with_len}
use Rattle.std.specs.Option.{option_and_then}
use Rattle.std.proofs.lemmas.List.{drop_all}
use Rattle.std.proofs.lemmas.List.Sums.{fold-append}
use Rattle.std.proofs.Math.Seq.{drop-cons}
use Rattle.domain_api.specs.declared.expr.Expr.{Expr}
use Rattle.alias_facts.specs.PairsOf.{Pair}
use Rattle.symbolic_values.specs.declared.pairs.Key.{Key}
use Rattle.frame_names.specs.declared.merging.MergedReference.{MergedReference}
use Rattle.frame_names.specs.declared.reference.Reference.{Reference}
use Rattle.frame_names.specs.declared.var.Var.{Var}
use Rattle.frame_names.specs.ApartPairs.{pairs_by, with_row}
use Rattle.frame_names.specs.Binding.{Gaps, References, SlotLists, Symbols, with_length, with_lengths, with_var, with_vars}
use Rattle.frame_names.specs.MergedReferences.{merged_reference, merged_references}
use Rattle.frame_names.specs.PairedFrames.{behind, first_expr}

-- What is left behind the next expression.
behind_suc : (es : List Expr) (i : ℕ) → drop (suc i) es ≡ behind (drop i es)
behind_suc [] zero = refl
behind_suc [] (suc i) = refl
behind_suc (e ∷ es) zero = refl
behind_suc (e ∷ es) (suc i) = behind_suc es i

pub behind_drop : (es : List Expr) (i : ℕ) → drop (i + 1) es ≡ behind (drop i es)
behind_drop es i = ap (λ n. drop n es) (add-one i) ∙ behind_suc es i

-- The next item, and what is left behind it.
module _ {X : Type 0} where
  pub head_drop : (xs : List X) (i : ℕ) (d : X) → get_or (drop i xs) 0 d ≡ get_or xs i d
  head_drop [] zero d = refl
  head_drop [] (suc i) d = refl
  head_drop (x ∷ xs) zero d = refl
  head_drop (x ∷ xs) (suc i) d = head_drop xs i d

  next_suc : (xs : List X) (i : ℕ) → drop 1 (drop i xs) ≡ drop (suc i) xs
  next_suc [] zero = refl
  next_suc [] (suc i) = refl
  next_suc (x ∷ xs) zero = refl
  next_suc (x ∷ xs) (suc i) = next_suc xs i

  pub next_drop : (xs : List X) (i : ℕ) → drop 1 (drop i xs) ≡ drop (i + 1) xs
  next_drop xs i = next_suc xs i ∙ ap (λ n. drop n xs) (sym (add-one i))

module _ {X : Type 0} where
  drop_next : (xs : List X) (i : ℕ) (d : X) → i < length xs → drop i xs ≡ get_or xs i d ∷ drop (i + 1) xs
  drop_next xs i d below = drop-cons xs i d below ∙ ap (λ n. get_or xs i d ∷ drop n xs) (sym (add-one i))

-- ---- ranges

range_more : (from count : ℕ) → range_with_len from (suc count) ≡ range_with_len from count ++ (from + count) ∷ []
range_more from zero = let e : from ≡ from + 0 = omega arith in ap (λ (n : ℕ). n ∷ []) e
range_more from (suc count) =
    let e : from + 1 + count ≡ from + suc count = omega arith in
    ap (λ (ns : List ℕ). from ∷ ns) (range_more (from + 1) count) ∙ ap (λ (n : ℕ). from ∷ (range_with_len (from + 1) count ++ n ∷ [])) e

module _ {B : Type 0} (f : B → ℕ → B) where
  fold_more : (start : B) (from count : ℕ) → fold f start (range_with_len from (suc count)) ≡ f (fold f start (range_with_len from count)) (from + count)
  fold_more start from count = ap (fold f start) (range_more from count) ∙ fold-append f start (range_with_len from count) ((from + count) ∷ [])

  -- One step more of a loop from 1 on.
  pub row_step : (start now new : B) (lower : ℕ) → 1 ≤ lower → now ≡ fold f start (range_with_len 1 (lower - 1)) → new ≡ f now lower
      → new ≡ fold f start (range_with_len 1 (lower + 1 - 1))
  row_step start now new lower positive is made =
      let behind_it : suc (lower - 1) ≡ lower + 1 - 1 = omega (arith, positive) in
      let itself : lower ≡ 1 + (lower - 1) = omega (arith, positive) in
      made ∙ ap (λ b. f b lower) is ∙ ap (f (fold f start (range_with_len 1 (lower - 1)))) itself ∙ sym (fold_more start 1 (lower - 1))
      ∙ ap (λ (n : ℕ). fold f start (range_with_len 1 n)) behind_it

-- One row of pairs more.
pub pairs_step : (test : ℕ → ℕ → Bool) (now new : List Pair) (before : ℕ) → now ≡ pairs_by test before → new ≡ with_row test now (before + 1)
    → new ≡ pairs_by test (before + 1)
pairs_step test now new before is made =
    let itself : before + 1 ≡ 1 + before = omega arith in
    let behind_it : suc before ≡ before + 1 = omega arith in
    made ∙ ap (λ pairs. with_row test pairs (before + 1)) is ∙ ap (with_row test (pairs_by test before)) itself
    ∙ sym (fold_more (with_row test) [] 1 before) ∙ ap (λ (n : ℕ). fold (with_row test) [] (range_with_len 1 n)) behind_it

-- ---- variables

bound_so : (result : Bool) (new : SlotLists) (made : Option SlotLists) → result ≡ true → (if result then Some new else None) ≡ made → Some new ≡ made
bound_so true new made is made_is = made_is
bound_so false new made is made_is = cc

unbound_so : {X : Type 0} (result : Bool) (new : X) (made : Option X) → result ≡ false → (if result then Some new else None) ≡ made → None ≡ made
unbound_so true new made is made_is = absurd cc
unbound_so false new made is made_is = made_is

module _ (gap : Gaps) (a b : List Reference) (xs ys : List Var) where
  -- The next variable is bound, and then the others.
  vars_next : (old : SlotLists) (i : ℕ) (d e : Var) → i < length xs → length xs ≡ length ys
      → option_and_then (with_vars gap a b (drop (i + 1) xs) (drop (i + 1) ys)) (with_var gap a b (get_or xs i d) (get_or ys i e) old)
      ≡ with_vars gap a b (drop i xs) (drop i ys) old
  vars_next old i d e below same =
      let there : i < length ys = omega (arith, below, same) in
      sym (ap (λ vs. with_vars gap a b vs (drop i ys) old) (drop_next xs i d below)
      ∙ ap (λ vs. with_vars gap a b (get_or xs i d ∷ drop (i + 1) xs) vs old) (drop_next ys i e there))

  -- One variable more is bound.
  pub vars_step : (old new : SlotLists) (result : Bool) (i : ℕ) (d e : Var) → i < length xs → length xs ≡ length ys → result ≡ true
      → (if result then Some new else None) ≡ with_var gap a b (get_or xs i d) (get_or ys i e) old
      → with_vars gap a b (drop (i + 1) xs) (drop (i + 1) ys) new ≡ with_vars gap a b (drop i xs) (drop i ys) old
  vars_step old new result i d e below same is made =
      ap (option_and_then (with_vars gap a b (drop (i + 1) xs) (drop (i + 1) ys))) (bound_so result new _ is made)
      ∙ vars_next old i d e below same

  -- The next variable cannot be bound.
  pub vars_stop : (old new : SlotLists) (result : Bool) (i : ℕ) (d e : Var) → i < length xs → length xs ≡ length ys → result ≡ false
      → (if result then Some new else None) ≡ with_var gap a b (get_or xs i d) (get_or ys i e) old
      → None ≡ with_vars gap a b (drop i xs) (drop i ys) old
  vars_stop old new result i d e below same is made =
      ap (option_and_then (with_vars gap a b (drop (i + 1) xs) (drop (i + 1) ys))) (unbound_so result new _ is made)
      ∙ vars_next old i d e below same

  pub vars_end : (slots : SlotLists) (i : ℕ) → length xs ≤ i → length xs ≡ length ys → Some slots ≡ with_vars gap a b (drop i xs) (drop i ys) slots
  vars_end slots i all same =
      let there : length ys ≤ i = omega (arith, all, same) in
      sym (ap (λ vs. with_vars gap a b vs (drop i ys) slots) (drop_all i xs all) ∙ ap (λ vs. with_vars gap a b [] vs slots) (drop_all i ys there))

-- ---- lengths

-- The length of the next reference cannot be bound.
pub lengths_stop : (gap : Gaps) (a b : List Reference) (slots : References) (symbols new : Symbols) (slot : Option ℕ) (result : Bool) (i : ℕ) (d : Reference)
    → i < length b → slot ≡ get_or slots i None → result ≡ false
    → (if result then Some new else None) ≡ with_length gap a (get_or b i d) slot symbols
    → None ≡ with_lengths gap a (drop i b) (drop i slots) symbols
lengths_stop gap a b slots symbols new slot result i d below slot_is is made =
    ap (option_and_then (with_lengths gap a (drop (i + 1) b) (drop 1 (drop i slots))))
    (unbound_so result new _ is made ∙ ap (λ o. with_length gap a (get_or b i d) o symbols) (slot_is ∙ sym (head_drop slots i None)))
    ∙ sym (ap (λ rest. with_lengths gap a rest (drop i slots) symbols) (drop_next b i d below))

-- ---- references

module _ (a b : List Reference) (keys : List Key) (lengths : List Expr) where
  -- One reference more.
  pub merged_step : (out : List MergedReference) (i : ℕ) (d : Key) (item : MergedReference) (le : Expr) → i < length keys → le ≡ first_expr (drop i lengths)
      → item ≡ merged_reference a b (get_or keys i d) le
      → (out ++ item ∷ []) ++ merged_references a b (drop (i + 1) keys) (drop (i + 1) lengths) ≡ out ++ merged_references a b (drop i keys) (drop i lengths)
  merged_step out i d item le below length_is item_is =
      append_assoc out (item ∷ []) (merged_references a b (drop (i + 1) keys) (drop (i + 1) lengths))
      ∙ ap (λ l. out ++ l) (ap (λ m. m ∷ merged_references a b (drop (i + 1) keys) (drop (i + 1) lengths)) item_is
      ∙ ap (λ l. merged_reference a b (get_or keys i d) l ∷ merged_references a b (drop (i + 1) keys) (drop (i + 1) lengths)) length_is
      ∙ ap (λ ls. merged_reference a b (get_or keys i d) (first_expr (drop i lengths)) ∷ merged_references a b (drop (i + 1) keys) ls) (behind_drop lengths i)
      ∙ sym (ap (λ ks. merged_references a b ks (drop i lengths)) (drop_next keys i d below)))
