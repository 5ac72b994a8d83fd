-- A stack whose top comes first, and the same whose bottom does.
use Rattle.std.proofs.Common.{◌≡◌, ◌≢◌, ℕ, ◌+◌, ◌-◌, ◌≤◌, List, [], ◌∷◌, ◌++◌, length, take, drop, reverse, Option, Some, None, is_some, option_map, refl, sym, ap, ap₂, ◌∙◌, arith, inl, inr}
use Rattle.std.specs.Option.{option_or}
use Rattle.std.proofs.lemmas.Bool.{cases_eq, cases_lt}
use Rattle.std.proofs.lemmas.List.{reverse-append, reverse-reverse, length-reverse, length-drop, take-append-drop, take_at, take_all, drop_at, drop_all}
use Rattle.std.proofs.lemmas.List.Sums.{sum_by-append}
use Rattle.cil_model.specs.Kinds.{one_if}
use Rattle.cil_model.specs.Passes.{merged_kind, with_kind, merged}
use Rattle.cil_model.specs.declared.place.Kind.{Kind}
use Rattle.stack_typer.specs.Room.{is_null, nulls}
use Rattle.stack_typer.proofs.MergeLemmas.{merged-lengths}

two_parts : {X : Type 0} (n : ℕ) (xs : List X) → reverse xs ≡ reverse (drop (length xs - n) xs) ++ reverse (take (length xs - n) xs)
two_parts n xs = ap reverse (sym (take-append-drop (length xs - n) xs)) ∙ reverse-append (take (length xs - n) xs) (drop (length xs - n) xs)

top_length : {X : Type 0} (n : ℕ) (xs : List X) → n ≤ length xs → length (reverse (drop (length xs - n) xs)) ≡ n
top_length n xs h = length-reverse (drop (length xs - n) xs) ∙ omega (arith, length-drop (length xs - n) xs)

-- The topmost values, the bottom one first.
pub top_turned : {X : Type 0} (n : ℕ) (xs : List X) → reverse (take n (reverse xs)) ≡ drop (length xs - n) xs
top_turned n xs =
    elim (cases_lt n (length xs + 1)) [
      | inl within ↦
          let h : n ≤ length xs = omega arith in
          ap (λ t. reverse (take n t)) (two_parts n xs) ∙ ap reverse (take_at _ _ n (top_length n xs h)) ∙ reverse-reverse (drop (length xs - n) xs)
      | inr past ↦
          let e : length xs - n ≡ 0 = omega arith in
          ap reverse (take_all n (reverse xs) (omega (arith, length-reverse xs))) ∙ reverse-reverse xs ∙ ap (λ k. drop k xs) (sym e)
    ]

-- What is left below them.
pub rest_turned : {X : Type 0} (n : ℕ) (xs : List X) → drop n (reverse xs) ≡ reverse (take (length xs - n) xs)
rest_turned n xs =
    elim (cases_lt n (length xs + 1)) [
      | inl within ↦
          let h : n ≤ length xs = omega arith in
          ap (drop n) (two_parts n xs) ∙ drop_at _ _ n (top_length n xs h)
      | inr past ↦
          let e : length xs - n ≡ 0 = omega arith in
          drop_all n (reverse xs) (omega (arith, length-reverse xs)) ∙ ap (λ k. reverse (take k xs)) (sym e)
    ]

-- ---- merging

-- One more kind at the end.
abbrev then_kind : Option (List Kind) → Option Kind → Option (List Kind)
then_kind (Some kinds) (Some kind) = Some (kinds ++ kind ∷ [])
then_kind _ _ = None

with_then : (k : Option Kind) (m : Option (List Kind)) (l : Option Kind) → with_kind k (then_kind m l) ≡ then_kind (with_kind k m) l
with_then None None l = refl
with_then None (Some kinds) None = refl
with_then None (Some kinds) (Some kind) = refl
with_then (Some k) None l = refl
with_then (Some k) (Some kinds) None = refl
with_then (Some k) (Some kinds) (Some kind) = refl

merged-push : (before stack : List Kind) (a b : Kind) → length before ≡ length stack → merged (before ++ a ∷ []) (stack ++ b ∷ []) ≡ then_kind (merged before stack) (merged_kind a b)
merged-push [] [] a b e = one (merged_kind a b)
  where
    one : (k : Option Kind) → with_kind k (Some []) ≡ then_kind (Some []) k
    one None = refl
    one (Some kind) = refl
merged-push [] (y ∷ stack) a b e = absurd (omega (arith, e))
merged-push (x ∷ before) [] a b e = absurd (omega (arith, e))
merged-push (x ∷ before) (y ∷ stack) a b e =
    ap (with_kind (merged_kind x y)) (merged-push before stack a b (omega (arith, e))) ∙ with_then (merged_kind x y) (merged before stack) (merged_kind a b)

reverse-cons : {X : Type 0} (x : X) (xs : List X) → reverse (x ∷ xs) ≡ reverse xs ++ x ∷ []
reverse-cons x xs = reverse-append (x ∷ []) xs

then_turned : (k : Option Kind) (m : Option (List Kind)) → then_kind (option_map reverse m) k ≡ option_map reverse (with_kind k m)
then_turned None None = refl
then_turned None (Some kinds) = refl
then_turned (Some kind) None = refl
then_turned (Some kind) (Some kinds) = ap Some (sym (reverse-cons kind kinds))

merged_turned_same : (before stack : List Kind) → length before ≡ length stack → merged (reverse before) (reverse stack) ≡ option_map reverse (merged before stack)
merged_turned_same [] [] e = refl
merged_turned_same [] (y ∷ stack) e = absurd (omega (arith, e))
merged_turned_same (x ∷ before) [] e = absurd (omega (arith, e))
merged_turned_same (x ∷ before) (y ∷ stack) e =
    let h : length before ≡ length stack = omega (arith, e) in
    ap₂ merged (reverse-cons x before) (reverse-cons y stack)
    ∙ merged-push (reverse before) (reverse stack) x y (length-reverse before ∙ h ∙ sym (length-reverse stack))
    ∙ ap (λ m. then_kind m (merged_kind x y)) (merged_turned_same before stack h)
    ∙ then_turned (merged_kind x y) (merged before stack)

-- Stacks merge from either end.
pub merged_turned : (before stack : List Kind) → merged (reverse before) (reverse stack) ≡ option_map reverse (merged before stack)
merged_turned before stack =
    elim (cases_eq (length before) (length stack)) [
      | inl e ↦ merged_turned_same before stack e
      | inr h ↦
          let turned : length (reverse before) ≢ length (reverse stack) = λ e. h (sym (length-reverse before) ∙ e ∙ length-reverse stack) in
          merged-lengths _ _ turned ∙ ap (option_map reverse) (sym (merged-lengths before stack h))
    ]

map_is_some : {X Y : Type 0} (f : X → Y) (m : Option X) → is_some (option_map f m) ≡ is_some m
map_is_some f None = refl
map_is_some f (Some x) = refl

pub merges_turned : (before stack : List Kind) → is_some (merged (reverse before) (reverse stack)) ≡ is_some (merged before stack)
merges_turned before stack = ap is_some (merged_turned before stack) ∙ map_is_some reverse (merged before stack)

map_or : (m : Option (List Kind)) (now before : List Kind) → Some now ≡ option_or m (Some before) → Some (reverse now) ≡ option_or (option_map reverse m) (Some (reverse before))
map_or None now before e = ap (option_map reverse) e
map_or (Some kinds) now before e = ap (option_map reverse) e

pub arrived_turned : (now before stack : List Kind) → Some now ≡ option_or (merged before stack) (Some before)
    → Some (reverse now) ≡ option_or (merged (reverse before) (reverse stack)) (Some (reverse before))
arrived_turned now before stack e = map_or (merged before stack) now before e ∙ ap (λ m. option_or m (Some (reverse before))) (sym (merged_turned before stack))

pub nulls_turned : (stack : List Kind) → nulls (reverse stack) ≡ nulls stack
nulls_turned [] = refl
nulls_turned (kind ∷ stack) =
    let f : Kind → ℕ = λ k. one_if (is_null k) in
    ap nulls (reverse-cons kind stack) ∙ sum_by-append f (reverse stack) (kind ∷ []) ∙ grind (arith, nulls_turned stack, sum_by-append f (kind ∷ []) stack)
