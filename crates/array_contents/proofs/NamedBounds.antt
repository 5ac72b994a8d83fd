-- The symbols that bounds name are there, behind stores too.
use Rattle.std.proofs.Common.{ℕ, zero, suc, ◌+◌, ◌-◌, ◌≤◌, Bool, true, false, List, [], ◌∷◌, ◌++◌, length, get_or, take, drop}
use Rattle.std.specs.List.{AllByRecursion}
use Rattle.domain_api.specs.declared.expr.Expr.{Expr}
use Rattle.array_segments.specs.Loading.{start, stop}
use Rattle.array_segments.specs.SegmentLists.{Lists}
use Rattle.array_segments.specs.Storing.{first_two, has_left, has_right, merged_first, merged_times, new_bounds, replaced, strongly_stored}
use Rattle.array_contents.specs.Storing.{Gaps}

-- ---- what is so of each of a list

pub each_weaker : {X : Type 0} (P Q : X → Type 0) → ((x : X) → P x → Q x) → (xs : List X)
    → AllByRecursion P xs → AllByRecursion Q xs
each_weaker P Q weaker [] all = tt
each_weaker P Q weaker (x ∷ xs) all = (weaker x all.0, each_weaker P Q weaker xs all.1)

module _ {X : Type 0} (P : X → Type 0) where
  pub each_rest : (xs : List X) → AllByRecursion P xs → AllByRecursion P (drop 1 xs)
  each_rest [] all = tt
  each_rest (x ∷ xs) all = all.1

  pub each_append : (xs ys : List X) → AllByRecursion P xs → AllByRecursion P ys → AllByRecursion P (xs ++ ys)
  each_append [] ys all more = more
  each_append (x ∷ xs) ys all more = (all.0, each_append xs ys all.1 more)

  pub each_take : (n : ℕ) (xs : List X) → AllByRecursion P xs → AllByRecursion P (take n xs)
  each_take zero xs all = tt
  each_take (suc n) [] all = tt
  each_take (suc n) (x ∷ xs) all = (all.0, each_take n xs all.1)

  pub each_drop : (n : ℕ) (xs : List X) → AllByRecursion P xs → AllByRecursion P (drop n xs)
  each_drop zero xs all = all
  each_drop (suc n) [] all = tt
  each_drop (suc n) (x ∷ xs) all = each_drop n xs all.1

  each_of_first : (xs : List X) → AllByRecursion P xs → AllByRecursion P (first_two (λ first second. first) xs)
  each_of_first [] all = tt
  each_of_first (x ∷ []) all = all
  each_of_first (x ∷ y ∷ xs) all = (all.0, all.1.1)

-- ---- symbols

-- The expressions name symbols that are there, of so many.
abbrev pub AreNamed : ℕ → List Expr → Type 0
AreNamed symbols = AllByRecursion (λ e. e.sym ≤ symbols)

pub first_named : (symbols : ℕ) (bounds : List (List Expr)) → AllByRecursion (AreNamed symbols) bounds
    → AreNamed symbols (get_or bounds 0 [])
first_named symbols [] named = tt
first_named symbols (bound ∷ bounds) named = named.0

new_named : (symbols : ℕ) (left right : Bool) (at : Expr) → at.sym ≤ symbols
    → AllByRecursion (AreNamed symbols) (new_bounds left right at)
new_named symbols true true at there = ((there, tt), ((there, tt), tt))
new_named symbols true false at there = ((there, tt), tt)
new_named symbols false true at there = ((there, tt), tt)
new_named symbols false false at there = tt

module _ {C : Type 0} (hull : C → C → C) (symbols : ℕ) where
  times_named : (times : ℕ) (lists : Lists C) → AllByRecursion (AreNamed symbols) lists.bounds
      → AllByRecursion (AreNamed symbols) (merged_times hull times lists).bounds
  times_named zero lists named = named
  times_named (suc times) lists named =
      times_named times (merged_first hull lists) (each_of_first (AreNamed symbols) lists.bounds named)

  replaced_named : (full : C) (gap : Gaps) (lists : Lists C) (at : Expr) (value : C) (from to : ℕ) → at.sym ≤ symbols
      → AllByRecursion (AreNamed symbols) lists.bounds
      → AllByRecursion (AreNamed symbols) (replaced hull full gap lists at value from to).bounds
  replaced_named full gap lists at value from to there named =
      let left : Bool = has_left gap lists at from in
      let right : Bool = has_right gap lists at to in
      each_append (AreNamed symbols) (take (from + 1) lists.bounds) (new_bounds left right at ++ drop to lists.bounds)
      (each_take (AreNamed symbols) (from + 1) lists.bounds named)
      (each_append (AreNamed symbols) (new_bounds left right at) (drop to lists.bounds)
      (new_named symbols left right at there) (each_drop (AreNamed symbols) to lists.bounds named))

  -- The bounds behind a store to the array itself name symbols of the old bounds and of the index.
  pub stored_named : (full : C) (gap : Gaps) (lists : Lists C) (at : Expr) (value : C) → at.sym ≤ symbols
      → AllByRecursion (AreNamed symbols) lists.bounds
      → AllByRecursion (AreNamed symbols) (strongly_stored hull full gap lists at value).bounds
  stored_named full gap lists at value there named =
      let from : ℕ = start gap lists at in
      let to : ℕ = stop gap lists at in
      let one : Lists C = replaced hull full gap lists at value from to in
      times_named (length one.contents - 12) one (replaced_named full gap lists at value from to there named)
