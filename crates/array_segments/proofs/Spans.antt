-- Segments one behind another: put together, cut, and what their hull has.
use Rattle.std.proofs.Common.{◌≡◌, ℕ, zero, suc, ◌-◌, ◌≤◌, ℤ, pos, ◌≤ℤ◌, Bool, List, [], ◌∷◌, ◌++◌, length, map, get_or, take, drop, unwrap_or, arith, refl, sym, subst, ap, ◌∙◌}
use Rattle.std.proofs.lemmas.Int.{ints, by_lt_z}
use Rattle.std.specs.List.{fold, reduce, slice_range}
use Rattle.domain_api.specs.declared.expr.Expr.{Expr}
use Rattle.array_segments.specs.Meaning.{AreWorth, Covers, Segment, Spans, item, zipped}

-- The items of a list from one place to another, by cases.
abbrev pub slice_by : {X : Type 0} → ℕ → ℕ → List X → List X
slice_by zero to xs = take to xs
slice_by (suc from) zero xs = []
slice_by (suc from) (suc to) [] = []
slice_by (suc from) (suc to) (x ∷ xs) = slice_by from to xs

take_none : {X : Type 0} (n : ℕ) → take {A = X} n [] ≡ []
take_none zero = refl
take_none (suc n) = refl

drop_none : {X : Type 0} (n : ℕ) → drop {A = X} n [] ≡ []
drop_none zero = refl
drop_none (suc n) = refl

pub slice_by_cases : {X : Type 0} (from to : ℕ) (xs : List X) → slice_range xs from to ≡ slice_by from to xs
slice_by_cases zero to xs = let e : to - 0 ≡ to = omega arith in ap (λ n. take n xs) e
slice_by_cases (suc from) zero xs = let e : 0 - suc from ≡ 0 = omega arith in ap (λ n. take n (drop (suc from) xs)) e
slice_by_cases (suc from) (suc to) [] = take_none (suc to - suc from)
slice_by_cases (suc from) (suc to) (x ∷ xs) = let e : suc to - suc from ≡ to - from = omega arith in ap (λ n. take n (drop from xs)) e ∙ slice_by_cases from to xs

pub map_slice_by : {X Y : Type 0} (f : X → Y) (from to : ℕ) (xs : List X) → map f (slice_by from to xs) ≡ slice_by from to (map f xs)
map_slice_by f zero zero xs = refl
map_slice_by f zero (suc to) [] = refl
map_slice_by f zero (suc to) (x ∷ xs) = ap (λ rest. f x ∷ rest) (map_slice_by f zero to xs)
map_slice_by f (suc from) zero xs = refl
map_slice_by f (suc from) (suc to) [] = refl
map_slice_by f (suc from) (suc to) (x ∷ xs) = map_slice_by f from to xs

pub contents_of : {C : Type 0} (uppers : List (List Expr)) (contents : List C) (marks : List Bool) → map (λ segment. segment.content) (zipped uppers contents marks) ≡ contents
contents_of uppers [] marks = refl
contents_of uppers (content ∷ contents) marks = ap (λ rest. content ∷ rest) (contents_of (drop 1 uppers) contents (drop 1 marks))

-- The bound where the last of the segments ends, or where the first begins.
abbrev pub last_upper : {C : Type 0} → List Expr → List (Segment C) → List Expr
last_upper first [] = first
last_upper first (segment ∷ segments) = last_upper segment.upper segments

pub upper_at : {C : Type 0} (first : List Expr) (uppers : List (List Expr)) (contents : List C) (marks : List Bool) (place : ℕ) →
    length uppers ≡ length contents → place ≤ length contents → get_or (first ∷ uppers) place [] ≡ last_upper first (take place (zipped uppers contents marks))
upper_at first uppers contents marks zero same within = refl
upper_at first uppers [] marks (suc place) same within = absurd (omega arith)
upper_at first [] (content ∷ contents) marks (suc place) same within = absurd (omega arith)
upper_at first (upper ∷ uppers) (content ∷ contents) marks (suc place) same within = upper_at upper uppers contents (drop 1 marks) place (omega arith) (omega arith)

module _ {C : Type 0} (contains : C → ℤ → Type 0) (number : ℕ → ℤ) (items : List ℤ) where
  pub Spans-append : (xs ys : List (Segment C)) (low middle high : ℤ) → Spans contains number items low xs middle → Spans contains number items middle ys high →
      Spans contains number items low (xs ++ ys) high
  Spans-append [] ys low middle high first second = subst (λ at. Spans contains number items at ys high) (sym first) second
  Spans-append (x ∷ xs) ys low middle high first second = (first.0, first.1, Spans-append xs ys first.0 middle high first.2 second)

  -- Cut behind so many segments.
  unfoldable pub cut : (place : ℕ) (xs : List (Segment C)) (low high : ℤ) → Spans contains number items low xs high →
      (middle : ℤ) × Spans contains number items low (take place xs) middle × Spans contains number items middle (drop place xs) high
  cut zero xs low high all = (low, refl, all)
  cut (suc place) [] low high all = (low, refl, all)
  cut (suc place) (x ∷ xs) low high all = let rest = cut place xs all.0 high all.2 in (rest.0, (all.0, all.1, rest.1), rest.2)

  pub cut_between : (from to : ℕ) (xs : List (Segment C)) (low high : ℤ) (all : Spans contains number items low xs high) → from ≤ to →
      Spans contains number items (cut from xs low high all).0 (slice_by from to xs) (cut to xs low high all).0
  unfolding cut
  cut_between zero to xs low high all order = (cut to xs low high all).1
  cut_between (suc from) zero xs low high all order = absurd (omega arith)
  cut_between (suc from) (suc to) [] low high all order = refl
  cut_between (suc from) (suc to) (x ∷ xs) low high all order = cut_between from to xs all.0 high all.2 (omega arith)

  pub cut_all : (place : ℕ) (xs : List (Segment C)) (low high : ℤ) (all : Spans contains number items low xs high) → length xs ≤ place → (cut place xs low high all).0 ≡ high
  unfolding cut
  cut_all zero [] low high all whole = all
  cut_all zero (x ∷ xs) low high all whole = absurd (omega arith)
  cut_all (suc place) [] low high all whole = all
  cut_all (suc place) (x ∷ xs) low high all whole = cut_all place xs all.0 high all.2 (omega arith)

  pub rises : (xs : List (Segment C)) (low high : ℤ) → Spans contains number items low xs high → low ≤ℤ high
  rises [] low high all = omega (arith, ints)
  rises (x ∷ xs) low high all = let later : all.0 ≤ℤ high = rises xs all.0 high all.2 in let first : low ≤ℤ all.0 = all.1.order in omega (arith, ints)

  -- The bound that is reached is worth the place.
  pub reached : (first : List Expr) (xs : List (Segment C)) (low high : ℤ) → AreWorth number low first → Spans contains number items low xs high →
      AreWorth number high (last_upper first xs)
  reached first [] low high begins all = subst (λ at. AreWorth number at first) all begins
  reached first (x ∷ xs) low high begins all = reached x.upper xs all.0 high all.1.ends all.2

  module _ (hull : C → C → C) (keeps_left : (a b : C) (n : ℤ) → contains a n → contains (hull a b) n) (keeps_right : (a b : C) (n : ℤ) → contains b n → contains (hull a b) n) where
    pub fold_covers : (xs : List (Segment C)) (so_far : C) (low middle high : ℤ) → Covers contains items so_far low middle → Spans contains number items middle xs high →
        Covers contains items (fold hull so_far (map (λ segment. segment.content) xs)) low high
    fold_covers [] so_far low middle high before all = λ index above under. before index above (omega (arith, ints))
    fold_covers (x ∷ xs) so_far low middle high before all =
        fold_covers xs (hull so_far x.content) low all.0 high
        (λ index above under. by_lt_z (pos index) middle
        (λ first. keeps_left so_far x.content (item items index) (before index above first))
        (λ later. keeps_right so_far x.content (item items index) (all.1.covers index later under)))
        all.2

    -- The hull of segments has the items of all of them.
    pub hull_covers : (full : C) (xs : List (Segment C)) (low high : ℤ) → Spans contains number items low xs high →
        Covers contains items (unwrap_or (reduce hull (map (λ segment. segment.content) xs)) full) low high
    hull_covers full [] low high all = λ index above under. absurd (omega (arith, ints))
    hull_covers full (x ∷ xs) low high all = fold_covers xs x.content low all.0 high all.1.covers all.2

pub zipped_length : {C : Type 0} (uppers : List (List Expr)) (contents : List C) (marks : List Bool) → length (zipped uppers contents marks) ≡ length contents
zipped_length uppers [] marks = refl
zipped_length uppers (content ∷ contents) marks = ap suc (zipped_length (drop 1 uppers) contents (drop 1 marks))
