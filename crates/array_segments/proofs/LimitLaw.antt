-- Segments of which the first two are made one hold of what they held of; and the counts that stay.
use Rattle.std.proofs.Common.{◌≡◌, ℕ, zero, suc, ◌+◌, ◌-◌, ◌<◌, ◌≤◌, ℤ, pos, Bool, ◌&&◌, inl, inr, List, [], ◌∷◌, length, get_or, arith, refl, sym, subst}
use Rattle.std.proofs.lemmas.Int.{ints, by_lt_z}
use Rattle.std.proofs.lemmas.Bool.{and_cases}
use Rattle.std.specs.List.{AllByRecursion}
use Rattle.domain_api.specs.declared.expr.Expr.{Expr}
use Rattle.array_segments.specs.Counted.{IsCounted}
use Rattle.array_segments.specs.Meaning.{Holds, Spans, item, zipped}
use Rattle.array_segments.specs.SegmentLists.{Has, HasFew, HasForm, Lists, zero_expr}
use Rattle.array_segments.specs.Storing.{first_two, limited, merged_first, merged_times}

pub first_two_length : {X : Type 0} (make : X → X → X) (xs : List X) → 2 ≤ length xs → length (first_two make xs) + 1 ≡ length xs
first_two_length make [] two = absurd (omega arith)
first_two_length make (x ∷ []) two = absurd (omega arith)
first_two_length make (x ∷ y ∷ xs) two = omega arith

first_kept : (bounds : List (List Expr)) → get_or (first_two (λ first second. first) bounds) 0 [] ≡ get_or bounds 0 []
first_kept [] = refl
first_kept (x ∷ []) = refl
first_kept (x ∷ y ∷ xs) = refl

few_kept : (bounds : List (List Expr)) → AllByRecursion HasFew bounds → AllByRecursion HasFew (first_two (λ first second. first) bounds)
few_kept [] few = few
few_kept (x ∷ []) few = few
few_kept (x ∷ y ∷ xs) few = (few.0, few.1.1)

pub merged_counted : {C : Type 0} (hull : C → C → C) (lists : Lists C) → IsCounted lists → 2 ≤ length lists.contents → IsCounted (merged_first hull lists)
merged_counted hull lists counted two =
    let b = counted.bounded in
    let m = counted.marked in
    let one = first_two_length hull lists.contents two in
    let other = first_two_length (λ first second. first) lists.bounds (omega arith) in
    let marked = first_two_length ◌&&◌ lists.marks (omega arith) in
    record { some = omega arith; bounded = omega arith; marked = omega arith; few = few_kept lists.bounds counted.few; from_zero = subst (Has zero_expr) (sym (first_kept lists.bounds)) counted.from_zero }

pub times_counted : {C : Type 0} (hull : C → C → C) (times : ℕ) (lists : Lists C) → IsCounted lists → times < length lists.contents →
    IsCounted (merged_times hull times lists)
times_counted hull zero lists counted under = counted
times_counted hull (suc times) lists counted under =
    let one = first_two_length hull lists.contents (omega arith) in
    times_counted hull times (merged_first hull lists) (merged_counted hull lists counted (omega arith)) (omega arith)

pub times_length : {C : Type 0} (hull : C → C → C) (times : ℕ) (lists : Lists C) → times < length lists.contents →
    length (merged_times hull times lists).contents + times ≡ length lists.contents
times_length hull zero lists under = omega arith
times_length hull (suc times) lists under =
    let one = first_two_length hull lists.contents (omega arith) in
    let rest = times_length hull times (merged_first hull lists) (omega arith) in
    omega arith

-- Within the limit the form is whole.
pub limited_form : {C : Type 0} (hull : C → C → C) (lists : Lists C) → IsCounted lists → HasForm (limited hull lists)
limited_form hull lists counted =
    let s = counted.some in
    let times : ℕ = length lists.contents - 12 in
    let under : times < length lists.contents = omega arith in
    let kept = times_counted hull (length lists.contents - 12) lists counted under in
    let l = times_length hull (length lists.contents - 12) lists under in
    record { some = kept.some; most = omega arith; bounded = kept.bounded; marked = kept.marked; few = kept.few; from_zero = kept.from_zero }

module _ {C : Type 0} (contains : C → ℤ → Type 0) (number : ℕ → ℤ) (items : List ℤ) (hull : C → C → C) (keeps_left : (a b : C) (n : ℤ) → contains a n → contains (hull a b) n) (keeps_right : (a b : C) (n : ℤ) → contains b n → contains (hull a b) n) where
  merged_spans : (uppers : List (List Expr)) (one other : C) (contents : List C) (mark second : Bool) (marks : List Bool) (upper : List Expr) (low high : ℤ) →
      Spans contains number items low (zipped (upper ∷ uppers) (one ∷ other ∷ contents) (mark ∷ second ∷ marks)) high →
      Spans contains number items low (zipped uppers (hull one other ∷ contents) ((mark && second) ∷ marks)) high
  merged_spans uppers one other contents mark second marks upper low high all =
      let a = all.1 in
      let b = all.2.1 in (
        all.2.0,
        record {
          ends = b.ends;
          order = let x = a.order in let y = b.order in omega (arith, ints);
          rises = λ unmarked. let x = a.order in let y = b.order in elim (and_cases mark second unmarked) [
            | inl first ↦ let z = a.rises first in omega (arith, ints)
            | inr later ↦ let z = b.rises later in omega (arith, ints)
          ];
          covers = λ k above below. by_lt_z (pos k) all.0
              (λ before. keeps_left one other (item items k) (a.covers k above before))
              (λ behind. keeps_right one other (item items k) (b.covers k behind below));
        },
        all.2.2,
      )

  merged_lists : (bounds : List (List Expr)) (contents : List C) (marks : List Bool) → length bounds ≡ length contents + 1 → length marks ≡ length contents → 2 ≤ length contents →
      Holds contains number items (record { bounds = bounds; contents = contents; marks = marks }) →
      Holds contains number items (merged_first hull (record { bounds = bounds; contents = contents; marks = marks }))
  merged_lists bounds [] marks bounded marked two holds = absurd (omega arith)
  merged_lists bounds (one ∷ []) marks bounded marked two holds = absurd (omega arith)
  merged_lists [] (one ∷ other ∷ contents) marks bounded marked two holds = absurd (omega arith)
  merged_lists (first ∷ []) (one ∷ other ∷ contents) marks bounded marked two holds = absurd (omega arith)
  merged_lists (first ∷ upper ∷ uppers) (one ∷ other ∷ contents) [] bounded marked two holds = absurd (omega arith)
  merged_lists (first ∷ upper ∷ uppers) (one ∷ other ∷ contents) (mark ∷ []) bounded marked two holds = absurd (omega arith)
  merged_lists (first ∷ upper ∷ uppers) (one ∷ other ∷ contents) (mark ∷ second ∷ marks) bounded marked two holds =
      record { from_zero = holds.from_zero; spans = merged_spans uppers one other contents mark second marks upper (pos 0) (pos (length items)) holds.spans }

  pub times_holds : (times : ℕ) (lists : Lists C) → IsCounted lists → times < length lists.contents → Holds contains number items lists → Holds contains number items (merged_times hull times lists)
  times_holds zero lists counted under holds = holds
  times_holds (suc times) lists counted under holds =
      let one = first_two_length hull lists.contents (omega arith) in
      times_holds times (merged_first hull lists) (merged_counted hull lists counted (omega arith)) (omega arith)
      (merged_lists lists.bounds lists.contents lists.marks counted.bounded counted.marked (omega arith) holds)

  pub limited_holds : (lists : Lists C) → IsCounted lists → Holds contains number items lists → Holds contains number items (limited hull lists)
  limited_holds lists counted holds = let s = counted.some in times_holds (length lists.contents - 12) lists counted (omega arith) holds
