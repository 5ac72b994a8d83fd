-- Loads and stores keep what segments say true: a loaded set has the item, and behind a store they hold of the items
-- behind it.
use Rattle.std.proofs.Common.{◌≡◌, ◌≢◌, ℕ, ◌<◌, ℤ, pos, Bool, ◌⊎◌, inl, List, [], ◌∷◌, length, set, arith, get_or-set_other, get_or-set_same, length-set, Option}
use Rattle.domain_api.specs.declared.expr.Expr.{Expr}
use Rattle.array_segments.specs.Loading.{loaded, start, stop}
use Rattle.array_segments.specs.Meaning.{Holds, Obeys, item, worth}
use Rattle.array_segments.specs.SegmentLists.{HasForm, Lists}
use Rattle.array_segments.specs.Storing.{replaced, strongly_stored, weakly_stored}
use Rattle.array_segments.proofs.LimitLaw.{limited_holds}
use Rattle.array_segments.proofs.LoadLaw.{AreSegments, load_has}
use Rattle.array_segments.proofs.Replacing.{added_holds, replaced_holds}
use Rattle.array_segments.proofs.StoreSteps.{replaced_counted}

pub segments_there : {C : Type 0} (first : List Expr) (uppers : List (List Expr)) (contents : List C) (marks : List Bool) →
    HasForm (record { bounds = first ∷ uppers; contents = contents; marks = marks }) → AreSegments uppers contents marks
segments_there first uppers contents marks form =
    let b = form.bounded in
    record { some = form.some; bounded = omega arith; marked = form.marked }

module _ {C : Type 0} (contains : C → ℤ → Type 0) (hull : C → C → C) (full : C)
    (keeps_left : (a b : C) (n : ℤ) → contains a n → contains (hull a b) n) (keeps_right : (a b : C) (n : ℤ) → contains b n → contains (hull a b) n)
    (gap : ℕ → ℕ → Option ℤ) (number : ℕ → ℤ) (obeys : Obeys gap number) (at : Expr) (items : List ℤ) (index : ℕ) (is : worth number at ≡ pos index) (below : index < length items) where
  load_lists : (bounds : List (List Expr)) (contents : List C) (marks : List Bool) →
      HasForm (record { bounds = bounds; contents = contents; marks = marks }) → Holds contains number items (record { bounds = bounds; contents = contents; marks = marks }) →
      contains (loaded hull full gap (record { bounds = bounds; contents = contents; marks = marks }) at) (item items index)
  load_lists [] contents marks form holds = let b = form.bounded in absurd (omega arith)
  load_lists (first ∷ uppers) contents marks form holds =
      load_has contains number items first uppers contents marks (segments_there first uppers contents marks form) holds.from_zero holds.spans gap obeys at index is below hull full keeps_left keeps_right

  -- The loaded set has the item at the index.
  pub load_law : (lists : Lists C) → HasForm lists → Holds contains number items lists → contains (loaded hull full gap lists at) (item items index)
  load_law lists form holds = load_lists lists.bounds lists.contents lists.marks form holds

  strong_lists : (bounds : List (List Expr)) (contents : List C) (marks : List Bool) (value : C) (n : ℤ) → contains value n →
      HasForm (record { bounds = bounds; contents = contents; marks = marks }) → Holds contains number items (record { bounds = bounds; contents = contents; marks = marks }) →
      Holds contains number (set items index n) (replaced hull full gap (record { bounds = bounds; contents = contents; marks = marks }) at value
      (start gap (record { bounds = bounds; contents = contents; marks = marks }) at) (stop gap (record { bounds = bounds; contents = contents; marks = marks }) at))
  strong_lists [] contents marks value n has form holds = let b = form.bounded in absurd (omega arith)
  strong_lists (first ∷ uppers) contents marks value n has form holds =
      replaced_holds contains hull full keeps_left keeps_right gap number obeys at value items (set items index n) index is below
      (λ k apart. get_or-set_other items index k n (pos 0) apart) (length-set items index n) first uppers contents marks (segments_there first uppers contents marks form)
      holds.from_zero holds.spans (let e = get_or-set_same items index n (pos 0) below in rw e has)

  -- Behind a store to the array itself the segments hold of the items behind it.
  pub strong_law : (lists : Lists C) (value : C) (n : ℤ) → contains value n → HasForm lists → Holds contains number items lists →
      Holds contains number (set items index n) (strongly_stored hull full gap lists at value)
  strong_law lists value n has form holds =
      limited_holds contains number (set items index n) hull keeps_left keeps_right (replaced hull full gap lists at value (start gap lists at) (stop gap lists at))
      (replaced_counted hull full gap lists at value form) (strong_lists lists.bounds lists.contents lists.marks value n has form holds)

  weak_lists : (bounds : List (List Expr)) (contents : List C) (marks : List Bool) (value : C) (after : List ℤ) →
      ((k : ℕ) → k ≢ index → item after k ≡ item items k) → length after ≡ length items → (contains value (item after index)) ⊎ (item after index ≡ item items index) →
      HasForm (record { bounds = bounds; contents = contents; marks = marks }) → Holds contains number items (record { bounds = bounds; contents = contents; marks = marks }) →
      Holds contains number after (weakly_stored hull gap (record { bounds = bounds; contents = contents; marks = marks }) at value)
  weak_lists [] contents marks value after others same has form holds = let b = form.bounded in absurd (omega arith)
  weak_lists (first ∷ uppers) contents marks value after others same has form holds =
      added_holds contains hull full keeps_left keeps_right gap number obeys at value items after index is below others same first uppers contents marks
      (segments_there first uppers contents marks form) holds.from_zero holds.spans has

  -- Behind a store to an array that may be this one the segments hold of the items, whether it was this one or not.
  pub weak_law_same : (lists : Lists C) (value : C) (n : ℤ) → contains value n → HasForm lists → Holds contains number items lists →
      Holds contains number (set items index n) (weakly_stored hull gap lists at value)
  weak_law_same lists value n has form holds =
      weak_lists lists.bounds lists.contents lists.marks value (set items index n) (λ k apart. get_or-set_other items index k n (pos 0) apart) (length-set items index n)
      (inl (let e = get_or-set_same items index n (pos 0) below in rw e has)) form holds
