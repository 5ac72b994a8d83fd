-- The meaning of segments, for an array as a list of numbers, under a choice of a number for each symbol.
use Rattle.std.specs.Prelude.{◌≡◌, ℕ, ◌<◌, ℤ, pos, ◌+ℤ◌, ◌≤ℤ◌, ◌<ℤ◌, Bool, false, List, [], ◌∷◌, length, get_or, drop, Option, None, Some}
use Rattle.std.specs.List.{AllByRecursion}
use Rattle.domain_api.specs.declared.expr.Expr.{Expr}
use Rattle.array_segments.specs.SegmentLists.{Lists}

-- A segment behind some bound: what its items are in, whether it may be empty, and the bound where it ends.
pub record Segment (C : Type 0) : Type 0 where
  pub content : C
  pub may_be_empty : Bool
  pub upper : List Expr

abbrev pub zipped : {C : Type 0} → List (List Expr) → List C → List Bool → List (Segment C)
zipped uppers [] marks = []
zipped uppers (content ∷ contents) marks =
    record { content = content; may_be_empty = get_or marks 0 false; upper = get_or uppers 0 [] } ∷ zipped (drop 1 uppers) contents (drop 1 marks)

-- The segments, each with the bound where it ends. The first begins at the first bound.
abbrev pub segments_of : {C : Type 0} → Lists C → List (Segment C)
segments_of lists = zipped (drop 1 lists.bounds) lists.contents lists.marks

-- The number that an expression is worth.
abbrev pub worth : (ℕ → ℤ) → Expr → ℤ
worth number expr = number expr.sym +ℤ expr.k

abbrev pub AreWorth : (ℕ → ℤ) → ℤ → List Expr → Type 0
AreWorth number place bound = AllByRecursion (λ expr. worth number expr ≡ place) bound

abbrev pub item : List ℤ → ℕ → ℤ
item items index = get_or items index (pos 0)

-- The items from one place up to another are in the content.
abbrev pub Covers : {C : Type 0} → (C → ℤ → Type 0) → List ℤ → C → ℤ → ℤ → Type 0
Covers contains items content low high = (index : ℕ) → low ≤ℤ pos index → pos index <ℤ high → contains content (item items index)

-- The segment lies from one place to another, and its items are in its content.
pub record Lies {C : Type 0} (contains : C → ℤ → Type 0) (number : ℕ → ℤ) (items : List ℤ) (low : ℤ) (segment : Segment C) (high : ℤ) : Type 0 where
  pub ends : AreWorth number high segment.upper
  pub order : low ≤ℤ high
  pub rises : segment.may_be_empty ≡ false → low <ℤ high
  pub covers : Covers contains items segment.content low high

-- The segments lie one behind another from one place to another.
abbrev pub Spans : {C : Type 0} → (C → ℤ → Type 0) → (ℕ → ℤ) → List ℤ → ℤ → List (Segment C) → ℤ → Type 0
Spans contains number items low [] high = low ≡ high
Spans contains number items low (segment ∷ segments) high =
    (middle : ℤ) × Lies contains number items low segment middle × Spans contains number items middle segments high

-- The segments hold of the array: they go from 0 to its length.
pub record Holds {C : Type 0} (contains : C → ℤ → Type 0) (number : ℕ → ℤ) (items : List ℤ) (lists : Lists C) : Type 0 where
  pub from_zero : AreWorth number (pos 0) (get_or lists.bounds 0 [])
  pub spans : Spans contains number items (pos 0) (segments_of lists) (pos (length items))

-- The numbers lie as far from each other as the gaps say.
abbrev pub Obeys : (ℕ → ℕ → Option ℤ) → (ℕ → ℤ) → Type 0
Obeys gap number = (s t : ℕ) (k : ℤ) → gap s t ≡ Some k → (number s +ℤ k) ≤ℤ number t

-- The expression is worth the index of an item.
pub record IsIndex (number : ℕ → ℤ) (at : Expr) (items : List ℤ) (index : ℕ) : Type 0 where
  pub same : worth number at ≡ pos index
  pub below : index < length items

-- Under the second choice the name of each symbol is worth what the symbol is under the first.
abbrev pub AreNames : List (Option Expr) → (ℕ → ℤ) → (ℕ → ℤ) → Type 0
AreNames names before number =
    (symbol : ℕ) (name : Expr) → get_or names symbol None ≡ Some name → worth number name ≡ before symbol
