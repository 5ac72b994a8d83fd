-- Lists that lie one above another in one row: those of the frames of a run.
use Rattle.std.specs.Prelude.{◌≡◌, ℕ, ◌+◌, ◌<◌, ◌≤◌, List, [], ◌∷◌, length, reverse, take, drop}

-- The list of the frame that runs, those of the frames below it, the next one first, and how many items and lists
-- there may be. The item that was put last comes first.
pub record Piled (X : Type 0) : Type 0 where
  pub top : List X
  pub below : List (List X)
  pub room : ℕ
  pub depth : ℕ

abbrev pub length_of_all : {X : Type 0} → List (List X) → ℕ
length_of_all [] = 0
length_of_all (xs ∷ others) = length xs + length_of_all others

-- How many items there are.
abbrev pub size_of : {X : Type 0} → Piled X → ℕ
size_of p = length p.top + length_of_all p.below

-- A pile has room for one more list, of so many items.
pub record HasRoomFor {X : Type 0} (count : ℕ) (p : Piled X) : Type 0 where
  pub items : size_of p + count ≤ p.room
  pub lists : length p.below < p.depth

-- The lists that begin at these places of a row, the last of which comes first.
abbrev pub cut_at : {X : Type 0} → List ℕ → List X → List (List X)
cut_at [] row = []
cut_at (start ∷ starts) row = reverse (drop start row) ∷ cut_at starts (take start row)

-- Each place is at most the one before it, and the last is the row's start.
abbrev pub Descend : ℕ → List ℕ → Type 0
Descend end [] = end ≡ 0
Descend end (start ∷ starts) = (start ≤ end) × Descend start starts

-- The lists of a row.
abbrev pub piled : {X : Type 0} → List X → ℕ → List ℕ → ℕ → ℕ → Piled X
piled row start starts room depth =
    record { top = reverse (drop start row); below = cut_at (reverse starts) (take start row); room = room; depth = depth }

-- What holds of a row in memory for so many items and lists.
pub record IsPile (size start : ℕ) (starts : List ℕ) (room depth item_room start_room : ℕ) : Type 0 where
  pub inside : start ≤ size
  pub descend : Descend start (reverse starts)
  pub items_fit : room ≤ item_room
  pub starts_fit : depth ≤ start_room

-- The pile without its top list, where there is one below.
abbrev pub closed : {X : Type 0} → List (List X) → Piled X → Piled X
closed [] p = p
closed (xs ∷ others) p = record p { top = xs; below = others }
