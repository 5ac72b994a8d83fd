-- Lines of a text, and where the first line `end` cuts it.
use Rattle.std.specs.Prelude.{◌≡◌, ℕ, ◌==◌, true, not, List, ◌++◌, codes}
use Rattle.std.specs.List.{AllByRecursion, flat_map, list_all}

-- No byte of the text is a line feed.
abbrev pub NoFeed : List ℕ → Type 0
NoFeed text = list_all (λ b. not (b == 10)) text ≡ true

abbrev pub with_feed : List ℕ → List ℕ
with_feed line = line ++ codes "\n"

-- Lines, each with its line feed.
abbrev pub lines_text : List (List ℕ) → List ℕ
lines_text lines = flat_map with_feed lines

-- What stands on a line that is not `end` alone.
pub record IsOtherLine (line : List ℕ) : Type 0 where
  pub plain : NoFeed line
  pub other : line ≡ codes "end" → ⊥

-- The line that ends an entry.
abbrev pub END_LINE : List ℕ
END_LINE = codes "end\n"

-- The text has a line `end`. The first one comes behind this prefix, and the rest comes behind it.
pub record IsCut (text prefix rest : List ℕ) : Type 0 where
  pub lines : List (List ℕ)
  pub other : AllByRecursion IsOtherLine lines
  pub are : lines_text lines ≡ prefix
  pub same : prefix ++ END_LINE ++ rest ≡ text

-- The text has no line `end`. The last line may want its line feed, and then may be `end`.
pub record IsUncut (text : List ℕ) : Type 0 where
  pub lines : List (List ℕ)
  pub other : AllByRecursion IsOtherLine lines
  pub last : List ℕ
  pub plain : NoFeed last
  pub same : lines_text lines ++ last ≡ text
