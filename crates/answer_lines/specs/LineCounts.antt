-- How many lines a text has, and where one begins.
use Rattle.std.specs.Prelude.{◌≡◌, ◌⊎◌, ℕ, List, [], ◌++◌, ◌==◌, codes}
use Rattle.std.specs.List.{All, count_by}
use Rattle.std.specs.declared.alloc.Global.{Global}
use Rattle.std.specs.declared.vec.Vec.{Vec}

-- How many line feeds a text has. Each ends a line.
unfoldable pub line_count : List ℕ → ℕ
line_count text = count_by (λ byte. byte == 10) text

-- Each of these texts has one line feed.
abbrev pub AreLines : List (Vec ℕ Global) → Type 0
AreLines lines = All (λ line. line_count line.items ≡ 1) lines

-- A line begins after this: nothing stands before it, or a whole line.
abbrev pub EndsLine : List ℕ → Type 0
EndsLine before = (before ≡ []) ⊎ ((lines : List ℕ) × (before ≡ lines ++ codes "\n"))
