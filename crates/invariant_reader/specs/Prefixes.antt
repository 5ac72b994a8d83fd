-- What is behind a prefix of a text, and what is read there.
use Rattle.std.specs.Prelude.{ℕ, ◌==◌, List, [], ◌∷◌, Option, Some, None, if◌then◌else◌}

-- The text behind a prefix. None where it does not begin with it.
abbrev pub behind : List ℕ → List ℕ → Option (List ℕ)
behind [] text = Some text
behind (p ∷ prefix) [] = None
behind (p ∷ prefix) (c ∷ text) = if c == p then behind prefix text else None

-- What is read next, of what was read.
abbrev pub and_then : {X Y : Type 0} → Option X → (X → Option Y) → Option Y
and_then None next = None
and_then (Some read) next = next read

-- What is read next, of what was read, or else another.
abbrev pub or_else : {X Y : Type 0} → Option X → (X → Option Y) → Option Y → Option Y
or_else None next other = other
or_else (Some read) next other = next read
