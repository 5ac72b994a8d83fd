-- What readers promise: that they read back each text.
use Rattle.std.specs.Prelude.{◌≡◌, ℕ, ◌<◌, List, ◌++◌, Option, Some}
use Rattle.invariant_text.specs.Lines.{numbered}
use Rattle.invariant_text.proofs.LineReading.{line_kind}
use Rattle.invariant_text.proofs.ListReading.{AllFrom}

-- Where the text begins with that of such a value, and goes on so, the value is read and the rest is left.
abbrev pub ReadsBack : {X : Type 0} → (X → List ℕ) → (X → Type 0) → (List ℕ → Type 0) → List ℕ
    → Option (X × List ℕ) → Type 0
ReadsBack {X} text_of Is Ends text read =
    (x : X) (rest : List ℕ) → Is x → Ends rest → text ≡ text_of x ++ rest → read ≡ Some (x, rest)

-- The text may go on with anything.
abbrev pub AnyEnd : List ℕ → Type 0
AnyEnd rest = Unit {0}

-- The values are the lines of one kind, which are numbered from a first number on. The text goes on with a line of a
-- later kind.
abbrev pub ReadsSection : {X : Type 0} → (ℕ → X → List ℕ) → (ℕ → X → Type 0) → (kind first : ℕ) → List ℕ
    → Option (List X × List ℕ) → Type 0
ReadsSection {X} line_of Is kind first text read =
    ReadsBack (numbered line_of first) (AllFrom Is first) (λ rest. kind < line_kind rest) text read
