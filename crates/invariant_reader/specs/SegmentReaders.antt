-- Readers of parts of segments, and how segments are put together.
use Rattle.std.specs.Prelude.{◌≡◌, ℕ, ◌==◌, Bool, true, false, List, [], ◌∷◌, ◌++◌, get_or, Option, Some, None, codes}
use Rattle.array_contents.specs.Contents.{Segments}
use Rattle.domain_api.specs.declared.expr.Expr.{Expr}
use Rattle.invariant_reader.specs.CodeLines.{Segment}
use Rattle.invariant_reader.specs.Expressions.{read_expr}
use Rattle.invariant_reader.specs.Prefixes.{and_then, behind}
use Rattle.invariant_text.proofs.ExprReading.{EndsExpr}

-- An expression after a comma.
abbrev pub read_next_expr : List ℕ → Option (Expr × List ℕ)
read_next_expr text = and_then (behind (codes ", ") text) read_expr

-- Behind the last expression of a bound comes no further one.
pub record EndsBound (rest : List ℕ) : Type 0 where
  pub expr : EndsExpr rest
  pub last : (get_or rest 0 0 == 44) ≡ false

abbrev pub mark_of : List ℕ → Option (List ℕ) → Bool × List ℕ
mark_of text None = (false, text)
mark_of text (Some rest) = (true, rest)

-- Whether a mark stands there, and what is behind it.
abbrev pub read_mark : List ℕ → Bool × List ℕ
read_mark text = mark_of text (behind (codes " ?") text)

-- Behind the last segment comes no further one.
abbrev pub EndsSegments : List ℕ → Type 0
EndsSegments rest = (get_or rest 0 0 == 32) ≡ false

-- No segments yet, behind the first bound.
abbrev pub begun : List Expr → Segments
begun first = record { bounds = first ∷ []; contents = []; marks = [] }

-- The segments with one more.
abbrev pub with_segment : Segments → Segment → Segments
with_segment lists s = record {
  bounds = lists.bounds ++ s.1.1 ∷ [];
  contents = lists.contents ++ s.0 ∷ [];
  marks = lists.marks ++ s.1.0 ∷ [];
}
