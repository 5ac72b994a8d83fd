-- Readers of parts of a reference's line, and how references are put together.
use Rattle.std.specs.Prelude.{◌≡◌, ℕ, ◌<◌, List, [], ◌∷◌, ◌++◌, length, Option, Some, None, codes}
use Rattle.std.specs.List.{zip}
use Rattle.alias_facts.specs.declared.nullness.Nullness.{Nullness}
use Rattle.alias_facts.specs.declared.nullness.Nullness.TheVariants as nullness
use Rattle.array_contents.specs.Contents.{Contents}
use Rattle.cil_model.specs.declared.place.Place.{Place}
use Rattle.cil_model.specs.declared.place.Place.TheVariants as places
use Rattle.domain_api.specs.declared.expr.Expr.{Expr}
use Rattle.frame_names.specs.declared.reference.Reference.{Reference}
use Rattle.invariant_reader.specs.CodeLines.{IsKnownLine, Known}
use Rattle.invariant_reader.specs.Expressions.{read_expr}
use Rattle.invariant_reader.specs.Prefixes.{and_then, behind, or_else}
use Rattle.invariant_text.specs.Lines.{numbered}
use Rattle.invariant_text.proofs.LineReading.{line_kind}
use Rattle.invariant_text.proofs.ListReading.{AllFrom}
use Rattle.invariant_text.proofs.NumberReading.{behind_digits}
use Rattle.invariant_text.proofs.Sections.{known_line}

-- A type of arrays.
unfoldable pub read_place : List ℕ → Option (Place × List ℕ)
read_place text =
    or_else (behind (codes "bool[]") text) (λ rest. Some (places.Bools, rest))
    (and_then (behind (codes "int32[]") text) (λ rest. Some (places.Ints, rest)))

-- What is known of a reference being null.
unfoldable pub read_nullness : List ℕ → Option (Nullness × List ℕ)
read_nullness text =
    or_else (behind (codes "may be null") text) (λ rest. Some (nullness.May, rest))
    (or_else (behind (codes "not null") text) (λ rest. Some (nullness.NotNull, rest))
    (and_then (behind (codes "is null") text) (λ rest. Some (nullness.Null, rest))))

-- Its number is passed over, and then come its type, whether it is null, and its length.
unfoldable pub read_reference_part : List ℕ → Option (Reference × List ℕ)
read_reference_part text =
    and_then (behind (codes "    r") text) (λ named.
    and_then (behind (codes " ") (behind_digits named)) (λ typed.
    and_then (read_place typed) (λ place.
    and_then (behind (codes " ") place.1) (λ marked.
    and_then (read_nullness marked) (λ nullness.
    and_then (behind (codes " length ") nullness.1) (λ sized.
    and_then (read_expr sized) (λ size.
    Some (record { place = place.0; nullness = nullness.0; length = size.0 }, size.1))))))))

-- References and, in a list of their own, their segments.
pub record Arrays : Type 0 where
  pub references : List Reference
  pub contents : Contents

-- The references with one more.
abbrev pub with_array : Arrays → Known → Arrays
with_array arrays known = record {
  references = arrays.references ++ known.0 ∷ [];
  contents = arrays.contents ++ known.1 ∷ [];
}

-- The lines of references with their segments.
abbrev pub array_lines : Arrays → List ℕ
array_lines arrays = numbered known_line 1 (zip arrays.references arrays.contents)

-- There are segments for each reference, and the numbers are those of the code.
pub record AreKnownLines (arrays : Arrays) : Type 0 where
  pub each : length arrays.contents ≡ length arrays.references
  pub lines : AllFrom IsKnownLine 1 (zip arrays.references arrays.contents)

-- The text goes on with a line of a later kind.
abbrev pub EndsArrays : List ℕ → Type 0
EndsArrays rest = 3 < line_kind rest
