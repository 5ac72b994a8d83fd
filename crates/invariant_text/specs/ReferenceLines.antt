-- The lines of references: what is known of each, and which are apart.
use Rattle.std.specs.Prelude.{ℕ, ◌+◌, Bool, List, [], ◌∷◌, ◌++◌, drop, get_or, if◌then◌else◌, codes}
use Rattle.std.specs.List.{flat_map}
use Rattle.alias_facts.specs.PairsOf.{Pair}
use Rattle.alias_facts.specs.declared.nullness.Nullness.{Nullness}
use Rattle.alias_facts.specs.declared.nullness.Nullness.TheVariants.{May, NotNull, Null}
use Rattle.array_contents.specs.Contents.{Contents, Segments}
use Rattle.cil_model.specs.Places.{place_text}
use Rattle.domain_api.specs.declared.expr.Expr.{Expr}
use Rattle.frame_names.specs.declared.reference.Reference.{Reference}
use Rattle.interval_domain.specs.Interval.{Interval}
use Rattle.invariant_text.specs.Lines.{line}
use Rattle.invariant_text.specs.NumberTexts.{expr_text, range_text}
use Rattle.invariant_text.specs.VariableLines.{reference_text}

-- ---- segments

abbrev pub next_expr : Expr → List ℕ
next_expr e = codes ", " ++ expr_text e

-- Expressions, with commas between.
abbrev pub exprs_text : List Expr → List ℕ
exprs_text [] = []
exprs_text (e ∷ others) = expr_text e ++ flat_map next_expr others

unfoldable pub bound_text : List Expr → List ℕ
bound_text bound = codes " {" ++ exprs_text bound ++ codes "}"

-- A segment that may be empty is marked.
abbrev pub mark_text : Bool → List ℕ
mark_text may_be_empty = if may_be_empty then codes " ?" else []

-- What the items of a segment are in, its mark, and the bound where it ends.
unfoldable pub segment_text : Interval → Bool → List Expr → List ℕ
segment_text content may_be_empty end = codes " " ++ range_text content ++ mark_text may_be_empty ++ bound_text end

abbrev pub each_segment : List Interval → List Bool → List (List Expr) → List ℕ
each_segment (content ∷ contents) (mark ∷ marks) (end ∷ ends) =
    segment_text content mark end ++ each_segment contents marks ends
each_segment _ _ _ = []

-- The bound where the first segment begins, and then each segment.
abbrev pub segments_text : Segments → List ℕ
segments_text segments =
    bound_text (get_or segments.bounds 0 []) ++ each_segment segments.contents segments.marks (drop 1 segments.bounds)

-- ---- references

abbrev pub nullness_text : Nullness → List ℕ
nullness_text May = codes "may be null"
nullness_text NotNull = codes "not null"
nullness_text Null = codes "is null"

-- Its type, whether it is null, and its length.
unfoldable pub known_text : ℕ → Reference → List ℕ
known_text r known =
    reference_text r ++ codes " " ++ place_text known.place ++ codes " " ++ nullness_text known.nullness
    ++ codes " length " ++ expr_text known.length

unfoldable pub reference_line : ℕ → Reference → Segments → List ℕ
reference_line r known segments = line (known_text r known ++ segments_text segments)

-- A line for each reference, which are numbered from a first number on.
abbrev pub reference_lines : ℕ → List Reference → Contents → List ℕ
reference_lines r (known ∷ references) (segments ∷ contents) =
    reference_line r known segments ++ reference_lines (r + 1) references contents
reference_lines _ _ _ = []

-- Two references are not the same array.
unfoldable pub apart_line : Pair → List ℕ
apart_line pair = line (reference_text pair.0 ++ codes " apart " ++ reference_text pair.1)
