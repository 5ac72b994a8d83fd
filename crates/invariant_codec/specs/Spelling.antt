-- How states are spelled.
use Rattle.std.specs.Prelude.{ℕ, ℤ, Bool, List, [], ◌∷◌, ◌++◌, length, drop, get_or, Option, None, Some, if◌then◌else◌}
use Rattle.std.specs.Int.{w32, w64, cast_unsigned}
use Rattle.std.specs.List.{flat_map}
use Rattle.abs_state.specs.StateParts.{StateParts, parts_of}
use Rattle.alias_facts.specs.PairsOf.{Pair}
use Rattle.array_contents.specs.Contents.{Contents, Segments}
use Rattle.cc_base.specs.LittleEndian.{little_bytes}
use Rattle.cil_model.specs.Places.{place_number}
use Rattle.domain_api.specs.declared.expr.Expr.{Expr}
use Rattle.frame_names.specs.declared.reference.Reference.{Reference}
use Rattle.frame_names.specs.declared.var.Var.{Var}
use Rattle.frame_names.specs.declared.var.Var.TheVariants as vars
use Rattle.interval_domain.specs.Interval.{Interval}
use Rattle.pentagon_domain.specs.declared.bound_row.BoundRow.{BoundRow}
use Rattle.state_facts.specs.StateFacts.{State}
use Rattle.symbolic_values.specs.declared.def.Def.{Def}
use Rattle.symbolic_values.specs.declared.def.Def.TheVariants.{Eq, Lt, LtUn, NullTest, Sub}
use Rattle.invariant_codec.specs.Numbers.{flag_number}
use Rattle.invariant_codec.specs.Segments.{nullness_number}
use Rattle.invariant_codec.specs.Symbols.{Definition}

-- ---- numbers, expressions and ranges

abbrev pub int32_bytes : ℤ → List ℕ
int32_bytes z = little_bytes 4 (cast_unsigned w32 z)

abbrev pub int64_bytes : ℤ → List ℕ
int64_bytes z = little_bytes 8 (cast_unsigned w64 z)

abbrev pub flag_bytes : Bool → List ℕ
flag_bytes is = little_bytes 1 (flag_number is)

unfoldable pub expr_bytes : Expr → List ℕ
expr_bytes e = little_bytes 2 e.sym ++ int64_bytes e.k

abbrev pub hole_bytes : Option ℤ → List ℕ
hole_bytes None = little_bytes 1 0
hole_bytes (Some hole) = little_bytes 1 1 ++ int32_bytes hole

unfoldable pub range_bytes : Interval → List ℕ
range_bytes r = int32_bytes r.lo ++ (int32_bytes r.hi ++ hole_bytes r.hole)

-- ---- references

unfoldable pub bound_bytes : List Expr → List ℕ
bound_bytes exprs = little_bytes 1 (length exprs) ++ flat_map expr_bytes exprs

-- What the items of a segment are in, whether it may be empty, and the bound where it ends.
unfoldable pub segment_bytes : Interval → Bool → List Expr → List ℕ
segment_bytes content may_be_empty end = range_bytes content ++ (flag_bytes may_be_empty ++ bound_bytes end)

abbrev pub each_segment_bytes : List Interval → List Bool → List (List Expr) → List ℕ
each_segment_bytes (content ∷ contents) (mark ∷ marks) (end ∷ ends) =
    segment_bytes content mark end ++ each_segment_bytes contents marks ends
each_segment_bytes _ _ _ = []

-- Segments after their count: the bound where the first begins, and then each segment.
unfoldable pub segments_bytes : Segments → List ℕ
segments_bytes lists =
    little_bytes 1 (length lists.contents)
    ++ (bound_bytes (get_or lists.bounds 0 [])
    ++ each_segment_bytes lists.contents lists.marks (drop 1 lists.bounds))

unfoldable pub reference_bytes : Reference → List ℕ
reference_bytes r =
    little_bytes 1 (place_number r.place) ++ (little_bytes 1 (nullness_number r.nullness) ++ expr_bytes r.length)

-- References, each with its segments.
abbrev pub each_reference_bytes : List Reference → Contents → List ℕ
each_reference_bytes (r ∷ references) (segments ∷ contents) =
    (reference_bytes r ++ segments_bytes segments) ++ each_reference_bytes references contents
each_reference_bytes _ _ = []

-- ---- variables, and what is known of symbols

unfoldable pub var_bytes : Var → List ℕ
var_bytes (vars.Number e) = little_bytes 1 1 ++ expr_bytes e
var_bytes (vars.Reference r) = little_bytes 1 2 ++ little_bytes 2 r
var_bytes vars.Text = little_bytes 1 3
var_bytes (vars.Address r e) = little_bytes 1 4 ++ (little_bytes 2 r ++ expr_bytes e)

-- The numbers of two symbols or references.
abbrev pub names_bytes : ℕ → ℕ → List ℕ
names_bytes a b = little_bytes 2 a ++ little_bytes 2 b

unfoldable pub row_bytes : BoundRow → List ℕ
row_bytes row = names_bytes row.s row.t ++ int64_bytes row.k

abbrev pub two_bytes : Expr → Expr → List ℕ
two_bytes a b = expr_bytes a ++ expr_bytes b

unfoldable pub def_bytes : Def → List ℕ
def_bytes (Eq a b) = little_bytes 1 1 ++ two_bytes a b
def_bytes (Lt a b) = little_bytes 1 2 ++ two_bytes a b
def_bytes (LtUn a b) = little_bytes 1 3 ++ two_bytes a b
def_bytes (NullTest r is) = little_bytes 1 4 ++ (little_bytes 2 r ++ flag_bytes is)
def_bytes (Sub a b) = little_bytes 1 5 ++ two_bytes a b

unfoldable pub definition_bytes : Definition → List ℕ
definition_bytes d = little_bytes 2 d.0 ++ def_bytes d.1

unfoldable pub pair_bytes : Pair → List ℕ
pair_bytes p = names_bytes p.0 p.1

-- ---- states

-- Items after their count, a number of so many bytes.
abbrev pub counted_bytes : {X : Type 0} → ℕ → (X → List ℕ) → List X → List ℕ
counted_bytes width spell xs = little_bytes width (length xs) ++ flat_map spell xs

unfoldable pub known_bytes : StateParts → List ℕ
known_bytes parts =
    counted_bytes 2 range_bytes parts.ranges
    ++ (little_bytes 2 (length parts.references) ++ (each_reference_bytes parts.references parts.contents
    ++ (counted_bytes 2 var_bytes parts.variables ++ (counted_bytes 4 row_bytes parts.bounds
    ++ (counted_bytes 2 definition_bytes parts.definitions ++ counted_bytes 4 pair_bytes parts.apart)))))

-- 1 and what is known where something is reached, and else 0.
unfoldable pub parts_bytes : StateParts → List ℕ
parts_bytes parts = if parts.reached then little_bytes 1 1 ++ known_bytes parts else little_bytes 1 0

abbrev pub state_bytes : State → List ℕ
state_bytes state = parts_bytes (parts_of state)

-- States, after their count.
unfoldable pub states_bytes : List State → List ℕ
states_bytes states = counted_bytes 2 state_bytes states
