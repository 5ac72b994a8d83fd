-- New symbols, and what is known of them from the first.
use Rattle.std.specs.Prelude.{ℕ, ◌+◌, ℤ, pos, negsuc, neg_ℤ, Bool, ◌&&◌, int_le, List, [], ◌∷◌, ◌++◌, length, Option, Some, None, if◌then◌else◌}
use Rattle.std.specs.Option.{option_map}
use Rattle.std.specs.Ordering.{int_eq}
use Rattle.std.specs.Int.{int_min, int_max}
use Rattle.domain_api.specs.declared.expr.Expr.{Expr}
use Rattle.cil_model.specs.Arithmetic.{LEAST, GREATEST}
use Rattle.interval_domain.specs.Interval.{Interval}
use Rattle.pentagon_domain.specs.Rows.{with_bound}
use Rattle.pentagon_domain.specs.declared.bound_row.BoundRow.{BoundRow}
use Rattle.symbolic_values.specs.declared.def.Def.{Def}
use Rattle.number_spans.specs.Constants.{constant}
use Rattle.number_spans.specs.Stored.{range_without}
use Rattle.number_facts.specs.Facts.{Facts}
use Rattle.number_facts.specs.declared.relation.Relation.{Relation}
use Rattle.number_facts.specs.declared.relation.Relation.TheVariants.{AtLeast, AtMost, Is}

-- The expression of a number, and the facts with it.
pub record Made : Type 0 where
  pub expr : Expr
  pub facts : Facts

-- A bound s + k <= t is stored where k has 64 bits.
abbrev pub is_long : ℤ → Bool
is_long k = int_le (negsuc 9223372036854775807) k && int_le k (pos 9223372036854775807)

unfoldable pub bounded : Facts → ℕ → ℕ → ℤ → Facts
bounded facts s t k = if is_long k then record facts { bounds = with_bound facts.bounds s t k } else facts

unfoldable pub defined : Facts → ℕ → Def → Facts
defined facts s def = record facts { definitions = facts.definitions ++ (s, def) ∷ [] }

-- What is known of a symbol besides: that it is no less than another one and k more, no more than that, or what it is.
abbrev pub related : Facts → ℕ → Relation → Facts
related facts t (AtLeast s k) = bounded facts s t k
related facts t (AtMost s k) = bounded facts t s (neg_ℤ k)
related facts t (Is def) = defined facts t def

abbrev pub related_so : Facts → ℕ → List Relation → Facts
related_so facts t [] = facts
related_so facts t (r ∷ rs) = related_so (related facts t r) t rs

-- The bounds and the definitions that are stored of a symbol of which this is known.
abbrev pub long_row : ℕ → ℕ → ℤ → List BoundRow
long_row s t k = if is_long k then record { s = s; t = t; k = k } ∷ [] else []

abbrev pub row_of : ℕ → Relation → List BoundRow
row_of t (AtLeast s k) = long_row s t k
row_of t (AtMost s k) = long_row t s (neg_ℤ k)
row_of t (Is def) = []

abbrev pub rows_of : ℕ → List Relation → List BoundRow
rows_of t [] = []
rows_of t (r ∷ rs) = row_of t r ++ rows_of t rs

abbrev pub definition_of : ℕ → Relation → List (ℕ × Def)
definition_of t (AtLeast s k) = []
definition_of t (AtMost s k) = []
definition_of t (Is def) = (t, def) ∷ []

abbrev pub definitions_of : ℕ → List Relation → List (ℕ × Def)
definitions_of t [] = []
definitions_of t (r ∷ rs) = definition_of t r ++ definitions_of t rs

-- A number of a range: the constant, where it has one number alone, else a new symbol of which this is known.
unfoldable pub noted : Facts → Interval → List Relation → Made
noted facts r relations =
    if int_eq r.lo r.hi then record { expr = constant r.lo; facts = facts }
    else record {
      expr = record { sym = length facts.ranges + 1; k = pos 0 };
      facts = related_so (record facts { ranges = facts.ranges ++ r ∷ [] }) (length facts.ranges + 1) relations;
    }

-- A number from lo to hi but for the hole, that is an int32. None where there is none: then nothing is reached.
unfoldable pub fresh : Facts → ℤ → ℤ → Option ℤ → List Relation → Option Made
fresh facts lo hi hole relations =
    option_map (λ r. noted facts r relations) (range_without (int_max lo LEAST) (int_min hi GREATEST) hole)

-- The expression that is made, and the facts then. Where there is none, the facts are as before.
abbrev pub expr_made : Option Made → Option Expr
expr_made made = option_map (λ m. m.expr) made

abbrev pub facts_made : Facts → Option Made → Facts
facts_made facts None = facts
facts_made facts (Some m) = m.facts
