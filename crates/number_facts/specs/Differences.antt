-- The differences among definitions, put in order by the symbol that is subtracted.
use Rattle.std.specs.Prelude.{◌≡◌, ℕ, ◌==◌, nat_le, List, [], ◌∷◌, Option, Some, None, filter, if◌then◌else◌}
use Rattle.std.specs.List.{filter_map}
use Rattle.std.specs.List.Sorted.{IsNonDecreasingBy}
use Rattle.symbolic_values.specs.declared.def.Def.{Def}
use Rattle.symbolic_values.specs.declared.def.Def.TheVariants.{Sub}
use Rattle.number_facts.specs.declared.differences.Difference.{Difference}

-- The difference as which a symbol is defined.
abbrev pub difference_of : ℕ → Def → Option Difference
difference_of d (Sub x y) = Some (record { symbol = d; minuend = x; subtrahend = y })
difference_of d _ = None

abbrev pub differences : List (ℕ × Def) → List Difference
differences definitions = filter_map (λ d. difference_of d.0 d.1) definitions

-- Those that subtract an expression of a symbol.
abbrev pub subtracting : ℕ → List Difference → List Difference
subtracting y ds = filter (λ d. d.subtrahend.sym == y) ds

-- They rise by that symbol.
abbrev pub Rise : List Difference → Type 0
Rise ds = IsNonDecreasingBy (λ d. d.subtrahend.sym) ds

-- Differences that rise, and of each symbol they are those among definitions, in the same order.
pub record AreDifferences (ds : List Difference) (definitions : List (ℕ × Def)) : Type 0 where
  pub rise : Rise ds
  pub same : (y : ℕ) → subtracting y ds ≡ subtracting y (differences definitions)

-- A difference behind all that subtract its symbol or an earlier one.
abbrev pub put : List Difference → Difference → List Difference
put [] new = new ∷ []
put (d ∷ ds) new = if nat_le d.subtrahend.sym new.subtrahend.sym then d ∷ put ds new else (new ∷ d ∷ ds)

abbrev pub put_some : List Difference → Option Difference → List Difference
put_some ds None = ds
put_some ds (Some new) = put ds new
