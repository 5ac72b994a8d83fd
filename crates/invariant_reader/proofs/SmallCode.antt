-- Numbers of the code have 64 bits.
use Rattle.std.proofs.Common.{ℕ, arith}
use Rattle.pentagon_domain.specs.declared.bound_row.BoundRow.{BoundRow}
use Rattle.symbolic_values.specs.declared.def.Def.{Def}
use Rattle.symbolic_values.specs.declared.def.Def.TheVariants.{Eq, Lt, LtUn, NullTest, Sub}
use Rattle.invariant_text.proofs.DefReading.{IsSmallDef}
use Rattle.invariant_text.proofs.LineReading.{IsSmallDefinition, IsSmallRow}
use Rattle.invariant_reader.specs.CodeNumbers.{IsCodeDef, IsCodeDefinition, IsCodeRow}
use Rattle.invariant_reader.proofs.ExprReads.{small_code}

pub small_row : (row : BoundRow) → IsCodeRow row → IsSmallRow row
small_row row is = record { from = omega (arith, is.from); to = omega (arith, is.to); constant = is.constant }

small_def : (d : Def) → IsCodeDef d → IsSmallDef d
small_def (Eq a b) is = (small_code a is.0, small_code b is.1)
small_def (Lt a b) is = (small_code a is.0, small_code b is.1)
small_def (LtUn a b) is = (small_code a is.0, small_code b is.1)
small_def (NullTest r is_null) is = omega (arith, is)
small_def (Sub a b) is = (small_code a is.0, small_code b is.1)

pub small_definition : (d : ℕ × Def) → IsCodeDefinition d → IsSmallDefinition d
small_definition d is = (omega (arith, is.0), small_def d.1 is.1)
