-- What is known of sums is true of them.
use Rattle.std.proofs.Common.{◌≡◌, ℤ, ◌+ℤ◌, true, ◌&&◌, int_le, FitsSigned, arith, w32}
use Rattle.std.proofs.lemmas.Bool.{and_parts}
use Rattle.std.proofs.lemmas.Int.{ints}
use Rattle.domain_api.specs.declared.expr.Expr.{Expr}
use Rattle.cil_model.specs.Arithmetic.{LEAST, GREATEST}
use Rattle.number_spans.specs.Spans.{Has}
use Rattle.number_spans.specs.declared.span.Span.{Span}

-- a number that is an int32 also with a constant added
pub takes_fits : (r : Span) (n : ℤ) (e : Expr) → Has r n → (int_le LEAST (r.lo +ℤ e.k) && int_le (r.hi +ℤ e.k) GREATEST) ≡ true → FitsSigned w32 (n +ℤ e.k)
takes_fits r n e has is = let parts = and_parts (int_le LEAST (r.lo +ℤ e.k)) _ is in grind (arith, ints, parts.0, parts.1, has.above, has.below)
