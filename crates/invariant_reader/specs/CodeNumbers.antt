-- Values whose numbers are those of the code: 32 bits name symbols and references, and a constant has 64.
use Rattle.std.specs.Prelude.{ℕ, ◌<◌, ◌^◌}
use Rattle.std.specs.Int.Signed.{mag}
use Rattle.alias_facts.specs.PairsOf.{Pair}
use Rattle.domain_api.specs.declared.expr.Expr.{Expr}
use Rattle.frame_names.specs.declared.var.Var.{Var}
use Rattle.frame_names.specs.declared.var.Var.TheVariants as vars
use Rattle.pentagon_domain.specs.declared.bound_row.BoundRow.{BoundRow}
use Rattle.symbolic_values.specs.declared.def.Def.{Def}
use Rattle.symbolic_values.specs.declared.def.Def.TheVariants.{Eq, Lt, LtUn, NullTest, Sub}

pub record IsCodeExpr (e : Expr) : Type 0 where
  pub symbol : e.sym < 2 ^ 32
  pub constant : mag e.k < 2 ^ 63

abbrev pub IsCodeVar : Var → Type 0
IsCodeVar (vars.Number e) = IsCodeExpr e
IsCodeVar (vars.Reference r) = r < 2 ^ 32
IsCodeVar vars.Text = Unit {0}
IsCodeVar (vars.Address r e) = (r < 2 ^ 32) × IsCodeExpr e

pub record IsCodeRow (row : BoundRow) : Type 0 where
  pub from : row.s < 2 ^ 32
  pub to : row.t < 2 ^ 32
  pub constant : mag row.k < 2 ^ 63

abbrev pub IsCodeDef : Def → Type 0
IsCodeDef (Eq a b) = IsCodeExpr a × IsCodeExpr b
IsCodeDef (Lt a b) = IsCodeExpr a × IsCodeExpr b
IsCodeDef (LtUn a b) = IsCodeExpr a × IsCodeExpr b
IsCodeDef (NullTest r is_null) = r < 2 ^ 32
IsCodeDef (Sub a b) = IsCodeExpr a × IsCodeExpr b

abbrev pub IsCodeDefinition : ℕ × Def → Type 0
IsCodeDefinition d = (d.0 < 2 ^ 32) × IsCodeDef d.1

abbrev pub IsCodePair : Pair → Type 0
IsCodePair p = (p.0 < 2 ^ 32) × (p.1 < 2 ^ 32)
