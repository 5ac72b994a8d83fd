-- What may be said of a method's result at all its returns, and the clauses that say it.
use Rattle.std.specs.Prelude.{ℕ, pos, Option, Some, None}
use Rattle.cil_model.specs.Terms as terms
use Rattle.cil_model.specs.Terms.{Term}
use Rattle.cil_model.specs.declared.clause.Clause.{Clause}
use Rattle.cil_model.specs.declared.clause.ClauseKind.TheVariants as kinds
use Rattle.cil_model.specs.declared.instruction.BinOp.{BinOp}
use Rattle.cil_model.specs.declared.instruction.BinOp.TheVariants as operators
use Rattle.ensures_infer.specs.declared.inferred.Inferred.{Inferred}
use Rattle.ensures_infer.specs.declared.inferred.Inferred.TheVariants as facts
use Rattle.ensures_infer.specs.declared.inferred.Measure.{Measure}
use Rattle.ensures_infer.specs.declared.inferred.Measure.TheVariants as measures

-- What may be said where this does not follow.
abbrev pub weaker : Inferred → Option Inferred
weaker (facts.AtLeast lo) = None
weaker (facts.AtMost hi) = None
weaker facts.NotNull = None
weaker (facts.Below measure i) = Some (facts.NotAbove measure i)
weaker (facts.NotAbove measure i) = None

-- ---- clauses

-- The number of an argument that the result is compared with.
abbrev pub measured : Measure → ℕ → Term
measured measures.Value i = terms.Arg i
measured measures.Length i = terms.Len (terms.Arg i)

-- The result is compared with another value.
abbrev pub compared : BinOp → Term → Term
compared op other = terms.Bin op terms.Result other

-- The tree is false.
abbrev pub denied : Term → Term
denied tree = terms.Bin operators.Ceq tree (terms.Const (pos 0))

abbrev pub tree_of : Inferred → Term
tree_of (facts.AtLeast lo) = denied (compared operators.Clt (terms.Const lo))
tree_of (facts.AtMost hi) = denied (compared operators.Cgt (terms.Const hi))
tree_of facts.NotNull = compared operators.CgtUn terms.Null
tree_of (facts.Below measure i) = compared operators.Clt (measured measure i)
tree_of (facts.NotAbove measure i) = denied (compared operators.Cgt (measured measure i))

abbrev pub clause_of : Inferred → Clause
clause_of fact = record { kind = kinds.Ensures; tree = tree_of fact }
