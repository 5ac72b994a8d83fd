-- What is printed of inferred clauses.
use Rattle.std.specs.Prelude.{ℕ, Bool, true, false, List, [], ◌++◌, codes, decimal}
use Rattle.std.specs.Fmt.{signed_decimal}
use Rattle.cil_model.specs.Terms as terms
use Rattle.cil_model.specs.Terms.{Term}
use Rattle.cil_model.specs.declared.clause.Clause.{Clause}
use Rattle.cil_model.specs.declared.instruction.BinOp.{BinOp}
use Rattle.cil_model.specs.declared.instruction.BinOp.TheVariants as operators
use Rattle.ensures_infer.specs.declared.inferred.Inferred.{Inferred}
use Rattle.ensures_infer.specs.declared.inferred.Inferred.TheVariants as facts
use Rattle.ensures_infer.specs.declared.inferred.Measure.{Measure}
use Rattle.ensures_infer.specs.declared.inferred.Measure.TheVariants as measures

-- ---- of what is said of a result

abbrev pub measure_text : Measure → ℕ → List ℕ
measure_text measures.Value i = codes "arg " ++ decimal i
measure_text measures.Length i = codes "length of arg " ++ decimal i

abbrev pub text_of : Inferred → List ℕ
text_of (facts.AtLeast lo) = codes "result >= " ++ signed_decimal lo
text_of (facts.AtMost hi) = codes "result <= " ++ signed_decimal hi
text_of facts.NotNull = codes "result not null"
text_of (facts.Below measure i) = codes "result < " ++ measure_text measure i
text_of (facts.NotAbove measure i) = codes "result <= " ++ measure_text measure i

-- ---- of a clause, by its tree

-- What stands between the result and what it is compared with, where the comparison is true, or is false. Others than
-- these are not inferred.
abbrev pub relation_text : Bool → BinOp → List ℕ
relation_text true operators.Clt = codes " < "
relation_text true operators.CgtUn = codes " not "
relation_text false operators.Clt = codes " >= "
relation_text false operators.Cgt = codes " <= "
relation_text so op = codes " ? "

abbrev pub argument_text : Term → List ℕ
argument_text (terms.Arg i) = codes "arg " ++ decimal i
argument_text tree = []

abbrev pub operand_text : Term → List ℕ
operand_text (terms.Const n) = signed_decimal n
operand_text terms.Null = codes "null"
operand_text (terms.Len array) = codes "length of " ++ argument_text array
operand_text tree = argument_text tree

abbrev pub comparison_text : Bool → Term → List ℕ
comparison_text so (terms.Bin op first other) = codes "result" ++ relation_text so op ++ operand_text other
comparison_text so tree = []

abbrev pub tree_text : Term → List ℕ
tree_text (terms.Bin operators.Ceq tree zero) = comparison_text false tree
tree_text tree = comparison_text true tree

-- The text of an inferred clause.
abbrev pub inferred_text : Clause → List ℕ
inferred_text clause = tree_text clause.tree
