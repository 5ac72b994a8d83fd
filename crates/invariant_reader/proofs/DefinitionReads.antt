-- Each definition is read back from its line, and so is each bound.
use Rattle.std.proofs.Common.{◌≡◌, ℕ, ◌<◌, ◌^◌, Bool, true, false, List, ◌∷◌, ◌++◌, Some, refl, codes}
use Rattle.std.proofs.Common.{append_assoc}
use Rattle.domain_api.specs.declared.expr.Expr.{Expr}
use Rattle.pentagon_domain.specs.declared.bound_row.BoundRow.{BoundRow}
use Rattle.symbolic_values.specs.declared.def.Def.{Def}
use Rattle.symbolic_values.specs.declared.def.Def.TheVariants.{Eq, Lt, LtUn, NullTest, Sub}
use Rattle.invariant_text.specs.NumberTexts.{expr_text, symbol_text}
use Rattle.invariant_text.specs.SymbolLines.{both, bound_line, def_text, definition_line}
use Rattle.invariant_text.specs.VariableLines.{reference_text}
use Rattle.invariant_text.proofs.DefReading.{Operator, Equal, Less, LessUnsigned, Minus}
use Rattle.invariant_text.proofs.DefReading.{expr_no_reference, null_words, operated, operator_text, reference_begins}
use Rattle.invariant_text.proofs.DefReading.{words_no_digit}
use Rattle.invariant_text.proofs.LineReading.{definition_parts, lower, row_parts}
use Rattle.invariant_reader.specs.declared.definitions.Operator.{Operator as ReadOperator}
use Rattle.invariant_reader.specs.declared.definitions.Operator.TheVariants as operators
use Rattle.invariant_reader.specs.Bounds.{read_bound_line}
use Rattle.invariant_reader.specs.CodeNumbers.{IsCodeDef, IsCodeDefinition, IsCodeExpr, IsCodeRow}
use Rattle.invariant_reader.specs.Definitions.{def_of, read_both, read_def, read_definition_line, read_null_test}
use Rattle.invariant_reader.specs.Definitions.{read_nullness, read_operator}
use Rattle.invariant_reader.proofs.ExprReads.{expr_reads, first_expr_reads, small_code}
use Rattle.invariant_reader.proofs.NumberReads.{short_reads}
use Rattle.invariant_reader.proofs.VariableReads.{reference_reads}

-- ---- two expressions

abbrev told : Operator → ReadOperator
told Equal = operators.Equal
told Less = operators.Less
told LessUnsigned = operators.LessUnsigned
told Minus = operators.Minus

operator_reads : (o : Operator) (text : List ℕ) → read_operator (operator_text o ++ text) ≡ Some (told o, text)
unfolding read_operator
operator_reads Equal text = refl
operator_reads Less text = refl
operator_reads LessUnsigned text = refl
operator_reads Minus text = refl

both_reads : (o : Operator) (a b : Expr) (rest : List ℕ) → IsCodeExpr a × IsCodeExpr b
    → read_def (both a (operator_text o) b ++ 10 ∷ rest) ≡ Some (def_of (told o) a b, 10 ∷ rest)
unfolding read_def read_both
both_reads o a b rest is =
    rw (
      append_assoc (expr_text a ++ operator_text o) (expr_text b) (10 ∷ rest),
      append_assoc (expr_text a) (operator_text o) (expr_text b ++ 10 ∷ rest),
      expr_no_reference a (operated o b rest) (small_code a is.0),
      first_expr_reads a o b rest is.0 (small_code b is.1),
      operator_reads o (expr_text b ++ 10 ∷ rest),
      expr_reads b (10 ∷ rest) is.1 (record { no_digit = refl; not_added = refl }),
    )

-- ---- null tests

nullness_reads : (is_null : Bool) (rest : List ℕ)
    → read_nullness (null_words is_null ++ 10 ∷ rest) ≡ Some (is_null, 10 ∷ rest)
unfolding read_nullness
nullness_reads true rest = refl
nullness_reads false rest = refl

test_reads : (r : ℕ) (is_null : Bool) (rest : List ℕ) → r < 2 ^ 32
    → read_def (def_text (NullTest r is_null) ++ 10 ∷ rest) ≡ Some (NullTest r is_null, 10 ∷ rest)
unfolding read_def read_null_test
test_reads r is_null rest fits =
    rw (
      append_assoc (reference_text r) (null_words is_null) (10 ∷ rest),
      reference_begins r (null_words is_null ++ 10 ∷ rest),
      reference_reads r (null_words is_null ++ 10 ∷ rest) fits (words_no_digit is_null (10 ∷ rest)),
      nullness_reads is_null rest,
    )

-- ---- the lines of definitions

def_reads : (d : Def) (rest : List ℕ) → IsCodeDef d → read_def (def_text d ++ 10 ∷ rest) ≡ Some (d, 10 ∷ rest)
def_reads (Eq a b) rest is = both_reads Equal a b rest is
def_reads (Lt a b) rest is = both_reads Less a b rest is
def_reads (LtUn a b) rest is = both_reads LessUnsigned a b rest is
def_reads (NullTest r is_null) rest is = test_reads r is_null rest is
def_reads (Sub a b) rest is = both_reads Minus a b rest is

pub definition_reads : (d : ℕ × Def) (rest : List ℕ) → IsCodeDefinition d
    → read_definition_line (definition_line d ++ rest) ≡ Some (d, rest)
unfolding read_definition_line
definition_reads d rest is =
    rw (
      definition_parts d rest,
      short_reads d.0 (codes " = " ++ (def_text d.1 ++ 10 ∷ rest)) is.0 refl,
      def_reads d.1 rest is.1,
    )

-- ---- the lines of bounds

pub bound_reads : (row : BoundRow) (rest : List ℕ) → IsCodeRow row
    → read_bound_line (bound_line row ++ rest) ≡ Some (row, rest)
unfolding read_bound_line
bound_reads row rest is =
    rw (
      row_parts row rest,
      expr_reads (lower row) (codes " <= " ++ (symbol_text row.t ++ 10 ∷ rest))
          (record { symbol = is.from; constant = is.constant }) (record { no_digit = refl; not_added = refl }),
      short_reads row.t (10 ∷ rest) is.to refl,
    )
