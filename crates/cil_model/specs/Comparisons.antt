-- Comparisons of values, and what is taken for true (ECMA-335 III.1.5, III.3.17 and III.3.18).
use Rattle.std.specs.Prelude.{ℕ, ◌==◌, ℤ, pos, Bool, true, false, not, Option, Some, None, option_map}
use Rattle.std.specs.Ordering.{int_eq}
use Rattle.cil_model.specs.Arithmetic.{compares, truth}
use Rattle.cil_model.specs.declared.instruction.BinOp.{BinOp}
use Rattle.cil_model.specs.declared.instruction.BinOp.TheVariants as operators
use Rattle.cil_model.specs.declared.instruction.CmpOp.{CmpOp}
use Rattle.cil_model.specs.declared.instruction.CmpOp.TheVariants as comparisons
use Rattle.cil_model.specs.declared.machine.Value.{Value}
use Rattle.cil_model.specs.declared.machine.Value.TheVariants as values

-- The number of a value: an int32, or an array's length, which counts as that int32.
abbrev pub number_of : Value → Option ℤ
number_of (values.Int n) = Some n
number_of (values.Native n) = Some (pos n)
number_of _ = None

-- The reference of a value: none is null.
abbrev pub reference_of : Value → Option (Option ℕ)
reference_of values.Null = Some None
reference_of (values.Array i) = Some (Some i)
reference_of _ = None

abbrev pub same_reference : Option ℕ → Option ℕ → Bool
same_reference None None = true
same_reference (Some i) (Some j) = i == j
same_reference _ _ = false

-- Two references are compared for equality alone. Typing lets arrays of one type meet here, or null.
abbrev pub compares_references : CmpOp → Option ℕ → Option ℕ → Option Bool
compares_references comparisons.Eq a b = Some (same_reference a b)
compares_references comparisons.NeUn a b = Some (not (same_reference a b))
compares_references _ a b = None

abbrev pub compares_parts : CmpOp → Option ℤ → Option ℤ → Option (Option ℕ) → Option (Option ℕ) → Option Bool
compares_parts op (Some a) (Some b) r q = Some (compares op a b)
compares_parts op a b (Some r) (Some q) = compares_references op r q
compares_parts op a b r q = None

-- A comparison of two values, where they may be compared.
abbrev pub compares_values : CmpOp → Value → Value → Option Bool
compares_values op a b = compares_parts op (number_of a) (number_of b) (reference_of a) (reference_of b)

-- The same, where the outcome is pushed and not branched on. Here an array is above null.
abbrev pub pushed_comparison : CmpOp → Value → Value → Option Bool
pushed_comparison comparisons.GtUn (values.Array i) values.Null = Some true
pushed_comparison comparisons.GtUn values.Null values.Null = Some false
pushed_comparison op a b = compares_values op a b

-- The number that is pushed.
abbrev pub comparison_value : CmpOp → Value → Value → Option Value
comparison_value op a b = option_map (λ holds. values.Int (truth holds)) (pushed_comparison op a b)

-- The comparison that an operator is.
abbrev pub comparison_of : BinOp → Option CmpOp
comparison_of operators.Ceq = Some comparisons.Eq
comparison_of operators.Cgt = Some comparisons.Gt
comparison_of operators.CgtUn = Some comparisons.GtUn
comparison_of operators.Clt = Some comparisons.Lt
comparison_of operators.CltUn = Some comparisons.LtUn
comparison_of _ = None

-- Whether a value is taken for true: a number other than 0, and a reference other than null.
abbrev pub is_true : Value → Option Bool
is_true (values.Int n) = Some (not (int_eq n (pos 0)))
is_true (values.Native n) = Some (not (n == 0))
is_true values.Null = Some false
is_true (values.Array i) = Some true
is_true (values.Addr a n) = None
is_true values.Text = None
