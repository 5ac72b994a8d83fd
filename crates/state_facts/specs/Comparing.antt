-- What comparisons push (ECMA-335 III.3.21 to III.3.26). None: nothing is reached then.
use Rattle.std.specs.Prelude.{ℕ, ◌==◌, pos, Bool, true, false, ◌&&◌, ◌||◌, [], ◌∷◌, Option, Some, None, if◌then◌else◌}
use Rattle.alias_facts.specs.declared.nullness.Nullness.{Nullness}
use Rattle.alias_facts.specs.declared.nullness.Nullness.TheVariants.{May, NotNull, Null}
use Rattle.cil_model.specs.Arithmetic.{truth}
use Rattle.cil_model.specs.declared.instruction.BinOp.{BinOp}
use Rattle.cil_model.specs.declared.instruction.BinOp.TheVariants as operators
use Rattle.domain_api.specs.declared.expr.Expr.{Expr}
use Rattle.number_facts.specs.Comparisons.{compared}
use Rattle.interval_domain.specs.Interval.{between}
use Rattle.number_facts.specs.Fresh.{noted}
use Rattle.number_facts.specs.declared.relation.Relation.TheVariants.{Is}
use Rattle.number_spans.specs.Constants.{constant}
use Rattle.symbolic_values.specs.Names.{same_flag}
use Rattle.symbolic_values.specs.declared.def.Def.{Def}
use Rattle.symbolic_values.specs.declared.def.Def.TheVariants.{NullTest}
use Rattle.state_facts.specs.Moves.{on_top, pushed, with_number}
use Rattle.state_facts.specs.StateFacts.{StateFacts, are_apart, nullness_at}
use Rattle.frame_names.specs.declared.var.Var.{Var}
use Rattle.frame_names.specs.declared.var.Var.TheVariants as vars

-- ---- numbers

unfoldable pub with_truth : BinOp → Expr → Expr → StateFacts → StateFacts
with_truth op a b known = on_top known (compared op known.facts a b)

-- ---- references

-- The reference that is compared with null. None where both are other references.
abbrev pub null_tested : ℕ → ℕ → Option ℕ
null_tested r q = if r == 0 then Some q else if q == 0 then Some r else None

abbrev pub null_known : Nullness → Option Bool
null_known May = None
null_known NotNull = Some false
null_known Null = Some true

abbrev pub is_not_null : Nullness → Bool
is_not_null May = false
is_not_null NotNull = true
is_not_null Null = false

abbrev pub is_array : StateFacts → ℕ → Bool
is_array known r = is_not_null (nullness_at known r)

-- Two references are known to be the same, or known not to be: they are apart, and one is an array.
unfoldable pub same_known : StateFacts → ℕ → ℕ → Option Bool
same_known known r q =
    if r == q then Some true
    else if are_apart known r q && (is_array known r || is_array known q) then Some false
    else None

-- The number of a truth, or of its contrary.
abbrev pub truth_expr : Bool → Bool → Expr
truth_expr holds is = constant (truth (same_flag holds is))

abbrev pub with_known : Bool → Bool → StateFacts → StateFacts
with_known holds is known = pushed known (vars.Number (truth_expr holds is))

-- A truth that is not known is on top, with what it is the truth of.
unfoldable pub with_defined : Def → StateFacts → StateFacts
with_defined def known = on_top known (noted known.facts (between (pos 0) (pos 1)) (Is def ∷ []))

abbrev pub with_null_known : ℕ → Bool → StateFacts → Option Bool → StateFacts
with_null_known r is known None = with_defined (NullTest r is) known
with_null_known r is known (Some holds) = with_known holds is known

-- Whether a reference is null, or is not, is on top.
unfoldable pub with_null_test : ℕ → Bool → StateFacts → StateFacts
with_null_test r is known = with_null_known r is known (null_known (nullness_at known r))

abbrev pub with_same_known : Bool → StateFacts → Option Bool → Option StateFacts
with_same_known is known None = with_number (pos 0) (pos 1) known
with_same_known is known (Some holds) = Some (with_known holds is known)

-- Whether two references are the same, or are not, is on top.
unfoldable pub with_same : ℕ → ℕ → Bool → StateFacts → Option StateFacts
with_same r q is known = with_same_known is known (same_known known r q)

abbrev pub with_tested : ℕ → ℕ → Bool → StateFacts → Option ℕ → Option StateFacts
with_tested r q is known (Some tested) = Some (with_null_test tested is known)
with_tested r q is known None = with_same r q is known

-- ---- both

abbrev pub is_equality : BinOp → Bool
is_equality operators.Ceq = true
is_equality _ = false

-- The truth of a comparison is on top. Of two references it is whether they are the same, or are not.
unfoldable pub with_comparison : BinOp → Var → Var → StateFacts → Option StateFacts
with_comparison op (vars.Number a) (vars.Number b) known = Some (with_truth op a b known)
with_comparison op (vars.Number a) _ known = Some known
with_comparison op (vars.Reference r) (vars.Reference q) known =
    with_tested r q (is_equality op) known (null_tested r q)
with_comparison op (vars.Reference r) _ known = Some known
with_comparison op vars.Text _ known = Some known
with_comparison op (vars.Address r e) _ known = Some known
