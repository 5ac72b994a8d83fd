-- What is known where a condition was met. None: nothing is reached then.
use Rattle.std.specs.Prelude.{ℤ, pos, negsuc, ◌==◌, Bool, true, ◌&&◌, Some, if◌then◌else◌}
use Rattle.std.specs.Option.{option_and_then}
use Rattle.std.specs.Ordering.{int_eq}
use Rattle.cil_model.specs.Arithmetic.{LEAST}
use Rattle.cil_model.specs.declared.instruction.CmpOp.{CmpOp}
use Rattle.cil_model.specs.declared.instruction.CmpOp.TheVariants as comparisons
use Rattle.domain_api.specs.declared.expr.Expr.{Expr}
use Rattle.frame_names.specs.declared.var.Var.TheVariants as vars
use Rattle.number_spans.specs.Constants.{constant}
use Rattle.state_facts.specs.Assuming.{assumed}
use Rattle.state_facts.specs.StateFacts.{StateFacts, State, length_at}
use Rattle.state_obligations.specs.declared.condition.Condition.{Condition}
use Rattle.state_obligations.specs.declared.condition.Condition.TheVariants as conditions

-- The expression is this constant.
abbrev pub is_just : Expr → ℤ → Bool
is_just e n = (e.sym == 0) && int_eq e.k n

-- Two numbers compare so.
abbrev pub compared : CmpOp → Expr → Expr → StateFacts → State
compared op a b known = assumed op (vars.Number a) (vars.Number b) true known

-- A number is another one than this.
abbrev pub differing : Expr → ℤ → StateFacts → State
differing e n known = compared comparisons.NeUn e (constant n) known

abbrev pub not_negative : Expr → StateFacts → State
not_negative e known = compared comparisons.Le (constant (pos 0)) e known

-- An amount to shift by is one of 0 to 31.
abbrev pub amount : Expr → StateFacts → State
amount n known = option_and_then (compared comparisons.Le n (constant (pos 31))) (not_negative n known)

-- The quotient was not that of the least int32 and -1: where the one is known, the other was another.
unfoldable pub no_division_overflow : Expr → Expr → StateFacts → State
no_division_overflow a b known =
    if is_just a LEAST then differing b (negsuc 0) known
    else if is_just b (negsuc 0) then differing a LEAST known
    else Some known

-- A condition was met, where something is reached. Of an overflow nothing is assumed.
unfoldable pub assumed_by : Condition → StateFacts → State
assumed_by (conditions.NullUse r) known = assumed comparisons.NeUn (vars.Reference r) (vars.Reference 0) true known
assumed_by (conditions.Lower i) known = not_negative i known
assumed_by (conditions.Upper r i) known = compared comparisons.Lt i (length_at known r) known
assumed_by (conditions.ArraySize n) known = not_negative n known
assumed_by (conditions.Shift n) known = amount n known
assumed_by (conditions.DivZero b) known = differing b (pos 0) known
assumed_by (conditions.DivOverflow a b) known = no_division_overflow a b known
assumed_by (conditions.Overflow op a b) known = Some known
assumed_by (conditions.Assert e) known = differing e (pos 0) known

abbrev pub assume : Condition → State → State
assume condition state = option_and_then (assumed_by condition) state
