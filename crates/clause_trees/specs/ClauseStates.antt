-- Trees that are shown, and trees that are assumed.
use Rattle.std.specs.Prelude.{ℤ, pos, Bool, true, false, not, ◌&&◌, Option, Some, None, if◌then◌else◌}
use Rattle.std.specs.Option.{option_and_then}
use Rattle.std.specs.Ordering.{int_eq}
use Rattle.cil_model.specs.Terms as terms
use Rattle.cil_model.specs.Terms.{Term}
use Rattle.cil_model.specs.declared.instruction.BinOp.{BinOp}
use Rattle.cil_model.specs.declared.instruction.BinOp.TheVariants as operators
use Rattle.frame_names.specs.declared.var.Var.{Var}
use Rattle.frame_names.specs.declared.var.Var.TheVariants as vars
use Rattle.merged_states.specs.Merging.{join}
use Rattle.number_facts.specs.Ends.{range_of}
use Rattle.number_spans.specs.Spans.{excludes}
use Rattle.number_spans.specs.declared.span.Span.{Span}
use Rattle.state_facts.specs.Moves.{popped}
use Rattle.state_facts.specs.StateFacts.{StateFacts, State}
use Rattle.state_obligations.specs.Judged.{Judged}
use Rattle.clause_trees.specs.TreeValues.{from_top, in_state, true_known, value}
use Rattle.clause_trees.specs.declared.reader.Time.TheVariants.{Now}
use Rattle.clause_trees.specs.declared.reader.TreeEnv.{TreeEnv}

abbrev pub value_in : TreeEnv → Term → State → Judged
value_in env t state = in_state (value env Now t) state

-- A comparison with this second side is the negation of its first side: it is with the constant 0.
abbrev pub is_negation : BinOp → Term → Bool
is_negation operators.Ceq (terms.Const n) = int_eq n (pos 0)
is_negation op b = false

-- ---- assumed

abbrev pub assumed_top : Bool → StateFacts → State
assumed_top holds known = option_and_then (λ v. true_known holds v (popped known)) (from_top 0 known)

-- The value of a tree is true, or false. It is taken from the stack.
abbrev pub assumed_value : Bool → Judged → State
assumed_value holds j = option_and_then (assumed_top holds) j.state

-- A tree is true, or false. A condition leaves what either branch leaves, and a comparison with the constant 0 what is
-- known where its other side is not so.
unfoldable pub assumed : TreeEnv → Bool → Term → State → State
assumed env holds (terms.Cond c a b) state =
    join (assumed env holds a (assumed env true c state)) (assumed env holds b (assumed env false c state))
assumed env holds (terms.Bin operators.Ceq a (terms.Const n)) state =
    if int_eq n (pos 0) then assumed env (not holds) a state
    else assumed_value holds (value_in env (terms.Bin operators.Ceq a (terms.Const n)) state)
assumed env holds t state = assumed_value holds (value_in env t state)

-- ---- shown

abbrev pub is_zero : Span → Bool
is_zero r = int_eq r.lo (pos 0) && int_eq r.hi (pos 0)

-- A number is known to be true, or false.
abbrev pub is_known : Bool → StateFacts → Option Var → Bool
is_known true known (Some (vars.Number e)) = excludes (range_of known.facts e) (pos 0)
is_known false known (Some (vars.Number e)) = is_zero (range_of known.facts e)
is_known holds known _ = false

abbrev pub is_top_known : Bool → State → Bool
is_top_known holds None = true
is_top_known holds (Some known) = is_known holds known (from_top 0 known)

-- No obligation inside faults, and the value is known to be so.
abbrev pub shown_value : Bool → Judged → Bool
shown_value holds j = j.entailed && is_top_known holds j.state

-- A tree is shown to be true, or false. Of a condition the test faults nowhere, and each branch is shown where it is
-- taken.
unfoldable pub shown : TreeEnv → Bool → Term → State → Bool
shown env holds (terms.Cond c a b) state =
    (value_in env c state).entailed
    && (shown env holds a (assumed env true c state) && shown env holds b (assumed env false c state))
shown env holds (terms.Bin operators.Ceq a (terms.Const n)) state =
    if int_eq n (pos 0) then shown env (not holds) a state
    else shown_value holds (value_in env (terms.Bin operators.Ceq a (terms.Const n)) state)
shown env holds t state = shown_value holds (value_in env t state)
