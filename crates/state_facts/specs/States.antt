-- What calls do to a state: where nothing is reached it stays so.
use Rattle.std.specs.Prelude.{ℕ, Bool}
use Rattle.std.specs.Option.{option_and_then, option_map}
use Rattle.cil_model.specs.declared.instruction.BinOp.{BinOp}
use Rattle.cil_model.specs.declared.instruction.CmpOp.{CmpOp}
use Rattle.cil_model.specs.declared.place.Place.{Place}
use Rattle.domain_api.specs.declared.expr.Expr.{Expr}
use Rattle.state_facts.specs.Arithmetic.{with_result}
use Rattle.state_facts.specs.Assuming.{assumed}
use Rattle.state_facts.specs.Calls.{with_call}
use Rattle.state_facts.specs.Comparing.{with_comparison}
use Rattle.state_facts.specs.Moves.{pushed, popped, with_put, with_item, with_stored, with_array}
use Rattle.state_facts.specs.StateFacts.{State}
use Rattle.frame_names.specs.declared.var.Var.{Var}

abbrev pub push : Var → State → State
push v state = option_map (λ known. pushed known v) state

abbrev pub pop : State → State
pop state = option_map popped state

abbrev pub put : ℕ → Var → Place → State → State
put i v place state = option_and_then (with_put i v place) state

abbrev pub arith : BinOp → Expr → Expr → State → State
arith op a b state = option_and_then (with_result op a b) state

abbrev pub compare : BinOp → Var → Var → State → State
compare op a b state = option_and_then (with_comparison op a b) state

abbrev pub assume : CmpOp → Var → Var → Bool → State → State
assume op a b holds state = option_and_then (assumed op a b holds) state

abbrev pub load : ℕ → Expr → State → State
load r at state = option_and_then (with_item r at) state

abbrev pub store : ℕ → Expr → Expr → State → State
store r at value state = option_and_then (with_stored r at value) state

abbrev pub new_array : Place → Expr → State → State
new_array place length_is state = option_map (with_array place length_is) state

abbrev pub forget : ℕ → ℕ → Place → State → State
forget first args place state = option_and_then (with_call first args place) state
