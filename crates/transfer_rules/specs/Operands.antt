-- Rules over operands, which are taken from the stack.
use Rattle.std.specs.Prelude.{◌≡◌, Bool, true, false, Option, Some, None, IsSome}
use Rattle.std.specs.Option.{ForSome, option_and_then}
use Rattle.frame_names.specs.declared.var.Var.{Var}
use Rattle.obligation_prover.specs.Operations.{from_top}
use Rattle.state_facts.specs.Forms.{HasVar}
use Rattle.state_facts.specs.Moves.{popped}
use Rattle.state_facts.specs.StateFacts.{StateFacts, State}

-- What is made of what is known. None: nothing is reached then.
abbrev pub Rule : Type 0
Rule = StateFacts → State

-- A rule over what a variable has, if it is there.
abbrev pub with_one : (Var → Rule) → Option Var → Rule
with_one rule None known = None
with_one rule (Some v) known = rule v known

-- The top is taken.
abbrev pub on_one : (Var → Rule) → Rule
on_one rule known = with_one rule (from_top 0 known) (popped known)

-- The two uppermost are taken, and the three uppermost. The lowest comes first.
abbrev pub on_two : (Var → Var → Rule) → Rule
on_two rule known = on_one (λ upper. on_one (λ lower. rule lower upper)) known

abbrev pub on_three : (Var → Var → Var → Rule) → Rule
on_three rule known = on_one (λ upper. on_two (λ lowest lower. rule lowest lower upper)) known

-- The condition of an Assert or an Assume is taken, and a message on it.
abbrev pub on_condition : Bool → (Var → Rule) → Rule
on_condition false rule known = on_one rule known
on_condition true rule known = on_two (λ condition message. rule condition) known

-- ---- operands that were taken

-- A rule over what was taken. Nothing is reached where an operand is missing.
abbrev pub over_one : (Var → Rule) → Option Var → State → State
over_one rule None state = None
over_one rule (Some v) state = option_and_then (rule v) state

abbrev pub over_two : (Var → Var → Rule) → Option (Var × Var) → State → State
over_two rule None state = None
over_two rule (Some vs) state = option_and_then (rule vs.0 vs.1) state

-- What was taken is what each rule over operands takes, and the rest is left.
abbrev pub Took : Option Var → State → State → Type 0
Took top before after = (rule : Var → Rule) → option_and_then (on_one rule) before ≡ over_one rule top after

abbrev pub TookTwo : Option (Var × Var) → State → State → Type 0
TookTwo two before after = (rule : Var → Var → Rule) → option_and_then (on_two rule) before ≡ over_two rule two after

abbrev pub TookCondition : Bool → Option Var → State → State → Type 0
TookCondition message condition before after =
    (rule : Var → Rule) → option_and_then (on_condition message rule) before ≡ over_one rule condition after

-- What was taken is there, where something is reached.
pub record IsTaken (state : State) (v : Var) : Type 0 where
  pub reached : IsSome state
  pub there : ForSome state (λ known. HasVar known v)
