-- The values of trees in states. A tree pushes its value, and a node takes its operands from the stack.
use Rattle.std.specs.Prelude.{◌≡◌, ℕ, zero, suc, ◌+◌, ℤ, pos, negsuc, Bool, true, false, ◌&&◌, reverse, slice_get, Option, Some, None}
use Rattle.std.specs.Option.{option_and_then}
use Rattle.cil_model.specs.Comparisons.{comparison_of}
use Rattle.cil_model.specs.Terms as terms
use Rattle.cil_model.specs.Terms.{Term}
use Rattle.cil_model.specs.declared.instruction.BinOp.{BinOp}
use Rattle.cil_model.specs.declared.instruction.BinOp.TheVariants as operators
use Rattle.cil_model.specs.declared.instruction.CmpOp.{CmpOp}
use Rattle.cil_model.specs.declared.instruction.CmpOp.TheVariants as comparisons
use Rattle.cil_model.specs.declared.instruction.UnOp.{UnOp}
use Rattle.cil_model.specs.declared.instruction.UnOp.TheVariants as unary
use Rattle.cil_model.specs.declared.place.Place.{Place}
use Rattle.domain_api.specs.declared.expr.Expr.{Expr}
use Rattle.frame_names.specs.declared.var.Var.{Var}
use Rattle.frame_names.specs.declared.var.Var.TheVariants as vars
use Rattle.merged_numbers.specs.Spans.{hull}
use Rattle.number_facts.specs.Ends.{range_of}
use Rattle.number_spans.specs.Constants.{constant}
use Rattle.state_facts.specs.Assuming.{assumed}
use Rattle.state_facts.specs.Moves.{item_place, place_at, popped, pushed}
use Rattle.state_facts.specs.StateFacts.{StateFacts, State, length_at, variables_in}
use Rattle.state_facts.specs.States as rule
use Rattle.state_facts.specs.UnknownValues as unknown
use Rattle.state_obligations.specs.Conditions.{conditions_of}
use Rattle.state_obligations.specs.Judged.{Judged, judged, with_entailed}
use Rattle.state_obligations.specs.declared.condition.Operation.{Operation}
use Rattle.state_obligations.specs.declared.condition.Operation.TheVariants as operations
use Rattle.clause_trees.specs.declared.conditions.Seen.{Seen}
use Rattle.clause_trees.specs.declared.conditions.Seen.TheVariants as seen
use Rattle.clause_trees.specs.declared.reader.Time.{Time}
use Rattle.clause_trees.specs.declared.reader.Time.TheVariants.{Now, Entry}
use Rattle.clause_trees.specs.declared.reader.TreeEnv.{TreeEnv}

-- ---- steps

-- What a tree makes of what is known: whether all obligations inside are entailed, and the state that assumes them,
-- with the value on top.
abbrev pub Step : Type 0
Step = StateFacts → Judged

-- In a state where nothing is reached all is entailed.
abbrev pub in_state : Step → State → Judged
in_state step None = record { entailed = true; state = None }
in_state step (Some known) = step known

-- One after another.
abbrev pub and_then : Judged → Step → Judged
and_then j step = with_entailed j.entailed (in_state step j.state)

-- What owes nothing, and what owes what an operation does.
abbrev pub owing_nothing : State → Judged
owing_nothing state = record { entailed = true; state = state }

abbrev pub owing : Operation → (State → State) → Step
owing operation result known =
    let judgement = judged (conditions_of operation) (Some known) in record judgement { state = result judgement.state }

-- No tree that has a kind comes here.
abbrev pub refused : Judged
refused = record { entailed = false; state = None }

abbrev pub refusing : Step
refusing known = refused

-- ---- operands

-- What the variable has on which so many others lie.
abbrev pub from_top : ℕ → StateFacts → Option Var
from_top above known = slice_get (reverse known.variables) above

abbrev pub top_in : ℕ → State → Option Var
top_in above state = slice_get (reverse (variables_in state)) above

abbrev pub with_one : (Var → Step) → Option Var → Step
with_one step None known = refused
with_one step (Some v) known = step v known

-- The top is taken.
abbrev pub on_one : (Var → Step) → Step
on_one step known = with_one step (from_top 0 known) (popped known)

abbrev pub with_two : (Var → Var → Step) → Option Var → Option Var → Step
with_two step (Some lower) (Some upper) known = step lower upper known
with_two step _ _ known = refused

-- The two uppermost are taken.
abbrev pub on_two : (Var → Var → Step) → Step
on_two step known = with_two step (from_top 1 known) (from_top 0 known) (popped (popped known))

-- ---- nodes

abbrev pub given : Var → Step
given v known = owing_nothing (Some (pushed known v))

-- What a variable has, where there is such a one.
abbrev pub variable : Option ℕ → Step
variable i known = with_one given (option_and_then (slice_get known.variables) i) known

abbrev pub push_length : ℕ → State → State
push_length r state = option_and_then (λ known. Some (pushed known (vars.Number (length_at known r)))) state

-- Nothing is read of a text or of an address: clauses are pure, so no tree has an address.
abbrev pub length_value : Var → Step
length_value (vars.Reference r) known = owing (operations.Length r) (push_length r) known
length_value (vars.Number e) known = refused
length_value vars.Text known = refused
length_value (vars.Address r e) known = refused

-- The items at a method's entry are not known.
abbrev pub push_item : Time → Place → ℕ → Expr → State → State
push_item Now place r i state = rule.load r i state
push_item Entry place r i state = unknown.push_unknown (item_place place) state

abbrev pub element_value : Time → Place → Var → Var → Step
element_value time place (vars.Reference r) (vars.Number i) known =
    owing (operations.Element r i) (push_item time place r i) known
element_value time place _ _ known = refused

abbrev pub arithmetic : BinOp → Expr → Expr → Step
arithmetic op a b known = owing (operations.Binary op a b) (rule.arith op a b) known

abbrev pub comparison : BinOp → Var → Var → Step
comparison op v w known = owing_nothing (rule.compare op v w (Some known))

abbrev pub binary_by : BinOp → Option CmpOp → Var → Var → Step
binary_by op None (vars.Number a) (vars.Number b) known = arithmetic op a b known
binary_by op (Some _) (vars.Number a) (vars.Number b) known = comparison op (vars.Number a) (vars.Number b) known
binary_by op (Some _) (vars.Reference r) (vars.Reference q) known =
    comparison op (vars.Reference r) (vars.Reference q) known
binary_by op _ _ _ known = refused

-- What an operator gives of two values. References are compared alone.
abbrev pub binary_value : BinOp → Var → Var → Step
binary_value op v w known = binary_by op (comparison_of op) v w known

-- neg is 0 - e, and not is -1 - e.
abbrev pub minuend : UnOp → ℤ
minuend unary.Neg = pos 0
minuend unary.Not = negsuc 0

abbrev pub unary_value : UnOp → Var → Step
unary_value op (vars.Number e) known = arithmetic operators.Sub (constant (minuend op)) e known
unary_value op (vars.Reference r) known = refused
unary_value op vars.Text known = refused
unary_value op (vars.Address r e) known = refused

-- ---- conditions

-- A value is true: a number other than 0, or a reference other than null. Or it is false. A text and an address are not
-- tested.
abbrev pub true_known : Bool → Var → StateFacts → State
true_known holds (vars.Number e) known =
    assumed comparisons.NeUn (vars.Number e) (vars.Number (constant (pos 0))) holds known
true_known holds (vars.Reference r) known = assumed comparisons.NeUn (vars.Reference r) (vars.Reference 0) holds known
true_known holds vars.Text known = Some known
true_known holds (vars.Address r e) known = Some known

-- What is seen of a branch's value behind the condition: the numbers that it may be; that it is reference 0; or the
-- type of a reference.
abbrev pub seen_reference : ℕ → StateFacts → Seen
seen_reference zero known = seen.Null
seen_reference (suc r) known = seen.Array (place_at known (suc r))

abbrev pub seen_of : StateFacts → Var → Option Seen
seen_of known (vars.Number e) = Some (seen.Number (range_of known.facts e))
seen_of known (vars.Reference r) = Some (seen_reference r known)
seen_of known vars.Text = None
seen_of known (vars.Address r e) = None

abbrev pub seen_on_top : StateFacts → Option Seen
seen_on_top known = option_and_then (seen_of known) (from_top 0 known)

-- What is seen of both branches. They are of one kind.
abbrev pub seen_of_both : Seen → Seen → Seen
seen_of_both (seen.Number r) (seen.Number q) = seen.Number (hull r q)
seen_of_both seen.Null b = b
seen_of_both a _ = a

-- One that is not reached shows nothing.
abbrev pub seen_of_reached : Option Seen → Option Seen → Option Seen
seen_of_reached None b = b
seen_of_reached (Some a) None = Some a
seen_of_reached (Some a) (Some b) = Some (seen_of_both a b)

-- A value of which no more is known than what is seen.
abbrev pub push_seen : Option Seen → StateFacts → State
push_seen None known = None
push_seen (Some (seen.Number r)) known = unknown.push_within r (Some known)
push_seen (Some seen.Null) known = Some (pushed known (vars.Reference 0))
push_seen (Some (seen.Array place)) known = unknown.push_unknown place (Some known)

-- A branch, where the test's value is true, or false.
abbrev pub branch : Step → Bool → Var → StateFacts → Judged
branch inside holds test known = in_state inside (true_known holds test known)

abbrev pub branch_in : Step → Bool → Var → State → Judged
branch_in inside holds test state = in_state inside (option_and_then (true_known holds test) state)

abbrev pub seen_in : Judged → Option Seen
seen_in j = option_and_then seen_on_top j.state

abbrev pub chosen : Judged → Judged → Step
chosen a b known = record {
  entailed = a.entailed && b.entailed;
  state = push_seen (seen_of_reached (seen_in a) (seen_in b)) known;
}

-- Each branch is taken where the test's value is so. What is known is then as behind the test.
abbrev pub condition_value : (a b : Step) → Var → Step
condition_value a b test known = chosen (branch a true test known) (branch b false test known) known

-- ---- trees

-- The value of a tree, read at a time.
unfoldable pub value : TreeEnv → Time → Term → Step
value env time (terms.Const n) known = given (vars.Number (constant n)) known
value env time (terms.Arg n) known = variable (Some (env.args + n)) known
value env time terms.Null known = given (vars.Reference 0) known
value env time terms.Result known = variable env.result known
value env time (terms.Len a) known = and_then (value env time a known) (on_one length_value)
value env time (terms.Elem place a i) known =
    and_then (and_then (value env time a known) (value env time i)) (on_two (element_value time place))
value env time (terms.Bin op a b) known =
    and_then (and_then (value env time a known) (value env time b)) (on_two (binary_value op))
value env time (terms.Un op a) known = and_then (value env time a known) (on_one (unary_value op))
value env time (terms.Old a) known = value env Entry a known
value env time (terms.Cond c a b) known =
    and_then (value env time c known) (on_one (condition_value (value env time a) (value env time b)))

-- What the code finds: of a tree, and of a branch.
pub record Finds (entailed : Bool) (state : State) (j : Judged) : Type 0 where
  pub entailed_is : entailed ≡ j.entailed
  pub state_is : state ≡ j.state

pub record Sees (entailed : Bool) (seen : Option Seen) (j : Judged) : Type 0 where
  pub entailed_is : entailed ≡ j.entailed
  pub seen_is : seen ≡ seen_in j
