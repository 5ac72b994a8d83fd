-- What is found of a tree is what is found of the trees below it, and then of its root.
use Rattle.std.proofs.Common.{◌≡◌, ℕ, ◌+◌, ℤ, Bool, ◌&&◌, Option, Some, None, refl, sym, ap, subst, ◌∙◌}
use Rattle.cil_model.specs.Terms as terms
use Rattle.cil_model.specs.Terms.{Term}
use Rattle.cil_model.specs.declared.instruction.BinOp.{BinOp}
use Rattle.cil_model.specs.declared.instruction.UnOp.{UnOp}
use Rattle.cil_model.specs.declared.place.Place.{Place}
use Rattle.frame_names.specs.declared.var.Var.{Var}
use Rattle.frame_names.specs.declared.var.Var.TheVariants as vars
use Rattle.number_spans.specs.Constants.{constant}
use Rattle.state_facts.specs.StateFacts.{StateFacts, State}
use Rattle.state_obligations.specs.Judged.{Judged}
use Rattle.clause_trees.specs.TreeValues.{Finds, Step, and_then, binary_value, condition_value, element_value, given, in_state, length_value, on_one, on_two, unary_value, value, variable}
use Rattle.clause_trees.specs.declared.reader.Time.{Time}
use Rattle.clause_trees.specs.declared.reader.Time.TheVariants.{Entry}
use Rattle.clause_trees.specs.declared.reader.TreeEnv.{TreeEnv}

-- One after another.
pub both_found : (j : Judged) (step : Step) (first second : Bool) (between after : State) → Finds first between j
    → Finds second after (in_state step between) → Finds (first && second) after (and_then j step)
both_found j step first second between after one two =
    let rest : Finds second after (in_state step j.state) = subst (λ (s : State). Finds second after (in_state step s)) one.state_is two in
    record {
      entailed_is = ap (λ (x : Bool). x && second) one.entailed_is ∙ ap (λ (x : Bool). j.entailed && x) rest.entailed_is;
      state_is = rest.state_is;
    }

-- Of a tree, which is another tree's value and then a step.
root_found : (env : TreeEnv) (time : Time) (t : Term) (j : Judged) (step : Step) (old : State) (first second : Bool) (between after : State)
    → in_state (value env time t) old ≡ and_then j step → Finds first between j → Finds second after (in_state step between)
    → Finds (first && second) after (in_state (value env time t) old)
root_found env time t j step old first second between after is one two =
    subst (λ (x : Judged). Finds (first && second) after x) (sym is) (both_found j step first second between after one two)

-- ---- one node alone

pub const_is : (env : TreeEnv) (time : Time) (t : Term) (n : ℤ) (v : Var) (old : State) → t ≡ terms.Const n → v ≡ vars.Number (constant n)
    → in_state (given v) old ≡ in_state (value env time t) old
unfolding value
const_is env time t n v old is has = rw (is, has) refl

pub arg_is : (env : TreeEnv) (time : Time) (t : Term) (n : ℕ) (old : State) → t ≡ terms.Arg n
    → in_state (variable (Some (env.args + n))) old ≡ in_state (value env time t) old
unfolding value
arg_is env time t n old is = rw is refl

pub null_is : (env : TreeEnv) (time : Time) (t : Term) (old : State) → t ≡ terms.Null
    → in_state (given (vars.Reference 0)) old ≡ in_state (value env time t) old
unfolding value
null_is env time t old is = rw is refl

pub result_is : (env : TreeEnv) (time : Time) (t : Term) (old : State) → t ≡ terms.Result
    → in_state (variable env.result) old ≡ in_state (value env time t) old
unfolding value
result_is env time t old is = rw is refl

pub old_is : (env inner : TreeEnv) (time then : Time) (t a : Term) (old : State) → t ≡ terms.Old a → inner ≡ env → then ≡ Entry
    → in_state (value inner then a) old ≡ in_state (value env time t) old
unfolding value
old_is env inner time then t a old is same entry = rw (is, same, entry) refl

-- ---- nodes over others

length_node : (env : TreeEnv) (time : Time) (a : Term) (old : State)
    → in_state (value env time (terms.Len a)) old ≡ and_then (in_state (value env time a) old) (on_one length_value)
unfolding value
length_node env time a None = refl
length_node env time a (Some known) = refl

pub length_found : (env : TreeEnv) (time : Time) (t a : Term) (old between after : State) (first second : Bool) → t ≡ terms.Len a
    → Finds first between (in_state (value env time a) old) → Finds second after (in_state (on_one length_value) between)
    → Finds (first && second) after (in_state (value env time t) old)
length_found env time t a old between after first second is one two =
    root_found env time t (in_state (value env time a) old) (on_one length_value) old first second between after
    (ap (λ (x : Term). in_state (value env time x) old) is ∙ length_node env time a old) one two

unary_node : (env : TreeEnv) (time : Time) (op : UnOp) (a : Term) (old : State)
    → in_state (value env time (terms.Un op a)) old ≡ and_then (in_state (value env time a) old) (on_one (unary_value op))
unfolding value
unary_node env time op a None = refl
unary_node env time op a (Some known) = refl

pub unary_found : (env : TreeEnv) (time : Time) (t : Term) (op : UnOp) (a : Term) (old between after : State) (first second : Bool)
    → t ≡ terms.Un op a → Finds first between (in_state (value env time a) old)
    → Finds second after (in_state (on_one (unary_value op)) between) → Finds (first && second) after (in_state (value env time t) old)
unary_found env time t op a old between after first second is one two =
    root_found env time t (in_state (value env time a) old) (on_one (unary_value op)) old first second between after
    (ap (λ (x : Term). in_state (value env time x) old) is ∙ unary_node env time op a old) one two

element_node : (env : TreeEnv) (time : Time) (place : Place) (a b : Term) (old : State)
    → in_state (value env time (terms.Elem place a b)) old
    ≡ and_then (and_then (in_state (value env time a) old) (value env time b)) (on_two (element_value time place))
unfolding value
element_node env time place a b None = refl
element_node env time place a b (Some known) = refl

pub element_found : (env : TreeEnv) (time : Time) (t : Term) (place : Place) (a b : Term) (old between after : State) (first second : Bool)
    → t ≡ terms.Elem place a b → Finds first between (and_then (in_state (value env time a) old) (value env time b))
    → Finds second after (in_state (on_two (element_value time place)) between)
    → Finds (first && second) after (in_state (value env time t) old)
element_found env time t place a b old between after first second is one two =
    root_found env time t (and_then (in_state (value env time a) old) (value env time b)) (on_two (element_value time place)) old first second between after
    (ap (λ (x : Term). in_state (value env time x) old) is ∙ element_node env time place a b old) one two

binary_node : (env : TreeEnv) (time : Time) (op : BinOp) (a b : Term) (old : State)
    → in_state (value env time (terms.Bin op a b)) old
    ≡ and_then (and_then (in_state (value env time a) old) (value env time b)) (on_two (binary_value op))
unfolding value
binary_node env time op a b None = refl
binary_node env time op a b (Some known) = refl

pub binary_found : (env : TreeEnv) (time : Time) (t : Term) (op : BinOp) (a b : Term) (old between after : State) (first second : Bool)
    → t ≡ terms.Bin op a b → Finds first between (and_then (in_state (value env time a) old) (value env time b))
    → Finds second after (in_state (on_two (binary_value op)) between) → Finds (first && second) after (in_state (value env time t) old)
binary_found env time t op a b old between after first second is one two =
    root_found env time t (and_then (in_state (value env time a) old) (value env time b)) (on_two (binary_value op)) old first second between after
    (ap (λ (x : Term). in_state (value env time x) old) is ∙ binary_node env time op a b old) one two

condition_node : (env : TreeEnv) (time : Time) (c a b : Term) (old : State)
    → in_state (value env time (terms.Cond c a b)) old
    ≡ and_then (in_state (value env time c) old) (on_one (condition_value (value env time a) (value env time b)))
unfolding value
condition_node env time c a b None = refl
condition_node env time c a b (Some known) = refl

pub condition_found : (env : TreeEnv) (time : Time) (t c a b : Term) (old between after : State) (first second : Bool) → t ≡ terms.Cond c a b
    → Finds first between (in_state (value env time c) old)
    → Finds second after (in_state (on_one (condition_value (value env time a) (value env time b))) between)
    → Finds (first && second) after (in_state (value env time t) old)
condition_found env time t c a b old between after first second is one two =
    root_found env time t (in_state (value env time c) old) (on_one (condition_value (value env time a) (value env time b))) old first second between after
    (ap (λ (x : Term). in_state (value env time x) old) is ∙ condition_node env time c a b old) one two
