-- What trees push: one variable more, of the tree's kind, and what was there is there still.
use Rattle.std.proofs.Common.{◌≡◌, ℕ, ℤ, [], ◌∷◌, ◌++◌, reverse, slice_get, Option, Some, None, FitsSigned, w32, refl, ap, subst, sym, ◌∙◌, arith}
use Rattle.std.proofs.lemmas.Int.{ints}
use Rattle.cil_model.specs.Comparisons.{comparison_of}
use Rattle.cil_model.specs.Kinds.{kind_of}
use Rattle.cil_model.specs.declared.instruction.BinOp.{BinOp}
use Rattle.cil_model.specs.declared.instruction.BinOp.TheVariants as operators
use Rattle.cil_model.specs.declared.instruction.CmpOp.{CmpOp}
use Rattle.cil_model.specs.declared.instruction.UnOp.{UnOp}
use Rattle.cil_model.specs.declared.instruction.UnOp.TheVariants as unary
use Rattle.cil_model.specs.declared.place.Kind.{Kind}
use Rattle.cil_model.specs.declared.place.Kind.TheVariants as kinds
use Rattle.cil_model.specs.declared.place.Place.{Place}
use Rattle.cil_model.specs.declared.place.Place.TheVariants as places
use Rattle.domain_api.specs.declared.expr.Expr.{Expr}
use Rattle.frame_names.specs.declared.var.Var.{Var}
use Rattle.frame_names.specs.declared.var.Var.TheVariants as vars
use Rattle.number_spans.specs.Constants.{constant}
use Rattle.state_facts.specs.Forms.{HasForm, HasNumber, HasVar}
use Rattle.state_facts.specs.Moves.{item_place, popped}
use Rattle.state_facts.specs.StateFacts.{StateFacts, State, length_at}
use Rattle.state_facts.specs.States as rule
use Rattle.state_facts.proofs.AssumptionForms.{length_number}
use Rattle.state_obligations.specs.Conditions.{AreThere, conditions_of, operator_conditions}
use Rattle.state_obligations.specs.Following.{StaysThere, StaysThereIn}
use Rattle.state_obligations.specs.Judged.{judged}
use Rattle.state_obligations.specs.declared.condition.Operation.{Operation}
use Rattle.state_obligations.specs.declared.condition.Operation.TheVariants as operations
use Rattle.state_obligations.proofs.JudgedLaws.{judged_follow}
use Rattle.clause_trees.specs.TreeValues.{Step, arithmetic, binary_by, binary_value, element_value, from_top, in_state, length_value, minuend, on_one, on_two, owing, push_item, push_length, unary_value, with_one, with_two}
use Rattle.clause_trees.specs.VariableKinds.{IsOfKind, IsPushed, IsPushedIn}
use Rattle.clause_trees.specs.declared.reader.Time.{Time}
use Rattle.clause_trees.specs.declared.reader.Time.TheVariants.{Now, Entry}
use Rattle.clause_trees.proofs.PushedMoves.{item_pushed, numbers_compared_pushed, references_compared_pushed, result_pushed, unknown_pushed}
use Rattle.clause_trees.proofs.Stays.{IsBelow, grown_on, kind_there, popped_below, popped_kind, push_is_pushed, pushed_over, pushed_there, second_of, stays_grown, top_is, var_popped, var_there}

-- ---- operands

-- A step that takes the top.
pub one_pushed : (known : StateFacts) (first kind : Kind) (o : State) (step : Var → Step) → IsPushedIn known first o
    → ((v : Var) (below : StateFacts) → IsBelow known first v below → IsPushedIn below kind (step v below).state)
    → IsPushedIn known kind (in_state (on_one step) o).state
one_pushed known first kind None step is each = tt
one_pushed known first kind (Some after) step is each =
    let below = popped_below known after first is in
    subst (λ (o : Option Var). IsPushedIn known kind (with_one step o (popped after)).state)
    (sym (top_is known after first is))
    (pushed_over known (popped after) kind (step is.top (popped after)).state below.grown below.variables_are
    (each is.top (popped after) below))

-- Two variables on a state that is as large.
pub record AreBelow (before : StateFacts) (first second : Kind) (v w : Var) (below : StateFacts) : Type 0 where
  pub lower : IsBelow before first v below
  pub there : HasVar below w
  pub of_kind : IsOfKind below second w

below_pushed : (known between below : StateFacts) (first second : Kind) (w : Var) (is : IsPushed known first between)
    → IsBelow between second w below → IsPushed known first below
below_pushed known between below first second w is lies = record {
  grown = grown_on known between below is.grown lies.grown;
  top = is.top;
  variables_are = lies.variables_are ∙ is.variables_are;
  of_kind = kind_there between below first is.top lies.grown (pushed_there known between first is) is.of_kind;
}

pub record HasTwo (known : StateFacts) (first second : Kind) (v w : Var) (after : StateFacts) : Type 0 where
  pub lower_is : from_top 1 after ≡ Some v
  pub upper_is : from_top 0 after ≡ Some w
  pub below : AreBelow known first second v w (popped (popped after))

pub lower_pushed : (known between after : StateFacts) (first second : Kind) → IsPushed known first between
    → IsPushed between second after
    → IsPushed known first (popped after)
lower_pushed known between after first second is more =
    below_pushed known between (popped after) first second more.top is (popped_below between after second more)

pub lower_is_top : (known between after : StateFacts) (first second : Kind) (is : IsPushed known first between)
    (more : IsPushed between second after)
    → (lower_pushed known between after first second is more).top ≡ is.top
unfolding lower_pushed below_pushed
lower_is_top known between after first second is more = refl

pub has_two : (known between after : StateFacts) (first second : Kind) (is : IsPushed known first between)
    (more : IsPushed between second after)
    → HasTwo known first second is.top more.top after
unfolding below_pushed
has_two known between after first second is more =
    let lies = popped_below between after second more in
    let again = below_pushed known between (popped after) first second more.top is lies in
    record {
      lower_is = ap (λ l. slice_get (reverse l) 1) (more.variables_are ∙ ap (λ l. l ++ more.top ∷ []) is.variables_are)
          ∙ second_of known.variables is.top more.top;
      upper_is = top_is between after second more;
      below = record {
        lower = popped_below known (popped after) first again;
        there = var_popped (popped after) more.top lies.there;
        of_kind = popped_kind (popped after) second more.top lies.of_kind;
      };
    }

-- A step that takes the two uppermost.
pub two_pushed : (known : StateFacts) (first second kind : Kind) (o : State) (inside : Step) (step : Var → Var → Step)
    → IsPushedIn known first o → ((x : StateFacts) → IsPushed known first x → IsPushedIn x second (inside x).state)
    → ((v w : Var) (below : StateFacts) → AreBelow known first second v w below
    → IsPushedIn below kind (step v w below).state)
    → IsPushedIn known kind (in_state (on_two step) (in_state inside o).state).state
two_pushed known first second kind None inside step is more each = tt
two_pushed known first second kind (Some between) inside step is more each = by (inside between).state (more between is)
  where
    by : (o : State) → IsPushedIn between second o → IsPushedIn known kind (in_state (on_two step) o).state
    by None upper = tt
    by (Some after) upper =
        let two = has_two known between after first second is upper in
        let below = two.below in
        subst (λ (o : Option Var). IsPushedIn known kind
        (with_two step o (from_top 0 after) (popped (popped after))).state) (sym two.lower_is)
        (subst (λ (o : Option Var). IsPushedIn known kind (with_two step (Some is.top) o (popped (popped after))).state)
        (sym two.upper_is)
        (pushed_over known (popped (popped after)) kind (step is.top upper.top (popped (popped after))).state
        below.lower.grown
        below.lower.variables_are (each is.top upper.top (popped (popped after)) below)))

-- ---- what is owed

-- What is pushed behind conditions that are assumed.
pub owed_pushed : (known : StateFacts) (operation : Operation) (kind : Kind) (push : State → State) → HasForm known
    → AreThere known (conditions_of operation) → push None ≡ None
    → ((x : StateFacts) → StaysThere known x → IsPushedIn x kind (push (Some x)))
    → IsPushedIn known kind (owing operation push known).state
owed_pushed known operation kind push form there nothing each =
    by (judged (conditions_of operation) (Some known)).state (judged_follow (conditions_of operation) known form there)
  where
    by : (o : State) → StaysThereIn known o → IsPushedIn known kind (push o)
    by None stays = rw nothing tt
    by (Some x) stays = pushed_over known x kind (push (Some x)) (stays_grown known x stays) stays.variables
        (each x stays)

pub length_pushed : (known : StateFacts) (v : Var) → HasForm known → HasVar known v
    → IsPushedIn known kinds.Int (length_value v known).state
length_pushed known (vars.Reference r) form there =
    owed_pushed known (operations.Length r) kinds.Int (push_length r) form (there, tt) refl
    (λ x stays. push_is_pushed x kinds.Int (vars.Number (length_at x r)) stays.form
    (length_number x r stays.form (var_there known x (vars.Reference r) (stays_grown known x stays) there)) tt)
length_pushed known _ form there = tt

item_is_number : (place : Place) → kind_of (item_place place) ≡ Some kinds.Int
item_is_number places.Bools = refl
item_is_number places.Void = refl
item_is_number places.Bool = refl
item_is_number places.Int = refl
item_is_number places.Ints = refl

pushed_item : (time : Time) (place : Place) (r : ℕ) (i : Expr) (x : StateFacts) → HasForm x
    → IsPushedIn x kinds.Int (push_item time place r i (Some x))
pushed_item Now place r i x form = item_pushed r i x form
pushed_item Entry place r i x form = unknown_pushed (item_place place) kinds.Int x form (item_is_number place)

no_item : (time : Time) (place : Place) (r : ℕ) (i : Expr) → push_item time place r i None ≡ None
no_item Now place r i = refl
no_item Entry place r i = refl

pub element_pushed : (time : Time) (place : Place) (known : StateFacts) (v w : Var) → HasForm known → HasVar known v
    → HasVar known w
    → IsPushedIn known kinds.Int (element_value time place v w known).state
element_pushed time place known (vars.Reference r) (vars.Number i) form first second =
    owed_pushed known (operations.Element r i) kinds.Int (push_item time place r i) form
    (first, (second, ((first, second), tt)))
    (no_item time place r i) (λ x stays. pushed_item time place r i x stays.form)
element_pushed time place known _ _ form first second = tt

-- ---- operators

pub operands_there : (op : BinOp) (a b : Expr) (known : StateFacts) → HasNumber known a → HasNumber known b
    → AreThere known (operator_conditions op a b)
operands_there operators.Div a b known first second = (second, ((first, second), tt))
operands_there operators.Rem a b known first second = (second, ((first, second), tt))
operands_there operators.DivUn a b known first second = (second, tt)
operands_there operators.RemUn a b known first second = (second, tt)
operands_there operators.Shl a b known first second = (second, tt)
operands_there operators.Shr a b known first second = (second, tt)
operands_there operators.ShrUn a b known first second = (second, tt)
operands_there operators.AddOvf a b known first second = ((first, second), tt)
operands_there operators.MulOvf a b known first second = ((first, second), tt)
operands_there operators.SubOvf a b known first second = ((first, second), tt)
operands_there _ a b known first second = tt

arithmetic_pushed : (op : BinOp) (a b : Expr) (known : StateFacts) → HasForm known → HasNumber known a
    → HasNumber known b
    → IsPushedIn known kinds.Int (arithmetic op a b known).state
arithmetic_pushed op a b known form first second =
    owed_pushed known (operations.Binary op a b) kinds.Int (rule.arith op a b) form
    (operands_there op a b known first second) refl
    (λ x stays. let grown = stays_grown known x stays in
    result_pushed op a b x stays.form (var_there known x (vars.Number a) grown first)
    (var_there known x (vars.Number b) grown second))

pub binary_pushed : (op : BinOp) (known : StateFacts) (v w : Var) → HasForm known → HasVar known v → HasVar known w
    → IsPushedIn known kinds.Int (binary_value op v w known).state
binary_pushed op known v w form first second = by (comparison_of op) v w refl first second
  where
    by : (o : Option CmpOp) (v w : Var) → comparison_of op ≡ o → HasVar known v → HasVar known w
        → IsPushedIn known kinds.Int (binary_by op o v w known).state
    by None (vars.Number a) (vars.Number b) is one two = arithmetic_pushed op a b known form one two
    by (Some cmp) (vars.Number a) (vars.Number b) is one two = numbers_compared_pushed op a b cmp known form one two is
    by (Some cmp) (vars.Reference r) (vars.Reference q) is one two =
        references_compared_pushed op r q cmp known form one two is
    by _ _ _ is one two = tt

pub constant_there : (known : StateFacts) (n : ℤ) → FitsSigned w32 n → HasNumber known (constant n)
constant_there known n fits =
    record {
      there = omega arith;
      near = record
          { least = omega (arith, ints, fits); greatest = omega (arith, ints, fits) };
    }

pub minuend_fits : (op : UnOp) → FitsSigned w32 (minuend op)
minuend_fits unary.Neg = omega (arith, ints)
minuend_fits unary.Not = omega (arith, ints)

pub unary_pushed : (op : UnOp) (known : StateFacts) (v : Var) → HasForm known → HasVar known v
    → IsPushedIn known kinds.Int (unary_value op v known).state
unary_pushed op known (vars.Number e) form there =
    arithmetic_pushed operators.Sub (constant (minuend op)) e known form
    (constant_there known (minuend op) (minuend_fits op)) there
unary_pushed op known _ form there = tt
