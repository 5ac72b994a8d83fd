-- What is assumed along the ways on from a branch, of a state that may be reached or not.
use Rattle.std.proofs.Common.{◌≡◌, ◌==◌, ◌≤◌, ◌<◌, ℕ, pos, Bool, true, false, not, nat_lt, Option, Some, None, List, length, refl, sym, ap, ◌∙◌, arith, slice_get}
use Rattle.std.specs.Prelude.{if◌then◌else◌, reverse}
use Rattle.std.specs.Option.{option_and_then}
use Rattle.cil_model.specs.declared.instruction.CmpOp.{CmpOp}
use Rattle.cil_model.specs.declared.instruction.CmpOp.TheVariants as comparisons
use Rattle.cil_model.specs.declared.instruction.Op.{Op}
use Rattle.cil_model.specs.declared.instruction.Op.TheVariants as ops
use Rattle.cil_model.specs.declared.instruction.Test.{Test}
use Rattle.cil_model.specs.declared.instruction.Test.TheVariants as tests
use Rattle.clause_trees.specs.TreeValues.{true_known}
use Rattle.domain_api.specs.declared.expr.Expr.{Expr}
use Rattle.frame_names.specs.declared.var.Var.{Var}
use Rattle.frame_names.specs.declared.var.Var.TheVariants as vars
use Rattle.number_spans.specs.Constants.{constant}
use Rattle.obligation_prover.specs.Operations.{from_top}
use Rattle.state_facts.specs.StateFacts.{StateFacts, State, variables_in}
use Rattle.state_facts.specs.States as states
use Rattle.transfer_rules.specs.Choices.{chosen, compared, switched, tested, with_case, with_compared, with_truth}
use Rattle.transfer_rules.specs.Operands.{with_one}

-- ---- sides

pub truth_is : (holds : Bool) (v : Var) (state : State) → Some v ≡ slice_get (reverse (variables_in state)) 0
    → option_and_then (true_known holds v) state ≡ option_and_then (with_truth holds) state
truth_is holds v None is = refl
truth_is holds v (Some known) is = ap (λ (o : Option Var). with_one (true_known holds) o known) is

pub truth_none : (holds : Bool) (state : State) → None ≡ slice_get (reverse (variables_in state)) 0 → None ≡ option_and_then (with_truth holds) state
truth_none holds None is = refl
truth_none holds (Some known) is = ap (λ (o : Option Var). with_one (true_known holds) o known) is

pub compared_is : (op : CmpOp) (holds : Bool) (v w : Var) (state : State) → Some v ≡ slice_get (reverse (variables_in state)) 1
    → Some w ≡ slice_get (reverse (variables_in state)) 0 → states.assume op v w holds state ≡ option_and_then (with_compared op holds) state
compared_is op holds v w None first second = refl
compared_is op holds v w (Some known) first second =
    ap (λ (o : Option Var). compared op holds o (Some w) known) first ∙ ap (λ (o : Option Var). compared op holds (from_top 1 known) o known) second

lacks_first : (op : CmpOp) (holds : Bool) (w : Option Var) (known : StateFacts) → None ≡ compared op holds None w known
lacks_first op holds w known = refl

lacks_second : (op : CmpOp) (holds : Bool) (v : Option Var) (known : StateFacts) → None ≡ compared op holds v None known
lacks_second op holds None known = refl
lacks_second op holds (Some v) known = refl

pub first_lacking : (op : CmpOp) (holds : Bool) (state : State) → None ≡ slice_get (reverse (variables_in state)) 1
    → None ≡ option_and_then (with_compared op holds) state
first_lacking op holds None is = refl
first_lacking op holds (Some known) is = lacks_first op holds (from_top 0 known) known ∙ ap (λ (o : Option Var). compared op holds o (from_top 0 known) known) is

pub second_lacking : (op : CmpOp) (holds : Bool) (state : State) → None ≡ slice_get (reverse (variables_in state)) 0
    → None ≡ option_and_then (with_compared op holds) state
second_lacking op holds None is = refl
second_lacking op holds (Some known) is = lacks_second op holds (from_top 1 known) known ∙ ap (λ (o : Option Var). compared op holds (from_top 1 known) o known) is

pub always_chosen : (test : Test) (holds : Bool) (state : State) → test ≡ tests.Always → state ≡ option_and_then (tested test holds) state
unfolding tested
always_chosen test holds None is = refl
always_chosen test holds (Some known) is = rw is refl

pub true_chosen : (test : Test) (holds : Bool) (state : State) → test ≡ tests.True → option_and_then (with_truth holds) state ≡ option_and_then (tested test holds) state
unfolding tested
true_chosen test holds None is = refl
true_chosen test holds (Some known) is = rw is refl

pub false_chosen : (test : Test) (holds : Bool) (state : State) → test ≡ tests.False
    → option_and_then (with_truth (not holds)) state ≡ option_and_then (tested test holds) state
unfolding tested
false_chosen test holds None is = refl
false_chosen test holds (Some known) is = rw is refl

pub compared_chosen : (test : Test) (op : CmpOp) (holds : Bool) (state : State) → test ≡ tests.Cmp op
    → option_and_then (with_compared op holds) state ≡ option_and_then (tested test holds) state
unfolding tested
compared_chosen test op holds None is = refl
compared_chosen test op holds (Some known) is = rw is refl

-- ---- cases

by_case : (count way : ℕ) (e : Expr) (known : StateFacts) (is : Bool) → nat_lt way count ≡ is
    → (if is then states.assume comparisons.Eq (vars.Number e) (vars.Number (constant (pos way))) true (Some known)
    else states.assume comparisons.LtUn (vars.Number e) (vars.Number (constant (pos count))) false (Some known)) ≡ with_case count way (vars.Number e) known
by_case count way e known is same =
    ap (λ (b : Bool). if b then states.assume comparisons.Eq (vars.Number e) (vars.Number (constant (pos way))) true (Some known)
    else states.assume comparisons.LtUn (vars.Number e) (vars.Number (constant (pos count))) false (Some known)) (sym same)

pub case_is : (count way : ℕ) (e : Expr) (state : State) → way < count → Some (vars.Number e) ≡ slice_get (reverse (variables_in state)) 0
    → states.assume comparisons.Eq (vars.Number e) (vars.Number (constant (pos way))) true state ≡ option_and_then (switched count way) state
unfolding switched
case_is count way e None within is = refl
case_is count way e (Some known) within is =
    by_case count way e known true (grind (arith, within)) ∙ ap (λ (o : Option Var). with_one (with_case count way) o known) is

pub end_is : (count way : ℕ) (e : Expr) (state : State) → count ≤ way → Some (vars.Number e) ≡ slice_get (reverse (variables_in state)) 0
    → states.assume comparisons.LtUn (vars.Number e) (vars.Number (constant (pos count))) false state ≡ option_and_then (switched count way) state
unfolding switched
end_is count way e None past is = refl
end_is count way e (Some known) past is =
    by_case count way e known false (grind (arith, past)) ∙ ap (λ (o : Option Var). with_one (with_case count way) o known) is

no_number : (count way : ℕ) (o : Option Var) (known : StateFacts) → ((e : Expr) → o ≡ Some (vars.Number e) → ⊥) → None ≡ with_one (with_case count way) o known
no_number count way None known not = refl
no_number count way (Some (vars.Number e)) known not = absurd (not e refl)
no_number count way (Some _) known not = refl

pub no_case : (count way : ℕ) (o : Option Var) (state : State) → o ≡ slice_get (reverse (variables_in state)) 0 → ((e : Expr) → o ≡ Some (vars.Number e) → ⊥)
    → None ≡ option_and_then (switched count way) state
unfolding switched
no_case count way o None is not = refl
no_case count way o (Some known) is not = no_number count way o known not ∙ ap (λ (v : Option Var). with_one (with_case count way) v known) is

-- ---- operations

pub branch_chosen : (op : Op) (test : Test) (target way : ℕ) (state : State) → op ≡ ops.Branch test target
    → option_and_then (tested test (way == 0)) state ≡ option_and_then (chosen op way) state
unfolding chosen
branch_chosen op test target way None is = refl
branch_chosen op test target way (Some known) is = rw is refl

pub switch_chosen : (op : Op) (targets : List ℕ) (way : ℕ) (state : State) → op ≡ ops.Switch targets
    → option_and_then (switched (length targets) way) state ≡ option_and_then (chosen op way) state
unfolding chosen
switch_chosen op targets way None is = refl
switch_chosen op targets way (Some known) is = rw is refl

pub other_chosen : (op : Op) (way : ℕ) (state : State) → ((known : StateFacts) → chosen op way known ≡ Some known)
    → state ≡ option_and_then (chosen op way) state
other_chosen op way None same = refl
other_chosen op way (Some known) same = sym (same known)

pub ruleset ways = (truth_is, truth_none, compared_is, first_lacking, second_lacking, always_chosen, true_chosen, false_chosen, compared_chosen, case_is, end_is, no_case, branch_chosen, switch_chosen, other_chosen)
