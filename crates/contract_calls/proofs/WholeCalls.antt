-- What is so of a whole call.
use Rattle.std.proofs.Common.{◌≡◌, ◌-◌, List, length, take, Some, None, refl, ap, subst, sym, ◌∙◌}
use Rattle.std.specs.Option.{ForSome, option_map}
use Rattle.cil_model.specs.Calls.{args_of}
use Rattle.cil_model.specs.Clauses.{clauses_of, false_requires}
use Rattle.cil_model.specs.WellFormed.{IsCallee}
use Rattle.cil_model.specs.declared.clause.ClauseKind.TheVariants as clause_kinds
use Rattle.cil_model.specs.declared.machine.Value.{Value}
use Rattle.cil_model.specs.declared.unit.CalleeInfo.{CalleeInfo}
use Rattle.clause_trees.proofs.SameForms.{all_on, same_forms_on}
use Rattle.clause_trees.specs.VariableKinds.{AreSameForms, HasSameForms, HasSameFormsIn}
use Rattle.machine_points.specs.declared.point.Point.{Point}
use Rattle.state_facts.specs.Forms.{HasForm}
use Rattle.state_facts.specs.Holds.{HoldsAt}
use Rattle.state_facts.specs.StateFacts.{StateFacts, State}
use Rattle.contract_calls.specs.Arguments.{first_of, put_args}
use Rattle.contract_calls.specs.CallForms.{CanCall, IsBehindCallIn}
use Rattle.contract_calls.specs.CallStates.{after_call, behind_args, called, less, required}
use Rattle.contract_calls.specs.Meaning.{AreRequired, KeepsCall}
use Rattle.contract_calls.proofs.Assuming.{none_each, of_kind}
use Rattle.contract_calls.proofs.AtCalls.{none_false, none_required, put_ready, ready_in, required_at_call, required_ready, required_same, same_long}
use Rattle.contract_calls.proofs.Behind.{call_kept}
use Rattle.contract_calls.proofs.BehindForms.{behind_forms, same_take}
use Rattle.contract_calls.proofs.MethodClauses.{callee_clauses}
use Rattle.contract_calls.proofs.PassedArguments.{args_keep, args_same}

call_form : (callee : CalleeInfo) (state : State) → CanCall callee state → ForSome state HasForm
call_form callee state ready = λ x is. (ready.readable x is).form

pub whole_kept : (callee : CalleeInfo) (state : State) → IsCallee callee → CanCall callee state
    → KeepsCall callee state (called callee state)
unfolding called
whole_kept callee state formed ready = λ i p args new result are none free holds.
    let put = put_args callee.args state in
    let may = put_ready callee state ready in
    call_kept callee (required callee put) formed (required_ready callee put formed may) i p args new result are free
    (required_at_call callee put formed may p args are none
    (args_keep callee.args state (call_form callee state ready) p args are holds))

-- Where each Requires is shown in turn once the arguments are put, none is false at a call of which the state holds.
pub none_is_false : (callee : CalleeInfo) (state : State) (p : Point) (args : List Value) → IsCallee callee
    → CanCall callee state
    → AreRequired callee (clauses_of clause_kinds.Requires callee.clauses) (put_args callee.args state)
    → args_of p.heap callee.args p.frame.stack ≡ Some args → HoldsAt state p
    → false_requires callee.clauses args p.heap ≡ None
none_is_false callee state p args formed ready shown are holds =
    none_false callee (clauses_of clause_kinds.Requires callee.clauses) 1 (put_args callee.args state) p args
    (put_ready callee state ready)
    (of_kind callee.args callee.result clause_kinds.Requires callee.clauses (callee_clauses callee formed)) shown are
    (args_keep callee.args state (call_form callee state ready) p args are holds)

-- ---- forms

behind_from : (callee : CalleeInfo) (known between : StateFacts) (o : State) → HasSameForms known between
    → IsBehindCallIn callee between o → IsBehindCallIn callee known o
behind_from callee known between None same is = tt
behind_from callee known between (Some after) same is =
    let count = length callee.args in
    let many = same_long known between known.variables between.variables same.variables in
    let prefix = subst (λ n. AreSameForms known between (take (length known.variables - count) known.variables)
    (take (n - count) between.variables)) (sym many)
    (same_take known between (length known.variables - count) known.variables between.variables same.variables) in
    record {
      form = is.form;
      below = is.below;
      result = is.result;
      variables_are = is.variables_are;
      same =
          all_on known between after (take (length known.variables - count) known.variables)
          (take (length between.variables - count) between.variables) is.below prefix is.same;
      of_kind = is.of_kind;
    }

none_behind : (callee : CalleeInfo) → after_call callee None ≡ None
unfolding after_call
none_behind callee =
    ap (option_map (less (first_of (length callee.args) None) (length callee.args)))
    (none_each (behind_args callee None) (clauses_of clause_kinds.Ensures callee.clauses))

behind_required : (callee : CalleeInfo) (known : StateFacts) (o : State) → IsCallee callee → CanCall callee o
    → HasSameFormsIn known o → IsBehindCallIn callee known (after_call callee o)
behind_required callee known None formed ready same = subst (IsBehindCallIn callee known) (sym (none_behind callee)) tt
behind_required callee known (Some x) formed ready same =
    behind_from callee known x (after_call callee (Some x)) same (behind_forms callee x formed ready)

behind_put : (callee : CalleeInfo) (known : StateFacts) (o : State) → IsCallee callee → CanCall callee o
    → HasSameFormsIn known o → IsBehindCallIn callee known (after_call callee (required callee o))
behind_put callee known None formed ready same =
    subst (IsBehindCallIn callee known) (sym (ap (after_call callee) (none_required callee) ∙ none_behind callee)) tt
behind_put callee known (Some x) formed ready same =
    behind_required callee known (required callee (Some x)) formed (required_ready callee (Some x) formed ready)
    (same_forms_on known x (required callee (Some x)) same (required_same callee x formed ready))

-- Behind a call the variables below the arguments have the forms that they had, and the result is of its kind.
pub whole_forms : (callee : CalleeInfo) (known : StateFacts) → IsCallee callee → CanCall callee (Some known)
    → IsBehindCallIn callee known (called callee (Some known))
unfolding called
whole_forms callee known formed ready =
    let same = args_same callee.args known (ready.readable known refl).form in
    behind_put callee known (put_args callee.args (Some known)) formed
    (ready_in callee known (put_args callee.args (Some known)) ready same) same
