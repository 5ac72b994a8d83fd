-- What operations name is there.
use Rattle.std.proofs.Common.{◌≡◌, Bool, true, false, List, [], ◌∷◌, Some, subst}
use Rattle.std.specs.Option.{ForSome}
use Rattle.std.specs.Prelude.{IfSome, if◌then◌else◌}
use Rattle.cil_model.specs.declared.machine.FaultKind.{FaultKind}
use Rattle.domain_api.specs.declared.expr.Expr.{Expr}
use Rattle.clause_trees.proofs.Operands.{element_there, length_there, operator_there}
use Rattle.state_facts.specs.Forms.{HasNumber}
use Rattle.state_facts.specs.StateFacts.{State}
use Rattle.state_obligations.specs.Conditions.{AreThere, IsThere, conditions_of, is_of, with_fault}
use Rattle.state_obligations.specs.declared.condition.Condition.{Condition}
use Rattle.state_obligations.specs.declared.condition.Operation.{Operation}
use Rattle.state_obligations.specs.declared.condition.Operation.TheVariants as operations

pub array_there : (state : State) (n : Expr) → ForSome state (λ known. HasNumber known n)
    → ForSome state (λ known. AreThere known (conditions_of (operations.NewArray n)))
array_there state n there = λ known at. (there known at, tt)

pub asserted_there : (state : State) (e : Expr) → ForSome state (λ known. HasNumber known e)
    → ForSome state (λ known. AreThere known (conditions_of (operations.Assert e)))
asserted_there state e there = λ known at. (there known at, tt)

pub ruleset operations_there = (length_there, element_there, operator_there, array_there, asserted_there)

-- The condition of a fault is one of the operation's.
one_there : (state : State) (fault : FaultKind) (cs : List Condition) → ForSome state (λ known. AreThere known cs)
    → IfSome (with_fault fault cs) (λ it. ForSome state (λ known. IsThere known it))
one_there state fault [] all = tt
one_there state fault (c ∷ cs) all =
    either (is_of fault c) (one_there state fault cs (λ known at. (all known at).1))
  where
    either : (is : Bool) → IfSome (with_fault fault cs) (λ it. ForSome state (λ known. IsThere known it))
        → IfSome (if is then Some c else with_fault fault cs) (λ it. ForSome state (λ known. IsThere known it))
    either true others = λ known at. (all known at).0
    either false others = others

pub found_there : (state : State) (fault : FaultKind) (operation : Operation) (it : Condition)
    → ForSome state (λ known. AreThere known (conditions_of operation))
    → with_fault fault (conditions_of operation) ≡ Some it → ForSome state (λ known. IsThere known it)
found_there state fault operation it all is =
    subst (λ found. IfSome found (λ c. ForSome state (λ known. IsThere known c))) is
    (one_there state fault (conditions_of operation) all)
