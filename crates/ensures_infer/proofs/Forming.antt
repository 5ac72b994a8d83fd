-- A well formed unit to which clauses are added that may be is well formed again.
use Rattle.std.proofs.Common.{◌≡◌, ℕ, List, [], ◌∷◌, ◌++◌, length, refl, sym, ap, subst, ◌∙◌, append_assoc, suc}
use Rattle.std.specs.Prelude.{filter_map}
use Rattle.std.specs.List.{AllByRecursion}
use Rattle.cil_model.specs.Passes.{KindsOf, Stacks}
use Rattle.cil_model.specs.Shapes.{shape_of}
use Rattle.cil_model.specs.TreeKinds.{IsNumberClause}
use Rattle.cil_model.specs.WellFormed.{HasInts, InOrderOfUse, IsAdded, IsCallee, IsWellFormed, called_by}
use Rattle.cil_model.specs.declared.clause.Clause.{Clause}
use Rattle.cil_model.specs.declared.unit.CalleeInfo.{CalleeInfo}
use Rattle.cil_model.specs.declared.unit.Unit.{Unit as MethodUnit}
use Rattle.cil_model.proofs.Lists.{all_append}
use Rattle.ensures_infer.specs.Strengthening.{CanBeAdded, CanBeAddedTo, CanBeAddedToEach}
use Rattle.safe_worlds.specs.Strengthened.{strengthened, with_clauses, with_each}
use Rattle.ensures_infer.proofs.SameTyping.{kinds_again}

added_ints : (added : List Clause) → AllByRecursion IsAdded added → AllByRecursion HasInts added
added_ints [] all = tt
added_ints (clause ∷ added) all = (all.0.1, added_ints added all.1)

callee_again : (callee : CalleeInfo) (added : List Clause) → IsCallee callee → CanBeAddedTo callee added
    → IsCallee (with_clauses callee added)
callee_again callee added is can = record {
  args = is.args;
  few_args = is.few_args;
  name = is.name;
  clauses = can.limits;
  ints = all_append HasInts callee.clauses added is.ints (added_ints added can.ensures);
  numbers = all_append (IsNumberClause callee.args callee.result) callee.clauses added is.numbers can.numbers;
}

callees_again : (callees : List CalleeInfo) (added : List (List Clause)) → AllByRecursion IsCallee callees
    → CanBeAddedToEach callees added → AllByRecursion IsCallee (with_each callees added)
callees_again [] [] all can = tt
callees_again [] (clauses ∷ added) all can = tt
callees_again (callee ∷ callees) [] all can = absurd can
callees_again (callee ∷ callees) (clauses ∷ added) all can =
    (callee_again callee clauses all.0 can.0, callees_again callees added all.1 can.1)

as_many : (callees : List CalleeInfo) (added : List (List Clause))
    → length (with_each callees added) ≡ length callees
as_many [] added = refl
as_many (callee ∷ callees) [] = refl
as_many (callee ∷ callees) (clauses ∷ added) = ap (λ (n : ℕ). suc n) (as_many callees added)

pub formed_again : (unit : MethodUnit) (own : List Clause) (added : List (List Clause)) → IsWellFormed unit
    → CanBeAdded unit.args unit.result unit.clauses own → CanBeAddedToEach unit.callees added
    → IsWellFormed (strengthened unit own added)
formed_again unit own added formed can each = record {
  name = formed.name;
  code = formed.code;
  body = formed.body;
  args = formed.args;
  locals = formed.locals;
  named = formed.named;
  clauses = record {
    written = formed.clauses.written;
    added = formed.clauses.added ++ own;
    all = ap (λ (clauses : List Clause). clauses ++ own) formed.clauses.all
        ∙ append_assoc formed.clauses.written formed.clauses.added own;
    told = formed.clauses.told;
    ensures = all_append IsAdded formed.clauses.added own formed.clauses.ensures can.ensures;
  };
  order = subst (λ (n : ℕ). InOrderOfUse 0 n (filter_map (λ i. called_by i.op) unit.instrs))
      (sym (as_many unit.callees added)) formed.order;
  callees = callees_again unit.callees added formed.callees each;
  numbers = all_append (IsNumberClause unit.args unit.result) unit.clauses own formed.numbers can.numbers;
  runs = record {
    stacks = formed.runs.stacks;
    kinds = kinds_again (shape_of unit) added unit.instrs formed.runs.stacks formed.runs.kinds;
    body = formed.runs.body;
  };
  limits = record {
    code = formed.limits.code;
    instructions = formed.limits.instructions;
    blocks = formed.limits.blocks;
    variables = formed.limits.variables;
    clauses = can.limits;
  };
}
