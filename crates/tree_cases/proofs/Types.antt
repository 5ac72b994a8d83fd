-- Variables of types can be read, and the constants of trees are int32.
use Rattle.std.proofs.Common.{◌≡◌, true, nat_eq, ℕ, zero, suc, ◌+◌, List, [], ◌∷◌, ◌++◌, Option, Some, None, Result, Ok, Err, slice_get, sym, subst, arith}
use Rattle.std.proofs.lemmas.Bool.{eqb-true}
use Rattle.std.proofs.lemmas.Option.{none-some}
use Rattle.std.specs.List.{AllByRecursion}
use Rattle.std.specs.Option.{ForSome, option_and_then, option_map}
use Rattle.std.specs.Prelude.{OnOk}
use Rattle.cil_model.specs.Kinds.{kind_of}
use Rattle.cil_model.specs.TermCodes.{Root, preorder}
use Rattle.cil_model.specs.Terms.{Term}
use Rattle.cil_model.specs.WellFormed.{IsIntRoot}
use Rattle.cil_model.specs.declared.place.Kind.{Kind}
use Rattle.cil_model.specs.declared.place.Place.{Place}
use Rattle.clause_trees.specs.Meaning.{CanTest, HasIntsIn, IsTest}
use Rattle.clause_trees.specs.VariableKinds.{IsOfPlace, IsOneOfKind, IsReadable, place_in}
use Rattle.clause_trees.specs.declared.reader.TreeEnv.{TreeEnv}
use Rattle.frame_names.specs.declared.reference.Reference.{Reference}
use Rattle.state_facts.specs.Forms.{HasForm}
use Rattle.state_facts.specs.Moves.{place_at, place_of}
use Rattle.state_facts.specs.StateFacts.{StateFacts, State, reference_at, variables_in}
use Rattle.tree_cases.specs.Types.{AreOfTypes, IsOfKindOf, IsOfType, IsResultOf}

-- ---- one variable

reference_of : (place : Place) (found : Option Reference) → place_of found ≡ place
    → IsOfPlace place (option_map (λ reference. reference.place) found)
reference_of place None is = tt
reference_of place (Some reference) is = is

pub array_of : (state : State) (r : ℕ) (place : Place) → ForSome state (λ known. place_at known r ≡ place)
    → ForSome state (λ known. IsOfPlace place (place_in known r))
array_of state r place is = λ known at. reference_of place (reference_at known.references r) (is known at)

pub null_of : (state : State) (r : ℕ) (place : Place) → nat_eq r 0 ≡ true
    → ForSome state (λ known. IsOfPlace place (place_in known r))
unfolding reference_at
null_of state r place is =
    let none : r ≡ 0 = eqb-true r 0 is in
    λ known at. subst (λ q. IsOfPlace place (place_in known q)) (sym none) tt

pub ruleset arrays = (array_of)

-- What the variable of a list index has is said of the state, and of what is known in it.
pub at_variable : (state : State) (i : ℕ) (place : Place)
    → ForSome state (λ known. IsOfType known place (slice_get (variables_in state) i))
    → ForSome state (λ known. IsOfType known place (slice_get known.variables i))
at_variable state i place is =
    λ known at. subst (λ s. IsOfType known place (slice_get (variables_in s) i)) at (is known at)

pub ruleset variables = (at_variable)

-- ---- the variables of a method

one_fits : (known : StateFacts) (i : ℕ) (places : List Place) (n : ℕ) (kind : Kind) → AreOfTypes known i places
    → option_and_then kind_of (slice_get places n) ≡ Some kind
    → IsOneOfKind known kind (slice_get known.variables (i + n))
one_fits known i [] zero kind all is = absurd (none-some kind is)
one_fits known i [] (suc n) kind all is = absurd (none-some kind is)
one_fits known i (place ∷ others) zero kind all is =
    let same : i ≡ i + zero = omega (arith) in
    subst (λ j. IsOneOfKind known kind (slice_get known.variables j)) same
    (subst (λ found. IsOfKindOf known found (slice_get known.variables i)) is all.0)
one_fits known i (place ∷ others) (suc n) kind all is =
    let same : suc i + n ≡ i + suc n = omega (arith) in
    subst (λ j. IsOneOfKind known kind (slice_get known.variables j)) same
    (one_fits known (suc i) others n kind all.1 is)

result_fits : (known : StateFacts) (at : Option ℕ) (place : Place) (i : ℕ) (kind : Kind) → IsResultOf known at place
    → at ≡ Some i → kind_of place ≡ Some kind → IsOneOfKind known kind (slice_get known.variables i)
result_fits known at place i kind fits is has =
    subst (λ found. IsOfKindOf known found (slice_get known.variables i)) has
    (subst (λ j. IsResultOf known j place) is fits)

pub can_be_read : (state : State) (env : TreeEnv) (args : List Place) (result : Place) → ForSome state HasForm
    → ForSome state (λ known. AreOfTypes known env.args args)
    → ForSome state (λ known. IsResultOf known env.result result)
    → ForSome state (IsReadable env args result)
can_be_read state env args result form all of = λ known at. record {
  form = form known at;
  args_fit = λ n kind is. one_fits known env.args args n kind (all known at) is;
  result_fits = λ i kind is has. result_fits known env.result result i kind (of known at) is has;
}

-- ---- trees

both : (xs ys : List Root) → AllByRecursion IsIntRoot xs → AllByRecursion IsIntRoot ys
    → AllByRecursion IsIntRoot (xs ++ ys)
both [] ys first second = second
both (x ∷ xs) ys first second = (first.0, both xs ys first.1 second)

pub two_trees : (a b : Term) → HasIntsIn a → HasIntsIn b → AllByRecursion IsIntRoot (preorder a ++ preorder b)
two_trees a b first second = both (preorder a) (preorder b) first second

pub three_trees : (c a b : Term) → HasIntsIn c → HasIntsIn a → HasIntsIn b
    → AllByRecursion IsIntRoot (preorder c ++ (preorder a ++ preorder b))
three_trees c a b first second third = both (preorder c) (preorder a ++ preorder b) first (two_trees a b second third)

pub ruleset both_ints = (two_trees, three_trees)

-- ---- tests

-- Where the variables can be read, a tree that may be a test over their types may be one in the state.
pub may_test : {X E : Type 0} (r : Result X E) (state : State) (env : TreeEnv) (args : List Place) (result : Place) (t : Term)
    → ForSome state (IsReadable env args result) → OnOk r (IsTest args result t) → OnOk r (CanTest env t state)
may_test (Ok x) state env args result t readable test = record { args = args; result = result; readable = readable; test = test }
may_test (Err e) state env args result t readable test = tt
