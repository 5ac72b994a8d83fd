-- What it means that trees are shown and assumed.
use Rattle.std.specs.Prelude.{◌≡◌, ℕ, ◌+◌, ℤ, pos, Bool, true, false, List, [], ◌∷◌, ◌++◌, slice_get, Option, Some, None, IsSome}
use Rattle.std.specs.List.{AllByRecursion}
use Rattle.std.specs.Option.{ForSome, option_and_then}
use Rattle.cil_model.specs.Clauses.{Reading, at_entry, is_number_true, value_of}
use Rattle.cil_model.specs.Comparisons.{is_true}
use Rattle.cil_model.specs.Kinds.{is_tested}
use Rattle.cil_model.specs.TermCodes.{preorder}
use Rattle.cil_model.specs.Terms.{Term}
use Rattle.cil_model.specs.TreeKinds.{kind_in}
use Rattle.cil_model.specs.Values.{FitPlaces, FitsPlace, Heap, IsHeap, IsValue, KeepsForms}
use Rattle.cil_model.specs.WellFormed.{IsIntRoot}
use Rattle.cil_model.specs.declared.machine.Value.{Value}
use Rattle.cil_model.specs.declared.machine.Value.TheVariants as values
use Rattle.cil_model.specs.declared.place.Kind.{Kind}
use Rattle.cil_model.specs.declared.place.Kind.TheVariants as kinds
use Rattle.cil_model.specs.declared.place.Place.{Place}
use Rattle.merged_states.specs.Following.{HoldsOver}
use Rattle.state_facts.specs.Holds.{HoldsBy}
use Rattle.state_facts.specs.Keeps.{HoldsOn}
use Rattle.state_facts.specs.StateFacts.{StateFacts, State}
use Rattle.clause_trees.specs.ClauseStates.{assumed, shown}
use Rattle.clause_trees.specs.TreeValues.{value}
use Rattle.clause_trees.specs.VariableKinds.{HasSameFormsIn, IsPushedIn, IsReadable}
use Rattle.clause_trees.specs.declared.reader.Time.{Time}
use Rattle.clause_trees.specs.declared.reader.Time.TheVariants.{Now, Entry}
use Rattle.clause_trees.specs.declared.reader.TreeEnv.{TreeEnv}

-- ---- readings

-- The result is what a variable has, or there is none.
abbrev pub ReadsResult : List Value → Option ℕ → Option Value → Type 0
ReadsResult vs None None = Unit {0}
ReadsResult vs (Some i) (Some v) = slice_get vs i ≡ Some v
ReadsResult vs _ _ = ⊥

-- Of a method of these arguments and this result: trees read values where the environment says. The arguments are
-- values of the heap at entry, of which each array kept its type and its length.
pub record Reads (env : TreeEnv) (args : List Place) (result : Place) (vs : List Value) (heap : Heap) (r : Reading)
    : Type 0 where
  pub heap_is : r.heap ≡ heap
  pub args_are : (n : ℕ) (v : Value) → slice_get r.args n ≡ Some v → slice_get vs (env.args + n) ≡ Some v
  pub result_is : ReadsResult vs env.result r.result
  pub fit : FitPlaces r.entry_heap args r.args
  pub result_fits : (v : Value) → r.result ≡ Some v → FitsPlace heap result v
  pub is_heap : IsHeap heap
  pub is_entry : IsHeap r.entry_heap
  pub kept : KeepsForms r.entry_heap heap
  pub are_values : AllByRecursion (IsValue heap) vs

abbrev pub reading_at : Time → Reading → Reading
reading_at Now r = r
reading_at Entry r = at_entry r

abbrev pub is_now : Time → Bool
is_now Now = true
is_now Entry = false

-- The constants of a tree are int32.
abbrev pub HasIntsIn : Term → Type 0
HasIntsIn t = AllByRecursion IsIntRoot (preorder t)

-- A tree of a clause of a method of these arguments and this result has this kind, and its constants are int32. Inside
-- an old value there is no other one, and no result.
pub record IsTyped (args : List Place) (result : Place) (time : Time) (t : Term) (kind : Kind) : Type 0 where
  pub kind_is : kind_in args result (is_now time) t ≡ Some kind
  pub ints : HasIntsIn t

-- ---- values

-- Behind a tree what was known has its form, and what was there is there still, with one variable of the tree's kind on
-- top.
abbrev pub PushesOne : TreeEnv → Time → Term → StateFacts → Type 0
PushesOne env time t known =
    (args : List Place) (result : Place) (kind : Kind)
    → IsReadable env args result known → IsTyped args result time t kind
    → IsPushedIn known kind (value env time t known).state

-- Obligations that are assumed are harmless: where a tree has a value, the state behind it holds with that value on
-- top, by a choice that is as before for each symbol and reference that was there.
abbrev pub KeepsValue : TreeEnv → Time → Term → StateFacts → Type 0
KeepsValue env time t known =
    (args : List Place) (result : Place) (kind : Kind) (vs : List Value) (heap : Heap) (number : ℕ → ℤ)
    (array : ℕ → Option ℕ) (r : Reading) (is : Value)
    → IsReadable env args result known → IsTyped args result time t kind → Reads env args result vs heap r
    → HoldsBy known vs heap number array → value_of t (reading_at time r) ≡ Some is
    → HoldsOn (Some known) (value env time t known).state (vs ++ is ∷ []) heap number array

-- Obligations that are entailed cannot fault: where all are, a tree has a value.
abbrev pub HasValueWhereEntailed : TreeEnv → Time → Term → StateFacts → Type 0
HasValueWhereEntailed env time t known =
    (args : List Place) (result : Place) (kind : Kind) (vs : List Value) (heap : Heap) (number : ℕ → ℤ)
    (array : ℕ → Option ℕ) (r : Reading)
    → IsReadable env args result known → IsTyped args result time t kind → Reads env args result vs heap r
    → HoldsBy known vs heap number array → (value env time t known).entailed ≡ true
    → IsSome (value_of t (reading_at time r))

-- ---- clauses

-- A tree is true, or false: its value is a number other than 0, or 0.
abbrev pub IsSo : Bool → Term → Reading → Type 0
IsSo true t r = is_number_true (value_of t r) ≡ true
IsSo false t r = value_of t r ≡ Some (values.Int (pos 0))

-- What is shown is so.
abbrev pub ShowsIt : TreeEnv → Bool → Term → State → Type 0
ShowsIt env holds t state =
    (args : List Place) (result : Place) (vs : List Value) (heap : Heap) (r : Reading)
    → ForSome state (IsReadable env args result) → IsTyped args result Now t kinds.Int
    → Reads env args result vs heap r → HoldsOver state vs heap → shown env holds t state ≡ true → IsSo holds t r

-- The tree is so, wherever the state holds of what is read.
abbrev pub IsSoWherever : TreeEnv → Bool → Term → State → Type 0
IsSoWherever env holds t state =
    (args : List Place) (result : Place) (vs : List Value) (heap : Heap) (r : Reading)
    → ForSome state (IsReadable env args result) → IsTyped args result Now t kinds.Int
    → Reads env args result vs heap r → HoldsOver state vs heap → IsSo holds t r

-- A value of the kind may be tested.
pub record IsTest (args : List Place) (result : Place) (t : Term) : Type 0 where
  pub kind : Kind
  pub typed : IsTyped args result Now t kind
  pub tested : is_tested kind ≡ true

-- The tree may be a test in this state: the variables that the environment names are there, and of the kinds of some
-- method's arguments and result, and over these the tree has a kind that may be tested.
pub record CanTest (env : TreeEnv) (t : Term) (state : State) : Type 0 where
  pub args : List Place
  pub result : Place
  pub readable : ForSome state (IsReadable env args result)
  pub test : IsTest args result t

-- Where a tree's value is true or false, and the state before holds, the state after holds of the same values, by some
-- choice. The value may be a reference, as that of a test is.
abbrev pub KeepsWhereSo : TreeEnv → Bool → Term → State → State → Type 0
KeepsWhereSo env holds t before after =
    (args : List Place) (result : Place) (vs : List Value) (heap : Heap) (r : Reading)
    → ForSome before (IsReadable env args result) → IsTest args result t
    → Reads env args result vs heap r → HoldsOver before vs heap
    → option_and_then is_true (value_of t r) ≡ Some holds → HoldsOver after vs heap

-- So does the state in which it is assumed.
abbrev pub KeepsAssumedTree : TreeEnv → Bool → Term → State → Type 0
KeepsAssumedTree env holds t state = KeepsWhereSo env holds t state (assumed env holds t state)

-- Where a tree is assumed, what is known has its form, and as many variables of the same forms.
abbrev pub KeepsFormsOfVariables : TreeEnv → Bool → Term → StateFacts → Type 0
KeepsFormsOfVariables env holds t known =
    (args : List Place) (result : Place) → IsReadable env args result known → IsTest args result t
    → HasSameFormsIn known (assumed env holds t (Some known))
