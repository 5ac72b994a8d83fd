-- The forms of variables at calls and returns.
use Rattle.std.specs.Prelude.{◌≡◌, true, ◌*◌, ◌-◌, ◌≤◌, List, [], ◌∷◌, ◌++◌, length, take, Option, Some, None}
use Rattle.std.specs.List.{AllByRecursion}
use Rattle.std.specs.Option.{ForSome}
use Rattle.cil_model.specs.Kinds.{kind_of}
use Rattle.cil_model.specs.Limits.{MAX_VARIABLES}
use Rattle.cil_model.specs.TreeKinds.{kind_in}
use Rattle.cil_model.specs.WellFormed.{HasInts}
use Rattle.cil_model.specs.declared.clause.Clause.{Clause}
use Rattle.cil_model.specs.declared.place.Kind.{Kind}
use Rattle.cil_model.specs.declared.place.Kind.TheVariants as kinds
use Rattle.cil_model.specs.declared.place.Place.{Place}
use Rattle.cil_model.specs.declared.unit.CalleeInfo.{CalleeInfo}
use Rattle.cil_model.specs.declared.unit.Unit.{Unit as MethodUnit}
use Rattle.clause_trees.specs.VariableKinds.{AreSameForms, IsOfKind, IsReadable}
use Rattle.clause_trees.specs.declared.reader.TreeEnv.{TreeEnv}
use Rattle.frame_names.specs.declared.var.Var.{Var}
use Rattle.state_facts.specs.Forms.{HasForm}
use Rattle.state_facts.specs.StateFacts.{StateFacts, State, variables_in}
use Rattle.contract_calls.specs.CallStates.{at_call, at_return}

-- No more variables than a frame has: its arguments, which count twice, its locals and its stack.
abbrev pub HasFew : State → Type 0
HasFew state = length (variables_in state) ≤ 2 * MAX_VARIABLES

-- ---- what clauses read is there

-- The callee may be called in the state: its arguments lie on top of the stack, and are of the kinds of its parameters.
pub record CanCall (callee : CalleeInfo) (state : State) : Type 0 where
  pub few : HasFew state
  pub there : ForSome state (λ known. length callee.args ≤ length known.variables)
  pub readable : ForSome state (IsReadable (at_call (length callee.args) state) callee.args callee.result)

-- The unit may return in the state: its arguments at the entry are the first variables, and its result is on top.
pub record CanReturn (unit : MethodUnit) (state : State) : Type 0 where
  pub few : HasFew state
  pub readable : ForSome state (IsReadable (at_return unit.result state) unit.args unit.result)

-- The clause may be one of a method of these arguments and this result: its tree is a number with constants of int32.
pub record IsClauseOf (args : List Place) (result : Place) (clause : Clause) : Type 0 where
  pub number : kind_in args result true clause.tree ≡ Some kinds.Int
  pub ints : HasInts clause

-- Clauses may be assumed one after the other: they are those of some method, and the variables that the environment
-- names are there, and of the kinds of its arguments and its result.
pub record CanAssume (env : TreeEnv) (clauses : List Clause) (state : State) : Type 0 where
  pub args : List Place
  pub result : Place
  pub readable : ForSome state (IsReadable env args result)
  pub tests : AllByRecursion (IsClauseOf args result) clauses

-- ---- what becomes of the forms

-- Of a result of this kind: the one variable, of the kind, or no variable where there is none.
abbrev pub AreGiven : StateFacts → Option Kind → List Var → Type 0
AreGiven known None [] = Unit {0}
AreGiven known (Some kind) (v ∷ []) = IsOfKind known kind v
AreGiven known _ _ = ⊥

-- Behind a call the variables below its arguments have the forms that they had, and what it gives lies on them.
pub record IsBehindCall (callee : CalleeInfo) (before after : StateFacts) : Type 0 where
  pub form : HasForm after
  pub below : List Var
  pub result : List Var
  pub variables_are : after.variables ≡ below ++ result
  pub same : AreSameForms before after (take (length before.variables - length callee.args) before.variables) below
  pub of_kind : AreGiven after (kind_of callee.result) result

abbrev pub IsBehindCallIn : CalleeInfo → StateFacts → State → Type 0
IsBehindCallIn callee before None = Unit {0}
IsBehindCallIn callee before (Some after) = IsBehindCall callee before after
