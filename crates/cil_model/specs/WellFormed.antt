-- Units as the rest of the project takes them: those that files spell and that methods of assemblies make.
use Rattle.std.specs.Prelude.{FitsSigned, ◌≡◌, ◌≢◌, ◌⊎◌, ℕ, ◌+◌, ◌<◌, ◌≤◌, List, [], ◌∷◌, ◌++◌, length, map, sum_by, filter_map, Option, Some, None, IsSome}
use Rattle.std.specs.Int.{w32}
use Rattle.std.specs.List.{AllByRecursion}
use Rattle.cil_model.specs.Blocks.{block_count, start_of_body}
use Rattle.cil_model.specs.Bodies.{CanRun}
use Rattle.cil_model.specs.ClauseTrees.{clauses_in}
use Rattle.cil_model.specs.Code.{CodeOf}
use Rattle.cil_model.specs.Limits.{MAX_BLOCKS, MAX_CLAUSES, MAX_CODE_BYTES, MAX_CONDITIONS, MAX_INSTRUCTIONS, MAX_NAME_BYTES, MAX_NODES, MAX_OLD_VALUES, MAX_VARIABLES}
use Rattle.cil_model.specs.TermCodes.{Root, ConstRoot, preorder}
use Rattle.cil_model.specs.Terms.{Term, term_size, condition_depth, old_count}
use Rattle.cil_model.specs.TreeKinds.{IsNumberClause}
use Rattle.cil_model.specs.UnitCalls.{unit_call, array_place, callee_of}
use Rattle.cil_model.specs.declared.clause.Clause.{Clause}
use Rattle.cil_model.specs.declared.clause.ClauseKind.{ClauseKind}
use Rattle.cil_model.specs.declared.clause.ClauseKind.TheVariants as kinds
use Rattle.cil_model.specs.declared.instruction.Instr.{Instr}
use Rattle.cil_model.specs.declared.instruction.Op.{Op}
use Rattle.cil_model.specs.declared.instruction.Op.TheVariants as ops
use Rattle.cil_model.specs.declared.place.Place.{Place}
use Rattle.cil_model.specs.declared.place.Place.TheVariants as places
use Rattle.cil_model.specs.declared.unit.CalleeInfo.{CalleeInfo}
use Rattle.cil_model.specs.declared.unit.Unit.{Unit as MethodUnit}

-- ---- the numbers in code

-- The operand names something, where it is a number of the unit and no token of the metadata.
abbrev pub NamesSomething : Op → Type 0
NamesSomething (ops.Call number) = IsSome (unit_call number)
NamesSomething (ops.NewArray number) = IsSome (array_place number)
NamesSomething (ops.LoadAddr number) = IsSome (array_place number)
NamesSomething (ops.Text number) = number ≡ 0
NamesSomething ops.Nop = Unit {0}
NamesSomething (ops.LoadArg n) = Unit {0}
NamesSomething (ops.StoreArg n) = Unit {0}
NamesSomething (ops.LoadLocal n) = Unit {0}
NamesSomething (ops.StoreLocal n) = Unit {0}
NamesSomething ops.Null = Unit {0}
NamesSomething (ops.Const n) = Unit {0}
NamesSomething ops.Dup = Unit {0}
NamesSomething ops.Pop = Unit {0}
NamesSomething ops.Return = Unit {0}
NamesSomething (ops.Branch test target) = Unit {0}
NamesSomething (ops.Switch targets) = Unit {0}
NamesSomething (ops.Bin operator) = Unit {0}
NamesSomething ops.Neg = Unit {0}
NamesSomething ops.Not = Unit {0}
NamesSomething ops.ConvI4 = Unit {0}
NamesSomething ops.Length = Unit {0}
NamesSomething (ops.LoadElem place) = Unit {0}
NamesSomething (ops.StoreElem place) = Unit {0}
NamesSomething (ops.LoadInd place) = Unit {0}
NamesSomething (ops.StoreInd place) = Unit {0}

-- The number of the callee that an operation calls.
abbrev pub called_by : Op → Option ℕ
called_by (ops.Call number) = callee_of (unit_call number)
called_by ops.Nop = None
called_by (ops.LoadArg n) = None
called_by (ops.StoreArg n) = None
called_by (ops.LoadLocal n) = None
called_by (ops.StoreLocal n) = None
called_by ops.Null = None
called_by (ops.Const n) = None
called_by ops.Dup = None
called_by ops.Pop = None
called_by ops.Return = None
called_by (ops.Branch test target) = None
called_by (ops.Switch targets) = None
called_by (ops.Bin operator) = None
called_by ops.Neg = None
called_by ops.Not = None
called_by ops.ConvI4 = None
called_by (ops.Text token) = None
called_by (ops.NewArray number) = None
called_by ops.Length = None
called_by (ops.LoadElem place) = None
called_by (ops.StoreElem place) = None
called_by (ops.LoadAddr number) = None
called_by (ops.LoadInd place) = None
called_by (ops.StoreInd place) = None

-- Each of these callees is one of the first or the next one, and in the end the first are all of them.
abbrev pub InOrderOfUse : ℕ → ℕ → List ℕ → Type 0
InOrderOfUse first all [] = first ≡ all
InOrderOfUse first all (number ∷ numbers) =
    ((number < first) × InOrderOfUse first all numbers) ⊎ ((number ≡ first) × InOrderOfUse (first + 1) all numbers)

-- ---- limits

pub record ClausesWithinLimits (clauses : List Clause) : Type 0 where
  pub count : length clauses ≤ MAX_CLAUSES
  pub nodes : AllByRecursion (λ clause. term_size clause.tree ≤ MAX_NODES) clauses
  pub conditions : AllByRecursion (λ clause. condition_depth clause.tree ≤ MAX_CONDITIONS) clauses
  pub old_values : sum_by (λ clause. old_count clause.tree) clauses ≤ MAX_OLD_VALUES

pub record IsWithinLimits (unit : MethodUnit) : Type 0 where
  pub code : length unit.code ≤ MAX_CODE_BYTES
  pub instructions : length unit.instrs ≤ MAX_INSTRUCTIONS
  pub blocks : block_count unit ≤ MAX_BLOCKS
  pub variables : length unit.args + length unit.locals + unit.max_stack ≤ MAX_VARIABLES
  pub clauses : ClausesWithinLimits unit.clauses

-- ---- units

-- A name as it stands in a unit: some graphic bytes of ASCII.
pub record IsUnitName (name : List ℕ) : Type 0 where
  pub graphic : AllByRecursion (λ b. (0x21 ≤ b) × (b ≤ 0x7e)) name
  pub short : length name ≤ MAX_NAME_BYTES

-- Variables of these types hold values.
abbrev pub HoldValues : List Place → Type 0
HoldValues types = AllByRecursion (λ place. place ≢ places.Void) types

-- The constants of a clause's tree are int32.
abbrev pub IsIntRoot : Root → Type 0
IsIntRoot (ConstRoot n) = FitsSigned w32 n
IsIntRoot root = Unit {0}

abbrev pub HasInts : Clause → Type 0
HasInts clause = AllByRecursion IsIntRoot (preorder clause.tree)

-- What a unit says of a callee is what a well formed unit may say of itself.
pub record IsCallee (callee : CalleeInfo) : Type 0 where
  pub args : HoldValues callee.args
  pub few_args : length callee.args ≤ MAX_VARIABLES
  pub name : IsUnitName callee.name
  pub clauses : ClausesWithinLimits callee.clauses
  pub ints : AllByRecursion HasInts callee.clauses
  pub numbers : AllByRecursion (IsNumberClause callee.args callee.result) callee.clauses

-- A clause as code tells it: its kind and its tree.
abbrev pub told_by_code : Clause → ClauseKind × Option Term
told_by_code clause = (clause.kind, Some clause.tree)

-- A clause that was added to those of the code: one that holds at returns, whose constants are int32.
abbrev pub IsAdded : Clause → Type 0
IsAdded clause = (clause.kind ≡ kinds.Ensures) × HasInts clause

-- The clauses of a unit with these instructions: those that the code tells, and after them such as were added.
pub record HasClauses (is : List Instr) (clauses : List Clause) : Type 0 where
  pub written : List Clause
  pub added : List Clause
  pub all : clauses ≡ written ++ added
  pub told : clauses_in is ≡ map told_by_code written
  pub ensures : AllByRecursion IsAdded added

-- A well formed unit.
pub record IsWellFormed (unit : MethodUnit) : Type 0 where
  pub name : IsUnitName unit.name
  pub code : CodeOf unit.instrs unit.code
  pub body : unit.body_start ≡ start_of_body unit.instrs
  pub args : HoldValues unit.args
  pub locals : HoldValues unit.locals
  pub named : AllByRecursion (λ i. NamesSomething i.op) unit.instrs
  pub clauses : HasClauses unit.instrs unit.clauses
  pub order : InOrderOfUse 0 (length unit.callees) (filter_map (λ i. called_by i.op) unit.instrs)
  pub callees : AllByRecursion IsCallee unit.callees
  pub numbers : AllByRecursion (IsNumberClause unit.args unit.result) unit.clauses
  pub runs : CanRun unit
  pub limits : IsWithinLimits unit
