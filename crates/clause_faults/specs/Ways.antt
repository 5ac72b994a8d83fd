-- What is wrong on the ways forward through a clause's code, where each keeps its own stack. What is not pure ends a
-- way, and so does an operation that meets too few values. A way does not take a branch to below, or to what is not
-- this clause's.
use Rattle.std.specs.Prelude.{ℕ, zero, suc, ◌+◌, Bool, true, false, not, nat_lt, ◌==◌, List, [], ◌∷◌, ◌++◌, length, map, take, drop, flat_map, Option, Some, None, if◌then◌else◌, slice_get}
use Rattle.std.specs.Option.{option_map_or, option_and_then}
use Rattle.cil_model.specs.Blocks.{closes}
use Rattle.cil_model.specs.Comparisons.{comparison_of}
use Rattle.cil_model.specs.Kinds.{kind_of, operand_count, takes}
use Rattle.cil_model.specs.Runs.{instr_at}
use Rattle.cil_model.specs.TreeKinds.{length_kind, element_kind, operator_kind, unary_kind}
use Rattle.cil_model.specs.UnitCalls.{unit_call}
use Rattle.cil_model.specs.declared.instruction.Instr.{Instr}
use Rattle.cil_model.specs.declared.instruction.Op.{Op}
use Rattle.cil_model.specs.declared.instruction.Op.TheVariants as ops
use Rattle.cil_model.specs.declared.instruction.Test.TheVariants as tests
use Rattle.cil_model.specs.declared.place.Kind.{Kind}
use Rattle.cil_model.specs.declared.place.Kind.TheVariants as kinds
use Rattle.cil_model.specs.declared.place.Place.{Place}
use Rattle.cil_model.specs.declared.shape.Shape.{Shape}
use Rattle.cil_model.specs.declared.unit_numbers.UnitCall.{UnitCall}
use Rattle.cil_model.specs.declared.unit_numbers.UnitCall.TheVariants as calls
use Rattle.clause_faults.specs.ClauseCodes.{goes_forward}
use Rattle.clause_faults.specs.PureCode.{is_pure}
use Rattle.clause_faults.specs.declared.clause_fault.ClauseFault.{ClauseFault}
use Rattle.clause_faults.specs.declared.clause_fault.ClauseFault.TheVariants.{StackLeft, OldForm}

-- ---- the calls of Result and OldValue

-- The place of a Result or of an OldValue.
abbrev pub asked : Option UnitCall → Option Place
asked (Some (calls.Result place)) = Some place
asked (Some (calls.OldValue place)) = Some place
asked _ = None

abbrev pub asked_by : Op → Option Place
asked_by (ops.Call number) = asked (unit_call number)
asked_by _ = None

abbrev pub is_old : Option UnitCall → Bool
is_old (Some (calls.OldValue place)) = true
is_old _ = false

-- The operation is a call of OldValue.
abbrev pub is_old_value : Op → Bool
is_old_value (ops.Call number) = is_old (unit_call number)
is_old_value _ = false

-- ---- the stack of a way

-- A value on the stack of a way, as its tree tells it: the kind of the tree, if it has one, and the IL offsets of the
-- calls of Result and OldValue in it.
pub record Told : Type 0 where
  pub kind : Option Kind
  pub calls : List ℕ

-- The kind of the tree that a call makes of trees of these kinds, the top first.
abbrev pub called_kind : Option UnitCall → List (Option Kind) → Option Kind
called_kind (Some (calls.Result place)) operands = kind_of place
called_kind (Some (calls.OldValue place)) (a ∷ operands) = a
called_kind _ _ = None

-- The kind of the tree that an operation makes of trees of these kinds, the top first. A length counts as an int32, and
-- conv.i4 leaves the tree.
abbrev pub made_kind : List Place → Op → List (Option Kind) → Option Kind
made_kind args (ops.LoadArg n) operands = option_and_then kind_of (slice_get args n)
made_kind args ops.Null operands = Some kinds.NullRef
made_kind args (ops.Const n) operands = Some kinds.Int
made_kind args (ops.Text token) operands = Some kinds.Text
made_kind args (ops.Bin operator) (b ∷ a ∷ operands) = operator_kind (comparison_of operator) a b
made_kind args ops.Neg (a ∷ operands) = unary_kind a
made_kind args ops.Not (a ∷ operands) = unary_kind a
made_kind args ops.ConvI4 (a ∷ operands) = a
made_kind args ops.Length (a ∷ operands) = length_kind a
made_kind args (ops.LoadElem place) (index ∷ array ∷ operands) = element_kind place array index
made_kind args (ops.Call number) operands = called_kind (unit_call number) operands
made_kind args _ _ = None

-- The offset of a call of Result or OldValue, with those inside its operand.
abbrev pub calls_with : Instr → List ℕ → List ℕ
calls_with i inside = if option_map_or (λ place. true) (asked_by i.op) false then i.at ∷ inside else inside

-- The value that an instruction makes of these.
abbrev pub made : Shape → Instr → List Told → Told
made shape i operands = record {
  kind = made_kind shape.args i.op (map (λ told. told.kind) operands);
  calls = calls_with i (flat_map (λ told. told.calls) operands);
}

-- The stack after an instruction that is no branch and takes so many values. All but nop make one value of them.
abbrev pub stack_by : Shape → Instr → Op → ℕ → List Told → List Told
stack_by shape i ops.Nop count stack = stack
stack_by shape i op count stack = made shape i (take count stack) ∷ drop count stack

-- ---- what is wrong on a way

-- The tree has a kind that the place does not take.
abbrev pub misfits : Place → Option Kind → Bool
misfits place (Some kind) = not (takes place kind)
misfits place None = false

-- What is wrong with an OldValue of this place over a value.
abbrev pub old_faults : ℕ → Place → Told → List ClauseFault
old_faults at place told = map OldForm told.calls ++ (if misfits place told.kind then OldForm at ∷ [] else [])

abbrev pub old_faults_of : Instr → Option UnitCall → List Told → List ClauseFault
old_faults_of i (Some (calls.OldValue place)) (told ∷ stack) = old_faults i.at place told
old_faults_of i _ _ = []

-- What is wrong at an instruction that has its operands.
abbrev pub faults_here : Instr → Op → List Told → List ClauseFault
faults_here i (ops.Call number) stack = old_faults_of i (unit_call number) stack
faults_here i _ stack = []

-- The IL offsets to which a way goes on after an operation: the target first.
abbrev pub ways_behind : Op → ℕ → List ℕ
ways_behind (ops.Branch tests.Always target) next = target ∷ []
ways_behind (ops.Branch test target) next = target ∷ next ∷ []
ways_behind _ next = next ∷ []

-- The stack after an instruction that has its operands.
abbrev pub stack_behind : Shape → Instr → Op → List Told → List Told
stack_behind shape i (ops.Branch test target) stack = drop (operand_count shape (ops.Branch test target)) stack
stack_behind shape i op stack = stack_by shape i op (operand_count shape op) stack

-- What a closing call finds wrong: it wants exactly its own arguments.
abbrev pub closing_faults : ℕ → ℕ → ℕ → List ClauseFault
closing_faults at count found = if count == found then [] else StackLeft at ∷ []

-- What is wrong from an instruction on with this stack, where `from` tells it of a later offset.
abbrev pub faults_at : (ℕ → List Told → List ClauseFault) → List Instr → Shape → Instr → List Told → List ClauseFault
faults_at from is shape i stack =
    if closes i.op then closing_faults i.at (operand_count shape i.op) (length stack)
    else if not (is_pure is i) then []
    else if nat_lt (length stack) (operand_count shape i.op) then StackLeft i.at ∷ []
    else faults_here i i.op stack ++ flat_map (λ later. from later (stack_behind shape i i.op stack)) (ways_behind i.op (i.at + i.size))

-- What is wrong on the ways from an IL offset on with this stack, over so many instructions at most.
abbrev pub faults_from : ℕ → List Instr → Shape → Instr → ℕ → List Told → List ClauseFault
faults_from zero is shape closing at stack = []
faults_from (suc most) is shape closing at stack =
    option_map_or (λ i. faults_at (λ later rest. if goes_forward at later closing then faults_from most is shape closing later rest else []) is shape i stack) (instr_at is at) []

-- What is wrong on the ways through the code of the clause that begins at this IL offset and ends at this closing call.
abbrev pub way_faults : List Instr → Shape → ℕ → Instr → List ClauseFault
way_faults is shape start closing = faults_from (length is) is shape closing start []
