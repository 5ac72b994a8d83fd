-- The stack of trees in memory that the code of a clause makes.
use Rattle.std.specs.Prelude.{ℕ, ◌+◌, ◌≡◌, Bool, true, false, nat_lt, List, [], ◌∷◌, map, Option, Some, None, if◌then◌else◌}
use Rattle.std.specs.Option.{option_and_then}
use Rattle.cil_model.specs.ClauseTrees.{Item, Tree, Message, branch_operator}
use Rattle.cil_model.specs.Limits.{MAX_NODES}
use Rattle.cil_model.specs.Terms as terms
use Rattle.cil_model.specs.Terms.{Term, term_size}
use Rattle.cil_model.specs.UnitCalls.{unit_call}
use Rattle.cil_model.specs.declared.instruction.Op.{Op}
use Rattle.cil_model.specs.declared.instruction.Op.TheVariants as ops
use Rattle.cil_model.specs.declared.instruction.Test.{Test}
use Rattle.cil_model.specs.declared.instruction.Test.TheVariants as tests
use Rattle.cil_model.specs.declared.instruction.UnOp.TheVariants as unary
use Rattle.cil_model.specs.declared.unit_numbers.UnitCall.{UnitCall}
use Rattle.cil_model.specs.declared.unit_numbers.UnitCall.TheVariants as calls
use Rattle.contract_extract.specs.Growth.{AreFlat, Keeps, tree_here}
use Rattle.contract_extract.specs.Dropping.{without}
use Rattle.contract_extract.specs.declared.trees.dropped.Dropped.{Dropped}
use Rattle.contract_extract.specs.declared.trees.stretch.Working.{Working}
use Rattle.contract_extract.specs.declared.trees.conditions.Condition.{Condition}
use Rattle.contract_extract.specs.declared.trees.tree_stack.Counted.{Counted}
use Rattle.contract_extract.specs.declared.trees.tree_stack.Pair.{Pair}
use Rattle.contract_extract.specs.declared.trees.tree_stack.Pair.TheVariants as pairs
use Rattle.contract_extract.specs.declared.trees.tree_stack.Single.{Single}
use Rattle.contract_extract.specs.declared.trees.tree_stack.Single.TheVariants as singles
use Rattle.contract_extract.specs.declared.trees.tree_stack.Slot.{Slot}
use Rattle.contract_extract.specs.declared.trees.tree_stack.Slot.TheVariants as slots

-- ---- what stands in memory for the items of a stack

-- A tree with its count, so many nodes. One that has more than a clause may have is not kept.
abbrev pub kept : Term → ℕ → Option Counted
kept tree nodes = if nat_lt MAX_NODES nodes then None else Some (record { tree = tree; nodes = nodes })

abbrev pub slot_of : Item → Slot
slot_of (Tree tree) = slots.Tree (kept tree (term_size tree))
slot_of Message = slots.Message

-- The slots for the items of a stack, the top first.
abbrev pub slots_of : List Item → List Slot
slots_of items = map slot_of items

-- The stack in memory is the one for these items, of which none has a condition.
pub record StandsFor (stack : List Slot) (items : List Item) : Type 0 where
  pub slots : stack ≡ slots_of items
  pub flat : AreFlat items

-- The tree, if there is one, is what this gives of items for which the stack stands, but for those that are dropped.
pub record IsFrom (tree : Option Term) (from : List Item → Option Term) (dropped : Dropped) (stack : List Slot) : Type 0 where
  pub items : List Item
  pub stands : StandsFor stack (without dropped items)
  pub keeps : Keeps tree (from items)

-- It is what this gives of the place where the way goes on. Where it goes on nowhere, there is no tree.
abbrev pub IsFromNext : Option Term → (ℕ → List Item → Option Term) → Dropped → List Slot → Option ℕ → Type 0
IsFromNext tree from dropped stack None = Keeps tree None
IsFromNext tree from dropped stack (Some next) = IsFrom tree (from next) dropped stack

-- The same of an instruction that makes a part of the tree or ends a way.
abbrev pub IsFromWorking : Option Term → (ℕ → List Item → Option Term) → List Slot → Option Working → Type 0
IsFromWorking tree from stack None = Keeps tree None
IsFromWorking tree from stack (Some working) = IsFrom tree (tree_here from working.instr.now) working.dropped stack

-- ---- what operations make of them

-- The slots that an operation leaves, where it finds its operands.
abbrev pub left_if : Bool → List Slot → Option (List Slot)
left_if true stack = Some stack
left_if false stack = None

-- The root of a tree over one or two others.
abbrev pub single_root : Single → Term → Term
single_root singles.Length = terms.Len
single_root (singles.Operator operator) = terms.Un operator
single_root singles.Old = terms.Old

abbrev pub pair_root : Pair → Term → Term → Term
pair_root (pairs.Operator operator) = terms.Bin operator
pair_root (pairs.Element place) = terms.Elem place

-- A tree of this root over the top, in its place.
abbrev pub over_one : (Term → Term) → List Slot → Option (List Slot)
over_one root (slots.Tree None ∷ rest) = Some (slots.Tree None ∷ rest)
over_one root (slots.Tree (Some a) ∷ rest) = Some (slots.Tree (kept (root a.tree) (a.nodes + 1)) ∷ rest)
over_one root _ = None

-- A tree of this root over the two at the top, in their place. The second one is the top.
abbrev pub over_two : (Term → Term → Term) → List Slot → Option (List Slot)
over_two root (slots.Tree None ∷ slots.Tree a ∷ rest) = Some (slots.Tree None ∷ rest)
over_two root (slots.Tree (Some b) ∷ slots.Tree None ∷ rest) = Some (slots.Tree None ∷ rest)
over_two root (slots.Tree (Some b) ∷ slots.Tree (Some a) ∷ rest) = Some (slots.Tree (kept (root a.tree b.tree) (a.nodes + b.nodes + 1)) ∷ rest)
over_two root _ = None

-- The same stack, where a tree is the top.
abbrev pub under_tree : List Slot → Option (List Slot)
under_tree (slots.Tree a ∷ rest) = Some (slots.Tree a ∷ rest)
under_tree _ = None

abbrev pub slots_called : Option UnitCall → List Slot → Option (List Slot)
slots_called (Some (calls.Result place)) stack = Some (slots.Tree (kept terms.Result 1) ∷ stack)
slots_called (Some (calls.OldValue place)) stack = over_one terms.Old stack
slots_called _ stack = None

-- The slots after an operation that goes on to the next instruction.
abbrev pub slots_behind : Op → List Slot → Option (List Slot)
slots_behind ops.Nop stack = Some stack
slots_behind (ops.LoadArg n) stack = Some (slots.Tree (kept (terms.Arg n) 1) ∷ stack)
slots_behind ops.Null stack = Some (slots.Tree (kept terms.Null 1) ∷ stack)
slots_behind (ops.Const n) stack = Some (slots.Tree (kept (terms.Const n) 1) ∷ stack)
slots_behind (ops.Text token) stack = Some (slots.Message ∷ stack)
slots_behind (ops.Bin operator) stack = over_two (terms.Bin operator) stack
slots_behind ops.Neg stack = over_one (terms.Un unary.Neg) stack
slots_behind ops.Not stack = over_one (terms.Un unary.Not) stack
slots_behind ops.ConvI4 stack = under_tree stack
slots_behind ops.Length stack = over_one terms.Len stack
slots_behind (ops.LoadElem place) stack = over_two (terms.Elem place) stack
slots_behind (ops.Call number) stack = slots_called (unit_call number) stack
slots_behind _ stack = None

-- ---- what ends a stretch of the code finds in them

-- The tree that a closing call finds, if it is kept.
abbrev pub closed_slot : List Slot → Option Counted
closed_slot (slots.Tree a ∷ []) = a
closed_slot _ = None

-- The tree at the top as a condition, if it is kept, and the slots below it.
abbrev pub top_tested : Bool → List Slot → Option (Condition × List Slot)
top_tested turned (slots.Tree (Some a) ∷ rest) = Some (record { tree = a.tree; turned = turned }, rest)
top_tested turned _ = None

-- The condition of a branch that goes two ways, if it is kept, and the slots below it.
abbrev pub slots_tested : Test → List Slot → Option (Condition × List Slot)
slots_tested tests.Always stack = None
slots_tested tests.True stack = top_tested false stack
slots_tested tests.False stack = top_tested true stack
slots_tested (tests.Cmp op) stack =
    option_and_then (top_tested (branch_operator op).1) (over_two (terms.Bin (branch_operator op).0) stack)
