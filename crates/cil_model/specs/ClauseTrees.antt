-- The trees of a method's clauses: what the code of its contract block computes, read forward from each clause's start
-- to the call that closes it. It is code without variables of its own, so a stack of trees tells all.
use Rattle.std.specs.Prelude.{ℕ, zero, suc, ◌+◌, Bool, true, false, nat_lt, List, [], ◌∷◌, ◌++◌, length, Option, Some, None, if◌then◌else◌}
use Rattle.std.specs.Option.{option_and_then}
use Rattle.cil_model.specs.Blocks.{closes}
use Rattle.cil_model.specs.Runs.{instr_at}
use Rattle.cil_model.specs.Terms as terms
use Rattle.cil_model.specs.Terms.{Term}
use Rattle.cil_model.specs.UnitCalls.{unit_call}
use Rattle.cil_model.specs.declared.clause.ClauseKind.{ClauseKind}
use Rattle.cil_model.specs.declared.clause.ClauseKind.TheVariants as kinds
use Rattle.cil_model.specs.declared.instruction.BinOp.{BinOp}
use Rattle.cil_model.specs.declared.instruction.BinOp.TheVariants as operators
use Rattle.cil_model.specs.declared.instruction.CmpOp.{CmpOp}
use Rattle.cil_model.specs.declared.instruction.CmpOp.TheVariants as comparisons
use Rattle.cil_model.specs.declared.instruction.Instr.{Instr}
use Rattle.cil_model.specs.declared.instruction.Op.{Op}
use Rattle.cil_model.specs.declared.instruction.Op.TheVariants as ops
use Rattle.cil_model.specs.declared.instruction.Test.{Test}
use Rattle.cil_model.specs.declared.instruction.Test.TheVariants as tests
use Rattle.cil_model.specs.declared.unit_numbers.UnitCall.{UnitCall}
use Rattle.cil_model.specs.declared.unit_numbers.UnitCall.TheVariants as calls
use Rattle.cil_model.specs.declared.instruction.UnOp.TheVariants as unary

-- ---- the stack of a clause's code

-- What stands on it: a tree, or the message of the call that closes the clause.
pub data Item : Type 0 where
  Tree : Term → Item
  Message : Item

-- The first item of the list is the top.
abbrev pub with_length : List Item → Option (List Item)
with_length (Tree a ∷ rest) = Some (Tree (terms.Len a) ∷ rest)
with_length _ = None

abbrev pub with_element : Op → List Item → Option (List Item)
with_element (ops.LoadElem place) (Tree index ∷ Tree array ∷ rest) = Some (Tree (terms.Elem place array index) ∷ rest)
with_element _ _ = None

abbrev pub with_operator : BinOp → List Item → Option (List Item)
with_operator operator (Tree b ∷ Tree a ∷ rest) = Some (Tree (terms.Bin operator a b) ∷ rest)
with_operator operator _ = None

abbrev pub with_unary : Op → List Item → Option (List Item)
with_unary ops.Neg (Tree a ∷ rest) = Some (Tree (terms.Un unary.Neg a) ∷ rest)
with_unary ops.Not (Tree a ∷ rest) = Some (Tree (terms.Un unary.Not a) ∷ rest)
with_unary ops.ConvI4 (Tree a ∷ rest) = Some (Tree a ∷ rest)
with_unary _ _ = None

-- The calls that a clause may have inside.
abbrev pub with_call : Option UnitCall → List Item → Option (List Item)
with_call (Some (calls.Result place)) items = Some (Tree terms.Result ∷ items)
with_call (Some (calls.OldValue place)) (Tree a ∷ rest) = Some (Tree (terms.Old a) ∷ rest)
with_call _ _ = None

-- The stack after an operation that goes on to the next instruction. conv.i4 leaves its tree: a length counts as
-- the same int32.
abbrev pub items_behind : Op → List Item → Option (List Item)
items_behind ops.Nop items = Some items
items_behind (ops.LoadArg n) items = Some (Tree (terms.Arg n) ∷ items)
items_behind ops.Null items = Some (Tree terms.Null ∷ items)
items_behind (ops.Const n) items = Some (Tree (terms.Const n) ∷ items)
items_behind (ops.Text token) items = Some (Message ∷ items)
items_behind (ops.Bin operator) items = with_operator operator items
items_behind ops.Neg items = with_unary ops.Neg items
items_behind ops.Not items = with_unary ops.Not items
items_behind ops.ConvI4 items = with_unary ops.ConvI4 items
items_behind ops.Length items = with_length items
items_behind (ops.LoadElem place) items = with_element (ops.LoadElem place) items
items_behind (ops.Call number) items = with_call (unit_call number) items
items_behind _ items = None

-- ---- branches

-- The operator of a comparing branch, and whether the branch goes where the operator is not true.
abbrev pub branch_operator : CmpOp → BinOp × Bool
branch_operator comparisons.Eq = (operators.Ceq, false)
branch_operator comparisons.Ge = (operators.Clt, true)
branch_operator comparisons.Gt = (operators.Cgt, false)
branch_operator comparisons.Le = (operators.Cgt, true)
branch_operator comparisons.Lt = (operators.Clt, false)
branch_operator comparisons.NeUn = (operators.Ceq, true)
branch_operator comparisons.GeUn = (operators.CltUn, true)
branch_operator comparisons.GtUn = (operators.CgtUn, false)
branch_operator comparisons.LeUn = (operators.CgtUn, true)
branch_operator comparisons.LtUn = (operators.CltUn, false)

-- A condition of the trees from the branch's target and from the next instruction, where both are there.
abbrev pub condition : Bool → Term → Option Term → Option Term → Option Term
condition false test (Some target) (Some next) = Some (terms.Cond test target next)
condition true test (Some target) (Some next) = Some (terms.Cond test next target)
condition turned test _ _ = None

-- The tree of a branch, where `from` gives the tree from an IL offset with a stack.
abbrev pub branch_tree : (ℕ → List Item → Option Term) → Test → ℕ → ℕ → List Item → Option Term
branch_tree from tests.Always target next items = from target items
branch_tree from tests.True target next (Tree a ∷ rest) = condition false a (from target rest) (from next rest)
branch_tree from tests.False target next (Tree a ∷ rest) = condition true a (from target rest) (from next rest)
branch_tree from (tests.Cmp op) target next (Tree b ∷ Tree a ∷ rest) =
    let (operator, turned) = branch_operator op in condition turned (terms.Bin operator a b) (from target rest) (from next rest)
branch_tree from _ target next _ = None

-- ---- whole clauses

-- What a call that closes a clause finds: the tree, below the message where it takes one, and nothing else.
abbrev pub closed_tree : Bool → List Item → Option Term
closed_tree false (Tree a ∷ []) = Some a
closed_tree true (top ∷ Tree a ∷ []) = Some a
closed_tree _ _ = None

-- The clause that a call closes: its kind, and whether it takes a message.
abbrev pub closed_by : Option UnitCall → Option (ClauseKind × Bool)
closed_by (Some (calls.Requires message)) = Some (kinds.Requires, message)
closed_by (Some (calls.Ensures message)) = Some (kinds.Ensures, message)
closed_by _ = None

abbrev pub closing : Op → Option (ClauseKind × Bool)
closing (ops.Call number) = closed_by (unit_call number)
closing _ = None

-- The tree from an instruction on: none where a clause may not have the instruction, where an operand is missing, and
-- where a branch does not go forward. `from` gives that of a later instruction.
abbrev pub tree_at : (ℕ → List Item → Option Term) → Option (ClauseKind × Bool) → Instr → Op → List Item → Option Term
tree_at from (Some (kind, message)) i op items = closed_tree message items
tree_at from None i (ops.Branch test target) items = branch_tree from test target (i.at + i.size) items
tree_at from None i op items = option_and_then (from (i.at + i.size)) (items_behind op items)

-- The tree from an IL offset on, with this stack, over so many instructions at most.
abbrev pub tree_from : ℕ → List Instr → ℕ → List Item → Option Term
tree_from zero is at items = None
tree_from (suc most) is at items =
    option_and_then (λ i. tree_at (λ later rest. if nat_lt at later then tree_from most is later rest else None) (closing i.op) i i.op items) (instr_at is at)

-- The tree of the clause whose code begins at an IL offset.
abbrev pub tree_of : List Instr → ℕ → Option Term
tree_of is start = tree_from (length is) is start []

-- ---- the contract block

-- The clause that a call closes, its code beginning at an IL offset: its kind and its tree.
abbrev pub clause_before : List Instr → ℕ → Option (ClauseKind × Bool) → List (ClauseKind × Option Term)
clause_before is start None = []
clause_before is start (Some (kind, message)) = (kind, tree_of is start) ∷ []

-- The clauses that the calls of these instructions close. The code of the first begins at this IL offset, and that of
-- each other one after the call that closes the one before it, or after EndContractBlock.
abbrev pub clauses_from : List Instr → ℕ → List Instr → List (ClauseKind × Option Term)
clauses_from is start [] = []
clauses_from is start (i ∷ rest) =
    if closes i.op then clause_before is start (closing i.op) ++ clauses_from is (i.at + i.size) rest else clauses_from is start rest

-- The clauses of a method's code.
abbrev pub clauses_in : List Instr → List (ClauseKind × Option Term)
clauses_in is = clauses_from is 0 is
