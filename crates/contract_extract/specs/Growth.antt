-- How the tree of a clause grows along the ways forward, and the limits that it meets.
use Rattle.std.specs.Prelude.{◌≡◌, ℕ, ◌+◌, ◌≤◌, Bool, true, false, ◌||◌, nat_lt, List, ◌∷◌, length, Option, Some, None, IfSome, if◌then◌else◌}
use Rattle.std.specs.List.{AllByRecursion}
use Rattle.std.specs.Option.{is_some}
use Rattle.cil_model.specs.ClauseTrees.{Item, Tree, Message, branch_operator, closing, condition, tree_at, tree_from}
use Rattle.cil_model.specs.Terms as terms
use Rattle.cil_model.specs.Terms.{Term, condition_depth, term_size}
use Rattle.cil_model.specs.declared.instruction.Instr.{Instr}
use Rattle.cil_model.specs.declared.instruction.Op.{Op}
use Rattle.cil_model.specs.declared.instruction.Op.TheVariants as ops
use Rattle.cil_model.specs.declared.instruction.Test.{Test}
use Rattle.cil_model.specs.declared.instruction.Test.TheVariants as tests
use Rattle.contract_extract.specs.declared.trees.conditions.Condition.{Condition}
use Rattle.contract_extract.specs.declared.trees.limits.Limits.{Limits}
use Rattle.contract_extract.specs.declared.trees.limits.Grown.{Grown}

-- ---- ways

-- The tree from an IL offset on, with this stack.
unfoldable pub forward : List Instr → ℕ → List Item → Option Term
forward is at items = tree_from (length is) is at items

-- The same from a later offset, and none from another one.
abbrev pub onward : (ℕ → List Item → Option Term) → ℕ → ℕ → List Item → Option Term
onward from at later items = if nat_lt at later then from later items else None

-- The tree from an instruction on, where `from` gives it from later ones.
abbrev pub tree_here : (ℕ → List Item → Option Term) → Instr → List Item → Option Term
tree_here from i items = tree_at (onward from i.at) (closing i.op) i i.op items

-- Where an operation goes that goes elsewhere than to the next instruction.
abbrev pub jump_of : Op → Option ℕ
jump_of (ops.Branch test target) = Some target
jump_of _ = None

abbrev pub goes_two_ways : Op → Bool
goes_two_ways (ops.Branch tests.Always target) = false
goes_two_ways (ops.Branch test target) = true
goes_two_ways _ = false

-- This is the tree, where there is one.
abbrev pub Keeps : Option Term → Option Term → Type 0
Keeps tree this = IfSome tree (λ t. this ≡ Some t)

-- Where an operation that makes no node goes on, if it is one. The next instruction stands at this offset.
abbrev pub idle_to : Op → ℕ → Option ℕ
idle_to ops.Nop next = Some next
idle_to ops.ConvI4 next = Some next
idle_to (ops.Branch tests.Always target) next = Some target
idle_to _ next = None

-- A straight stretch of the code ends at the operation: it closes a clause, or goes two ways.
abbrev pub ends_stretch : Op → Bool
ends_stretch op = is_some (closing op) || goes_two_ways op

-- The offset, where it is later than this one.
abbrev pub later_than : ℕ → ℕ → Option ℕ
later_than at later = if nat_lt at later then Some later else None

-- ---- trees without conditions

-- Only a branch makes a condition, and it makes one of all that follows, so none stands on a stack.
abbrev pub IsFlat : Item → Type 0
IsFlat (Tree tree) = condition_depth tree ≡ 0
IsFlat Message = Unit {0}

abbrev pub AreFlat : List Item → Type 0
AreFlat items = AllByRecursion IsFlat items

-- ---- branches

-- The condition of a branch that goes two ways, and the stack below it.
abbrev pub tested : Test → List Item → Option (Condition × List Item)
tested tests.True (Tree a ∷ rest) = Some (record { tree = a; turned = false }, rest)
tested tests.False (Tree a ∷ rest) = Some (record { tree = a; turned = true }, rest)
tested (tests.Cmp op) (Tree b ∷ Tree a ∷ rest) =
    Some (record { tree = terms.Bin (branch_operator op).0 a b; turned = (branch_operator op).1 }, rest)
tested _ _ = None

-- The tree over a condition, where these are those from the branch's target and from the next instruction.
abbrev pub forked : Condition → Option Term → Option Term → Option Term
forked test target next = condition test.turned test.tree target next

-- ---- limits

-- The tree has more nodes than these, or more conditions on one way from its root to a leaf.
abbrev pub passes : Limits → Term → Bool
passes limits tree = nat_lt limits.nodes (term_size tree) || nat_lt limits.conditions (condition_depth tree)

-- This is the tree, within the limits, with so many more nodes left.
pub record IsGrown (limits : Limits) (tree : Option Term) (grown : Grown) : Type 0 where
  pub is : Keeps tree (Some grown.tree)
  pub nodes : grown.nodes_left + term_size grown.tree ≡ limits.nodes
  pub conditions : condition_depth grown.tree ≤ limits.conditions

-- What is grown is the tree. Where nothing is, there is none within the limits.
abbrev pub Grows : Limits → Option Term → Option Grown → Type 0
Grows limits tree None = IfSome tree (λ t. passes limits t ≡ true)
Grows limits tree (Some grown) = IsGrown limits tree grown

-- What is left for the trees on both sides of a condition.
pub record IsLeft (test : Condition) (limits left : Limits) : Type 0 where
  pub conditions : left.conditions + 1 ≡ limits.conditions
  pub nodes : left.nodes + term_size test.tree + 1 ≡ limits.nodes

-- Nothing is.
abbrev pub is_full : Condition → Limits → Bool
is_full test limits = nat_lt limits.nodes (term_size test.tree + 1) || nat_lt limits.conditions 1
