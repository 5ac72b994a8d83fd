-- Clauses at their limits, worked by hand: the nodes, the conditions on a way, and parts that stand in a tree more than
-- once.
use Rattle.std.proofs.Common.{◌≡◌, ℕ, zero, suc, ◌+◌, pos, true, false, List, [], ◌∷◌, ◌++◌, Some, refl}
use Rattle.cil_model.specs.ClauseTrees.{tree_of}
use Rattle.cil_model.specs.Terms.{Term, Const, Arg, Un, Old, Cond, term_size, old_count}
use Rattle.cil_model.specs.UnitCalls.{unit_call}
use Rattle.cil_model.specs.declared.instruction.Op.{Op}
use Rattle.cil_model.specs.declared.instruction.Op.TheVariants as ops
use Rattle.cil_model.specs.declared.instruction.Test.TheVariants as tests
use Rattle.cil_model.specs.declared.instruction.UnOp.TheVariants as unary
use Rattle.cil_model.proofs.Laid.{laid_from}
use Rattle.clause_faults.specs.TooLarge.{is_too_large}

-- A constant that is negated so often.
abbrev nested : ℕ → Term
nested zero = Const (pos 7)
nested (suc n) = Un unary.Neg (nested n)

-- A condition within a condition, so many of them.
abbrev chained : ℕ → Term
chained zero = Const (pos 1)
chained (suc n) = Cond (Arg 0) (chained n) (Const (pos 0))

-- So many conditions, one after another, whose sides are the same.
abbrev doubled : ℕ → Term → Term
doubled zero leaf = leaf
doubled (suc n) leaf = Cond (Arg 0) (doubled n leaf) (doubled n leaf)

nodes_4096 : is_too_large (nested 4095) ≡ false
nodes_4096 = refl

nodes_4097 : is_too_large (nested 4096) ≡ true
nodes_4097 = refl

conditions_10 : is_too_large (chained 10) ≡ false
conditions_10 = refl

conditions_11 : is_too_large (chained 11) ≡ true
conditions_11 = refl

-- Ten conditions over a leaf of two nodes are 4094 nodes, and over a leaf of three 5118.
shared_4094 : term_size (doubled 10 (nested 1)) ≡ 4094
shared_4094 = refl

shared_within : is_too_large (doubled 10 (nested 1)) ≡ false
shared_within = refl

shared_too_large : is_too_large (doubled 10 (nested 2)) ≡ true
shared_too_large = refl

-- An old value on both sides counts twice.
shared_old : old_count (doubled 3 (Old (Arg 0))) ≡ 8
shared_old = refl

-- ---- code

-- Branches to the next instruction, so many from an IL offset on, three bytes each.
abbrev branches : ℕ → ℕ → List (ℕ × Op)
branches zero at = []
branches (suc n) at = (1, ops.LoadArg 0) ∷ (2, ops.Branch tests.True (at + 3)) ∷ branches n (at + 3)

-- What follows both ways of each of them stands in the tree on both sides.
two_branches : tree_of (laid_from 0 (branches 2 0 ++ (1, ops.Const (pos 7)) ∷ (5, ops.Call 1) ∷ [])) 0 ≡ Some (doubled 2 (nested 0))
unfolding unit_call
two_branches = refl

ten_branches : tree_of (laid_from 0 (branches 10 0 ++ (1, ops.Const (pos 7)) ∷ (1, ops.Neg) ∷ (1, ops.Neg) ∷ (5, ops.Call 1) ∷ [])) 0 ≡ Some (doubled 10 (nested 2))
unfolding unit_call
ten_branches = refl
