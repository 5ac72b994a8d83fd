-- The nodes of trees, and their old values.
use Rattle.std.proofs.Common.{◌<◌, ◌≤◌, arith}
use Rattle.cil_model.specs.Terms.{Term, Const, Arg, Null, Result, Len, Elem, Bin, Un, Old, Cond, term_size, old_count}

-- No more of them are old values.
pub old_within : (t : Term) → old_count t ≤ term_size t
old_within (Const n) = omega arith
old_within (Arg n) = omega arith
old_within Null = omega arith
old_within Result = omega arith
old_within (Len a) = omega (arith, old_within a)
old_within (Elem place a b) = omega (arith, old_within a, old_within b)
old_within (Bin operator a b) = omega (arith, old_within a, old_within b)
old_within (Un operator a) = omega (arith, old_within a)
old_within (Old a) = omega (arith, old_within a)
old_within (Cond a b c) = omega (arith, old_within a, old_within b, old_within c)

-- A tree has a node.
pub node_some : (t : Term) → 0 < term_size t
node_some (Const n) = omega arith
node_some (Arg n) = omega arith
node_some Null = omega arith
node_some Result = omega arith
node_some (Len a) = omega arith
node_some (Elem place a b) = omega arith
node_some (Bin operator a b) = omega arith
node_some (Un operator a) = omega arith
node_some (Old a) = omega arith
node_some (Cond a b c) = omega arith
