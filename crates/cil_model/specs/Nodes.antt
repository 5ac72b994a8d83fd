-- Trees in memory, and the terms that they are.
use Rattle.cil_model.specs.Terms.{Term, Const, Arg, Null, Result, Len, Elem, Bin, Un, Old, Cond}
use Rattle.cil_model.specs.declared.tree.Node.{Node}
use Rattle.cil_model.specs.declared.tree.Node.TheVariants as nodes

-- The term of a tree's root and of the terms below it.
abbrev pub term_of : Node → Term
term_of (nodes.Const n) = Const n
term_of (nodes.Arg n) = Arg n
term_of nodes.Null = Null
term_of nodes.Result = Result
term_of (nodes.Len a) = Len a.value
term_of (nodes.Elem place a b) = Elem place a.value b.value
term_of (nodes.Bin operator a b) = Bin operator a.value b.value
term_of (nodes.Un operator a) = Un operator a.value
term_of (nodes.Old a) = Old a.value
term_of (nodes.Cond a b c) = Cond a.value b.value c.value
