-- The constants of a tree are those of its parts.
use Rattle.std.proofs.Common.{List, [], ◌∷◌, ◌++◌}
use Rattle.std.specs.List.{AllByRecursion}
use Rattle.cil_model.specs.TermCodes.{Root}
use Rattle.cil_model.specs.WellFormed.{HasInts, IsIntRoot}
use Rattle.cil_model.specs.declared.clause.Clause.{Clause}

pub ints_behind : (prefix rest : List Root) → AllByRecursion IsIntRoot prefix → AllByRecursion IsIntRoot rest → AllByRecursion IsIntRoot (prefix ++ rest)
ints_behind [] rest first second = second
ints_behind (root ∷ prefix) rest first second = (first.0, ints_behind prefix rest first.1 second)

pub one_more : (clauses : List Clause) (clause : Clause) → AllByRecursion HasInts clauses → HasInts clause → AllByRecursion HasInts (clauses ++ clause ∷ [])
one_more [] clause all last = (last, tt)
one_more (first ∷ clauses) clause all last = (all.0, one_more clauses clause all.1 last)
