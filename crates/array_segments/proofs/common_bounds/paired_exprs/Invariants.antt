use Rattle.std.proofs.Common.{◌≡◌, [], drop}
use Rattle.array_segments.specs.CommonBounds.{paired_exprs, put_all}
use Rattle.array_segments.proofs.common_bounds.paired_exprs.Given as goal

abbrev pub invariant-loop-expr : goal.invariant-loop-expr
invariant-loop-expr l =
    put_all l.ordered.items (paired_exprs l.pairs (drop l.expr-index l.first) l.second) ≡ put_all [] (paired_exprs l.pairs l.first l.second)
