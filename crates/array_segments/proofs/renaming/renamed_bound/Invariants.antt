use Rattle.std.proofs.Common.{◌≡◌, ◌++◌, drop}
use Rattle.std.specs.List.{filter_map}
use Rattle.symbolic_values.specs.Names.{renamed}
use Rattle.array_segments.proofs.renaming.renamed_bound.Given as goal

abbrev pub invariant-loop-expr : goal.invariant-loop-expr
invariant-loop-expr l = l.new.items ++ filter_map (renamed l.names) (drop l.expr-index l.bound) ≡ filter_map (renamed l.names) l.bound
