use Rattle.std.proofs.Common.{◌≡◌, drop}
use Rattle.std.specs.List.{filter_map}
use Rattle.symbolic_values.specs.Names.{paired_expr}
use Rattle.array_segments.specs.CommonBounds.{put_all}
use Rattle.array_segments.proofs.common_bounds.put_paired.Given as goal

abbrev pub invariant-loop-other : goal.invariant-loop-other
invariant-loop-other l =
    put_all l.ordered.items (filter_map (λ f. paired_expr l.pairs l.expr f) (drop l.other-index l.second))
    ≡ put_all l.initial.ordered.items (filter_map (λ f. paired_expr l.pairs l.expr f) l.second)
