use Rattle.std.proofs.Common.{◌≡◌, map, drop}
use Rattle.std.specs.List.{list_all}
use Rattle.array_segments.specs.FormTest.{has_few}
use Rattle.array_segments.proofs.form.all_have_few.Given as goal

abbrev pub invariant-loop-bound : goal.invariant-loop-bound
invariant-loop-bound l =
    list_all has_few (map (λ bound. bound.items) (drop l.bound-index l.bounds)) ≡ list_all has_few (map (λ bound. bound.items) l.bounds)
