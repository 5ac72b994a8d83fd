use Rattle.std.proofs.Common.{◌≡◌}
use Rattle.array_segments.specs.Storing.{changed_between}
use Rattle.array_segments.proofs.store.add_between.Given as goal

abbrev pub invariant-loop-place : goal.invariant-loop-place
invariant-loop-place g l =
    changed_between (λ content. g.C.Values.hull content l.value) l.place l.to l.contents ≡ changed_between (λ content. g.C.Values.hull content l.value) l.from l.to l.initial.contents
