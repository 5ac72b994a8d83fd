use Rattle.std.proofs.Common.{◌≡◌, length, map, take}
use Rattle.array_contents.proofs.equality.are_same_bounds.Given as goal

abbrev pub invariant-loop-index : goal.invariant-loop-index
invariant-loop-index l = record {
  same_length : length l.a ≡ length l.b;
  same_so_far : map (λ bound. bound.items) (take l.index l.a) ≡ map (λ bound. bound.items) (take l.index l.b);
}
