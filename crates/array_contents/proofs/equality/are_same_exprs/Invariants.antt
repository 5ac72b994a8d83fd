use Rattle.std.proofs.Common.{◌≡◌, length, take}
use Rattle.array_contents.proofs.equality.are_same_exprs.Given as goal

abbrev pub invariant-loop-index : goal.invariant-loop-index
invariant-loop-index l = record {
  same_length : length l.a ≡ length l.b;
  same_so_far : take l.index l.a ≡ take l.index l.b;
}
