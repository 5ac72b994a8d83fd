use Rattle.std.proofs.Common.{◌≡◌, drop}
use Rattle.std.specs.List.{fold}
use Rattle.array_segments.proofs.load.hull_of.Given as goal

abbrev pub invariant-loop-content : goal.invariant-loop-content
invariant-loop-content g l = fold g.C.Values.hull l.hull (drop l.content-index l.others) ≡ fold g.C.Values.hull l.initial.hull l.initial.others
