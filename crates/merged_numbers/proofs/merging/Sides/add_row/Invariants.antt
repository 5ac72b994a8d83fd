use Rattle.std.proofs.Common.{◌≡◌, ◌≤◌, length}
use Rattle.merged_numbers.specs.Known.{known}
use Rattle.merged_numbers.specs.Merging.{merged_gap, row_of}
use Rattle.merged_numbers.proofs.merging.Sides.add_row.Given as goal

abbrev pub invariant-loop-j : goal.invariant-loop-j
invariant-loop-j l = record {
  so_far : l.bounds ≡ row_of (merged_gap l.self.rule (known l.self.a) (known l.self.b)) l.self.keys.now l.ranges l.i l.j l.initial.bounds;
  within : l.j ≤ length l.self.keys.now;
}
