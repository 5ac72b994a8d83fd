use Rattle.std.proofs.Common.{◌≡◌, ◌≤◌, length}
use Rattle.merged_numbers.specs.Known.{known}
use Rattle.merged_numbers.specs.Merging.{own_gap, row_of}
use Rattle.merged_numbers.proofs.normal.Own.add_row.Given as goal

abbrev pub invariant-loop-j : goal.invariant-loop-j
invariant-loop-j l = record {
  so_far : l.bounds ≡ row_of (own_gap (known l.self.a)) l.self.keys.now l.self.ranges.now l.i l.j l.initial.bounds;
  within : l.j ≤ length l.self.keys.now;
}
