use Rattle.std.proofs.Common.{◌≡◌, ◌≤◌, length}
use Rattle.merged_numbers.specs.Known.{known}
use Rattle.merged_numbers.specs.Merging.{own_gap, rows_of}
use Rattle.merged_numbers.proofs.normal.Own.add_rows.Given as goal

abbrev pub invariant-loop-i : goal.invariant-loop-i
invariant-loop-i l = record {
  so_far : l.bounds ≡ rows_of (own_gap (known l.self.a)) l.self.keys.now l.self.ranges.now l.i l.initial.bounds;
  within : l.i ≤ length l.self.keys.now;
}
