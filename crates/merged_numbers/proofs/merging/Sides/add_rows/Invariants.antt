use Rattle.std.proofs.Common.{◌≡◌, ◌≤◌, length}
use Rattle.merged_numbers.specs.Known.{known}
use Rattle.merged_numbers.specs.Merging.{merged_gap, rows_of}
use Rattle.merged_numbers.proofs.merging.Sides.add_rows.Given as goal

abbrev pub invariant-loop-i : goal.invariant-loop-i
invariant-loop-i l = record {
  so_far : l.bounds ≡ rows_of (merged_gap l.self.rule (known l.self.a) (known l.self.b)) l.self.keys.now l.ranges l.i l.initial.bounds;
  within : l.i ≤ length l.self.keys.now;
}
