use Rattle.std.proofs.Common.{◌≡◌, drop}
use Rattle.merged_numbers.specs.Known.{known}
use Rattle.merged_numbers.specs.Merging.{own_span, ranges_of}
use Rattle.merged_numbers.proofs.RangeLists.{behind}
use Rattle.merged_numbers.proofs.normal.ranges_of.Given as goal

abbrev pub invariant-loop-key : goal.invariant-loop-key
invariant-loop-key l = behind l.ranges.items (ranges_of (own_span (known l.a)) (drop l.key-index l.keys)) ≡ ranges_of (own_span (known l.a)) l.keys
