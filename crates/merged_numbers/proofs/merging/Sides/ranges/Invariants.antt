use Rattle.std.proofs.Common.{◌≡◌, drop}
use Rattle.merged_numbers.specs.Known.{known}
use Rattle.merged_numbers.specs.Merging.{merged_span, ranges_of}
use Rattle.merged_numbers.proofs.RangeLists.{behind}
use Rattle.merged_numbers.proofs.merging.Sides.ranges.Given as goal

abbrev pub invariant-loop-key : goal.invariant-loop-key
invariant-loop-key l =
    behind l.ranges.items (ranges_of (merged_span l.self.rule (known l.self.a) (known l.self.b)) (drop l.key-index l.self.keys.now))
    ≡ ranges_of (merged_span l.self.rule (known l.self.a) (known l.self.b)) l.self.keys.now
