use Rattle.std.proofs.Common.{◌≡◌, ◌≤◌, ◌-◌, ◌++◌, suc, List, length}
use Rattle.array_segments.specs.CommonBounds.{Place, row}
use Rattle.array_segments.specs.Growing.{with_more}
use Rattle.array_segments.specs.Segments.{lists_of}
use Rattle.array_segments.specs.Unifying.{common_segments, make_of}
use Rattle.array_segments.proofs.unifying.Unifying.take_row.Given as goal

abbrev pub invariant-loop-second : goal.invariant-loop-second
invariant-loop-second g l =
    let left = common_segments g.C.Values.hull (make_of l.sides.merge g.C.Values.hull g.C.Values.widened) g.C.Values.full l.sides.pairs.now l.sides.end (lists_of l.sides.first.now) (lists_of l.sides.second.now) in
    let width = suc (length l.sides.second.now.contents.items) in
    record {
      value : (rest : List Place) →
          with_more (lists_of l.self.made) (left (record { first = l.self.first; second = l.self.second }) (row l.first l.second (width - l.second) ++ rest))
          ≡ with_more (lists_of l.initial.self.made) (left (record { first = l.initial.self.first; second = l.initial.self.second }) (row l.first l.from (width - l.from) ++ rest));
      first : l.self.first ≤ l.first;
      second : l.self.second ≤ l.second;
      inside : l.self.second ≤ length l.sides.second.now.contents.items;
    }
