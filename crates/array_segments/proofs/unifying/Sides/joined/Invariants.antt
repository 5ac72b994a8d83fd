use Rattle.std.proofs.Common.{◌≡◌, ◌≤◌, ◌-◌, suc, length}
use Rattle.array_segments.specs.CommonBounds.{first_bound, later_places, origin_place, rows}
use Rattle.array_segments.specs.Growing.{begun, with_more}
use Rattle.array_segments.specs.Segments.{lists_of}
use Rattle.array_segments.specs.Unifying.{common_segments, make_of}
use Rattle.array_segments.proofs.unifying.Sides.joined.Given as goal

abbrev pub invariant-loop-place : goal.invariant-loop-place
invariant-loop-place g l =
    let a = lists_of l.self.first.now in
    let b = lists_of l.self.second.now in
    let left = common_segments g.C.Values.hull (make_of l.self.merge g.C.Values.hull g.C.Values.widened) g.C.Values.full l.self.pairs.now l.self.end (lists_of l.self.first.now) (lists_of l.self.second.now) in
    record {
      value : with_more (lists_of l.unifying.made) (left (record { first = l.unifying.first; second = l.unifying.second }) (rows l.place (suc (length a.contents) - l.place) (suc (length b.contents))))
          ≡ with_more (begun (first_bound l.self.pairs.now a b)) (left origin_place (later_places a b));
      first : l.unifying.first ≤ l.place;
      second : l.unifying.second ≤ length b.contents;
    }
