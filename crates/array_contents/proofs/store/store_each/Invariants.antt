use Rattle.std.proofs.Common.{◌≡◌, map}
use Rattle.std.specs.List.{AllByRecursion}
use Rattle.array_segments.specs.SegmentLists.{HasForm}
use Rattle.array_segments.specs.Segments.{lists_of}
use Rattle.array_contents.specs.Storing.{weakly_each}
use Rattle.array_contents.proofs.StoringSteps.{weakly_from}
use Rattle.array_contents.proofs.store.store_each.Given as goal

abbrev pub invariant-loop-place : goal.invariant-loop-place
invariant-loop-place g l = record {
  form : AllByRecursion HasForm (map lists_of l.segments);
  done : weakly_from (g.O.Order.gap l.order) l.at l.value l.place l.others (map lists_of l.segments)
      ≡ weakly_each (g.O.Order.gap l.order) l.at l.value l.others (map lists_of l.initial.segments);
}
