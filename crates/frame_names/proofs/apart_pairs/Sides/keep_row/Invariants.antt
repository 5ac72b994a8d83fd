use Rattle.std.proofs.Common.{◌≡◌, ◌-◌, ◌≤◌, ◌+◌}
use Rattle.std.specs.List.{fold, range_with_len}
use Rattle.frame_names.specs.ApartPairs.{are_apart_in_both, with_test}
use Rattle.frame_names.proofs.apart_pairs.Sides.keep_row.Given as goal

abbrev pub invariant-loop-lower : goal.invariant-loop-lower
invariant-loop-lower l = record {
  so_far : l.apart ≡ fold (with_test (are_apart_in_both l.self.keys.now l.self.a.now l.self.a_apart.now l.self.b.now l.self.b_apart.now) l.higher) l.initial.apart (range_with_len 1 (l.lower - 1));
  positive : 1 ≤ l.lower;
  within : l.lower ≤ 1 + (l.higher - 1);
}
