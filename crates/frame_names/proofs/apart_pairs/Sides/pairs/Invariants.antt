use Rattle.std.proofs.Common.{◌≡◌}
use Rattle.frame_names.specs.ApartPairs.{are_apart_in_both, pairs_by}
use Rattle.frame_names.proofs.apart_pairs.Sides.pairs.Given as goal

abbrev pub invariant-loop-before : goal.invariant-loop-before
invariant-loop-before l =
    l.apart ≡ pairs_by (are_apart_in_both l.self.keys.now l.self.a.now l.self.a_apart.now l.self.b.now l.self.b_apart.now) l.before
