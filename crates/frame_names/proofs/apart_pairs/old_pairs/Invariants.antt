use Rattle.std.proofs.Common.{◌≡◌}
use Rattle.frame_names.specs.ApartPairs.{pairs_by, were_kept}
use Rattle.frame_names.proofs.apart_pairs.old_pairs.Given as goal

abbrev pub invariant-loop-before : goal.invariant-loop-before
invariant-loop-before l = l.apart ≡ pairs_by (were_kept l.keys l.kept) l.before
