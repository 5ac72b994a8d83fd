use Rattle.std.proofs.Common.{◌≡◌, drop}
use Rattle.ensures_infer.specs.Rows.{least_of}
use Rattle.ensures_infer.proofs.rows.lowest.Given as goal

abbrev pub invariant-loop-range : goal.invariant-loop-range
invariant-loop-range l = least_of l.lo (drop l.range-index l.others) ≡ least_of l.initial.lo l.others
