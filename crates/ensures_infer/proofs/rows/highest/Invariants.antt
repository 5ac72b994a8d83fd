use Rattle.std.proofs.Common.{◌≡◌, drop}
use Rattle.ensures_infer.specs.Rows.{greatest_of}
use Rattle.ensures_infer.proofs.rows.highest.Given as goal

abbrev pub invariant-loop-range : goal.invariant-loop-range
invariant-loop-range l = greatest_of l.hi (drop l.range-index l.others) ≡ greatest_of l.initial.hi l.others
