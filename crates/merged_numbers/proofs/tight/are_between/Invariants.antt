use Rattle.std.proofs.Common.{◌≡◌, drop}
use Rattle.merged_numbers.specs.Rows.{are_between}
use Rattle.merged_numbers.proofs.tight.are_between.Given as goal

abbrev pub invariant-loop-s : goal.invariant-loop-s
invariant-loop-s l = are_between (drop l.s l.ends) (drop l.s l.spans) ≡ are_between l.ends l.spans
