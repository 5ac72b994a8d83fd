use Rattle.std.proofs.Common.{◌≡◌, ◌++◌, drop}
use Rattle.ensures_infer.specs.Rows.{below_each}
use Rattle.ensures_infer.proofs.rows.push_below.Given as goal

abbrev pub invariant-loop-i : goal.invariant-loop-i
invariant-loop-i l =
    l.rows.items ++ below_each l.measure l.i (drop l.i l.args) ≡ l.initial.rows.items ++ below_each l.measure 0 l.args
