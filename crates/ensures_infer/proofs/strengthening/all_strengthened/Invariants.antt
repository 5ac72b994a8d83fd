use Rattle.std.proofs.Common.{◌≡◌, ◌++◌, drop}
use Rattle.safe_worlds.specs.Strengthened.{with_each}
use Rattle.ensures_infer.proofs.strengthening.all_strengthened.Given as goal

abbrev pub invariant-loop-i : goal.invariant-loop-i
invariant-loop-i l =
    l.all.items ++ with_each (drop l.i l.callees) (drop l.i l.added) ≡ with_each l.callees l.added
