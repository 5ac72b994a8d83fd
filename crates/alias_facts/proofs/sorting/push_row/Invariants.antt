use Rattle.std.proofs.Common.{◌≡◌, ◌+◌, ◌-◌, ◌≤◌, ◌||◌}
use Rattle.alias_facts.specs.PairsOf.{Pair, contains, pairs_up_to}
use Rattle.alias_facts.proofs.sorting.push_row.Given as goal

abbrev pub invariant-loop-lower : goal.invariant-loop-lower
invariant-loop-lower l = record {
  so_far : (q : Pair) → contains l.pairs.items q ≡ (contains (pairs_up_to (l.lower - 1) l.reference) q || contains l.initial.pairs.items q);
  positive : 1 ≤ l.lower;
  within : l.lower ≤ 1 + (l.reference - 1);
}
