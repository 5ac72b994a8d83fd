use Rattle.std.proofs.Common.{◌≡◌, ◌-◌, true}
use Rattle.std.specs.List.{list_all}
use Rattle.alias_facts.specs.KeptPairs.{lower_first}
use Rattle.alias_facts.specs.PairsOf.{contains, kept_pairs, pairs_up_to}
use Rattle.alias_facts.proofs.kept.has_row.Given as goal

abbrev pub invariant-loop-lower : goal.invariant-loop-lower
invariant-loop-lower l = list_all (contains (kept_pairs (lower_first l.rows) l.marks)) (pairs_up_to (l.lower - 1) l.reference) ≡ true
