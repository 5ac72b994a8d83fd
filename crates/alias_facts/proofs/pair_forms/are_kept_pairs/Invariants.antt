use Rattle.std.proofs.Common.{◌≡◌, None, drop}
use Rattle.alias_facts.proofs.Neighbours.{rise_behind}
use Rattle.alias_facts.proofs.pair_forms.are_kept_pairs.Given as goal

abbrev pub invariant-loop-pair : goal.invariant-loop-pair
invariant-loop-pair l = rise_behind l.previous (drop l.pair-index l.pairs) ≡ rise_behind None l.pairs
