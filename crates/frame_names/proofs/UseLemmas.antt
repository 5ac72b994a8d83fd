-- First uses.
use Rattle.std.proofs.Common.{List, [], ◌∷◌}
use Rattle.std.specs.List.{AllByRecursion}
use Rattle.symbolic_values.specs.declared.pairs.Key.{Key}
use Rattle.symbolic_values.specs.FirstUses.{noted, first_uses}
use Rattle.symbolic_values.specs.Pairing.{behind_first, same_key}
use Rattle.symbolic_values.proofs.Noting.{all_noted}

-- What is so of each use is so of the first uses.
pub all_first : (P : Key → Type 0) (known us : List Key) → AllByRecursion P known → AllByRecursion P us → AllByRecursion P (first_uses same_key known us)
all_first P known [] all rest = all
all_first P known (u ∷ us) all rest = all_first P (noted same_key known u) us (all_noted same_key P known u all rest.0) rest.1

pub all_behind : (P : Key → Type 0) (us : List Key) → AllByRecursion P us → AllByRecursion P (behind_first us)
all_behind P [] all = tt
all_behind P (u ∷ us) all = all.1
