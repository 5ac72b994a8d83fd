use Rattle.std.proofs.Common.{◌≡◌, [], ◌∷◌, drop, map}
use Rattle.symbolic_values.specs.FirstUses.{first_uses}
use Rattle.symbolic_values.specs.Pairing.{origin, same_key, symbol_use}
use Rattle.symbolic_values.proofs.pairing.symbol_keys.Given as goal

abbrev pub invariant-loop-index : goal.invariant-loop-index
invariant-loop-index l =
    first_uses same_key (origin ∷ l.uses) (drop l.index (map symbol_use l.exprs)) ≡ first_uses same_key (origin ∷ []) (map symbol_use l.exprs)
