use Rattle.std.proofs.Common.{◌≡◌, map, drop}
use Rattle.unit_builder.specs.Met.{all_met}
use Rattle.unit_builder.proofs.met.Met.meet_all.Given as goal

abbrev pub invariant-loop-token : goal.invariant-loop-token
invariant-loop-token l =
    (l.self.count ≡ l.initial.self.count)
    × (all_met l.self.tokens (map (λ token. token.0) (drop l.token-index l.tokens)) ≡ all_met l.initial.self.tokens (map (λ token. token.0) l.tokens))
