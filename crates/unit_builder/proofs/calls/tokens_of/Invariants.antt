use Rattle.std.proofs.Common.{◌≡◌, map, take}
use Rattle.unit_builder.specs.Meanings.{as_token}
use Rattle.unit_builder.specs.Scopes.{token_in}
use Rattle.unit_builder.proofs.calls.tokens_of.Given as goal

abbrev pub invariant-loop-key : goal.invariant-loop-key
invariant-loop-key l = l.tokens.items ≡ map (λ key. as_token (token_in key)) (take l.key-index l.keys)
