use Rattle.std.proofs.Common.{◌≡◌, ◌+◌, drop}
use Rattle.contract_calls.specs.Arguments as rule
use Rattle.contract_calls.proofs.arguments.put_from.Given as goal

abbrev pub invariant-loop-place : goal.invariant-loop-place
invariant-loop-place l =
    (rule.put_from l.first l.places l.initial.state ≡ rule.put_from l.i (drop l.place-index l.places) l.state)
    × (l.i ≡ l.first + l.place-index)
