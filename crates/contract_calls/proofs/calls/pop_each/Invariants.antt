use Rattle.std.proofs.Common.{◌≡◌}
use Rattle.std.specs.Option.{option_map}
use Rattle.contract_calls.specs.CallStates.{without_top}
use Rattle.contract_calls.proofs.calls.pop_each.Given as goal

abbrev pub invariant-loop : goal.invariant-loop
invariant-loop l = l.state ≡ option_map (without_top l.counter) l.initial.state
