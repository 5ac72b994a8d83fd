use Rattle.std.proofs.Common.{◌≡◌}
use Rattle.witness_search.specs.Searches.{HasTried, search_limits}
use Rattle.witness_search.proofs.method_search.first_fault.Given as goal

abbrev pub invariant-loop-tried : goal.invariant-loop-tried
invariant-loop-tried l =
    (l.machine.world ≡ l.initial.machine.world) × (l.machine.limits ≡ search_limits)
    × HasTried l.initial.machine.world l.unit l.initial.lists l.tried l.started l.lists
