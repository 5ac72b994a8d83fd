use Rattle.std.proofs.Common.{◌≡◌, map, take}
use Rattle.invariant_checker.specs.Verdicts.{unproved}
use Rattle.invariant_checker.proofs.judging.all_unproved.Given as goal

abbrev pub invariant-loop-obligation : goal.invariant-loop-obligation
invariant-loop-obligation l = l.found.items ≡ map unproved (take l.obligation-index l.obligation-items)
