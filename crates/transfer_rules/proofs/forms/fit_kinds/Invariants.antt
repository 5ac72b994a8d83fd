use Rattle.std.proofs.Common.{◌≡◌, ◌+◌, drop}
use Rattle.transfer_rules.specs.FitTests.{fit_from}
use Rattle.transfer_rules.proofs.forms.fit_kinds.Given as goal

abbrev pub invariant-loop-i : goal.invariant-loop-i
invariant-loop-i l = fit_from l.state l.kinds l.first ≡ fit_from l.state (drop l.i l.kinds) (l.first + l.i)
