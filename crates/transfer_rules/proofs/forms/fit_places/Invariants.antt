use Rattle.std.proofs.Common.{◌≡◌, ◌+◌, drop, map}
use Rattle.transfer_rules.specs.FitTests.{fit_from}
use Rattle.transfer_rules.specs.Forms.{kind_in}
use Rattle.transfer_rules.proofs.forms.fit_places.Given as goal

abbrev pub invariant-loop-i : goal.invariant-loop-i
invariant-loop-i l =
    fit_from l.state (map kind_in l.places) l.first ≡ fit_from l.state (map kind_in (drop l.i l.places)) (l.first + l.i)
