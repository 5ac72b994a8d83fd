use Rattle.std.proofs.Common.{List, ap, ◌∙◌}
use Rattle.proof_files.specs.Proofs.{Entry}
use Rattle.unit_verdicts.specs.ProvedUnits.{states_for}
use Rattle.unit_verdicts.proofs.Stating.{got_for}
use Rattle.unit_verdicts.proofs.proved_units.ProvedUnits.get.Goals as goal

pub returns : goal.returns
returns c =
    got_for c.args.key.now c.self.inside.invariants.entries c.get.result c.self.invariant c.get.ensures.value
    ∙ ap (λ (entries : List Entry). states_for entries c.args.key.now) c.self.view_is
