use Rattle.std.proofs.Common.{ap, ◌∙◌}
use Rattle.unit_verdicts.specs.VerdictCache.{manner_of}
use Rattle.assembly_reports.specs.Labels.{labels_of}
use Rattle.assembly_reports.proofs.FoundWithin.{judged_within}
use Rattle.assembly_reports.proofs.finding.Finding.of.Goals as goal

pub returns-in_ok-labels-in-Analysed-clause-within : goal.returns-in_ok-labels-in-Analysed-clause-within
returns-in_ok-labels-in-Analysed-clause-within g c =
    judged_within (manner_of c.args.cache.now) c.in-Analysed.unit _ (rw c.in-Analysed.is at c.requires)
    (c.in_ok-labels-in-Analysed.ensures ∙ ap labels_of c.in_ok-unit-in-Analysed.ensures.unit) c.in_ok-unit-in-Analysed.ensures.value
