use Rattle.std.proofs.Common.{ap₂, ◌∙◌}
use Rattle.ensures_infer.specs.Candidates.{candidates_of}
use Rattle.assembly_reports.specs.InferredUnits.{unit_candidates}
use Rattle.assembly_reports.proofs.inferring.infer.Goals as goal

pub returns-in_ok-found-in-Analysed-clause-value : goal.returns-in_ok-found-in-Analysed-clause-value
unfolding unit_candidates
returns-in_ok-found-in-Analysed-clause-value g c =
    rw c.in-Analysed.is (c.from_vec-in-Analysed.ensures ∙ c.in_ok-found-in-Analysed.ensures.value
    ∙ ap₂ candidates_of c.in_ok-picked-in-Analysed.ensures.code c.in_ok-picked-in-Analysed.ensures.value)
