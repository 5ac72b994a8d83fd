use Rattle.std.proofs.Common.{ap, ◌++◌, ◌∙◌, append_assoc, codes, List, ℕ}
use Rattle.assembly_answers.specs.ReasonText.{reason_text}
use Rattle.assembly_reports.proofs.finding.append_skipped.Goals as goal

pub returns : goal.returns
returns c =
    c.in_ok-append_reason.ensures ∙ ap (λ (l : List ℕ). l ++ reason_text c.args.reason) c.in_ok-extend_from_slice.ensures.items
    ∙ append_assoc c.args.text.now.items (codes "not analysed: ") (reason_text c.args.reason)
