use Rattle.std.proofs.Common.{Bool, ℕ, ap, if◌then◌else◌, ◌∙◌}
use Rattle.std.specs.List.{list_all}
use Rattle.unit_builder.specs.Outcomes.{entries_of}
use Rattle.unit_verdicts.specs.Picks.{limit_pick}
use Rattle.assembly_reports.specs.CheckText.{is_proved}
use Rattle.assembly_reports.specs.Findings.{finding_in}
use Rattle.answer_lines.proofs.SingleLines.{summary_is_line}
use Rattle.assembly_reports.proofs.ReportedLines.{found_are_proved}
use Rattle.check_driver.proofs.gen_answer.summarise.Goals as goal

pub returns-clause-status : goal.returns-clause-status
returns-clause-status g c =
    let status : Bool → ℕ = λ proved. if proved then 0 else 1 in
    c.status_of.ensures ∙ ap (λ found. status (list_all (λ one. is_proved (finding_in one)) found)) c.deref-2.ensures.value
    ∙ ap status (found_are_proved (entries_of c.args.assembly.now) limit_pick c.in_ok-found.found.items c.in_ok-found.ensures.value)

pub returns-clause-one : goal.returns-clause-one
returns-clause-one g c = rw c.in_ok-summary_line.ensures (summary_is_line _)
