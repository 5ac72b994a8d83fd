use Rattle.std.proofs.Common.{◌≡◌, Bool, ℕ, map, sym, ap, if◌then◌else◌, ◌∙◌}
use Rattle.std.specs.List.{list_all}
use Rattle.assembly_answers.proofs.PlainTexts.{methods_plain}
use Rattle.asm_image.specs.Rows.{methods_of}
use Rattle.unit_builder.specs.FileSets.{FileSet, files_in}
use Rattle.unit_builder.specs.Outcomes.{outcome_in}
use Rattle.unit_builder.specs.Scopes.{scope_in}
use Rattle.unit_verdicts.specs.Picks.{pick_from}
use Rattle.unit_verdicts.specs.VerdictCache.{manner_of}
use Rattle.assembly_reports.specs.CheckText.{all_shown, findings, is_proved, report_text}
use Rattle.assembly_reports.specs.Findings.{finding_in, shown_in}
use Rattle.assembly_reports.specs.InferredUnits.{entry_by}
use Rattle.assembly_reports.specs.Reportable.{entries_at}
use Rattle.assembly_reports.proofs.ReportedLines.{found_are_proved}
use Rattle.assembly_reports.proofs.check_report.report_file.Goals as goal

pub file_lines-requires-clause-names : goal.file_lines-requires-clause-names
file_lines-requires-clause-names g c = rw c.methods.ensures.methods (methods_plain _)

pub returns-clause-status : goal.returns-clause-status
returns-clause-status g c =
    let status : Bool → ℕ = λ proved. if proved then 0 else 1 in
    c.status_of.ensures ∙ ap (λ found. status (list_all (λ one. is_proved (finding_in one)) found)) c.deref-2.ensures.value
    ∙ ap status (found_are_proved (entries_at c.args.units.now c.args.file) (pick_from c.args.cache.now.held) c.in_ok-found.found.items c.in_ok-found.ensures.value)

pub returns-clause-text : goal.returns-clause-text
returns-clause-text g c =
    let files = files_in c.args.units.now in
    let manner = manner_of c.args.cache.now in
    let of = outcome_in (scope_in files c.args.file) in
    let rows = ap (λ (units : FileSet). methods_of ((files_in units).bytes c.args.file)) (sym c.find_each.ensures.same) ∙ sym c.methods.ensures.methods in
    let entries : entries_at c.args.units.now c.args.file ≡ map (entry_by of) c.methods.result.now = ap (map (entry_by of)) rows in
    let found = ap (map finding_in) c.deref.ensures.value ∙ c.in_ok-found.ensures.value ∙ ap (findings manner.pick) entries in
    let shown = ap (map shown_in) c.deref.ensures.value ∙ c.in_ok-found.ensures.shown ∙ ap (all_shown manner) entries in
    c.in_ok-lines.ensures.text of manner found shown ∙ ap (report_text c.args.name.now manner) (sym entries)
