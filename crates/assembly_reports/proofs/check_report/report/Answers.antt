use Rattle.std.proofs.Common.{◌≡◌, ℕ, false, List, map, sym, ap, subst, ◌∙◌}
use Rattle.std.specs.Prelude.{IfOk}
use Rattle.answer_lines.specs.Writing.{joined}
use Rattle.assembly_answers.proofs.PlainTexts.{methods_plain}
use Rattle.unit_builder.specs.Outcomes.{entries_of, outcome_of}
use Rattle.unit_verdicts.specs.Picks.{limit_manner, limit_pick}
use Rattle.assembly_reports.specs.CheckText.{all_shown, check_text, findings, report_text}
use Rattle.assembly_reports.specs.Findings.{finding_in, shown_in}
use Rattle.assembly_reports.specs.InferredUnits.{entry_by}
use Rattle.assembly_reports.proofs.check_report.report.Goals as goal

pub file_lines-requires-clause-names : goal.file_lines-requires-clause-names
file_lines-requires-clause-names g c = rw c.methods.ensures.methods (methods_plain c.args.assembly.now)

pub returns-clause-value : goal.returns-clause-value
unfolding entries_of
returns-clause-value g c =
    let asm = c.args.assembly.now in
    let manner = limit_manner c.args.show in
    let of = outcome_of asm in
    let entries : entries_of asm ≡ map (entry_by of) c.methods.result.now = ap (map (entry_by of)) (sym c.methods.ensures.methods) in
    let found = ap (map finding_in) c.deref.ensures.value ∙ c.in_ok-found.ensures.value ∙ ap (findings limit_pick) entries in
    let shown = ap (map shown_in) c.deref.ensures.value ∙ c.in_ok-found.ensures.shown ∙ ap (all_shown manner) entries in
    let same : joined c.in_ok-lines.lines.items ≡ check_text false c.args.name.now manner asm =
    c.in_ok-lines.ensures.text of manner found shown ∙ ap (report_text c.as_bytes.result.now manner) (sym entries)
    ∙ ap (λ (name : List ℕ). check_text false name manner asm) c.as_bytes.ensures.value in
    subst (λ (t : List ℕ). IfOk c.text_of.result (λ text. text.items ≡ t)) same (rw c.deref-2.ensures.value at c.text_of.ensures)
