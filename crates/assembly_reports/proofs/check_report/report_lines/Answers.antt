use Rattle.std.proofs.Common.{◌≡◌, List, None, if◌then◌else◌, subst}
use Rattle.std.specs.Prelude.{IfOk, OnOk}
use Rattle.asm_image.specs.Faults.{FirstBroken}
use Rattle.answer_lines.specs.Writing.{joined}
use Rattle.unit_builder.specs.FileSets.{FileSet, files_in}
use Rattle.unit_builder.specs.declared.entry.MethodEntry.{MethodEntry}
use Rattle.unit_verdicts.specs.Asked.{Asks}
use Rattle.unit_verdicts.specs.Picks.{pick_from}
use Rattle.unit_verdicts.specs.VerdictCache.{manner_of}
use Rattle.assembly_reports.specs.JudgedUnits.{asked_for, judged_keys, with_judged}
use Rattle.assembly_reports.specs.CheckText.{report_text, are_proved}
use Rattle.assembly_reports.specs.Reportable.{CanRun}
use Rattle.assembly_reports.proofs.FindAll.{entries_of_alone, reportable_of}
use Rattle.assembly_reports.proofs.check_report.report_lines.Goals as goal

pub returns-clause-status : goal.returns-clause-status
returns-clause-status g c =
    rw c.if-infer.false
    (subst (λ (entries : List MethodEntry). IfOk c.report_file.result (λ report. report.status ≡ (if are_proved (pick_from c.args.cache.now.held) entries then 0 else 1)))
    (entries_of_alone _ c.args.assembly.now c.in_ok-units.ensures) c.report_file.ensures.status)

pub returns-clause-text : goal.returns-clause-text
returns-clause-text g c =
    rw c.if-infer.false
    (subst (λ (entries : List MethodEntry). IfOk c.report_file.result (λ report. joined report.lines.items ≡ report_text c.args.name.now (manner_of c.args.cache.now) entries))
    (entries_of_alone _ c.args.assembly.now c.in_ok-units.ensures) c.report_file.ensures.text)

pub returns-clause-reportable : goal.returns-clause-reportable
returns-clause-reportable g c =
    reportable_of c.report_file.result c.args.assembly.now
    (subst (λ (files : FileSet). IfOk c.report_file.result (λ _. FirstBroken ((files_in files).bytes 0) ≡ None)) c.in_ok-units.ensures c.report_file.ensures.accepted)
    (subst (λ (entries : List MethodEntry). IfOk c.report_file.result (λ _. CanRun entries)) (entries_of_alone _ c.args.assembly.now c.in_ok-units.ensures) c.report_file.ensures.runnable)

pub returns-clause-cache : goal.returns-clause-cache
returns-clause-cache g c =
    rw c.if-infer.false
    (subst (λ (entries : List MethodEntry). OnOk c.report_file.result (c.report_file.new.cache ≡ with_judged c.args.cache.now (judged_keys entries)))
    (entries_of_alone _ c.args.assembly.now c.in_ok-units.ensures) c.report_file.ensures.cache)

pub returns-clause-asked : goal.returns-clause-asked
returns-clause-asked g c =
    rw c.if-infer.false
    (subst (λ (entries : List MethodEntry). Asks (asked_for c.args.cache.now (judged_keys entries)) c.report_file.result (g.D.Finder.asked c.args.finder.now) (g.D.Finder.asked c.report_file.new.finder))
    (entries_of_alone _ c.args.assembly.now c.in_ok-units.ensures) c.report_file.ensures.asked)
