use Rattle.std.proofs.Common.{◌≡◌, List, map, subst}
use Rattle.std.specs.Prelude.{IfOk, OnOk}
use Rattle.unit_builder.specs.declared.entry.MethodEntry.{MethodEntry}
use Rattle.unit_verdicts.specs.Asked.{Asks}
use Rattle.unit_verdicts.specs.Picks.{pick_from}
use Rattle.unit_verdicts.specs.VerdictCache.{manner_of}
use Rattle.assembly_reports.specs.JudgedUnits.{asked_for, judged_keys, with_judged}
use Rattle.assembly_reports.specs.CheckText.{all_shown, findings}
use Rattle.assembly_reports.specs.Findings.{finding_in, shown_in}
use Rattle.assembly_reports.specs.Reportable.{CanRun}
use Rattle.assembly_reports.proofs.FindAll.{entries_of_alone}
use Rattle.assembly_reports.proofs.check_report.find_all.Goals as goal

pub returns-clause-value : goal.returns-clause-value
returns-clause-value g c =
    subst (λ (entries : List MethodEntry). IfOk c.find_each.result (λ found. map finding_in found.items ≡ findings (pick_from c.args.cache.now.held) entries))
    (entries_of_alone _ c.args.assembly.now c.in_ok-units.ensures) c.find_each.ensures.value

pub returns-clause-shown : goal.returns-clause-shown
returns-clause-shown g c =
    subst (λ (entries : List MethodEntry). IfOk c.find_each.result (λ found. map shown_in found.items ≡ all_shown (manner_of c.args.cache.now) entries))
    (entries_of_alone _ c.args.assembly.now c.in_ok-units.ensures) c.find_each.ensures.shown

pub returns-clause-runnable : goal.returns-clause-runnable
returns-clause-runnable g c =
    subst (λ (entries : List MethodEntry). IfOk c.find_each.result (λ _. CanRun entries)) (entries_of_alone _ c.args.assembly.now c.in_ok-units.ensures) c.find_each.ensures.runnable

pub returns-clause-cache : goal.returns-clause-cache
returns-clause-cache g c =
    subst (λ (entries : List MethodEntry). OnOk c.find_each.result (c.find_each.new.cache ≡ with_judged c.args.cache.now (judged_keys entries)))
    (entries_of_alone _ c.args.assembly.now c.in_ok-units.ensures) c.find_each.ensures.cache

pub returns-clause-asked : goal.returns-clause-asked
returns-clause-asked g c =
    subst (λ (entries : List MethodEntry). Asks (asked_for c.args.cache.now (judged_keys entries)) c.find_each.result (g.D.Finder.asked c.args.finder.now) (g.D.Finder.asked c.find_each.new.finder))
    (entries_of_alone _ c.args.assembly.now c.in_ok-units.ensures) c.find_each.ensures.asked
