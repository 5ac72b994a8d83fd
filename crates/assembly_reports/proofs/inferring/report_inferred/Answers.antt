use Rattle.std.proofs.Common.{Bool, ℕ, map, refl, ap, if◌then◌else◌, ◌∙◌}
use Rattle.std.specs.List.{list_all}
use Rattle.std.proofs.lemmas.Result.{err_from_is_err_and}
use Rattle.assembly_answers.proofs.PlainTexts.{methods_plain}
use Rattle.unit_verdicts.specs.Asked.{Asks}
use Rattle.unit_verdicts.specs.Picks.{pick_from}
use Rattle.unit_verdicts.specs.VerdictCache.{CachedUnits, manner_of}
use Rattle.unit_verdicts.proofs.Asking.{asks_all, asks_prefix, asks_nothing}
use Rattle.assembly_reports.specs.CheckText.{all_shown, findings, is_proved}
use Rattle.assembly_reports.specs.Findings.{finding_in, shown_in}
use Rattle.assembly_reports.specs.InferredUnits.{inferred_entries, inferred_outcome}
use Rattle.assembly_reports.proofs.InferredReports.{both_asked, both_judged, first_prefix, held_same, lists_are, one_file, runs}
use Rattle.assembly_reports.proofs.ReportedLines.{found_are_proved}
use Rattle.assembly_reports.proofs.inferring.report_inferred.Goals as goal

pub infer_each-requires : goal.infer_each-requires
infer_each-requires g c = record { file = one_file _ c.args.assembly.now c.in_ok-units.ensures; keeps = c.requires.keeps }

pub find_each_inferred-requires : goal.find_each_inferred-requires
find_each_inferred-requires g c =
    let asm = c.args.assembly.now in
    let is = c.in_ok-units.ensures in
    let cache = c.args.cache.now in
    let mid = c.infer_each.new.cache in
    record {
      alone = c.infer_each.ensures.same ∙ is;
      inferred = c.deref.ensures.value ∙ lists_are _ asm cache mid is c.in_ok-inferred.ensures.cache _ c.in_ok-inferred.ensures.value;
      runnable = runs _ asm cache mid is c.in_ok-inferred.ensures.cache c.in_ok-inferred.ensures.runnable;
    }

pub file_lines-requires-clause-names : goal.file_lines-requires-clause-names
file_lines-requires-clause-names g c = rw c.methods.ensures.methods (methods_plain c.args.assembly.now)

pub returns-clause-status : goal.returns-clause-status
returns-clause-status g c =
    let asm = c.args.assembly.now in
    let held = held_same _ asm c.args.cache.now c.infer_each.new.cache c.in_ok-units.ensures c.in_ok-inferred.ensures.cache in
    let status : Bool → ℕ = λ proved. if proved then 0 else 1 in
    let pick = pick_from c.args.cache.now.held in
    let value = c.in_ok-found.ensures.value ∙ ap (λ h. findings (pick_from h) (inferred_entries (pick_from h) asm)) held in
    c.status_of.ensures ∙ ap (λ found. status (list_all (λ one. is_proved (finding_in one)) found)) c.deref-3.ensures.value
    ∙ ap status (found_are_proved (inferred_entries pick asm) pick c.in_ok-found.found.items value)

pub returns-clause-text : goal.returns-clause-text
unfolding inferred_entries
returns-clause-text g c =
    let asm = c.args.assembly.now in
    let cache = c.args.cache.now in
    let pick = pick_from cache.held in
    let judged = c.in_ok-inferred.ensures.cache in
    let held = held_same _ asm cache c.infer_each.new.cache c.in_ok-units.ensures judged in
    let value = ap (map finding_in) c.deref-2.ensures.value ∙ c.in_ok-found.ensures.value ∙ ap (λ h. findings (pick_from h) (inferred_entries (pick_from h) asm)) held in
    let shown = ap (map shown_in) c.deref-2.ensures.value ∙ c.in_ok-found.ensures.shown
    ∙ ap (λ (units : CachedUnits). all_shown (manner_of units) (inferred_entries (pick_from units.held) asm)) judged in
    rw c.methods.ensures.methods at c.in_ok-lines.ensures.text (inferred_outcome pick asm) (manner_of cache) value shown

pub returns-clause-reportable : goal.returns-clause-reportable
returns-clause-reportable g c =
    let asm = c.args.assembly.now in record {
      accepted = c.methods.ensures.accepted;
      runnable = runs _ asm c.args.cache.now c.infer_each.new.cache c.in_ok-units.ensures c.in_ok-inferred.ensures.cache c.in_ok-inferred.ensures.runnable;
    }

pub returns-clause-cache : goal.returns-clause-cache
returns-clause-cache g c =
    both_judged _ c.args.assembly.now c.args.cache.now c.infer_each.new.cache c.in_ok-units.ensures c.in_ok-inferred.ensures.cache _ c.in_ok-found.ensures.cache

-- ---- what was asked

pub returns-in_err-units-clause-asked : goal.returns-in_err-units-clause-asked
returns-in_err-units-clause-asked g c =
    let p = err_from_is_err_and c.from_residual.result c.from_residual.ensures.1 in
    asks_nothing _ c.from_residual.result p.0 _ _ p.1 refl

pub returns-in_err-inferred-clause-asked : goal.returns-in_err-inferred-clause-asked
returns-in_err-inferred-clause-asked g c =
    let p = err_from_is_err_and c.from_residual-in_err-inferred.result c.from_residual-in_err-inferred.ensures.1 in
    asks_prefix _ c.from_residual-in_err-inferred.result p.0 _ _ p.1
    (first_prefix _ c.args.assembly.now c.args.cache.now _ _ _ c.in_ok-units.ensures (Asks.prefix c.in_err-inferred.ensures.asked))

pub returns-in_err-found-clause-asked : goal.returns-in_err-found-clause-asked
returns-in_err-found-clause-asked g c =
    let p = err_from_is_err_and c.from_residual-in_err-found.result c.from_residual-in_err-found.ensures.1 in
    asks_prefix _ c.from_residual-in_err-found.result p.0 _ _ p.1
    (Asks.prefix (both_asked _ c.args.assembly.now c.args.cache.now c.infer_each.new.cache c.in_ok-units.ensures c.in_ok-inferred.ensures.cache _ _ _ _
    (Asks.whole c.in_ok-inferred.ensures.asked) c.in_err-found.ensures.asked))

pub returns-clause-asked : goal.returns-clause-asked
returns-clause-asked g c =
    asks_all _ _ _ _
    (Asks.whole (both_asked _ c.args.assembly.now c.args.cache.now c.infer_each.new.cache c.in_ok-units.ensures c.in_ok-inferred.ensures.cache _ _ _ _
    (Asks.whole c.in_ok-inferred.ensures.asked) c.in_ok-found.ensures.asked))

pub returns-in_err-lines-clause-asked : goal.returns-in_err-lines-clause-asked
returns-in_err-lines-clause-asked g c =
    let p = err_from_is_err_and c.from_residual-in_err-lines.result c.from_residual-in_err-lines.ensures.1 in
    asks_prefix _ c.from_residual-in_err-lines.result p.0 _ _ p.1
    (Asks.prefix (both_asked _ c.args.assembly.now c.args.cache.now c.infer_each.new.cache c.in_ok-units.ensures c.in_ok-inferred.ensures.cache _ _ _ _
    (Asks.whole c.in_ok-inferred.ensures.asked) c.in_ok-found.ensures.asked))
