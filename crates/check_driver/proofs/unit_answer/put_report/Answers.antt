use Rattle.std.proofs.Common.{◌≡◌, refl, sym, ap, subst, ◌∙◌, arith}
use Rattle.std.proofs.lemmas.Result.{err_from_is_err_and}
use Rattle.answer_lines.specs.Writing.{joined}
use Rattle.method_unit.specs.Units.{IsUnit}
use Rattle.assembly_reports.specs.ReportText.{unit_report}
use Rattle.answer_lines.proofs.Writings.{written_whole}
use Rattle.check_driver.proofs.CheckParts.{writes_no_memory}
use Rattle.unit_verdicts.proofs.Asking.{asks_nothing}
use Rattle.check_driver.proofs.unit_answer.put_report.Goals as goal

pub unit_lines-requires-clause-few : goal.unit_lines-requires-clause-few
unit_lines-requires-clause-few g c = rw c.deref-2.ensures.value (omega (arith, c.in_ok-found.ensures.value.within.few))

pub unit_lines-requires-clause-near : goal.unit_lines-requires-clause-near
unit_lines-requires-clause-near g c = rw c.deref-2.ensures.value c.in_ok-found.ensures.value.within.near

pub unit_lines-requires-clause-formed : goal.unit_lines-requires-clause-formed
unit_lines-requires-clause-formed g c = IsUnit.well_formed (subst IsUnit (sym c.in_ok-code.ensures.unit) c.requires)

pub put_lines-requires : goal.put_lines-requires
put_lines-requires g c = rw c.deref-3.ensures.value c.in_ok-lines.ensures.lines

pub returns-in_err-code-clause-asked : goal.returns-in_err-code-clause-asked
returns-in_err-code-clause-asked g c =
    let p = err_from_is_err_and c.from_residual.result c.from_residual.ensures.1 in
    asks_nothing _ c.from_residual.result p.0 _ _ p.1 refl

pub returns-clause-written : goal.returns-clause-written
returns-clause-written g c =
    let same : joined c.deref-3.result.now ≡ unit_report c.args.unit = ap joined c.deref-3.ensures.value ∙ c.in_ok-lines.ensures.text ∙ ap unit_report c.in_ok-code.ensures.unit in
    written_whole c.in_ok-put_lines.field-0 c.all_proved-proved.result _ _ _ same c.in_ok-put_lines.ensures

pub returns-in_err-found-clause-written : goal.returns-in_err-found-clause-written
returns-in_err-found-clause-written g c =
    let p = err_from_is_err_and c.from_residual-in_err-found.result c.from_residual-in_err-found.ensures.1 in
    rw (p.1, p.2) (writes_no_memory _ _ _ _)

pub returns-in_err-lines-clause-written : goal.returns-in_err-lines-clause-written
returns-in_err-lines-clause-written g c =
    let p = err_from_is_err_and c.from_residual-in_err-lines.result c.from_residual-in_err-lines.ensures.1 in
    rw (p.1, p.2) (writes_no_memory _ _ _ _)
