use Rattle.std.proofs.Common.{ℕ, List, ◌++◌, ap, sym, ◌∙◌}
use Rattle.std.specs.List.{flat_map}
use Rattle.std.proofs.lemmas.Iterator.{YieldsList-from_slice, YieldsList-from_zip}
use Rattle.std.proofs.lemmas.Iterator.Consumers.{YieldsList-at, YieldsList-end}
use Rattle.std.proofs.lemmas.List.Folds.{flat_map-map}
use Rattle.assembly_reports.specs.Findings.{found_lines}
use Rattle.answer_lines.specs.Writing.{joined}
use Rattle.assembly_reports.proofs.check_report.append_findings.Goals as goal

pub returns-clause-text : goal.returns-clause-text
returns-clause-text c =
    let road = YieldsList-from_zip (YieldsList-at c.zip-method-items.ensures.first (YieldsList-from_slice c.args.methods.now c.iter.ensures.rest)) (YieldsList-at c.zip-method-items.ensures.second (YieldsList-from_slice c.args.found.now c.iter-2.ensures.rest)) in
    let end = YieldsList-end (YieldsList-at c.into_iter-method-iterator.ensures.into_iter_gives road) c.loop-method.yielded c.loop-method.method-iterator c.loop-method.yielded_by c.next.result c.next.new.self c.in-None.is c.next.ensures.steps in
    c.loop-method.invariant.text ∙ ap (λ (l : List ℕ). joined c.args.lines.now.items ++ l) (sym (flat_map-map found_lines (λ pair. (pair.0.now, pair.1.now)) c.loop-method.yielded) ∙ ap (flat_map found_lines) end.0)
