use Rattle.std.proofs.Common.{length, ap, subst, sym, ◌∙◌}
use Rattle.asm_image.specs.Rows.{methods_of}
use Rattle.unit_builder.specs.Outcomes.{IfAnalysed}
use Rattle.method_unit.specs.Units.{IsUnit}
use Rattle.unit_verdicts.specs.Picks.{pick_from}
use Rattle.assembly_reports.proofs.FindAll.{there}
use Rattle.assembly_reports.proofs.InferredEntries.{lists_long, method_runs}
use Rattle.assembly_reports.proofs.Members.{contained_at}
use Rattle.assembly_reports.proofs.inferring.find_inferred.Goals as goal

pub inferred_outcome-requires : goal.inferred_outcome-requires
inferred_outcome-requires g c = record {
  alone = c.requires.alone;
  there = c.requires.there;
  each = ap length c.requires.inferred ∙ lists_long (pick_from c.args.cache.now.held) c.args.assembly.now;
  accepted = c.requires.accepted;
}

pub of-requires : goal.of-requires
of-requires g c =
    let asm = c.args.assembly.now in
    let pick = pick_from c.args.cache.now.held in
    let method = there (methods_of asm) c.args.index c.requires.there in
    subst (λ outcome. IfAnalysed outcome IsUnit) (sym (c.in_ok-outcome.ensures.value pick method.0 c.requires.inferred method.1))
    (method_runs pick asm c.requires.accepted c.requires.runnable method.0 (contained_at (methods_of asm) c.args.index method.0 method.1))
