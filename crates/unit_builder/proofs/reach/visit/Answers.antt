use Rattle.std.proofs.Common.{rules, ap, subst, sym, ◌∙◌}
use Rattle.method_unit.specs.Units.{IsUnit}
use Rattle.unit_builder.specs.declared.entry.Outcome.TheVariants.{Analysed}
use Rattle.unit_builder.proofs.VisitLemmas.{visited, skipped}
use Rattle.unit_builder.proofs.reach.visit.Goals as goal

-- The unit is the one with its kinds, as contracts see that.
pub returns-in_ok-callees-in-Analysed-clause-told : goal.returns-in_ok-callees-in-Analysed-clause-told
returns-in_ok-callees-in-Analysed-clause-told c =
    let same = c.into_unit-unit.ensures in
    let kept = c.in_ok-unit.ensures.same in
    visited _ c.args.token c.requires.there c.into_unit-unit.result c.in_ok-callees-in-Analysed.callees
    (λ method found. ap Analysed same ∙ search rules)
    (λ method unit found is. (rw kept at c.in_ok-callees-in-Analysed.ensures.value) method unit (rw c.row.ensures.value found) is)
    (subst IsUnit (sym same) (search rules))

pub returns-in-Skipped-clause-told : goal.returns-in-Skipped-clause-told
returns-in-Skipped-clause-told c = skipped _ c.args.token c.requires.there c.in-Skipped.field-0 (λ method at. search rules)
