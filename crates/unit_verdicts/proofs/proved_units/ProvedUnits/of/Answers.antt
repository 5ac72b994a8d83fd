use Rattle.std.proofs.Common.{◌≡◌, [], length, sym, ap, ◌∙◌, append-nil, arith}
use Rattle.std.specs.Vec.Iter.{into_iter_items}
use Rattle.proof_files.specs.Held.{entries_told}
use Rattle.unit_verdicts.proofs.Stating.{behind_next, entry_next, none_left, taken_next}
use Rattle.unit_verdicts.proofs.proved_units.ProvedUnits.of.Goals as goal

pub add-requires-clause-unit : goal.add-requires-clause-unit
add-requires-clause-unit c =
    let at = c.loop-entry in
    (entry_next at.units (into_iter_items at.entry-iterator) _ c.in-Some.entry c.in-Some.ensures.steps.0 at.invariant.1).entry.is_unit

pub add-requires-clause-new : goal.add-requires-clause-new
add-requires-clause-new c =
    let at = c.loop-entry in
    (entry_next at.units (into_iter_items at.entry-iterator) _ c.in-Some.entry c.in-Some.ensures.steps.0 at.invariant.1).new

pub loop-entry-preserved : goal.loop-entry-preserved
loop-entry-preserved c =
    let at = c.loop-entry in
    let steps = c.in-Some.ensures.steps.0 in (
      taken_next at.units _ (into_iter_items at.entry-iterator) _ c.in-Some.entry steps _ at.invariant.0 c.in_ok-add.ensures,
      behind_next at.units _ (into_iter_items at.entry-iterator) _ c.in-Some.entry steps at.invariant.1 c.in_ok-add.ensures,
      let was = at.invariant.2 in
          let gone = c.in-Some.ensures.steps.1 in
          let short = ap length steps in
          omega arith,
    )

pub returns : goal.returns
returns c =
    let at = c.loop-entry in
    let none = c.in-None.ensures.steps in
    let empty : into_iter_items at.entry-iterator ≡ [] = none_left _ (sym at.invariant.2 ∙ none.0) in
    sym (append-nil at.units) ∙ rw empty at at.invariant.0 ∙ ap entries_told c.into_iter-entry-iterator.ensures.into_iter_gives.0
