use Rattle.std.proofs.Common.{rules}
use Rattle.cil_model.specs.declared.place.Kind.TheVariants.{Int}
use Rattle.stack_typer.proofs.MergeLemmas.{merging_begins, merging_changes, merging_keeps}
use Rattle.stack_typer.proofs.merging.merge_into.Goals as goal
use Rattle.stack_typer.proofs.merging.merge_into.Goals.{in-Some, in_default}

pub loop-index-init : goal.loop-index-init
loop-index-init c = merging_begins _ _ (cc)

pub loop-index-preserved : goal.loop-index-preserved
loop-index-preserved c =
    elim c.match-changed_kind.branch [
      | in-Some w ↦ rw (w.before-is, w.changed-is) (merging_changes _ _ _ _ _ Int Int _ (search rules) (search rules) c.loop-index.invariant)
      | in_default w ↦ rw (w.before-is, w.changed-is) (merging_keeps _ _ _ _ _ Int Int (search rules) (search rules) c.loop-index.invariant)
    ]
