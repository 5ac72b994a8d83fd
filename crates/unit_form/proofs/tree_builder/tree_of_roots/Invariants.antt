use Rattle.std.proofs.Common.{◌≡◌, ◌≤◌, length, map, reverse, take}
use Rattle.cil_model.specs.TermCodes.{terms_of}
use Rattle.unit_form.specs.Roots.{told}
use Rattle.unit_form.proofs.Taking.{terms_onto}
use Rattle.unit_form.proofs.tree_builder.tree_of_roots.Given as goal

abbrev pub invariant-loop-left : goal.invariant-loop-left
invariant-loop-left l = (terms_onto (map told (take l.left l.roots)) (reverse l.trees.items) ≡ terms_of (map told l.roots)) × (l.left ≤ length l.roots)

abbrev pub decreases-loop-left : goal.decreases-loop-left
decreases-loop-left l = l.left
