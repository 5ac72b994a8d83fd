use Rattle.std.proofs.Common.{◌+◌, ◌-◌, ◌*◌, ◌≤◌, length, map}
use Rattle.unit_form.specs.Roots.{told}
use Rattle.unit_form.proofs.RootsRead.{RootsLeft}
use Rattle.unit_form.proofs.tree_reader.read_roots.Given as goal

abbrev pub invariant-loop-root : goal.invariant-loop-root
invariant-loop-root l =
    RootsLeft l.form l.bytes l.start (map told l.roots.items) (length l.bytes - l._root) l.trees l.at × (l.at ≤ length l.bytes) × (l.trees ≤ 1 + 2 * l._root)
