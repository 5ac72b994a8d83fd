use Rattle.std.proofs.Common.{◌≡◌, ◌-◌, ◌≤◌, length}
use Rattle.unit_form.specs.Callees.{next_clause, olds_in}
use Rattle.unit_form.proofs.Counted.{AreRead}
use Rattle.unit_form.proofs.clauses.read_each.Given as goal

abbrev pub invariant-loop-clause : goal.invariant-loop-clause
invariant-loop-clause l =
    AreRead (next_clause l.list l.form l.args l.result_place l.bytes) l.count l.start l.clauses.items (l.count - l._clause) l.at
    × (l.at ≤ length l.bytes) × (l.olds ≡ olds_in l.clauses.items) × (l.olds ≤ 64)
