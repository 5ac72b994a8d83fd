use Rattle.std.proofs.Common.{◌-◌, ◌≤◌, length}
use Rattle.invariant_codec.specs.Numbers.{expr}
use Rattle.invariant_codec.proofs.Counted.{AreRead}
use Rattle.invariant_codec.proofs.bounds.read_each.Given as goal

abbrev pub invariant-loop-expr : goal.invariant-loop-expr
invariant-loop-expr l =
    AreRead (λ before. (expr l.symbols).read l.bytes) l.count l.start l.exprs.items (l.count - l._expr) l.at
    × (l.at ≤ length l.bytes)
