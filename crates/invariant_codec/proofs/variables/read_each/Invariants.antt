use Rattle.std.proofs.Common.{◌-◌, ◌≤◌, length}
use Rattle.invariant_codec.specs.Symbols.{var}
use Rattle.invariant_codec.proofs.Counted.{AreRead}
use Rattle.invariant_codec.proofs.variables.read_each.Given as goal

abbrev pub invariant-loop-variable : goal.invariant-loop-variable
invariant-loop-variable l =
    AreRead (λ before. (var l.symbols l.references).read l.bytes) l.count l.start l.variables.items
    (l.count - l._variable) l.at × (l.at ≤ length l.bytes)
