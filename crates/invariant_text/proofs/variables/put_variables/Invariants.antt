use Rattle.std.proofs.Common.{◌≡◌, ◌++◌, drop}
use Rattle.invariant_text.specs.Lines.{numbered}
use Rattle.invariant_text.specs.VariableLines.{variable_line}
use Rattle.invariant_text.proofs.variables.put_variables.Given as goal

abbrev pub invariant-loop-index : goal.invariant-loop-index
invariant-loop-index l =
    l.out.items ++ numbered (variable_line l.unit) l.index (drop l.index l.variables)
    ≡ l.initial.out.items ++ numbered (variable_line l.unit) 0 l.variables
