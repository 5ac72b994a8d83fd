-- The lines of what is known in a state.
use Rattle.std.specs.Prelude.{ℕ, List, ◌++◌}
use Rattle.std.specs.List.{flat_map}
use Rattle.cil_model.specs.declared.unit.Unit.{Unit as MethodUnit}
use Rattle.state_facts.specs.StateFacts.{StateFacts}
use Rattle.invariant_text.specs.Lines.{numbered}
use Rattle.invariant_text.specs.ReferenceLines.{apart_line, reference_lines}
use Rattle.invariant_text.specs.SymbolLines.{bound_line, definition_line, symbol_line}
use Rattle.invariant_text.specs.VariableLines.{variable_line}

-- Variables, ranges of symbols, references, bounds, definitions, and which references are apart.
unfoldable pub state_lines : MethodUnit → StateFacts → List ℕ
state_lines unit known =
    numbered (variable_line unit) 0 known.variables
    ++ numbered symbol_line 1 known.facts.ranges
    ++ reference_lines 1 known.references known.contents
    ++ flat_map bound_line known.facts.bounds
    ++ flat_map definition_line known.facts.definitions
    ++ flat_map apart_line known.apart
