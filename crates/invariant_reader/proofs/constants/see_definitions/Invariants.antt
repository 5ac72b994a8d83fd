use Rattle.std.proofs.Common.{take}
use Rattle.std.specs.List.{AllByRecursion}
use Rattle.invariant_text.specs.Shape.{IsShortDef}
use Rattle.invariant_reader.proofs.constants.see_definitions.Given as goal

abbrev pub invariant-loop-definition : goal.invariant-loop-definition
invariant-loop-definition l = AllByRecursion (λ d. IsShortDef d.1) (take l.definition-index l.definitions)
