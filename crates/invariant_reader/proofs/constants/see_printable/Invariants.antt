use Rattle.std.proofs.Common.{take}
use Rattle.std.specs.List.{AllByRecursion}
use Rattle.invariant_text.specs.Shape.{IsPrintableState}
use Rattle.invariant_reader.specs.Reading.{HasParts}
use Rattle.invariant_reader.proofs.constants.see_printable.Given as goal

abbrev pub invariant-loop-state : goal.invariant-loop-state
invariant-loop-state l =
    AllByRecursion IsPrintableState (take l.state-index l.states) × AllByRecursion HasParts (take l.state-index l.states)
