use Rattle.std.proofs.Common.{◌≡◌, drop, length}
use Rattle.std.specs.List.{AllByRecursion}
use Rattle.invariant_text.specs.Shape.{IsPrintableState}
use Rattle.invariant_reader.specs.Reading.{HasParts}
use Rattle.invariant_reader.proofs.BlockReads.{BlocksLeft}
use Rattle.invariant_reader.proofs.blocks.read_blocks.Given as goal

abbrev pub invariant-loop-at : goal.invariant-loop-at
invariant-loop-at l = record {
  left : BlocksLeft l.blocks l.text (drop l.at-index l.blocks) l.states.items l.rest;
  count : length l.states.items ≡ l.at-index;
  printable : AllByRecursion IsPrintableState l.states.items;
  ordered : AllByRecursion HasParts l.states.items;
}
