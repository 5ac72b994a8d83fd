use Rattle.std.proofs.Common.{◌≡◌, ◌-◌, length}
use Rattle.signature_blobs.specs.Spelling.{SomeStand, SpellsPlaces}
use Rattle.signature_blobs.specs.Types.{types_at}
use Rattle.signature_blobs.proofs.Loop.{with_prefix}
use Rattle.signature_blobs.proofs.types.types_at.Given as goal

abbrev pub invariant-loop : goal.invariant-loop
invariant-loop l = record {
  number : length l.places ≡ l.counter;
  found : SomeStand (SpellsPlaces l.places) l.blob l.at l.next;
  so_far : with_prefix l.places (types_at l.blob l.next (l.count - l.counter)) ≡ types_at l.blob l.at l.count;
}
