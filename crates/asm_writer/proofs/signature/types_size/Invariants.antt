use Rattle.std.proofs.Common.{◌≡◌, ◌*◌, ◌≤◌, length, take}
use Rattle.std.specs.List.{flat_map}
use Rattle.asm_writer.specs.Signatures.{type_bytes}
use Rattle.asm_writer.proofs.signature.types_size.Given as goal

abbrev pub invariant-loop-place : goal.invariant-loop-place
invariant-loop-place l = record {
  is : l.size ≡ length (flat_map type_bytes (take l.place-index l.places));
  bound : l.size ≤ 2 * l.place-index;
}
