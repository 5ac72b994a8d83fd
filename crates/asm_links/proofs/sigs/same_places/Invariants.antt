use Rattle.std.proofs.Common.{◌≡◌, drop, length}
use Rattle.asm_links.specs.Keys.{same_places}
use Rattle.asm_links.proofs.sigs.same_places.Given as goal

abbrev pub invariant-loop-index : goal.invariant-loop-index
invariant-loop-index l = (length l.a ≡ length l.b) × (same_places (drop l.index l.a) (drop l.index l.b) ≡ same_places l.a l.b)
