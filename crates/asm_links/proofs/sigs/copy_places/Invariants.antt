use Rattle.std.proofs.Common.{◌≡◌, take}
use Rattle.asm_links.proofs.sigs.copy_places.Given as goal

abbrev pub invariant-loop-index : goal.invariant-loop-index
invariant-loop-index l = l.copy ≡ take l.index l.places
