use Rattle.std.proofs.Common.{◌≡◌, drop}
use Rattle.std.specs.Prelude.{fold}
use Rattle.asm_links.specs.Keys.{places_input}
use Rattle.asm_links.proofs.sigs.hash_places.Given as goal

abbrev pub invariant-loop-index : goal.invariant-loop-index
invariant-loop-index g l = fold g.H.Hasher.write l.state (places_input (drop l.index l.places)) ≡ fold g.H.Hasher.write l.initial.state (places_input l.places)
