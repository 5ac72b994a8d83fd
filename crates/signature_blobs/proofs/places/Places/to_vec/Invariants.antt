use Rattle.std.proofs.Common.{◌≡◌, take}
use Rattle.signature_blobs.proofs.places.Places.to_vec.Given as goal

abbrev pub invariant-loop-index : goal.invariant-loop-index
invariant-loop-index l = l.places.items ≡ take l.index l.self
