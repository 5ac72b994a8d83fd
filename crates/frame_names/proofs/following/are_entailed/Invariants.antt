use Rattle.std.proofs.Common.{◌≡◌, drop}
use Rattle.frame_names.specs.Following.{all_entailed}
use Rattle.frame_names.proofs.following.are_entailed.Given as goal

abbrev pub invariant-loop-index : goal.invariant-loop-index
invariant-loop-index l = all_entailed l.a (drop l.index l.b) (drop l.index l.bound) ≡ all_entailed l.a l.b l.bound
