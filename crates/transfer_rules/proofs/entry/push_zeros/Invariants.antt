use Rattle.std.proofs.Common.{◌≡◌, drop}
use Rattle.transfer_rules.specs.Entry.{with_zeros}
use Rattle.transfer_rules.proofs.entry.push_zeros.Given as goal

abbrev pub invariant-loop-place : goal.invariant-loop-place
invariant-loop-place l = with_zeros l.places l.initial.state ≡ with_zeros (drop l.place-index l.places) l.state
