use Rattle.std.proofs.Common.{◌≡◌, drop}
use Rattle.transfer_rules.specs.Entry.{with_unknown}
use Rattle.transfer_rules.proofs.entry.push_unknown.Given as goal

abbrev pub invariant-loop-place : goal.invariant-loop-place
invariant-loop-place l = with_unknown l.places l.initial.state ≡ with_unknown (drop l.place-index l.places) l.state
