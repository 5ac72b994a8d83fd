use Rattle.std.proofs.Common.{◌≡◌, length}
use Rattle.pentagon_domain.specs.Tight.{AreTold}
use Rattle.pentagon_domain.proofs.tight.told_from.Given as goal

-- What is told of each symbol so far stands in the list.
abbrev pub invariant-loop-t : goal.invariant-loop-t
invariant-loop-t l = record {
  told : AreTold l.ends l.row l.s l.told.items;
  many : length l.told.items ≡ l.t;
}
